use Rattle.std.proofs.Common.{◌∙◌, ap, inr, sym}
use Rattle.blk_args.specs.Asked.{plans_behind}
use Rattle.blk_args.proofs.Lines.{parsed, no_plans_by, ok_so, err_so, subcommand_read}
use Rattle.blk_args.proofs.grids.plans_asked.Goals as goal

pub returns-in-Some-clause-asked : goal.returns-in-Some-clause-asked
returns-in-Some-clause-asked c =
    let e = c.in-Ok-blk_command.ensures in
    let m = c.in-Ok-try_get_matches_from in
    let p = parsed e.0 _ _ m.matches e.2 m.ensures.matches m.ensures.kinds in
    let read = subcommand_read m.matches _ _ c.in-Some.ensures.name c.in-Some.ensures.rows in
    ok_so c.plans_of.result _ _ (λ g is. (e.0, e.1, p.0, ap plans_behind (sym p.1 ∙ read) ∙ is)) c.plans_of.ensures.plans

pub returns-in-Some-clause-none : goal.returns-in-Some-clause-none
returns-in-Some-clause-none c =
    let e = c.in-Ok-blk_command.ensures in
    let m = c.in-Ok-try_get_matches_from in
    let p = parsed e.0 _ _ m.matches e.2 m.ensures.matches m.ensures.kinds in
    let read = subcommand_read m.matches _ _ c.in-Some.ensures.name c.in-Some.ensures.rows in
    err_so c.plans_of.result _ _ (λ n none is. (e.0, e.1, inr (ap plans_behind (sym p.1 ∙ read) ∙ none is))) c.plans_of.ensures.none

pub returns : goal.returns
returns c =
    let e = c.in-Ok-blk_command.ensures in
    record {
      asked = tt;
      none = λ _. no_plans_by e.0 _ _ c.in-Err.error c.kind.result e.1 e.2 c.in-Err.ensures.kinds c.kind.ensures c.in_default-kind.not-OutOfMemory;
    }
