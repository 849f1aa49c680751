use Rattle.std.proofs.Common.{◌≡◌, ◌∙◌, ◌∷◌, [], ◌+◌, None, Some, length, drop, sym, lit<, rules}
use Rattle.std.proofs.lemmas.Iterator.Consumers.{YieldsList-end, YieldsList-turn}
use Rattle.std.proofs.lemmas.Iterator.Splits.{YieldsList-from_str_split}
use Rattle.std.proofs.lemmas.List.{length-append}
use Rattle.blk_schedulers.specs.Lists.{parts, tried_of, with_names}
use Rattle.blk_schedulers.proofs.Tries.{all_named, takes_name}
use Rattle.blk_schedulers.proofs.lists.tried_of.Goals as goal

pub returns-in_err-tried : goal.returns-in_err-tried
returns-in_err-tried c =
    let all = YieldsList-from_str_split {s = c.into_iter-name-iterator.result} 44 c.args.text.now (lit< tt) (search rules) (search rules) (search rules) in
    let t = YieldsList-turn all c.loop-name.yielded _ c.loop-name.yielded_by _ _ c.in-Some.name c.in-Some.is c.next.ensures.steps in
    c.from_residual.ensures ∙ sym (sym c.loop-name.invariant.rest ∙ takes_name c.loop-name.tried (parts c.args.text.now) (length c.loop-name.yielded) c.in-Some.name.now None t c.in_err-tried.ensures)

pub loop-name-preserved : goal.loop-name-preserved
loop-name-preserved c =
    let all = YieldsList-from_str_split {s = c.into_iter-name-iterator.result} 44 c.args.text.now (lit< tt) (search rules) (search rules) (search rules) in
    let t = YieldsList-turn all c.loop-name.yielded _ c.loop-name.yielded_by _ _ c.in-Some.name c.in-Some.is c.next.ensures.steps in
    let rest : with_names c.in_ok-tried.tried (drop (length c.loop-name.yielded + 1) (parts c.args.text.now)) ≡ tried_of c.args.text.now =
    sym (takes_name c.loop-name.tried (parts c.args.text.now) (length c.loop-name.yielded) c.in-Some.name.now (Some c.in_ok-tried.tried) t c.in_ok-tried.ensures) ∙ c.loop-name.invariant.rest in
    record { rest = rw (length-append c.loop-name.yielded (c.in-Some.name ∷ [])) rest }

pub returns : goal.returns
returns c =
    let all = YieldsList-from_str_split {s = c.into_iter-name-iterator.result} 44 c.args.text.now (lit< tt) (search rules) (search rules) (search rules) in
    let e = YieldsList-end all c.loop-name.yielded _ c.loop-name.yielded_by _ _ c.in-None.is c.next.ensures.steps in
    sym (all_named c.loop-name.tried (parts c.args.text.now) (length c.loop-name.yielded) e.1) ∙ c.loop-name.invariant.rest
