use Rattle.std.proofs.Common.{◌∙◌, ap, inl, sym}
use Rattle.std.specs.Prelude.{option_and_then}
use Rattle.blk_args.specs.Asked.{job_of}
use Rattle.blk_args.proofs.Lines.{parsed, line_by, version_by}
use Rattle.blk_args.proofs.words.choose.Goals as goal

pub returns-in-Ok-try_get_matches_from-clause-refused : goal.returns-in-Ok-try_get_matches_from-clause-refused
returns-in-Ok-try_get_matches_from-clause-refused c =
    let e = c.in-Ok-blk_command.ensures in
    let m = c.in-Ok-try_get_matches_from in
    let p = parsed e.0 _ _ m.matches e.2 m.ensures.matches m.ensures.kinds in
    (e.0, e.1, (p.0, sym (c.in-None.ensures ∙ ap (option_and_then job_of) p.1)))

pub returns-in-Some-clause-asked : goal.returns-in-Some-clause-asked
returns-in-Some-clause-asked c =
    let e = c.in-Ok-blk_command.ensures in
    let m = c.in-Ok-try_get_matches_from in
    let p = parsed e.0 _ _ m.matches e.2 m.ensures.matches m.ensures.kinds in
    (e.0, e.1, inl (p.0, sym (c.in-Some.ensures ∙ ap (option_and_then job_of) p.1)))

pub returns-in-DisplayVersion-clause-asked : goal.returns-in-DisplayVersion-clause-asked
returns-in-DisplayVersion-clause-asked c =
    let e = c.in-Ok-blk_command.ensures in
    version_by e.0 _ _ c.in-Err.error e.1 e.2 c.in-Err.ensures.kinds c.in-DisplayVersion.ensures

pub returns-in-Ok-format : goal.returns-in-Ok-format
returns-in-Ok-format c =
    let e = c.in-Ok-blk_command.ensures in
    let m = c.in-Err.ensures in
    record {
      asked = tt;
      refused = line_by e.0 _ _ c.in-Err.error c.kind.result e.1 e.2 m.kinds c.kind.ensures c.in_default-kind.not-OutOfMemory c.in_default-kind.not-DisplayVersion;
    }
