-- none: in the order of entry.
use Rattle.std.specs.Prelude.{[], None, true, codes}
use Rattle.blk_sched.specs.Meaning.{at_start}
use Rattle.blk_none.specs.Choice.{none_policy}
use Rattle.blk_schedulers.specs.Row.{SchedOf}
use Rattle.blk_schedulers.specs.declared.rows.SchedKind.TheVariants as kind

-- the scheduler
abbrev pub none_sched : SchedOf
none_sched = record {
  row = record { kind = kind.None; name = codes "none"; flag = None; tried = 0; settings = [] };
  policy = none_policy;
  fault = λ v. None;
  meaning = λ v. at_start true;
  kept = λ v depth. [];
}
