-- earliest: by due rounds alone.
use Rattle.std.specs.Prelude.{ℕ, List, [], ◌∷◌, Bool, None, Some, true, codes}
use Rattle.blk_sched.specs.Meaning.{at_start}
use Rattle.blk_earliest.specs.Choice.{earliest_policy, earliest_kept}
use Rattle.blk_schedulers.specs.Row.{SchedOf, Switch, is_on, value_at}
use Rattle.blk_schedulers.specs.declared.rows.SchedKind.TheVariants as kind

-- what it is made of
abbrev pub is_late_last : List ℕ → Bool
is_late_last v = is_on (value_at 0 v)

-- the scheduler
abbrev pub earliest_sched : SchedOf
earliest_sched = record {
  row = record {
    kind = kind.Earliest;
    name = codes "earliest";
    flag = Some (codes "earliest");
    tried = 1;
    settings = record { name = codes "late_last"; option = codes "late-last"; range = Switch true } ∷ [];
  };
  policy = earliest_policy;
  fault = λ v. None;
  meaning = λ v. at_start true;
  kept = λ v depth. earliest_kept (is_late_last v);
}
