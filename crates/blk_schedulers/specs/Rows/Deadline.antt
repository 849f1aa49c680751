-- deadline: by sectors within a batch, and by due rounds between batches.
use Rattle.std.specs.Prelude.{ℕ, ◌==◌, List, [], ◌∷◌, None, Some, false, codes, if◌then◌else◌}
use Rattle.blk_sched.specs.Meaning.{at_start}
use Rattle.blk_deadline.specs.Choice.{deadline_policy, batch_at_first, deadline_kept}
use Rattle.blk_deadline.specs.declared.Tunables.{Tunables}
use Rattle.blk_deadline.specs.declared.DeadlineFault.TheVariants as fault
use Rattle.blk_schedulers.specs.Positions.{positions_of}
use Rattle.blk_schedulers.specs.Row.{SchedOf, Short, Switch, Positions, short_at, is_on, value_at}
use Rattle.blk_schedulers.specs.declared.rows.SchedKind.TheVariants as kind
use Rattle.blk_schedulers.specs.declared.sched.SchedFault.TheVariants as setting

-- what it is made of
abbrev pub deadline_tunables : List ℕ → Tunables
deadline_tunables v = record { fifo_batch = short_at 0 v; writes_starved = short_at 1 v; front_merges = is_on (value_at 2 v); positions = positions_of (value_at 3 v) }

-- the scheduler
abbrev pub deadline_sched : SchedOf
deadline_sched = record {
  row = record {
    kind = kind.Deadline;
    name = codes "deadline";
    flag = None;
    tried = 2;
    settings =
        record {
          name = codes "fifo_batch";
          option = codes "fifo-batch";
          range = Short (codes "16") (codes "1,2,4,8,16,32,64");
        }
        ∷ record {
          name = codes "writes_starved";
          option = codes "writes-starved";
          range = Short (codes "2") (codes "0,1,2,4,8");
        }
        ∷ record { name = codes "front_merges"; option = codes "no-front-merges"; range = Switch false }
        ∷ record { name = codes "positions"; option = codes "positions"; range = Positions (codes "one") (codes "one") }
        ∷ [];
  };
  policy = deadline_policy;
  fault = λ v. if (deadline_tunables v).fifo_batch == 0 then Some (setting.Deadline fault.ZeroBatch) else None;
  meaning = λ v. at_start (deadline_tunables v).front_merges;
  kept = λ v depth. deadline_kept batch_at_first (deadline_tunables v);
}
