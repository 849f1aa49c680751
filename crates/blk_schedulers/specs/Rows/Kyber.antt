-- kyber: by turns of reads and writes, within limits on what is in flight.
use Rattle.std.specs.Prelude.{ℕ, ◌==◌, ◌||◌, List, [], ◌∷◌, None, Some, true, codes, if◌then◌else◌}
use Rattle.blk_sched.specs.Meaning.{at_start}
use Rattle.blk_kyber.specs.State.{state_at_first, numbers_of, kyber_policy}
use Rattle.blk_kyber.specs.declared.Targets.{Targets}
use Rattle.blk_kyber.specs.declared.KyberFault.TheVariants as fault
use Rattle.blk_schedulers.specs.Row.{UpTo, SchedOf, value_at}
use Rattle.blk_schedulers.specs.declared.rows.kyber.TheConstants.{MAX_TARGET}
use Rattle.blk_schedulers.specs.declared.rows.SchedKind.TheVariants as kind
use Rattle.blk_schedulers.specs.declared.sched.SchedFault.TheVariants as setting

-- what it is made of
abbrev pub targets_of : List ℕ → Targets
targets_of v = record { read = value_at 0 v; write = value_at 1 v }

-- the scheduler
abbrev pub kyber_sched : SchedOf
kyber_sched = record {
  row = record {
    kind = kind.Kyber;
    name = codes "kyber";
    flag = None;
    tried = 3;
    settings =
        record {
          name = codes "read_target";
          option = codes "read-target";
          range = UpTo MAX_TARGET (codes "2") (codes "1,2,5,10,20,50,100");
        }
        ∷ record {
          name = codes "write_target";
          option = codes "write-target";
          range = UpTo MAX_TARGET (codes "10") (codes "1,2,5,10,20,50,100");
        }
        ∷ [];
  };
  policy = kyber_policy;
  fault = λ v. if (targets_of v).read == 0 || (targets_of v).write == 0 then Some (setting.Kyber fault.ZeroTarget) else None;
  meaning = λ v. at_start true;
  kept = λ v depth. numbers_of (state_at_first (targets_of v) depth);
}
