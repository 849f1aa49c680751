-- What a load comes to, by the trace of its layer once that is closed.
use Rattle.std.specs.Prelude.{ℕ, ◌≡◌, ◌*◌, ◌⊎◌, List, length, min}
use Rattle.std.specs.List.{flat_map}
use Rattle.blk_bio.specs.Bios.{Bio}
use Rattle.blk_bio.specs.declared.limits.TheConstants.{MAX_SEGMENTS}
use Rattle.blk_trace.specs.Happened.{Happened}
use Rattle.blk_trace.specs.Setups.{Setup}
use Rattle.blk_trace.specs.Events.{request_of, open_count}
use Rattle.blk_trace.specs.Meaning.{issued_ids, waiting_of}
use Rattle.blk_trace.specs.Traces.{Traced}
use Rattle.blk_schedulers.specs.declared.Settled.{Settled}
use Rattle.blk_schedulers.specs.declared.numbers.Load.{Load}
use Rattle.blk_schedulers.specs.declared.settling.TheConstants.{LOAD_READ_EXPIRE, LOAD_WRITE_EXPIRE, LOAD_MAX_SECTORS}

-- what the layer of a load is set up for: the tags of the load, and a hardware queue for each submitter or each worker, whichever are
-- fewer
abbrev pub load_setup : Load → Setup
load_setup l = record {
  depth = l.depth;
  hw = min l.submitters l.workers;
  read_expire = LOAD_READ_EXPIRE;
  write_expire = LOAD_WRITE_EXPIRE;
  limits = record { max_sectors = LOAD_MAX_SECTORS; max_segments = MAX_SEGMENTS };
}

-- the bios in the commands of a trace
abbrev pub served_bios : List Happened → List Bio
served_bios events = flat_map (request_of events) (issued_ids events)

-- the numbers of a load whose threads met no fault: all its bios were accepted, all of these were served, and no command is in flight, no
-- bio waits and none is left
pub record AreEven (l : Load) (accepted served in_flight waiting left : ℕ) : Type 0 where
  pub all : accepted ≡ l.submitters * l.bios
  pub each_served : served ≡ accepted
  pub none_in_flight : in_flight ≡ 0
  pub none_waits : waiting ≡ 0
  pub none_left : left ≡ 0

-- the numbers of a load and a trace
abbrev pub AreEvenIn : Load → List Happened → ℕ → ℕ → Type 0
AreEvenIn l events accepted left = AreEven l accepted (length (served_bios events)) (open_count events) (length (waiting_of events)) left

-- what came of a load, by the trace of its layer: served are the bios in the commands, all of which are done
pub record IsSettled (l : Load) (trace : Traced) (s : Settled) : Type 0 where
  pub setup : trace.setup ≡ load_setup l
  pub even : AreEvenIn l trace.events s.accepted s.left
  pub served : s.served ≡ length (served_bios trace.events)
