-- What a load is made of: the bios of its submitters, the queues that they and the workers are mapped to, and its devices.
use Rattle.std.specs.Prelude.{ℕ, ◌≡◌, ◌<◌, ◌+◌, ◌*◌, ◌%◌, ◌==◌, List, Option, None, Some, length, slice_get, nat_lt, if◌then◌else◌}
use Rattle.blk_bio.specs.Bios.{Bio}
use Rattle.blk_bio.specs.declared.bio.Dir.TheVariants as dir
use Rattle.blk_layer.specs.declared.serving.Ran.{Ran}
use Rattle.blk_layer.specs.declared.serving.Ran.TheVariants as ran
use Rattle.blk_load.specs.declared.submitting.TheConstants.{SECTORS, STRIDE}

-- the bio of this number of a submitter, where there are `submitters` of them: their bios lie in turn, none touches another, and every
-- other one of each is a write
abbrev pub nth_bio : ℕ → ℕ → ℕ → Bio
nth_bio submitters submitter serial = record {
  id = record { submitter = submitter; serial = serial };
  dir = if serial % 2 == 0 then dir.Read else dir.Write;
  first = STRIDE * (serial * submitters + submitter);
  sectors = SECTORS;
}

-- `count` numbers, each its place modulo `below`
pub record AreInTurn (count below : ℕ) (all : List ℕ) : Type 0 where
  pub as_many : length all ≡ count
  pub each : (k : ℕ) → k < count → slice_get all k ≡ Some (k % below)

-- what a device answers that is busy at every run whose number, counted from 1, `every` divides, and how many runs it made since it was
-- busy last, where it had made `runs` before
abbrev pub ran_after : Option ℕ → ℕ → Ran
ran_after None runs = ran.Done
ran_after (Some every) runs = if nat_lt (runs + 1) every then ran.Done else ran.Busy

abbrev pub runs_after : Option ℕ → ℕ → ℕ
runs_after None runs = runs
runs_after (Some every) runs = if nat_lt (runs + 1) every then runs + 1 else 0
