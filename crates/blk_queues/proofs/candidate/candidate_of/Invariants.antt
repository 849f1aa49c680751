use Rattle.std.proofs.Common.{◌≡◌, ◌≤◌, ◌∷◌, [], ℕ, List, length}
use Rattle.std.specs.Prelude.{slice_get, Some}
use Rattle.blk_bio.specs.declared.request.Side.{Side}
use Rattle.blk_bio.specs.Bios.{Bio}
use Rattle.blk_bio.specs.Requests.{Fits}
use Rattle.blk_queues.proofs.candidate.candidate_of.Given as goal

abbrev pub invariant-loop-place : goal.invariant-loop-place
invariant-loop-place g l = record {
  within : l.place ≤ length l.requests;
  none_newer : (k : ℕ) (bios : List Bio) (side : Side) → l.place ≤ k → slice_get l.requests k ≡ Some bios → Fits l.limits bios (l.bio ∷ []) side → ⊥;
}

abbrev pub decreases-loop-place : goal.decreases-loop-place
decreases-loop-place g l = l.place
