use Rattle.std.proofs.Common.{ℕ, ◌≡◌, ◌<◌, Some}
use Rattle.std.specs.Prelude.{slice_get}
use Rattle.blk_bio.specs.Bios.{Bio}
use Rattle.blk_layer.proofs.submitting.first_foreign.Given as goal

abbrev pub invariant-loop-place : goal.invariant-loop-place
invariant-loop-place l = (k : ℕ) (b : Bio) → k < l.place → slice_get l.bios k ≡ Some b → b.id.submitter ≡ l.number
