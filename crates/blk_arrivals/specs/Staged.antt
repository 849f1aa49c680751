-- What stands in the plugs while steps are done.
use Rattle.std.specs.Prelude.{ℕ, ◌≡◌, ◌<◌, ◌+◌, List, [], ◌∷◌, All, slice_index, slice_set}
use Rattle.std.proofs.Math.ListN.{replicate}
use Rattle.blk_queues.specs.declared.plug.TheConstants.{MAX_STAGED}
use Rattle.blk_text.specs.declared.script.Line.{Line}
use Rattle.blk_text.specs.declared.script.Line.TheVariants as line

-- nothing stands in any plug
abbrev pub AreEmpty : List ℕ → Type 0
AreEmpty held = All (λ h. h ≡ 0) held

-- with this many bios in each plug at first, no plug overflows, and all are empty whenever rounds run and at the end
unfoldable pub KeepPlugs : List ℕ → List Line → Type 0
KeepPlugs held [] = AreEmpty held
KeepPlugs held (line.Bio b ∷ lines) = (slice_index held b.id.submitter < MAX_STAGED) × KeepPlugs (slice_set held b.id.submitter (slice_index held b.id.submitter + 1)) lines
KeepPlugs held (line.Flush s ∷ lines) = KeepPlugs (slice_set held s 0) lines
KeepPlugs held (line.Run n ∷ lines) = AreEmpty held × KeepPlugs held lines
KeepPlugs held (_ ∷ lines) = KeepPlugs held lines

-- empty plugs, in this number
abbrev pub no_bios : ℕ → List ℕ
no_bios count = replicate count 0
