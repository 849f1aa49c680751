-- Bios and the requests that they went into, by their numbers.
use Rattle.std.specs.Prelude.{ℕ, ◌≡◌, ◌<◌, List, length, slice_index, slice_index_or, slice_get, Option, None, Some}
use Rattle.blk_capture.specs.declared.members.BioStage.{BioStage}
use Rattle.blk_capture.specs.declared.members.BioStage.TheVariants as bio
use Rattle.blk_capture.specs.declared.members.QueuedBio.{QueuedBio}

-- the request that a bio went into, if that is known
abbrev pub request_into : BioStage → Option ℕ
request_into (bio.Into r) = Some r
request_into _ = None

-- the bio that each request was opened for went into it
abbrev pub AreOpened : List QueuedBio → List ℕ → Type 0
AreOpened bios openers = (r : ℕ) (d : QueuedBio) → r < length openers → request_into (slice_index_or bios (slice_index openers r) d).stage ≡ Some r

-- a bio of this number waits
pub record IsWaitingAt (bios : List QueuedBio) (k : ℕ) : Type 0 where
  pub found : QueuedBio
  pub there : slice_get bios k ≡ Some found
  pub waits : found.stage ≡ bio.Waiting
