-- What seats keep beside what their callers see.
use Rattle.std.specs.Prelude.{ℕ, ◌||◌, ◌≡◌, ◌+◌, ◌<◌, ◌≤◌, Bool, List, Option, Contains, is_some, map, length, count_by}
use Rattle.edd_commands.specs.declared.Command.{Command}
use Rattle.blk_bio.specs.Bios.{Bio}
use Rattle.blk_bio.specs.declared.bio.BioId.{BioId}
use Rattle.blk_trace.specs.Setups.{Setup}
use Rattle.blk_trace.specs.Events.{AreOnce}
use Rattle.blk_trace.specs.Inside.Kept.{has_bio_id}
use Rattle.blk_queues.specs.Maps.{IsHwCount}
use Rattle.blk_tags.specs.Tags.{Seat}
use Rattle.blk_tags.specs.Inside.{Marks}

-- no id stands twice, and the ids are those of the bios
pub record IsAccount (bios : List Bio) (ids : BioId → Bool) : Type 0 where
  pub once : AreOnce bios
  pub ids_are : (id : BioId) → ids id ≡ has_bio_id bios id

-- ids to which those of the bios were added
abbrev pub AddsIds : (BioId → Bool) → List Bio → (BioId → Bool) → Type 0
AddsIds old bios new = (id : BioId) → new id ≡ old id || has_bio_id bios id

-- a worker works for one of the layer's hardware queues, the tags that it holds are those of the commands in its hands, its account has room for these commands, and its part of
-- the ledger has an amount of as many as its account has
pub record IsWorking (setup : Setup) (queues : List ℕ) (hw depth : ℕ) (tags : List ℕ) (hands : List (Option Command)) (ran room parts amount : ℕ) : Type 0 where
  pub queue : hw < setup.hw
  pub one : Contains queues hw
  pub named : depth ≡ setup.depth
  pub places : length hands ≡ depth
  pub marks : Marks (map is_some hands) tags
  pub room_left : ran + count_by is_some hands ≤ room
  pub part : parts ≡ 1
  pub counted : amount ≡ ran

-- a worker at this seat, with this account
abbrev pub IsWorkingAt : Setup → List ℕ → ℕ → Seat → List (Option Command) → List Command → ℕ → ℕ → ℕ → Type 0
IsWorkingAt setup queues hw seat hands ran room parts amount = IsWorking setup queues hw seat.of_set.depth seat.tags hands (length ran) room parts amount

-- a software queue for each that the map has, whose hardware queues and whose tags are those of the setup; and the map and as many
-- workers as the layer's name says
abbrev pub IsLaidOut : Setup → List ℕ → List ℕ → ℕ → List ℕ → ℕ → ℕ → Type 0
IsLaidOut setup named queues count map depth workers =
    (count ≡ length map) × IsHwCount map setup.hw × (depth ≡ setup.depth) × (workers ≡ length queues) × (map ≡ named)

-- no tag and no hardware queue: the setup under `Brand`, the name that a program gives and no layer's own
abbrev pub no_setup : Setup
no_setup = record { depth = 0; hw = 0; read_expire = 0; write_expire = 0; limits = record { max_sectors = 0; max_segments = 0 } }
