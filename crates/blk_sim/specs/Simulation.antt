-- What a script says of the trace that it leads to.
use Rattle.std.specs.Prelude.{◌≡◌, ◌⊎◌, ◌<◌, ◌%◌, ◌==◌, ◌++◌, ℕ, Bool, true, false, List, [], ◌∷◌, Some, slice_get, if◌then◌else◌}
use Rattle.std.specs.List.{filter}
use Rattle.blk_bio.specs.Bios.{Bio}
use Rattle.blk_text.specs.declared.script.Line.{Line}
use Rattle.blk_text.specs.declared.script.Line.TheVariants as line

-- where a bio is: in its submitter's plug, in its software queue, or in the core
pub data Where : Type 0 where
  Plugged : Where
  Staged : Where
  Released : Where

-- what a step does to where bios stand: it adds a bio to its plug, flushes a submitter's plug, drains a hardware queue's
-- software queues, drains all of them, or leaves the bios where they are
pub data Effect : Type 0 where
  Adding : Bio → Effect
  Flushing : ℕ → Effect
  Draining : ℕ → Effect
  DrainingAll : Effect
  Leaving : Effect

-- what each step does to where bios stand
abbrev pub effect_of : Line → Effect
effect_of (line.Bio b) = Adding b
effect_of (line.Flush s) = Flushing s
effect_of (line.Drain hw) = Draining hw
effect_of (line.Issue hw tag) = Leaving
effect_of (line.Done tag) = Leaving
effect_of (line.Back tag) = Leaving
effect_of (line.Depth n) = Leaving
effect_of line.Tick = Leaving
effect_of (line.Run n) = DrainingAll

-- a bio of this submitter is moved on: by a flush of its plug, then by a drain of its hardware queue or of all
abbrev pub moved_on : ℕ → ℕ → Where → Effect → Where
moved_on hw s Plugged (Adding b) = Plugged
moved_on hw s Plugged (Flushing t) = if s == t then Staged else Plugged
moved_on hw s Plugged (Draining h) = Plugged
moved_on hw s Plugged DrainingAll = Plugged
moved_on hw s Plugged Leaving = Plugged
moved_on hw s Staged (Adding b) = Staged
moved_on hw s Staged (Flushing t) = Staged
moved_on hw s Staged (Draining h) = if (s % hw) == h then Released else Staged
moved_on hw s Staged DrainingAll = Released
moved_on hw s Staged Leaving = Staged
moved_on hw s Released e = Released

-- a later step moves a bio of this submitter on
abbrev pub moved : ℕ → ℕ → Where → Line → Where
moved hw s w l = moved_on hw s w (effect_of l)

-- where a bio of this submitter is after these steps, from this place
unfoldable pub place_after : ℕ → ℕ → Where → List Line → Where
place_after hw s w [] = w
place_after hw s w (l ∷ ls) = place_after hw s (moved hw s w l) ls

-- one more step moves it on from where the steps before leave it
abbrev pub MovesOn : ℕ → ℕ → Where → List Line → Line → Type 0
MovesOn hw s w ls l = place_after hw s w (ls ++ l ∷ []) ≡ moved hw s (place_after hw s w ls) l

-- these steps have a flush of the submitter, and after it a drain of its hardware queue or a run
pub record IsFlushedAndMoved (hw s : ℕ) (steps : List Line) : Type 0 where
  pub flush_at : ℕ
  pub move_at : ℕ
  pub after : flush_at < move_at
  pub flushed : slice_get steps flush_at ≡ Some (line.Flush s)
  pub taken : (slice_get steps move_at ≡ Some (line.Drain (s % hw))) ⊎ ((n : ℕ) × (slice_get steps move_at ≡ Some (line.Run n)))

-- whether two places are one
abbrev pub is_where : Where → Where → Bool
is_where Plugged Plugged = true
is_where Plugged Staged = false
is_where Plugged Released = false
is_where Staged Plugged = false
is_where Staged Staged = true
is_where Staged Released = false
is_where Released Plugged = false
is_where Released Staged = false
is_where Released Released = true

-- the bio that an effect adds, as a list
abbrev pub added_by : Effect → List Bio
added_by (Adding b) = b ∷ []
added_by (Flushing s) = []
added_by (Draining h) = []
added_by DrainingAll = []
added_by Leaving = []

-- a `bio` line's bio, where the steps after it leave it at this place
abbrev pub bio_at : ℕ → Where → Line → List Line → List Bio
bio_at hw w l after = filter (λ b. is_where w (place_after hw b.id.submitter Plugged after)) (added_by (effect_of l))

-- the bios that a script's steps leave at a place, in the order of their lines
unfoldable pub bios_at : ℕ → Where → List Line → List Bio
bios_at hw w [] = []
bios_at hw w (l ∷ ls) = bio_at hw w l ls ++ bios_at hw w ls

-- the bios of the `bio` lines that are followed by a flush of their submitter, and after it by a drain of its hardware
-- queue or a run
abbrev pub released_bios : ℕ → List Line → List Bio
released_bios hw lines = bios_at hw Released lines

-- how many rounds a step ends
abbrev pub ticks_of : Line → ℕ
ticks_of line.Tick = 1
ticks_of (line.Run n) = n
ticks_of (line.Bio b) = 0
ticks_of (line.Flush t) = 0
ticks_of (line.Drain h) = 0
ticks_of (line.Issue h tag) = 0
ticks_of (line.Done tag) = 0
ticks_of (line.Back tag) = 0
ticks_of (line.Depth n) = 0
