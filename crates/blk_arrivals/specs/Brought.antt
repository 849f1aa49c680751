-- What the steps of a script bring in: each bio with the round in which it comes in.
use Rattle.std.specs.Prelude.{ℕ, ◌+◌, ◌==◌, List, [], ◌∷◌, Option, None, Some}
use Rattle.std.specs.List.{position_or_len}
use Rattle.blk_bio.specs.Bios.{Bio}
use Rattle.blk_bio.specs.declared.bio.Dir.{Dir}
use Rattle.blk_capture.specs.declared.record.Record.{Record}
use Rattle.blk_text.specs.declared.script.Line.{Line}
use Rattle.blk_text.specs.declared.script.Line.TheVariants as line
use Rattle.blk_arrivals.specs.Coming.{way_of, key_of, round_of_time, begin_of, told_by, submitters_of}
use Rattle.blk_arrivals.specs.Plugs.{bio_of}
use Rattle.blk_arrivals.specs.declared.coming.ToldBy.{ToldBy}
use Rattle.blk_arrivals.specs.declared.terms.Terms.{Terms}

-- the bios of steps, each with its round: a tick ends one round, and a run as many as it says
unfoldable pub brought_by : ℕ → List Line → List (ℕ × Bio)
brought_by now [] = []
brought_by now (line.Bio b ∷ lines) = (now, b) ∷ brought_by now lines
brought_by now (line.Run n ∷ lines) = brought_by (now + n) lines
brought_by now (line.Tick ∷ lines) = brought_by (now + 1) lines
brought_by now (_ ∷ lines) = brought_by now lines

-- one bio more, if one comes in
abbrev pub next_number : ℕ → Option Dir → ℕ
next_number number None = number
next_number number (Some way) = number + 1

abbrev pub with_bio : ℕ → ℕ → ℕ → Record → Option Dir → List (ℕ × Bio) → List (ℕ × Bio)
with_bio round s number r None others = others
with_bio round s number r (Some way) others = (round, bio_of s number way r) ∷ others

-- the bios of records that come in, numbered, each in the round of its time and from the submitter with its key
unfoldable pub bios_from : ℕ → ℕ → ToldBy → List ℕ → ℕ → List Record → List (ℕ × Bio)
bios_from begin span told keys number [] = []
bios_from begin span told keys number (r ∷ records) =
    with_bio (round_of_time begin span r.time) (position_or_len (λ k. k == key_of told r) keys) number r (way_of r) (bios_from begin span told keys (next_number number (way_of r)) records)

abbrev pub arriving_bios : Terms → List Record → List (ℕ × Bio)
arriving_bios t records = bios_from (begin_of records) t.round (told_by records) (submitters_of records) 0 records
