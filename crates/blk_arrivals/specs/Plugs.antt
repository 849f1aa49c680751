-- The steps that the records of a capture come to, one record after another.
use Rattle.std.specs.Prelude.{ℕ, ◌+◌, ◌-◌, ◌==◌, ◌++◌, List, [], ◌∷◌, length, Bool, true, false, cond, nat_lt, slice_index, slice_set}
use Rattle.std.proofs.Math.ListN.{replicate}
use Rattle.blk_bio.specs.Bios.{Bio}
use Rattle.blk_bio.specs.declared.bio.Dir.{Dir}
use Rattle.blk_queues.specs.declared.plug.TheConstants.{MAX_STAGED}
use Rattle.blk_capture.specs.declared.record.Record.{Record}
use Rattle.blk_text.specs.declared.script.Line.{Line}
use Rattle.blk_text.specs.declared.script.Line.TheVariants as line
use Rattle.blk_arrivals.specs.Coming.{begin_of, round_of_time}
use Rattle.blk_arrivals.specs.Effects.{effect_of}
use Rattle.blk_arrivals.specs.declared.coming.ToldBy.{ToldBy}
use Rattle.blk_arrivals.specs.declared.effects.RecordEffect.{RecordEffect}
use Rattle.blk_arrivals.specs.declared.effects.RecordEffect.TheVariants as effect

-- the round that it is, how many bios came in, and how many stand in the plug of each submitter
pub record Plugs : Type 0 where
  pub now : ℕ
  pub bios : ℕ
  pub held : List ℕ

-- round 0, and nothing in the plug of any submitter
abbrev pub no_plugs : ℕ → Plugs
no_plugs count = record { now = 0; bios = 0; held = replicate count 0 }

-- a plug is flushed where it holds something
abbrev pub flush_of : ℕ → ℕ → List Line
flush_of s held = cond (held == 0) [] (line.Flush s ∷ [])

-- all plugs, by the rising numbers of the submitters from s on
unfoldable pub flushes : ℕ → List ℕ → List Line
flushes s [] = []
flushes s (h ∷ held) = flush_of s h ++ flushes (s + 1) held

-- the rounds up to a later one end: the plugs are flushed at the end of the first of them
abbrev pub ending_of : Bool → ℕ → Plugs → List Line
ending_of false round p = []
ending_of true round p = flushes 0 p.held ++ line.Run (round - p.now) ∷ []

abbrev pub plugs_in : Bool → ℕ → Plugs → Plugs
plugs_in false round p = p
plugs_in true round p = record { now = round; bios = p.bios; held = replicate (length p.held) 0 }

-- whether a round is later than the one that it is
abbrev pub is_later : ℕ → Plugs → Bool
is_later round p = nat_lt p.now round

-- the steps that move on to a round, and the plugs then: where the round is later, all rounds before it end
abbrev pub turning : ℕ → Plugs → List Line
turning round p = ending_of (is_later round p) round p

abbrev pub turned : ℕ → Plugs → Plugs
turned round p = plugs_in (is_later round p) round p

-- it is flushed and drained
abbrev pub out_of : ℕ → List Line
out_of s = line.Flush s ∷ line.Drain 0 ∷ []

-- a plug that holds as many requests as it may is flushed before one more bio
abbrev pub room_for : ℕ → ℕ → List Line
room_for s held = cond (nat_lt held MAX_STAGED) [] (out_of s)

abbrev pub held_with : ℕ → ℕ
held_with held = cond (nat_lt held MAX_STAGED) (held + 1) 1

-- the bio of a record, by its submitter and its number among all bios
abbrev pub bio_of : ℕ → ℕ → Dir → Record → Bio
bio_of s number way r = record { id = record { submitter = s; serial = number }; dir = way; first = r.first; sectors = r.sectors }

-- a bio comes in, in the round that it is
abbrev pub arrival_of : Plugs → ℕ → Dir → Record → List Line
arrival_of p s way r = room_for s (slice_index p.held s) ++ line.Bio (bio_of s p.bios way r) ∷ []

abbrev pub plugs_with : Plugs → ℕ → Plugs
plugs_with p s = record { now = p.now; bios = p.bios + 1; held = slice_set p.held s (held_with (slice_index p.held s)) }

abbrev pub out_if : ℕ → ℕ → List Line
out_if s held = cond (held == 0) [] (out_of s)

-- a plug is flushed, and drained, where it holds something of the round of the record
abbrev pub unplugging_of : Bool → Plugs → ℕ → List Line
unplugging_of true p s = []
unplugging_of false p s = out_if s (slice_index p.held s)

abbrev pub plugs_without : Bool → Plugs → ℕ → Plugs
plugs_without true p s = p
plugs_without false p s = record { now = p.now; bios = p.bios; held = slice_set p.held s 0 }

-- the steps of an unplug in a round, and the plugs after it
abbrev pub unplugging : ℕ → Plugs → ℕ → List Line
unplugging round p s = unplugging_of (is_later round p) p s

abbrev pub unplugged : ℕ → Plugs → ℕ → Plugs
unplugged round p s = plugs_without (is_later round p) p s

-- the steps of a record of this round
abbrev pub steps_by : ℕ → Plugs → Record → RecordEffect → List Line
steps_by round p r (effect.Comes s way) = turning round p ++ arrival_of (turned round p) s way r
steps_by round p r (effect.Unplugs s) = unplugging round p s
steps_by round p r effect.Nothing = []

abbrev pub plugs_by : ℕ → Plugs → RecordEffect → Plugs
plugs_by round p (effect.Comes s way) = plugs_with (turned round p) s
plugs_by round p (effect.Unplugs s) = unplugged round p s
plugs_by round p effect.Nothing = p

-- at the end all plugs are flushed, and as many rounds run as bios came in, so that all are served
abbrev pub last_steps : Plugs → List Line
last_steps p = flushes 0 p.held ++ cond (p.bios == 0) [] (line.Run p.bios ∷ [])

-- the steps of records, of submitters with these keys, in rounds of a length from a beginning on
unfoldable pub steps_from : ℕ → ℕ → ToldBy → List ℕ → Plugs → List Record → List Line
steps_from begin span told keys p [] = last_steps p
steps_from begin span told keys p (r ∷ records) =
    steps_by (round_of_time begin span r.time) p r (effect_of told keys r) ++ steps_from begin span told keys (plugs_by (round_of_time begin span r.time) p (effect_of told keys r)) records

-- the steps of all records of a capture, from round 0 on and with empty plugs
abbrev pub all_steps : ℕ → ToldBy → List ℕ → List Record → List Line
all_steps span told keys records = steps_from (begin_of records) span told keys (no_plugs (length keys)) records
