-- What a record of a capture does to the plugs of the submitters.
use Rattle.std.specs.Prelude.{ℕ, ◌==◌, List, length, Option, None, Some}
use Rattle.std.specs.List.{position}
use Rattle.blk_bio.specs.declared.bio.Dir.{Dir}
use Rattle.blk_capture.specs.declared.record.Action.{Action}
use Rattle.blk_capture.specs.declared.record.Action.TheVariants as action
use Rattle.blk_capture.specs.declared.record.Record.{Record}
use Rattle.blk_arrivals.specs.Coming.{way_of, key_of}
use Rattle.blk_arrivals.specs.declared.coming.ToldBy.{ToldBy}
use Rattle.blk_arrivals.specs.declared.effects.RecordEffect.{RecordEffect}
use Rattle.blk_arrivals.specs.declared.effects.RecordEffect.TheVariants as effect

-- the number of the submitter with a key, if there is one
abbrev pub submitter_number : List ℕ → ℕ → Option ℕ
submitter_number keys key = position (λ k. k == key) keys

-- a bio of the submitter comes in, or nothing does
abbrev pub comes_from : ℕ → Option Dir → RecordEffect
comes_from s None = effect.Nothing
comes_from s (Some way) = effect.Comes s way

-- what a record of this submitter does
abbrev pub record_effect : ℕ → Action → Option Dir → RecordEffect
record_effect s action.Unplug way = effect.Unplugs s
record_effect s _ way = comes_from s way

abbrev pub effect_by : Option ℕ → Action → Option Dir → RecordEffect
effect_by None action way = effect.Nothing
effect_by (Some s) action way = record_effect s action way

-- what a record does, of submitters with these keys
abbrev pub effect_of : ToldBy → List ℕ → Record → RecordEffect
effect_of told keys r = effect_by (submitter_number keys (key_of told r)) r.action (way_of r)
