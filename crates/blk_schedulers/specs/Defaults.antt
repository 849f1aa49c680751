-- Schedulers and grids as they are where no option sets them: what the defaults of the settings spell.
use Rattle.std.specs.Prelude.{ℕ, ◌∷◌, Bool, false, List, [], None, Some, get_or, map, set, if◌then◌else◌}
use Rattle.std.specs.List.{flat_map, slice_get}
use Rattle.std.specs.Option.{option_map_or}
use Rattle.std.specs.Str.Parse.{digits_value}
use Rattle.blk_schedulers.specs.Given.{switched}
use Rattle.blk_schedulers.specs.Grids.{with_each}
use Rattle.blk_schedulers.specs.Lists.{parts}
use Rattle.blk_schedulers.specs.Positions.{position_named, positions_listed}
use Rattle.blk_schedulers.specs.Row.{RangeOf, Short, UpTo, Switch, Positions}
use Rattle.blk_schedulers.specs.Rows.{row_for, sched_place, kinds, tried_kinds}
use Rattle.blk_schedulers.specs.declared.rows.SchedKind.{SchedKind}
use Rattle.blk_schedulers.specs.declared.rows.SchedKind.TheVariants as kind
use Rattle.blk_schedulers.specs.declared.sched.ComparedScheds.{ComparedScheds}
use Rattle.blk_schedulers.specs.declared.sched.Sched.{Sched}

-- what a setting is set to, and what is tried of it
abbrev pub default_in : RangeOf → ℕ
default_in (Short default tried) = digits_value 10 default
default_in (UpTo most default tried) = digits_value 10 default
default_in (Switch turned) = switched turned false
default_in (Positions default tried) = option_map_or (λ n. n) (position_named default) 0

abbrev pub default_numbers : List ℕ → List ℕ
default_numbers text = map (digits_value 10) (parts text)

abbrev pub tried_in : RangeOf → List ℕ
tried_in (Short default tried) = default_numbers tried
tried_in (UpTo most default tried) = default_numbers tried
tried_in (Switch turned) = 1 ∷ 0 ∷ []
tried_in (Positions default tried) = option_map_or (λ n. n) (positions_listed tried) []

-- the same of the setting in a place of a scheduler's row, 0 where there is none
abbrev pub default_at : SchedKind → ℕ → ℕ
default_at k place = option_map_or (λ s. default_in s.range) (slice_get (row_for k).settings place) 0

abbrev pub tried_at : SchedKind → ℕ → List ℕ
tried_at k place = option_map_or (λ s. tried_in s.range) (slice_get (row_for k).settings place) (0 ∷ [])

-- a scheduler where no option sets it, and with another value of its first setting
abbrev pub default_of : SchedKind → Sched
default_of k = record { kind = k; values = default_at k 0 ∷ default_at k 1 ∷ default_at k 2 ∷ default_at k 3 ∷ [] }

abbrev pub with_first : ℕ → Sched → Sched
with_first n s = record s { values = set s.values 0 n }

-- the scheduler that runs where none is named, and each of the others
abbrev pub default_sched : Sched
default_sched = default_of kind.None

abbrev pub default_deadline : Sched
default_deadline = default_of kind.Deadline

abbrev pub default_kyber : Sched
default_kyber = default_of kind.Kyber

abbrev pub default_earliest : Sched
default_earliest = default_of kind.Earliest

-- deadline with batches of this size, and with a position for each direction, kyber with this target for reads, and earliest late last or not
abbrev pub deadline_in : ℕ → Sched
deadline_in batch = with_first batch default_deadline

abbrev pub deadline_each : Sched
deadline_each = record default_deadline { values = set default_deadline.values 3 1 }

abbrev pub kyber_within : ℕ → Sched
kyber_within target = with_first target default_kyber

abbrev pub earliest_by : Bool → Sched
earliest_by late_last = with_first (if late_last then 1 else 0) default_earliest

-- the schedulers that run in turn: where no option sets them, those that no flag adds; the same with this one in its place; with earliest, late
-- last or not; and with this batch size and earliest
abbrev pub default_lineup : ComparedScheds
default_lineup = record { scheds = map (λ k. option_map_or (λ _. None) (row_for k).flag (Some (default_of k))) kinds }

abbrev pub lineup_with : Sched → ComparedScheds → ComparedScheds
lineup_with s l = record { scheds = set l.scheds (sched_place s.kind) (Some s) }

abbrev pub with_earliest : Bool → ComparedScheds
with_earliest late_last = lineup_with (earliest_by late_last) default_lineup

abbrev pub in_batches : ℕ → ComparedScheds
in_batches n = lineup_with (deadline_in n) (lineup_with default_earliest default_lineup)

-- the whole grid: all schedulers, with each choice of what is tried of their settings
abbrev pub whole : List Sched
whole = flat_map (λ k. with_each k (tried_at k)) tried_kinds

-- deadline with these batch sizes, numbers of batches of reads before the writes' turn, and positions; and none, and deadline with one position
abbrev pub deadline_grid : List ℕ → List ℕ → List ℕ → List Sched
deadline_grid batches starved positions = with_each kind.Deadline (λ place. get_or (batches ∷ starved ∷ (1 ∷ 0 ∷ []) ∷ positions ∷ []) place [])

abbrev pub none_and_deadline : List ℕ → List ℕ → List Sched
none_and_deadline batches starved = default_sched ∷ deadline_grid batches starved (0 ∷ [])
