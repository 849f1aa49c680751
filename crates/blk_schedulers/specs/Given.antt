-- The schedulers that the options of a command line ask for.
use Rattle.std.specs.Prelude.{ℕ, ◌∷◌, Bool, true, false, List, [], find, Option, Some, None, option_map, option_and_then, if◌then◌else◌}
use Rattle.std.specs.List.{slice_get}
use Rattle.std.specs.Option.{option_map_or}
use Rattle.std.specs.Str.{bytes_eq}
use Rattle.blk_schedulers.specs.Options.{sched_option}
use Rattle.blk_schedulers.specs.Positions.{position_named}
use Rattle.blk_schedulers.specs.Row.{RangeOf, Short, UpTo, Switch, Positions, SettingOf, RowOf}
use Rattle.blk_schedulers.specs.Rows.{sched_table}
use Rattle.blk_schedulers.specs.declared.rows.SchedKind.{SchedKind}
use Rattle.blk_schedulers.specs.declared.sched.ComparedScheds.{ComparedScheds}
use Rattle.blk_schedulers.specs.declared.sched.Sched.{Sched}

-- what options are given by their names: a text; a number of 16 bits, and one of 64 bits; a list of numbers up to a most; and whether a
-- flag is set
pub record GivenOptions : Type 0 where
  pub text : List ℕ → Option (List ℕ)
  pub short : List ℕ → Option ℕ
  pub number : List ℕ → Option ℕ
  pub list : ℕ → List ℕ → Option (List ℕ)
  pub is_set : List ℕ → Bool

-- the value of a setting, for a switch 1 where it is on: turned as its flag says where this is set, else the other way
abbrev pub switched : Bool → Bool → ℕ
switched true is_set = if is_set then 1 else 0
switched false is_set = if is_set then 0 else 1

abbrev pub value_in : GivenOptions → RangeOf → List ℕ → Option ℕ
value_in o (Short default tried) option = o.short option
value_in o (UpTo most default tried) option = o.number option
value_in o (Switch turned) option = Some (switched turned (o.is_set option))
value_in o (Positions default tried) option = option_and_then position_named (o.text option)

abbrev pub value_given : GivenOptions → SettingOf → Option ℕ
value_given o s = value_in o s.range s.option

-- that of the setting in a place, 0 where there is none
abbrev pub given_at : GivenOptions → List SettingOf → ℕ → Option ℕ
given_at o settings place = option_map_or (value_given o) (slice_get settings place) (Some 0)

-- a scheduler with these values, and the one of a row with those that are given
abbrev pub valued : SchedKind → Option ℕ → Option ℕ → Option ℕ → Option ℕ → Option Sched
valued k first second third fourth =
    option_and_then (λ a. option_and_then (λ b. option_and_then (λ c. option_map (λ d. record { kind = k; values = a ∷ b ∷ c ∷ d ∷ [] }) fourth) third) second) first

abbrev pub sched_by : GivenOptions → RowOf → Option Sched
sched_by o r = valued r.kind (given_at o r.settings 0) (given_at o r.settings 1) (given_at o r.settings 2) (given_at o r.settings 3)

-- the row of a name, and the scheduler that the options name
abbrev pub row_named : List ℕ → Option RowOf
row_named name = find (λ r. bytes_eq name r.name) sched_table

abbrev pub sched_given : GivenOptions → Option Sched
sched_given o = option_and_then (λ name. option_and_then (sched_by o) (row_named name)) (o.text sched_option.name)

-- whether the scheduler of a row is compared, and it with its settings where it is
abbrev pub is_compared : GivenOptions → RowOf → Bool
is_compared o r = option_map_or o.is_set r.flag true

abbrev pub compared_by : GivenOptions → RowOf → Option (Option Sched)
compared_by o r = option_map (λ s. if is_compared o r then Some s else None) (sched_by o r)

-- those of these rows, where all settings are given; and all that run a script in turn
abbrev pub all_compared : GivenOptions → List RowOf → Option (List (Option Sched))
all_compared o [] = Some []
all_compared o (r ∷ rows) = option_and_then (λ s. option_map (λ rest. s ∷ rest) (all_compared o rows)) (compared_by o r)

abbrev pub lineup_given : GivenOptions → Option ComparedScheds
lineup_given o = option_map (λ scheds. record { scheds = scheds }) (all_compared o sched_table)
