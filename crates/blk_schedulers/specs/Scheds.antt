-- Schedulers with their settings.
use Rattle.std.specs.Prelude.{ℕ, ◌+◌, List, [], ◌∷◌, Option, None, Some}
use Rattle.blk_sched.specs.Meaning.{Meaning}
use Rattle.blk_sched.specs.Policies.{Policy}
use Rattle.blk_schedulers.specs.Positions.{positions_of}
use Rattle.blk_schedulers.specs.Row.{SettingOf, RangeOf, Short, UpTo, Switch, Positions, value_at, is_on}
use Rattle.blk_schedulers.specs.Rows.{row_for, sched_for}
use Rattle.blk_schedulers.specs.Settings.{NamedSetting, number_setting, switch_setting, positions_setting}
use Rattle.blk_schedulers.specs.declared.sched.ComparedScheds.{ComparedScheds}
use Rattle.blk_schedulers.specs.declared.sched.Sched.{Sched}

-- a setting of this value
abbrev pub setting_in : RangeOf → List ℕ → ℕ → NamedSetting
setting_in (Short default tried) name n = number_setting name n
setting_in (UpTo most default tried) name n = number_setting name n
setting_in (Switch turned) name n = switch_setting name (is_on n)
setting_in (Positions default tried) name n = positions_setting name (positions_of n)

abbrev pub as_setting : SettingOf → ℕ → NamedSetting
as_setting s n = setting_in s.range s.name n

-- settings from a place on, by their values
abbrev pub settings_from : ℕ → List SettingOf → List ℕ → List NamedSetting
settings_from place [] values = []
settings_from place (s ∷ settings) values = as_setting s (value_at place values) ∷ settings_from (place + 1) settings values

-- of a scheduler: its settings as they are, its name, its policy, what it means before it has any request, and what it keeps then at a depth
abbrev pub settings_of : Sched → List NamedSetting
settings_of s = settings_from 0 (row_for s.kind).settings s.values

abbrev pub name_of : Sched → List ℕ
name_of s = (row_for s.kind).name

abbrev pub policy_of : Sched → Policy
policy_of s = (sched_for s.kind).policy

abbrev pub first_meaning : Sched → Meaning
first_meaning s = (sched_for s.kind).meaning s.values

abbrev pub numbers_at_first : Sched → ℕ → List ℕ
numbers_at_first s depth = (sched_for s.kind).kept s.values depth

-- those of some that there are
abbrev pub those_there : List (Option Sched) → List Sched
those_there [] = []
those_there (None ∷ scheds) = those_there scheds
those_there (Some s ∷ scheds) = s ∷ those_there scheds

-- the schedulers that are compared, in the order in which they run
abbrev pub in_turn : ComparedScheds → List Sched
in_turn l = those_there l.scheds
