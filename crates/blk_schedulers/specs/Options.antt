-- The options of the schedulers.
use Rattle.std.specs.Prelude.{ℕ, List, [], ◌∷◌, Option, None, Some, codes, map, option_map}
use Rattle.std.specs.List.{flat_map, join_with_byte}
use Rattle.std.specs.Option.{option_to_list}
use Rattle.std.specs.Str.Parse.{digits_value}
use Rattle.blk_schedulers.specs.declared.options.OptionValue.{OptionValue}
use Rattle.blk_schedulers.specs.declared.options.OptionValue.TheVariants as takes
use Rattle.blk_schedulers.specs.declared.options.OptionRow.{OptionRow}
use Rattle.blk_deadline.specs.declared.Positions.TheVariants.{One, Each}
use Rattle.blk_schedulers.specs.Positions.{positions_name}
use Rattle.blk_schedulers.specs.Row.{RangeOf, SettingOf, RowOf}
use Rattle.blk_schedulers.specs.Rows.{row_for, sched_table, tried_kinds}
use Rattle.blk_schedulers.specs.Row as rows

-- what an option takes: nothing, since it is a flag; a scheduler's name; a number of 16 bits; one from the least to the most; a text; a name
-- of positions; each with a default but for those that may be left out
pub data OptionKind : Type 0 where
  Flag : OptionKind
  Name : (default : List ℕ) → OptionKind
  Short : (default : List ℕ) → OptionKind
  Number : (least : ℕ) → (most : ℕ) → (default : List ℕ) → OptionKind
  MaybeNumber : (least : ℕ) → (most : ℕ) → OptionKind
  Words : (default : List ℕ) → OptionKind
  MaybeWords : OptionKind
  PositionName : (default : List ℕ) → OptionKind

-- an option: its name, and what it takes
pub record OptionOf : Type 0 where
  pub name : List ℕ
  pub kind : OptionKind

-- those of a row
abbrev pub option_kind : OptionValue → OptionKind
option_kind takes.Nothing = Flag
option_kind (takes.Sched default) = Name default.now
option_kind (takes.Short default) = Short default.now
option_kind (takes.Number least most default) = Number least most default.now
option_kind (takes.Maybe least most) = MaybeNumber least most
option_kind (takes.Text default) = Words default.now
option_kind takes.MaybeText = MaybeWords
option_kind (takes.Positions default) = PositionName default.now

abbrev pub option_of : OptionRow → OptionOf
option_of row = record { name = row.name.now; kind = option_kind row.takes }

-- the names of positions, and of the schedulers
abbrev pub position_names : List (List ℕ)
position_names = map positions_name (One ∷ Each ∷ [])

abbrev pub sched_names : List (List ℕ)
sched_names = map (λ r. r.name) sched_table

-- those names in the order of trials, with commas between
abbrev pub tried_names : List ℕ
tried_names = join_with_byte 44 (map (λ k. (row_for k).name) tried_kinds)

-- the option that names one, by default none
abbrev pub sched_option : OptionOf
sched_option = record { name = codes "sched"; kind = Name (codes "none") }

-- the flag that adds the scheduler of a row to those that are compared, if it isn't always; and those of all rows
abbrev pub flag_option : RowOf → Option OptionOf
flag_option r = option_map (λ name. record { name = name; kind = Flag }) r.flag

abbrev pub flags : List OptionOf
flags = flat_map (λ r. option_to_list (flag_option r)) sched_table

-- the option that sets a setting
abbrev pub kind_in : RangeOf → OptionKind
kind_in (rows.Short default tried) = Short default
kind_in (rows.UpTo most default tried) = Number 0 most default
kind_in (rows.Switch turned) = Flag
kind_in (rows.Positions default tried) = PositionName default

abbrev pub setting_option : SettingOf → OptionOf
setting_option s = record { name = s.option; kind = kind_in s.range }

abbrev pub options_of : List SettingOf → List OptionOf
options_of = map setting_option

-- the one that lists the values of it that are tried, if it is no switch
abbrev pub list_in : RangeOf → List ℕ → Option OptionOf
list_in (rows.Short default tried) name = Some (record { name = name; kind = Words tried })
list_in (rows.UpTo most default tried) name = Some (record { name = name; kind = Words tried })
list_in (rows.Switch turned) name = None
list_in (rows.Positions default tried) name = Some (record { name = name; kind = Words tried })

abbrev pub list_option : SettingOf → Option OptionOf
list_option s = list_in s.range s.option

abbrev pub lists_of : List SettingOf → List OptionOf
lists_of settings = flat_map (λ s. option_to_list (list_option s)) settings

-- those of all settings
abbrev pub tuning : List OptionOf
tuning = flat_map (λ r. options_of r.settings) sched_table

-- the option that lists which schedulers are tried, by default all of them, under the name of the one that takes one; and those that list
-- under which settings
abbrev pub scheds_list : OptionOf
scheds_list = record { name = sched_option.name; kind = Words tried_names }

abbrev pub listing : List OptionOf
listing = scheds_list ∷ flat_map (λ r. lists_of r.settings) sched_table

-- the default of an option that has one
abbrev pub default_text : OptionKind → List ℕ
default_text Flag = []
default_text (Name default) = default
default_text (Short default) = default
default_text (Number least most default) = default
default_text (MaybeNumber least most) = []
default_text (Words default) = default
default_text MaybeWords = []
default_text (PositionName default) = default

-- the number that it spells
abbrev pub default_number : OptionOf → ℕ
default_number o = digits_value 10 (default_text o.kind)
