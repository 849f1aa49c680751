-- The lists that the options of a trial give.
use Rattle.std.specs.Prelude.{ℕ, ◌+◌, ◌==◌, ◌∷◌, Bool, true, false, List, [], Option, Some, None, get_or, map, set, option_and_then, if◌then◌else◌}
use Rattle.std.specs.List.{slice_split, slice_get}
use Rattle.std.specs.Option.{option_or, option_map_or}
use Rattle.blk_schedulers.specs.Given.{GivenOptions, row_named}
use Rattle.blk_schedulers.specs.Options.{scheds_list}
use Rattle.blk_schedulers.specs.Positions.{positions_listed}
use Rattle.blk_schedulers.specs.Row.{RangeOf, Short, UpTo, Switch, Positions, SettingOf, RowOf}
use Rattle.blk_schedulers.specs.Rows.{sched_table, sched_place}
use Rattle.blk_schedulers.specs.declared.given.TheConstants.{MAX_SHORT}
use Rattle.blk_schedulers.specs.declared.lists.ListFault.{ListFault}
use Rattle.blk_schedulers.specs.declared.lists.ListFault.TheVariants as list
use Rattle.blk_schedulers.specs.declared.rows.SchedKind.{SchedKind}

-- what stands between the commas of a text
abbrev pub parts : List ℕ → List (List ℕ)
parts text = slice_split (λ b. b == 44) text

-- schedulers, by whether each is among them, in its place in the table: with one that is not among them yet, and with the one of this name
abbrev pub with_place : List Bool → ℕ → Option (List Bool)
with_place tried place = if get_or tried place false then None else Some (set tried place true)

abbrev pub with_name : List Bool → List ℕ → Option (List Bool)
with_name tried name = option_and_then (λ r. with_place tried (sched_place r.kind)) (row_named name)

-- and with those of these names
abbrev pub with_names : List Bool → List (List ℕ) → Option (List Bool)
with_names tried [] = Some tried
with_names tried (name ∷ names) = option_and_then (λ s. with_names s names) (with_name tried name)

-- no scheduler, those of a list, each named once, and those that the options list
abbrev pub no_schedulers : List Bool
no_schedulers = map (λ r. false) sched_table

abbrev pub tried_of : List ℕ → Option (List Bool)
tried_of text = with_names no_schedulers (parts text)

abbrev pub tried_given : GivenOptions → Option (List Bool)
tried_given o = option_and_then tried_of (o.text scheds_list.name)

-- the values of a setting that are tried: those that its option lists, or both of a switch, on and off
abbrev pub tried_numbers_in : GivenOptions → RangeOf → List ℕ → Option (List ℕ)
tried_numbers_in o (Short default tried) option = o.list MAX_SHORT option
tried_numbers_in o (UpTo most default tried) option = o.list most option
tried_numbers_in o (Switch turned) option = Some (1 ∷ 0 ∷ [])
tried_numbers_in o (Positions default tried) option = option_and_then positions_listed (o.text option)

abbrev pub numbers_tried : GivenOptions → SettingOf → Option (List ℕ)
numbers_tried o s = tried_numbers_in o s.range s.option

-- those of the setting in a place: 0 alone where there is none, and none where its option is given no list
abbrev pub numbers_at : GivenOptions → List SettingOf → ℕ → List ℕ
numbers_at o settings place = option_map_or (λ s. option_map_or (λ n. n) (numbers_tried o s) []) (slice_get settings place) (0 ∷ [])

-- the first of these settings of a scheduler, from a place on, whose option is given no list; that of a row; and of these rows
abbrev pub unlisted_from : GivenOptions → SchedKind → ℕ → List SettingOf → Option ListFault
unlisted_from o k place [] = None
unlisted_from o k place (s ∷ settings) = option_map_or (λ n. unlisted_from o k (place + 1) settings) (numbers_tried o s) (Some (list.Numbers k place))

abbrev pub unlisted_in : GivenOptions → RowOf → Option ListFault
unlisted_in o r = unlisted_from o r.kind 0 r.settings

abbrev pub unlisted_among : GivenOptions → List RowOf → Option ListFault
unlisted_among o [] = None
unlisted_among o (r ∷ rows) = option_or (unlisted_in o r) (unlisted_among o rows)

-- the first option that is given no list: that of the schedulers, and then those of their settings
abbrev pub list_fault : GivenOptions → Option ListFault
list_fault o = option_map_or (λ t. unlisted_among o sched_table) (tried_given o) (Some list.Scheds)
