-- The settings of a grid, in the order in which they are tried.
use Rattle.std.specs.Prelude.{ℕ, ◌≡◌, ◌∷◌, Bool, true, false, List, [], Option, None, Some, get_or, fold, map, option_map, set}
use Rattle.std.specs.List.{flat_map, range_with_len}
use Rattle.blk_schedulers.specs.Given.{GivenOptions}
use Rattle.blk_schedulers.specs.Lists.{tried_given, numbers_at, list_fault}
use Rattle.blk_schedulers.specs.Rows.{row_for, sched_place, tried_kinds}
use Rattle.blk_schedulers.specs.declared.lists.ListFault.{ListFault}
use Rattle.blk_schedulers.specs.declared.rows.SchedKind.{SchedKind}
use Rattle.blk_schedulers.specs.declared.sched.Sched.{Sched}
use Rattle.blk_schedulers.specs.declared.setting.TheConstants.{MAX_SETTINGS}

-- a scheduler with this value of the setting in a place, and schedulers with each of these there
abbrev pub with_value : ℕ → Sched → ℕ → Sched
with_value place s n = record s { values = set s.values place n }

abbrev pub with_values : List ℕ → ℕ → List Sched → List Sched
with_values numbers place scheds = flat_map (λ s. map (with_value place s) numbers) scheds

-- one of a kind with each choice of values, by those of the setting in each place: the last one's change first
abbrev pub blank_of : SchedKind → Sched
blank_of k = record { kind = k; values = 0 ∷ 0 ∷ 0 ∷ 0 ∷ [] }

abbrev pub with_each : SchedKind → (ℕ → List ℕ) → List Sched
with_each k numbers = fold (λ scheds place. with_values (numbers place) place scheds) (blank_of k ∷ []) (range_with_len 0 MAX_SETTINGS)

-- a scheduler with the values that the options list
abbrev pub rows_of_kind : GivenOptions → SchedKind → List Sched
rows_of_kind o k = with_each k (numbers_at o (row_for k).settings)

-- those rows where the scheduler is tried
abbrev pub rows_if : Bool → List Sched → List Sched
rows_if true rows = rows
rows_if false rows = []

-- all of them: of the schedulers that are tried, by their places in the table, in the order of trials
abbrev pub grid_rows : GivenOptions → List Bool → List Sched
grid_rows o tried = flat_map (λ k. rows_if (get_or tried (sched_place k) false) (rows_of_kind o k)) tried_kinds

-- those that the options list, where each option is given a list
abbrev pub grid_unless : Option ListFault → Option (List Sched) → Option (List Sched)
grid_unless None grid = grid
grid_unless (Some f) grid = None

abbrev pub grid_given : GivenOptions → Option (List Sched)
grid_given o = grid_unless (list_fault o) (option_map (grid_rows o) (tried_given o))
