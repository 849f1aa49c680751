-- What a scheduler's row has: what it is called, its settings, what it does, and how it starts.
use Rattle.std.specs.Prelude.{ℕ, ◌==◌, Bool, List, Option, get_or, map, min, option_map}
use Rattle.blk_sched.specs.Meaning.{Meaning}
use Rattle.blk_sched.specs.Policies.{Policy}
use Rattle.blk_schedulers.specs.declared.given.TheConstants.{MAX_SHORT}
use Rattle.blk_schedulers.specs.declared.rows.SchedKind.{SchedKind}
use Rattle.blk_schedulers.specs.declared.rows.SchedRow.{SchedRow}
use Rattle.blk_schedulers.specs.declared.rows.SettingRange.{SettingRange}
use Rattle.blk_schedulers.specs.declared.rows.SettingRange.TheVariants as range
use Rattle.blk_schedulers.specs.declared.rows.SettingRow.{SettingRow}
use Rattle.blk_schedulers.specs.declared.sched.SchedFault.{SchedFault}

-- what a setting may be: a number of 16 bits, or one up to a most, with a default and the list of those that are tried by default; on or off,
-- turned to this by a flag; or one position or each direction's own, by names
pub data RangeOf : Type 0 where
  Short : (default : List ℕ) → (tried : List ℕ) → RangeOf
  UpTo : (most : ℕ) → (default : List ℕ) → (tried : List ℕ) → RangeOf
  Switch : (turned : Bool) → RangeOf
  Positions : (default : List ℕ) → (tried : List ℕ) → RangeOf

-- a setting: its name, the option that sets it, and what it may be
pub record SettingOf : Type 0 where
  pub name : List ℕ
  pub option : List ℕ
  pub range : RangeOf

-- a scheduler's row: which it is, its name, the flag that adds it to those that are compared, if it isn't always, its place in the order of
-- trials, and its settings in the order in which they are written
pub record RowOf : Type 0 where
  pub kind : SchedKind
  pub name : List ℕ
  pub flag : Option (List ℕ)
  pub tried : ℕ
  pub settings : List SettingOf

-- a scheduler: its row and its policy; and by the values of its settings what is wrong with them, what it means before it has any request,
-- and what it keeps then at a depth
pub record SchedOf : Type 1 where
  pub row : RowOf
  pub policy : Policy
  pub fault : List ℕ → Option SchedFault
  pub meaning : List ℕ → Meaning
  pub kept : List ℕ → ℕ → List ℕ

-- those of the program's rows
abbrev pub setting_range_of : SettingRange → RangeOf
setting_range_of (range.Short default list) = Short default.now list.default.now
setting_range_of (range.UpTo most default list) = UpTo most default.now list.default.now
setting_range_of (range.Switch turned) = Switch turned
setting_range_of (range.Positions default list) = Positions default.now list.default.now

abbrev pub setting_row_of : SettingRow → SettingOf
setting_row_of s = record { name = s.name.now; option = s.option.now; range = setting_range_of s.range }

abbrev pub sched_row_of : SchedRow → RowOf
sched_row_of r = record {
  kind = r.kind;
  name = r.name.now;
  flag = option_map (λ f. f.name.now) r.flag;
  tried = r.tried;
  settings = map setting_row_of r.settings.now;
}

-- the settings by their places: the value of one; one of 16 bits, as which the greatest of these stands for any greater one, that no option
-- gives; and whether one is on
abbrev pub value_at : ℕ → List ℕ → ℕ
value_at place values = get_or values place 0

abbrev pub short_at : ℕ → List ℕ → ℕ
short_at place values = min (value_at place values) MAX_SHORT

abbrev pub is_on : ℕ → Bool
is_on n = n == 1
