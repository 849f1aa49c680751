-- Settings by their names.
use Rattle.std.specs.Prelude.{ℕ, Bool, List}
use Rattle.blk_deadline.specs.declared.Positions.{Positions}
use Rattle.blk_schedulers.specs.declared.setting.SettingValue.{SettingValue}
use Rattle.blk_schedulers.specs.declared.setting.SettingValue.TheVariants as value

-- a setting: its name, and what it is set to
pub record NamedSetting : Type 0 where
  pub name : List ℕ
  pub value : SettingValue

-- one that is a number, one that is on or off, and one that is one position or each direction's own
abbrev pub number_setting : List ℕ → ℕ → NamedSetting
number_setting name n = record { name = name; value = value.Number n }

abbrev pub switch_setting : List ℕ → Bool → NamedSetting
switch_setting name is_on = record { name = name; value = value.Switch is_on }

abbrev pub positions_setting : List ℕ → Positions → NamedSetting
positions_setting name positions = record { name = name; value = value.Positions positions }
