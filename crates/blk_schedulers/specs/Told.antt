-- Settings as answers tell them.
use Rattle.answer.specs.declared.value.Set.{Set}
use Rattle.answer.specs.declared.value.Set.TheVariants as set
use Rattle.answer.specs.declared.value.Setting.{Setting}
use Rattle.blk_schedulers.specs.Positions.{positions_name}
use Rattle.blk_schedulers.specs.Settings.{NamedSetting}
use Rattle.blk_schedulers.specs.declared.setting.SettingValue.{SettingValue}
use Rattle.blk_schedulers.specs.declared.setting.SettingValue.TheVariants as value

-- what a setting is set to, and the setting by its name
abbrev pub set_of : SettingValue → Set
set_of (value.Number n) = set.Number n
set_of (value.Switch is_on) = set.Switch is_on
set_of (value.Positions p) = set.Word (positions_name p)

abbrev pub told_setting : NamedSetting → Setting
told_setting s = record { name = s.name; set = set_of s.value }
