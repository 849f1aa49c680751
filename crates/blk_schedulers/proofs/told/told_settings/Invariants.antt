use Rattle.std.proofs.Common.{◌≡◌, map, take}
use Rattle.blk_schedulers.specs.Told.{told_setting}
use Rattle.blk_schedulers.proofs.told.told_settings.Given as goal

-- the settings so far
abbrev pub invariant-loop-setting : goal.invariant-loop-setting
invariant-loop-setting l = l.all.items ≡ map (λ x. told_setting x) (take l.setting-index l.settings)
