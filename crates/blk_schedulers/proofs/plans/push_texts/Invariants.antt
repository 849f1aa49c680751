use Rattle.std.proofs.Common.{◌≡◌, ◌++◌, map, take}
use Rattle.blk_schedulers.specs.Options.{option_of}
use Rattle.blk_schedulers.specs.Plans.{texts_of}
use Rattle.blk_schedulers.specs.Row.{setting_row_of}
use Rattle.blk_schedulers.proofs.plans.push_texts.Given as goal

abbrev pub invariant-loop-setting : goal.invariant-loop-setting
invariant-loop-setting l = map option_of l.all.items ≡ map option_of l.fn.all.items ++ texts_of (map setting_row_of (take l.setting-index l.settings))
