use Rattle.std.proofs.Common.{◌≡◌, ◌++◌, map, take}
use Rattle.blk_schedulers.specs.Options.{option_of, lists_of}
use Rattle.blk_schedulers.specs.Row.{setting_row_of}
use Rattle.blk_schedulers.proofs.options.push_lists.Given as goal

abbrev pub invariant-loop-setting : goal.invariant-loop-setting
invariant-loop-setting l = map option_of l.all.items ≡ map option_of l.fn.all.items ++ lists_of (map setting_row_of (take l.setting-index l.settings))
