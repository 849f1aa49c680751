use Rattle.std.proofs.Common.{◌≡◌, ◌++◌, length, map, drop}
use Rattle.blk_schedulers.specs.Row.{setting_row_of}
use Rattle.blk_schedulers.specs.Scheds.{settings_of, settings_from}
use Rattle.blk_schedulers.proofs.sched.Sched.settings.Given as goal

abbrev pub invariant-loop-i : goal.invariant-loop-i
invariant-loop-i l = record {
  many : length l.all.items ≡ l.i;
  told : l.all.items ++ settings_from l.i (map setting_row_of (drop l.i l.rows)) l.self.values ≡ settings_of l.self;
}
