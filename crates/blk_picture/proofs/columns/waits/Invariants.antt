use Rattle.std.proofs.Common.{◌≡◌}
use Rattle.blk_picture.specs.Columns.{before, waits_of}
use Rattle.blk_picture.proofs.columns.waits.Given as goal

abbrev pub invariant-loop-round : goal.invariant-loop-round
invariant-loop-round l = record {
  came : l.all_came ≡ before l.entered l.round;
  went : l.all_went ≡ before l.gone l.round;
  waits : l.waits.items ≡ waits_of l.entered l.gone l.round;
}
