use Rattle.std.proofs.Common.{◌≡◌, ◌≤◌, ◌-◌, ◌++◌}
use Rattle.blk_picture.specs.Columns.{rooms_of}
use Rattle.blk_picture.proofs.columns.rooms.Given as goal

abbrev pub invariant-loop-column : goal.invariant-loop-column
invariant-loop-column l = record {
  within : l.start ≤ l.scale.rounds;
  rooms : l.rooms.items ++ rooms_of l.capacity l.scale.per l.scale.rounds l.start (l.scale.columns - l.column) ≡ rooms_of l.capacity l.scale.per l.scale.rounds 0 l.scale.columns;
}
