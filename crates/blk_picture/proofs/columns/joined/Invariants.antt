use Rattle.std.proofs.Common.{◌≡◌}
use Rattle.blk_picture.specs.Made.{made}
use Rattle.blk_picture.specs.Inside.Counted.{column_from}
use Rattle.blk_picture.proofs.columns.joined.Given as goal

abbrev pub invariant-loop-column : goal.invariant-loop-column
invariant-loop-column l = l.columns.items ≡ made (column_from l.reads l.writes l.lates l.backs l.rooms l.read_waits l.write_waits) l.column
