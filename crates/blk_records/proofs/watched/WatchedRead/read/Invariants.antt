use Rattle.std.proofs.Common.{◌≡◌}
use Rattle.std.specs.Io.KnownBytes.{Keeps}
use Rattle.blk_records.specs.Watching.{remaining_of, read_failed}
use Rattle.blk_records.proofs.watched.WatchedRead.read.Given as goal

abbrev pub invariant-loop : goal.invariant-loop
invariant-loop g l = record {
  kept : Keeps (remaining_of g.R.Read.remaining l.initial.self) (remaining_of g.R.Read.remaining l.self);
  same : read_failed l.self ≡ read_failed l.initial.self;
}
