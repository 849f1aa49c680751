use Rattle.std.proofs.Common.{◌≡◌, length}
use Rattle.std.specs.Io.KnownBytes.{Consumes}
use Rattle.blk_capture_text.specs.Inside.Along.{count_feeds}
use Rattle.blk_capture_text.proofs.summing.read_first.Given as goal

abbrev pub invariant-loop : goal.invariant-loop
invariant-loop g l = record {
  consumed : Consumes l.initial.records.bytes l.records.bytes l.bytes.items;
  feeds : l.feeds ≡ count_feeds l.bytes.items;
  room : length l.part ≡ length l.initial.part;
}
