use Rattle.std.proofs.Common.{◌≡◌, ◌+◌, map, take, vec_len}
use Rattle.blk_layer.specs.Seats.{new_worker}
use Rattle.blk_layer.proofs.seats.seat_workers.Given as goal

abbrev pub invariant-loop-hw : goal.invariant-loop-hw
invariant-loop-hw g l = record {
  parts : l.rest.parts + l.hw-index ≡ l.initial.rest.parts;
  amount : l.rest.amount ≡ 0;
  seat : l.first.of_set ≡ l.tags;
  count : vec_len l.all ≡ l.hw-index;
  each : l.all.items ≡ map (new_worker l.tags) (take l.hw-index l.queues);
}
