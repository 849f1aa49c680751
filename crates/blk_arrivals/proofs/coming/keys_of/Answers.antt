use Rattle.std.proofs.Common.{ap, arith, length}
use Rattle.blk_arrivals.specs.Coming.{keys_after}
use Rattle.blk_arrivals.proofs.Keys.{key_step, too_many, all_seen}
use Rattle.blk_arrivals.proofs.coming.keys_of.Goals as goal

pub loop-record-init : goal.loop-record-init
loop-record-init c = record {
  rest = ap (λ ks. keys_after c.args.told ks c.args.records.now) c.new-keys.ensures.items;
  few = omega (arith, ap length c.new-keys.ensures.items);
}

pub loop-record-preserved : goal.loop-record-preserved
loop-record-preserved c = record {
  rest = key_step c.args.told c.loop-record.keys.items c.note.new.keys.items c.args.records.now c.loop-record.record-index _ c.loop-record-test.true c.loop-record.invariant.rest c.way_of.result c.key_of.result c.way_of.ensures.way c.key_of.ensures c.in_ok-note.ensures;
  few = omega arith;
}

pub returns-then-len-gt-MAX_SOFT_QUEUES : goal.returns-then-len-gt-MAX_SOFT_QUEUES
returns-then-len-gt-MAX_SOFT_QUEUES c =
    too_many c.args.told c.note.new.keys.items c.args.records.now _ _ (omega arith) (key_step c.args.told c.loop-record.keys.items c.note.new.keys.items c.args.records.now c.loop-record.record-index _ c.loop-record-test.true c.loop-record.invariant.rest c.way_of.result c.key_of.result c.way_of.ensures.way c.key_of.ensures c.in_ok-note.ensures)

pub returns : goal.returns
returns c = (all_seen c.args.told c.loop-record.keys.items c.args.records.now c.loop-record.record-index (omega arith) c.loop-record.invariant.rest, c.loop-record.invariant.few)
