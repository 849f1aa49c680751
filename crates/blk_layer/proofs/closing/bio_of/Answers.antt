use Rattle.std.proofs.Common.{arith}
use Rattle.blk_layer.proofs.Gathered.{event_at, none_yet, within_events}
use Rattle.blk_trace.specs.declared.event.Event.TheVariants.{Release}
use Rattle.blk_layer.proofs.closing.bio_of.Goals as goal

pub returns-in-Some : goal.returns-in-Some
returns-in-Some g c =
    let some = c.in-Some.ensures.some in
    record {
      place = c.loop-event.event-index;
      event = c.event-item.result;
      request = some.0;
      stands = event_at c.args.events.now c.loop-event.event-index c.event-item.result c.loop-event-test.true c.event-item.is;
      released = some.1;
      named = some.2;
    }

pub loop-event-preserved : goal.loop-event-preserved
loop-event-preserved g c = none_yet c.args.events.now c.loop-event.event-index c.args.id c.event-item.result c.loop-event-test.true c.event-item.is c.in_default.ensures.none c.loop-event.invariant

pub unreachable-requires : goal.unreachable-requires
unreachable-requires g c =
    let r = c.requires in
    c.loop-event.invariant r.0 r.1.0 (omega (arith, within_events c.args.events.now r.0 (Release c.args.id r.1.0) r.1.1, c.loop-event-test.false)) r.1.1
