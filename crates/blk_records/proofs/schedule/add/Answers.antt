use Rattle.blk_records.specs.Inside.Schedule.{AreIds, DoRise}
use Rattle.blk_records.proofs.ScheduleLaws.{above_rises, above_is_new, when_rising}
use Rattle.blk_records.proofs.schedule.add.Goals as goal

pub is_above-requires : goal.is_above-requires
is_above-requires c = rw c.as_slice.ensures.value (when_rising (DoRise c.args.known.now.served.items) (AreIds c.args.known.now.served.items c.args.known.now.ids) c.args.known.now.rise c.if-not-known.false c.requires)

pub returns-in-Ok-clause-ok : goal.returns-in-Ok-clause-ok
returns-in-Ok-clause-ok c =
    let items = c.in-Ok.ensures.items in
    let rise = when_rising (DoRise c.args.known.now.served.items) (AreIds c.args.known.now.served.items c.args.known.now.ids) c.args.known.now.rise c.if-not-known.false c.requires in
    let above = rw c.as_slice.ensures.value at c.if-not-is_above.ensures in
    let rises = rw (← items) at (above_rises c.args.known.now.served.items c.args.served rise above) in
    (rw c.if-not-known.false rises, items, above_is_new c.args.known.now.served.items c.args.served above)
