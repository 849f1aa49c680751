use Rattle.blk_records.specs.Inside.Schedule.{AreIds, DoRise}
use Rattle.blk_records.proofs.ScheduleLaws.{when_not}
use Rattle.blk_records.proofs.schedule.gather_ids.Goals as goal

pub returns-then-not-known-clause-ids : goal.returns-then-not-known-clause-ids
returns-then-not-known-clause-ids c = when_not (DoRise c.args.known.now.served.items) (AreIds c.args.known.now.served.items c.args.known.now.ids) c.args.known.now.rise c.if-not-known.true c.requires
