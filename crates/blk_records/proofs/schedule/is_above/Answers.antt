use Rattle.std.proofs.Common.{ltb-true}
use Rattle.blk_records.proofs.ScheduleLaws.{above_last, above_none, on_true}
use Rattle.blk_records.proofs.schedule.is_above.Goals as goal

pub returns-in-Some : goal.returns-in-Some
returns-in-Some c = on_true _ (λ low. above_last c.args.served.now c.in-Some.last.now c.args.id c.requires c.in-Some.ensures.value (ltb-true _ _ low))

pub returns-in-None : goal.returns-in-None
returns-in-None c = above_none c.args.served.now c.args.id c.in-None.ensures.value
