use Rattle.std.proofs.Common.{refl}
use Rattle.blk_queues.proofs.Joining.{joined_at}
use Rattle.blk_queues.proofs.plug.join_at.Goals as goal

pub returns-clause-ok : goal.returns-clause-ok
returns-clause-ok g c =
    joined_at c.args.limits.now c.args.requests.now.items _ c.args.place c.args.bio c.in-Ok.newcomer c.index_mut-request.result.now c.join.new.self c.requires.bios c.args.side c.in-Ok-join.field-0 c.requires.stands c.requires.fits c.index_mut-request.ensures.value c.in-Ok.ensures.ok c.in-Ok-join.ensures.only c.in-Ok-join.ensures.answer.1 refl
