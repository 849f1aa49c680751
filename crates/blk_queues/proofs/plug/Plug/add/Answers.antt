use Rattle.blk_queues.proofs.Joining.{append_keeps, joined_keeps}
use Rattle.blk_queues.proofs.plug.Plug.add.Goals as goal

pub returns-in_default-clause-kept : goal.returns-in_default-clause-kept
returns-in_default-clause-kept g c =
    rw (← c.self.view_is) (append_keeps c.self.inside.requests.items c.append.new.requests.items c.args.bio c.in-Ok.ensures.ok)

pub returns-clause-kept : goal.returns-clause-kept
returns-clause-kept g c =
    rw (← c.self.view_is) (joined_keeps c.self.inside.requests.items c.join_at.new.requests.items c.args.bio c.in-Some.place c.in-Some.side c.in-Ok-join_at.ensures.ok)
