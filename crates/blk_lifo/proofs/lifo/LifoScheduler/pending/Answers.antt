use Rattle.std.proofs.Common.{rules, ◌≡◌, ◌∙◌, length}
use Rattle.blk_lifo.proofs.Stack.{count_is}
use Rattle.blk_lifo.proofs.lifo.LifoScheduler.pending.Goals as goal

pub returns : goal.returns
returns g c =
    let counted : c.len.result ≡ length c.self.inside.requests.items = search rules in
    counted ∙ count_is c.self.inside.requests.items c.self.inside.open_picks c.args.self.now c.self.view_is c.self.invariant
