use Rattle.std.proofs.Common.{arith}
use Rattle.blk_trace.proofs.Asked.{holds, fails}
use Rattle.blk_trace.proofs.Room.{room_end}
use Rattle.blk_trace.proofs.Capacities.{tag_below}
use Rattle.blk_trace.proofs.First.{end_not_issued, end_unbroken}
use Rattle.blk_trace.proofs.trace.Trace.broken_end.Goals as goal

pub returns-then-tag-depth-clause-some : goal.returns-then-tag-depth-clause-some
returns-then-tag-depth-clause-some g c =
    end_not_issued c.args.self.now.setup c.args.self.now.events c.args.event.now c.args.tag c.requires (λ o. absurd (omega (arith, tag_below c.args.self.now.setup c.args.self.now.events o.place o.id c.args.tag c.depth.ensures.legal o.issued, c.if-tag-depth.true, c.depth.ensures.value)))

pub returns-then-is_open-clause-none : goal.returns-then-is_open-clause-none
returns-then-is_open-clause-none g c =
    let o = holds c.is_open.result c.if-is_open.true c.is_open.ensures in end_unbroken c.args.self.now.setup c.args.self.now.events c.args.event.now c.args.tag c.requires o (room_end c.args.self.now.setup c.args.self.now.events c.args.event.now c.args.tag c.requires c.depth.ensures.legal o)

pub returns-else-is_open-clause-some : goal.returns-else-is_open-clause-some
returns-else-is_open-clause-some g c =
    end_not_issued c.args.self.now.setup c.args.self.now.events c.args.event.now c.args.tag c.requires (fails c.is_open.result c.if-is_open.false c.is_open.ensures)
