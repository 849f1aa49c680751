use Rattle.std.proofs.Common.{arith}
use Rattle.blk_trace.proofs.Asked.{holds, fails}
use Rattle.blk_trace.proofs.Room.{room_issue, full_issue}
use Rattle.blk_trace.proofs.First.{issue_tag_range, issue_tag_used, issue_too_long, issue_unbroken}
use Rattle.blk_trace.proofs.trace.Trace.broken_tag.Goals as goal

pub returns-then-tag-depth_now-clause-some : goal.returns-then-tag-depth_now-clause-some
returns-then-tag-depth_now-clause-some g c =
    issue_tag_range c.args.self.now.setup c.args.self.now.events c.args.id c.args.tag c.requires.released c.requires.waits (λ h. absurd (omega (arith, h, c.if-tag-depth_now.true, c.depth_now.ensures.value)))

pub returns-then-is_used-clause-some : goal.returns-then-is_used-clause-some
returns-then-is_used-clause-some g c =
    issue_tag_used c.args.self.now.setup c.args.self.now.events c.args.id c.args.tag c.requires.released c.requires.waits (omega (arith, c.if-tag-depth_now.false, c.depth_now.ensures.value)) (λ h. h (holds c.is_used.result c.if-is_used.true c.is_used.ensures))

pub returns-then-not-has_places-clause-some : goal.returns-then-not-has_places-clause-some
returns-then-not-has_places-clause-some g c =
    issue_too_long c.args.self.now.setup c.args.self.now.events c.args.id c.args.tag c.requires.released c.requires.waits (omega (arith, c.if-tag-depth_now.false, c.depth_now.ensures.value)) (fails c.is_used.result c.if-is_used.false c.is_used.ensures) (full_issue c.args.self.now.setup c.args.self.now.events c.args.id c.args.tag c.depth_now.ensures.legal (fails c.has_places.result c.if-not-has_places.true c.has_places.ensures))

pub returns-else-not-has_places-clause-none : goal.returns-else-not-has_places-clause-none
returns-else-not-has_places-clause-none g c =
    issue_unbroken c.args.self.now.setup c.args.self.now.events c.args.id c.args.tag c.requires.released c.requires.waits (omega (arith, c.if-tag-depth_now.false, c.depth_now.ensures.value)) (fails c.is_used.result c.if-is_used.false c.is_used.ensures) (room_issue c.args.self.now.setup c.args.self.now.events c.args.id c.args.tag c.depth_now.ensures.legal (holds c.has_places.result c.if-not-has_places.false c.has_places.ensures))
