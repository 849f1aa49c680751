use Rattle.std.proofs.Common.{◌<◌, ◌≤◌, ◌↔◌, ℕ, IsTrue, refl, subst}
use Rattle.blk_trace.proofs.Asked.{holds, fails}
use Rattle.blk_trace.specs.Happened.{Depth}
use Rattle.blk_trace.proofs.Room.{room_kept, full_kept}
use Rattle.blk_trace.proofs.First.{depth_too_long, depth_range, depth_unbroken}
use Rattle.blk_trace.proofs.trace.Trace.broken_depth.Goals as goal

pub returns-then-not-has_places-clause-some : goal.returns-then-not-has_places-clause-some
returns-then-not-has_places-clause-some g c =
    depth_too_long c.args.self.now.setup c.args.self.now.events c.args.depth (full_kept c.args.self.now.setup c.args.self.now.events (Depth c.args.depth) refl refl (fails c.has_places.result c.if-not-has_places.true c.has_places.ensures))

pub returns-then-not-is_depth-clause-some : goal.returns-then-not-is_depth-clause-some
returns-then-not-is_depth-clause-some g c =
    let told = subst (λ (n : ℕ). IsTrue c.is_depth.result ↔ ((0 < c.args.depth) × (c.args.depth ≤ n))) c.depth-tags.ensures.value c.is_depth.ensures in
    depth_range c.args.self.now.setup c.args.self.now.events c.args.depth (room_kept c.args.self.now.setup c.args.self.now.events (Depth c.args.depth) refl refl (holds c.has_places.result c.if-not-has_places.false c.has_places.ensures)) (fails c.is_depth.result c.if-not-is_depth.true told)

pub returns-else-not-is_depth-clause-none : goal.returns-else-not-is_depth-clause-none
returns-else-not-is_depth-clause-none g c =
    let told = subst (λ (n : ℕ). IsTrue c.is_depth.result ↔ ((0 < c.args.depth) × (c.args.depth ≤ n))) c.depth-tags.ensures.value c.is_depth.ensures in
    depth_unbroken c.args.self.now.setup c.args.self.now.events c.args.depth (room_kept c.args.self.now.setup c.args.self.now.events (Depth c.args.depth) refl refl (holds c.has_places.result c.if-not-has_places.false c.has_places.ensures)) (holds c.is_depth.result c.if-not-is_depth.false told)
