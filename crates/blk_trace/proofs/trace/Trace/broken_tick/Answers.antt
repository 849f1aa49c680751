use Rattle.std.proofs.Common.{refl}
use Rattle.blk_trace.proofs.Asked.{holds, fails}
use Rattle.blk_trace.specs.Happened.{Tick}
use Rattle.blk_trace.proofs.Room.{room_kept, full_kept}
use Rattle.blk_trace.proofs.First.{tick_in_flight, tick_too_long, tick_unbroken}
use Rattle.blk_trace.proofs.trace.Trace.broken_tick.Goals as goal

pub returns-then-has_open-clause-some : goal.returns-then-has_open-clause-some
returns-then-has_open-clause-some g c =
    tick_in_flight c.args.self.now.setup c.args.self.now.events (λ h. let p = holds c.has_open.result c.if-has_open.true c.has_open.ensures in h p.0 p.1)

pub returns-then-not-has_places-clause-some : goal.returns-then-not-has_places-clause-some
returns-then-not-has_places-clause-some g c =
    tick_too_long c.args.self.now.setup c.args.self.now.events (λ tag o. fails c.has_open.result c.if-has_open.false c.has_open.ensures (tag, o)) (full_kept c.args.self.now.setup c.args.self.now.events Tick refl refl (fails c.has_places.result c.if-not-has_places.true c.has_places.ensures))

pub returns-else-not-has_places-clause-none : goal.returns-else-not-has_places-clause-none
returns-else-not-has_places-clause-none g c =
    tick_unbroken c.args.self.now.setup c.args.self.now.events (λ tag o. fails c.has_open.result c.if-has_open.false c.has_open.ensures (tag, o)) (room_kept c.args.self.now.setup c.args.self.now.events Tick refl refl (holds c.has_places.result c.if-not-has_places.false c.has_places.ensures))
