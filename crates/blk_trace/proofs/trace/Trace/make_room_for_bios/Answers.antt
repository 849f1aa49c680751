use Rattle.std.proofs.Common.{List, arith, refl, sym, subst}
use Rattle.blk_ids.specs.ById as by_id
use Rattle.blk_ids.specs.IdSet as id_set
use Rattle.blk_trace.specs.Happened.{Happened}
use Rattle.blk_trace.specs.Inside.Kept.{IsUnusedFrom, has_named}
use Rattle.blk_trace.proofs.Capacities.{depths_same}
use Rattle.blk_trace.proofs.Keeping.{kept_same}
use Rattle.blk_trace.proofs.trace.Trace.make_room_for_bios.Goals as goal

pub invariant_of-self-2 : goal.invariant_of-self-2
invariant_of-self-2 g c =
    let s = c.self.inside in (
      kept_same _ s.events.items _ s.issued.items _ _ _ (by_id.kept_at s.known) _ (has_named (id_set.set_has s.ids)) _ _ c.self.invariant.0 (c.in_ok-reserve.ensures.items) refl c.in_ok-make_room.ensures.same (λ b. c.in_ok-make_room-2.ensures.same b.submitter b.serial),
      record {
        for_events = omega (arith, c.in_ok-reserve.ensures.ok, c.reserve.new.self.ok.0);
        for_issue = omega (arith, c.self.invariant.1.for_issue);
        for_request = omega (arith, c.in_ok-make_room.ensures.ok);
        for_bios = omega (arith, c.in_ok-make_room-2.ensures.ok);
      },
      depths_same s.setup _ _ s.depth s.next_depth c.self.invariant.2 (c.in_ok-reserve.ensures.items),
      subst (λ (l : List Happened). IsUnusedFrom l s.setup.depth s.unused_from) (sym c.in_ok-reserve.ensures.items) c.self.invariant.3,
    )
