use Rattle.std.proofs.Common.{arith, ◌≡◌, ◌+◌, ◌≤◌, ◌∙◌, ◌++◌, ◌∷◌, [], length, sym, ap, inl, append_assoc, length-append}
use Rattle.blk_queues.specs.Plugs.{Plug}
use Rattle.blk_queues.specs.Queues.{Queue}
use Rattle.blk_sim.proofs.Chains.{plug_flushed, queue_with}
use Rattle.blk_sim.proofs.Holding.{counted_more, put_room}
use Rattle.blk_sim.proofs.steps.flush_plug.Goals as goal

pub loop-request-preserved : goal.loop-request-preserved
loop-request-preserved g c =
    let i = c.loop-request.invariant in
    let first = c.in-Some.ensures.some in
    let put = c.in-Ok.ensures.ok in
    record {
      moved = ap (λ (x : Queue). x.requests ++ c.take_first.new.self.requests) put ∙ append_assoc c.loop-request.queue.requests (c.in-Some.request ∷ []) c.take_first.new.self.requests ∙ ap (λ (x : Plug). c.loop-request.queue.requests ++ x.requests) (sym first) ∙ i.moved;
      plug_limits = sym (ap (λ (x : Plug). x.limits) first) ∙ i.plug_limits;
      limits = ap (λ (x : Queue). x.limits) put ∙ i.limits;
      depth = ap (λ (x : Queue). x.depth) put ∙ i.depth;
      out = ap (λ (x : Queue). x.bios_out) put ∙ i.out;
      counted = counted_more c.loop-request.queue.bios_in c.put.new.self.bios_in _ c.loop-request.plug c.take_first.new.self c.in-Some.request (ap (λ (x : Queue). x.bios_in) put) (ap (λ (x : Plug). x.requests) first) i.counted;
      room = put_room c.loop-request.queue c.put.new.self c.in-Some.request put (λ f. let e = c.in-Ok.ensures.refused.1 (inl f) in cc e) i.room;
    }

pub returns-clause-emptied : goal.returns-clause-emptied
returns-clause-emptied g c = c.in_default.ensures.same ∙ plug_flushed c.args.plug.now c.loop-request.plug c.loop-request.invariant.plug_limits c.in_default.ensures.none

pub returns-clause-moved : goal.returns-clause-moved
returns-clause-moved g c =
    let i = c.loop-request.invariant in
    queue_with c.args.queue.now c.loop-request.queue c.args.plug.now.requests c.loop-request.plug.requests i.depth i.limits i.out c.in_default.ensures.none i.moved i.counted

pub returns-clause-room : goal.returns-clause-room
returns-clause-room g c =
    let i = c.loop-request.invariant in
    let none : length c.loop-request.plug.requests ≡ 0 = ap length c.in_default.ensures.none in
    let all : length c.loop-request.queue.requests + length c.loop-request.plug.requests ≡ length c.args.queue.now.requests + length c.args.plug.now.requests = sym (length-append c.loop-request.queue.requests c.loop-request.plug.requests) ∙ ap length i.moved ∙ length-append c.args.queue.now.requests c.args.plug.now.requests in
    let room : length c.loop-request.queue.requests ≤ c.loop-request.queue.depth = i.room in
    let depth = i.depth in
    omega (arith, none, all, room, depth)
