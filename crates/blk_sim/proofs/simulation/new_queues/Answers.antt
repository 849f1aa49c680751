use Rattle.std.proofs.Common.{◌≡◌, ◌∙◌, ◌++◌, ◌∷◌, [], List, replicate, ap}
use Rattle.std.proofs.lemmas.List.{replicate_more}
use Rattle.blk_queues.specs.Queues.{Queue}
use Rattle.blk_sim.proofs.simulation.new_queues.Goals as goal

pub loop-preserved : goal.loop-preserved
loop-preserved g c =
    let e : c.push.new.self.items ≡ c.loop.queues.items ++ c.in_ok-queue.queue ∷ [] = c.in-Ok.ensures.items in
    e ∙ ap (λ (l : List Queue). l ++ c.in_ok-queue.queue ∷ []) c.loop.invariant
    ∙ ap (λ (q : Queue). replicate c.loop.counter (record { depth = c.args.depth; limits = c.args.limits; requests = []; bios_in = 0; bios_out = 0 }) ++ q ∷ []) c.in_ok-queue.ensures
    ∙ replicate_more c.loop.counter (record { depth = c.args.depth; limits = c.args.limits; requests = []; bios_in = 0; bios_out = 0 })
