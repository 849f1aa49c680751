use Rattle.std.proofs.Common.{◌≡◌, ◌∙◌, ◌++◌, ◌∷◌, [], List, replicate, ap}
use Rattle.std.proofs.lemmas.List.{replicate_more}
use Rattle.blk_queues.specs.Plugs.{Plug}
use Rattle.blk_sim.proofs.simulation.new_plugs.Goals as goal

pub loop-preserved : goal.loop-preserved
loop-preserved g c =
    let e : c.push.new.self.items ≡ c.loop.plugs.items ++ c.in_ok-plug.plug ∷ [] = c.in-Ok.ensures.items in
    e ∙ ap (λ (l : List Plug). l ++ c.in_ok-plug.plug ∷ []) c.loop.invariant
    ∙ ap (λ (p : Plug). replicate c.loop.counter (record { limits = c.args.limits; requests = [] }) ++ p ∷ []) c.in_ok-plug.ensures
    ∙ replicate_more c.loop.counter (record { limits = c.args.limits; requests = [] })
