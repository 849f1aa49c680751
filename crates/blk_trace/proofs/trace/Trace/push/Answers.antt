use Rattle.std.proofs.Common.{rules, ◌≡◌, ◌++◌, ◌∷◌, []}
use Rattle.blk_trace.specs.declared.trace.Prepared.TheVariants.{Nothing}
use Rattle.blk_trace.proofs.Pushing.{obeys}
use Rattle.blk_trace.specs.Legal.{IsLegalTrace}
use Rattle.blk_trace.proofs.trace.Trace.push.Goals as goal

pub returns-in-Some-clause-accepts_legal : goal.returns-in-Some-clause-accepts_legal
returns-in-Some-clause-accepts_legal g c =
    λ legal. absurd (c.in-Some.ensures.some.broken (obeys c.args.self.now.setup c.args.self.now.events c.args.event legal c.in-Some.rule))

pub returns-clause-ok : goal.returns-clause-ok
returns-clause-ok g c =
    let new : c.add.new.self ≡ record { setup = c.args.self.now.setup; events = c.args.self.now.events ++ c.args.event ∷ []; prepared = Nothing } = search rules in
    let legal : IsLegalTrace c.args.self.now.setup (c.args.self.now.events ++ c.args.event ∷ []) = search rules in
    (new, legal)
