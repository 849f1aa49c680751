use Rattle.turns.proofs.walk.shares.Goals as goal

pub returns-clause-each : goal.returns-clause-each
returns-clause-each g c = λ i e h. (c.in_ok-all.ensures.each i e h).1.met
