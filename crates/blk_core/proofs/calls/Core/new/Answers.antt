use Rattle.std.proofs.Common.{◌∙◌, refl, ap, map, []}
use Rattle.std.proofs.Math.ListN.{replicate}
use Rattle.blk_trace.specs.Traces.{Traced}
use Rattle.blk_core.specs.declared.tags.TagState.TheVariants.{Free}
use Rattle.blk_core.specs.Inside.Ties.{flight_of}
use Rattle.blk_core.proofs.Ties.{tied_new, at_start_of}
use Rattle.blk_core.proofs.Flights.{free_flights}
use Rattle.blk_core.proofs.calls.Core.new.Goals as goal

pub invariant_of-result : goal.invariant_of-result
invariant_of-result g c =
    tied_new c.args.setup c.in-Ok-empty.trace.setup c.in-Ok-empty.trace.events (g.S.Scheduler.meaning c.args.scheduler) _ _ c.args.setup.depth c.args.setup.hw
    (ap (λ (t : Traced). t.setup) c.in-Ok-empty.ensures) (ap (λ (t : Traced). t.events) c.in-Ok-empty.ensures) c.requires.start c.depth.ensures.is_setup refl (c.in-Ok-free_tags.ensures ∙ ap (λ n. replicate n Free) c.depth.ensures.value)
    refl (c.in-Ok-new.ensures ∙ ap (λ n. replicate n []) c.hw.ensures.value)

pub returns-in-Ok-empty-clause-ok : goal.returns-in-Ok-empty-clause-ok
returns-in-Ok-empty-clause-ok g c =
    at_start_of c.args.setup c.in-Ok-empty.trace.setup c.in-Ok-empty.trace.events (g.S.Scheduler.meaning c.args.scheduler) (g.S.Scheduler.kept c.args.scheduler) (map flight_of c.in-Ok-free_tags.tags.items) _ _ _
    (ap (λ (t : Traced). t.setup) c.in-Ok-empty.ensures) (ap (λ (t : Traced). t.events) c.in-Ok-empty.ensures) (ap (map flight_of) (c.in-Ok-free_tags.ensures ∙ ap (λ n. replicate n Free) c.depth.ensures.value) ∙ free_flights c.args.setup.depth)
    (c.in-Ok-new.ensures ∙ ap (λ n. replicate n []) c.hw.ensures.value)
