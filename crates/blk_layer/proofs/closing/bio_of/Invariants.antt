use Rattle.std.proofs.Common.{ℕ, ◌<◌, List}
use Rattle.blk_bio.specs.Bios.{Bio}
use Rattle.blk_trace.specs.declared.event.Event.TheVariants.{Release}
use Rattle.blk_trace.specs.Events.{At}
use Rattle.blk_layer.proofs.closing.bio_of.Given as goal

abbrev pub invariant-loop-event : goal.invariant-loop-event
invariant-loop-event g l = (k : ℕ) (q : List Bio) → k < l.event-index → At l.events k (Release l.id q) → ⊥
