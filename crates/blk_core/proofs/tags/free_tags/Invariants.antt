use Rattle.std.proofs.Common.{◌≡◌, replicate}
use Rattle.blk_core.specs.declared.tags.TagState.TheVariants.{Free}
use Rattle.blk_core.proofs.tags.free_tags.Given as goal

abbrev pub invariant-loop : goal.invariant-loop
invariant-loop g l = l.tags.items ≡ replicate l.counter Free
