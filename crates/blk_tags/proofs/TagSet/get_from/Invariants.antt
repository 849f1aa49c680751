use Rattle.std.proofs.Common.{◌≡◌, ◌+◌, ◌%◌, ◌++◌}
use Rattle.blk_tags.specs.Tags.{tried_from}
use Rattle.blk_tags.proofs.TagSet.get_from.Given as goal

abbrev pub invariant-loop : goal.invariant-loop
invariant-loop g l = (l.seat ≡ record l.initial.seat { steps = l.seat.steps })
    × (l.tag ≡ (l.initial.tag + l.counter) % l.self.depth)
    × (l.seat.steps ≡ l.initial.seat.steps ++ tried_from l.self.depth l.initial.tag l.counter)
