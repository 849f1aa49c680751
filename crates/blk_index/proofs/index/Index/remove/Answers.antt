use Rattle.std.proofs.Common.{refl, sym, ◌∙◌}
use Rattle.std.specs.FinMap as map
use Rattle.blk_index.proofs.Indexed.{named_same, named_less, same_without, becomes_taken}
use Rattle.blk_index.proofs.Edged.{edges_kept}
use Rattle.blk_index.proofs.index.Index.remove.Goals as goal

pub invariant_of-self : goal.invariant_of-self
invariant_of-self g c =
    let same = same_without c.self.inside.waiting c.remove.new.self c.args.id (sym c.remove.ensures.value ∙ c.in_default.is) c.remove.ensures.removed in (
      named_same (map.get c.self.inside.waiting) (map.get c.remove.new.self) c.self.invariant.0 same,
      edges_kept (map.get c.self.inside.waiting) (map.get c.remove.new.self) c.self.inside.edges c.self.invariant.1 same,
    )

pub invariant_of-self-2 : goal.invariant_of-self-2
invariant_of-self-2 g c =
    let found = sym c.remove.ensures.value ∙ c.in-Some.is in
    let becomes = becomes_taken c.self.inside.waiting c.remove.new.self c.args.id c.remove.ensures.removed in (
      named_less (map.get c.self.inside.waiting) (map.get c.remove.new.self) c.args.id c.self.invariant.0 becomes,
      c.del.ensures (map.get c.self.inside.waiting) (map.get c.remove.new.self) c.in-Some.queued refl c.self.invariant.1 found becomes,
    )
