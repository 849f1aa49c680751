use Rattle.std.specs.FinMap as map
use Rattle.blk_index.proofs.Indexed.{none_named, none_found}
use Rattle.blk_index.proofs.index.Index.new.Goals as goal

pub invariant_of-result : goal.invariant_of-result
invariant_of-result g c =
    let none = none_found c.in_ok-new.field-0 c.in_ok-new.ensures in (
      none_named c.in_ok-new.field-0 c.in_ok-new.ensures,
      c.in_ok-new-2.ensures (map.get c.in_ok-new.field-0) none,
    )
