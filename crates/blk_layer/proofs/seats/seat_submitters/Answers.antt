use Rattle.std.proofs.Common.{◌≡◌, ◌++◌, ◌∷◌, [], rules}
use Rattle.blk_layer.specs.Seats.{new_submitter}
use Rattle.blk_layer.proofs.Each.{each_more}
use Rattle.blk_layer.proofs.seats.seat_submitters.Goals as goal

pub loop-number-preserved : goal.loop-number-preserved
loop-number-preserved g c =
    let added : c.push.new.self.items ≡ c.loop-number.all.items ++ c.in_ok-new.field-0 ∷ [] = search rules in
    record {
      count = search rules;
      each = each_more new_submitter c.loop-number.all.items c.push.new.self.items c.in_ok-new.field-0 c.loop-number.number c.loop-number.invariant.count c.loop-number.invariant.each added c.in_ok-new.ensures;
    }
