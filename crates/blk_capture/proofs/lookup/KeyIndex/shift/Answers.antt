use Rattle.std.proofs.Common.{◌∙◌, cond, true, ap}
use Rattle.std.proofs.lemmas.Result.{on_ok_weaker}
use Rattle.blk_capture.specs.Inside.LookupKeys.{seat, is_seat}
use Rattle.blk_capture.proofs.lookup.KeyIndex.shift.Goals as goal

pub returns : goal.returns
returns g c =
    on_ok_weaker c.put.result
    (λ puts q. puts q ∙ ap (λ b. cond (is_seat (seat c.args.new c.args.age c.args.place) q) true b) (c.take.ensures q))
    c.put.ensures
