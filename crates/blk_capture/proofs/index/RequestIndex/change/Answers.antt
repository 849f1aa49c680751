use Rattle.std.proofs.Common.{rules}
use Rattle.std.proofs.lemmas.Result.{on_ok_weaker}
use Rattle.blk_capture.proofs.Moved.{ends_elsewhere, both_ok}
use Rattle.blk_capture.proofs.Sounding.{replaced}
use Rattle.blk_capture.proofs.index.RequestIndex.change.Goals as goal

pub returns : goal.returns
returns g c =
    on_ok_weaker c.put.result
    (λ li qs is at. replaced qs c.args.place c.args.old.now c.args.new.now c.args.self.now c.take.new.self c.put.new.self is at c.take.ensures li)
    c.put.ensures

pub returns-then-first : goal.returns-then-first
returns-then-first g c =
    both_ok c.move_end.result _ _ _
    (λ wholes ends qs is at. ends_elsewhere qs c.args.place c.args.old.now c.args.new.now c.args.self.now c.move_end.new.self (search rules) wholes c.move_end.ensures.firsts ends is at)
    c.move_end.ensures.wholes c.move_end.ensures.ends
