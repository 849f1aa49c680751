use Rattle.std.proofs.Common.{◌≡◌, [], true, Bor, ℕ, List, get_or}
use Rattle.text_output.specs.Outputs.{is_set}
use Rattle.text_output.specs.Parts.{AppendsLess}
use Rattle.text_output.proofs.Written.{cut_after, parts_at}
use Rattle.text_output.proofs.output.Output.put_all.Goals as goal

pub returns-in-Err : goal.returns-in-Err
returns-in-Err g c =
    let parts = c.args.parts.now in
    let none : Bor (List ℕ) = record { ref_ptr = (0, 0); now = [] } in
    let piece = (get_or parts c.loop-i.i none).now in
    let cut : AppendsLess (g.W.Write.contents c.loop-i.self.writer) (g.W.Write.contents c.put.new.self.writer) piece × (is_set c.put.new.self.mark ≡ true) = c.in-Err.ensures in
    (cut_after _ _ _ _ _ piece _ (parts_at parts c.loop-i.i none c.loop-i-test.true) c.loop-i.invariant.written.0 cut.0, cut.1)
