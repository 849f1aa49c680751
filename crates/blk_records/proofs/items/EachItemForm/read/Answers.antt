use Rattle.std.proofs.Common.{rules, ◌≡◌, [], true, arith}
use Rattle.std.specs.Result.{is_ok}
use Rattle.blk_records.proofs.Reading.{hand_reads}
use Rattle.blk_records.proofs.items.EachItemForm.read.Goals as goal

pub returns-else-is_err-clause-ok : goal.returns-else-is_err-clause-ok
returns-else-is_err-clause-ok g c =
    let p = g.F.RecordForm.part c.args.self.now.form in
    let good : is_ok c.push.result ≡ true = search rules in
    let one = c.gone.ensures.one.one c.in-Ok.value in
    λ k. (
      k,
      record {
        item = c.in-Ok.value;
        gathered = rw good at c.push.ensures.items;
        fits = (c.in-Ok.ensures.ok []).fits;
        read = hand_reads p c.args.records.now.left c.args.records.now.fields c.in-Ok.value (rw c.row.ensures at c.in-Ok.ensures.ok);
        end = omega (arith, one);
      },
    )
