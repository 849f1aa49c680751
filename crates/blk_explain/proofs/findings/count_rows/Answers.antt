use Rattle.std.proofs.Common.{rules, true, false, arith}
use Rattle.blk_records.specs.Sources.{TakesRecord}
use Rattle.blk_explain.specs.Findings.{rows_of}
use Rattle.blk_explain.proofs.Taking.{takes_next, takes_row, takes_last}
use Rattle.blk_explain.proofs.findings.count_rows.Goals as goal

pub returns-in-Ok-false : goal.returns-in-Ok-false
returns-in-Ok-false c =
    let taken : TakesRecord c.loop-n.records.left c.advance.new.self.left c.advance.new.self.fields false = search rules in
    let most = takes_last (rows_of c.args.bytes.now) c.loop-n.n _ _ _ c.loop-n.invariant.left taken in
    let least = c.loop-n.invariant.few in
    omega (arith, most, least)

pub loop-n-preserved : goal.loop-n-preserved
loop-n-preserved c =
    let taken : TakesRecord c.loop-n.records.left c.advance.new.self.left c.advance.new.self.fields true = search rules in
    let more = (takes_row (rows_of c.args.bytes.now) c.loop-n.n _ _ _ c.loop-n.invariant.left taken).1 in record {
      left = takes_next (rows_of c.args.bytes.now) c.loop-n.n _ _ _ c.loop-n.invariant.left taken;
      at = omega arith;
      few = omega (arith, more);
    }
