use Rattle.std.proofs.Common.{rules, ◌∙◌, ◌-◌, true, false, sym, arith}
use Rattle.blk_records.specs.Sources.{TakesRecord}
use Rattle.blk_explain.specs.Findings.{rows_of}
use Rattle.blk_explain.proofs.Taking.{takes_next, takes_last, past_last}
use Rattle.blk_explain.proofs.findings.row_at.Goals as goal

pub returns-in-Ok-false : goal.returns-in-Ok-false
returns-in-Ok-false c =
    let taken : TakesRecord c.loop.records.left c.advance.new.self.left c.advance.new.self.fields false = search rules in
    let most = takes_last (rows_of c.args.bytes.now) c.loop.counter _ _ _ c.loop.invariant.left taken in
    c.new.ensures.fields ∙ sym (past_last (rows_of c.args.bytes.now) (c.args.n - 1) (omega (arith, most, c.loop-test.true, c.saturating_sub-end.ensures)))

pub loop-preserved : goal.loop-preserved
loop-preserved c =
    let taken : TakesRecord c.loop.records.left c.advance.new.self.left c.advance.new.self.fields true = search rules in record {
      left = takes_next (rows_of c.args.bytes.now) c.loop.counter _ _ _ c.loop.invariant.left taken;
      at = omega arith;
    }
