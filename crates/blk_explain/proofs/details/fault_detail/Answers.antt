use Rattle.std.proofs.Common.{rules, ◌≢◌, inr}
use Rattle.blk_records.specs.declared.fault.TextReason.TheVariants as why
use Rattle.blk_explain.proofs.details.fault_detail.Goals as goal

pub returns : goal.returns
returns c =
    let other : c.args.fault.why ≢ why.Count = search rules in
    inr (other, (rw (c.in_ok-title.ensures, c.in_ok-row.ensures) at c.record_detail.ensures))
