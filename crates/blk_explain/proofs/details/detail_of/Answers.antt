use Rattle.std.proofs.Common.{subst, sym}
use Rattle.std.specs.Prelude.{IfOk}
use Rattle.blk_explain.specs.Explained.{IsDetailOf}
use Rattle.blk_explain.specs.Findings.{rows_of}
use Rattle.blk_explain.specs.declared.findings.Finding.{Finding}
use Rattle.blk_explain.proofs.details.detail_of.Goals as goal

pub returns-else-fault : goal.returns-else-fault
returns-else-fault c =
    subst (λ (f : Finding). IfOk c.fault_detail.result (IsDetailOf (rows_of c.args.bytes.now) f)) (sym c.in-Faulty.is) (rw c.row.ensures at c.fault_detail.ensures)
