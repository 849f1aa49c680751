use Rattle.std.proofs.Common.{◌∙◌, ℕ, Bor, List, ap, map}
use Rattle.blk_report.specs.Table.{IsTable}
use Rattle.blk_cli.proofs.Named.{as_long, named_as}
use Rattle.blk_cli.proofs.comparing.table_under.Goals as goal

pub table_answer-requires : goal.table_answer-requires
table_answer-requires c = rw c.as_slice.ensures.value (as_long c.in-Ok.names.items c.args.scheds.now c.in-Ok.ensures ∙ c.requires)

pub returns-in-Ok : goal.returns-in-Ok
returns-in-Ok c =
    named_as c.table_answer.result _ _ (λ names told. IsTable names c.args.reports.now told) (ap (map (λ (name : Bor (List ℕ)). name.now)) c.as_slice.ensures.value ∙ c.in-Ok.ensures) c.table_answer.ensures
