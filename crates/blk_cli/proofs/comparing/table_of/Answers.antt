use Rattle.std.proofs.Common.{◌≡◌, ◌∙◌, List, ap, sym, subst, length}
use Rattle.blk_text.specs.Script.{scripted}
use Rattle.blk_report.specs.declared.figures.Report.{Report}
use Rattle.blk_schedulers.specs.declared.sched.Sched.{Sched}
use Rattle.blk_schedulers.specs.Scheds.{in_turn}
use Rattle.blk_runs.specs.Firsts.{AreUnrun}
use Rattle.blk_cli.specs.Comparing.{IsReportUnder, AreReports}
use Rattle.blk_cli.proofs.Compared.{as_many, table_is}
use Rattle.blk_cli.proofs.comparing.table_of.Goals as goal

pub returns-in-Err-clause-uncompared : goal.returns-in-Err-clause-uncompared
returns-in-Err-clause-uncompared c =
    let turn : c.as_slice-rows.result.now ≡ in_turn c.args.lineup = c.as_slice-rows.ensures.value ∙ c.in-Ok.ensures in
    subst (λ (ss : List Sched). AreUnrun ss (scripted c.args.script.now) c.in-Err.fault) turn c.in-Err.ensures.uncompared

pub table_under-requires : goal.table_under-requires
table_under-requires c =
    let rows = c.as_slice-rows.result.now in
    sym (ap length c.as_slice.ensures.value ∙ as_many IsReportUnder rows (scripted c.args.script.now) c.in-Ok-compared.reports.items c.in-Ok-compared.ensures.reports)

pub returns-in-Ok-written-clause-text : goal.returns-in-Ok-written-clause-text
returns-in-Ok-written-clause-text c =
    let rows = c.as_slice-rows.result.now in
    let turn : rows ≡ in_turn c.args.lineup = c.as_slice-rows.ensures.value ∙ c.in-Ok.ensures in
    let are : AreReports rows (scripted c.args.script.now) c.as_slice.result.now =
    subst (λ (rs : List Report). AreReports rows (scripted c.args.script.now) rs) (sym c.as_slice.ensures.value) c.in-Ok-compared.ensures.reports in
    table_is c.args.lineup c.args.form rows (scripted c.args.script.now) c.as_slice.result.now c.in-Ok-table_under.answer c.in-Ok-written.text.items turn are c.in-Ok-table_under.ensures c.in-Ok-written.ensures
