-- What is said about the trace that a simulation under earliest wrote.
use Rattle.std.proofs.Common.{◌≡◌, ◌∙◌, ◌++◌, ◌⊎◌, ℕ, List, length, Option, Some, Bool, true, false, pos, All, refl, sym, ap, subst, inl, inr}
use Rattle.std.proofs.lemmas.List.{append_cancel_left}
use Rattle.std.specs.Io.KnownBytes.{Appends}
use Rattle.text_output.specs.Outputs.{Stream, IsWritten}
use Rattle.blk_records.specs.Sources.{Row}
use Rattle.blk_sched.specs.Meaning.{at_start}
use Rattle.blk_earliest.specs.Choice.{earliest_kept}
use Rattle.blk_trace.specs.Happened.{Happened}
use Rattle.blk_trace.specs.Setups.{Setup, IsSetup}
use Rattle.edd_figures.specs.Figures.{shortfall_in}
use Rattle.blk_trace.specs.Traces.{Traced}
use Rattle.blk_text.specs.Script.{Scripted}
use Rattle.blk_text.specs.TraceForm.{trace_rows, SpellsTrace}
use Rattle.blk_text.specs.TraceRecords.{IsTrace}
use Rattle.blk_text.specs.declared.setup.TheConstants.{LATEST}
use Rattle.blk_text.proofs.ScriptLaws as scripts
use Rattle.blk_text.proofs.TraceLaws as traces
use Rattle.blk_schedulers.specs.Defaults.{earliest_by}
use Rattle.blk_schedulers.specs.Rows.Earliest.{is_late_last}
use Rattle.blk_online.specs.Ticks.{AtTicks}
use Rattle.blk_online_cli.specs.ByRounds.{IsByRounds, HoldsNow}
use Rattle.blk_online_cli.proofs.Running.{trace_holds, least_late, has_most_on_time}
use Rattle.blk_online_cli.proofs.Reporting as telling
use Rattle.blk_cli.specs.Gives.{GivesText}
use Rattle.blk_cli.specs.Figures.{IsMissesText, IsReportText}
use Rattle.blk_schedulers.specs.declared.form.Form.TheVariants as form
use Rattle.blk_args.specs.declared.table.FiguresAsked.TheVariants as figures
use Rattle.blk_args.specs.declared.inputs.Running.TheVariants as running
use Rattle.blk_args.specs.declared.inputs.TraceOutput.TheVariants as tell
use Rattle.blk_args.specs.declared.inputs.TextJob.TheVariants as text_job
use Rattle.blk_online_cli.specs.Told.{rows_in, SpellByRounds, AskAlone, EndsWell, ReportsNoShortfall, CountsNoneAvoidable}
use Rattle.blk_online_cli.proofs.Ending.{wrote}

-- whether earliest serves late last is its setting
is_so : (late_last : Bool) → is_late_last (earliest_by late_last).values ≡ late_last
is_so true = refl
is_so false = refl

-- the trace of a script by rounds, at each of its Ticks
held : (late_last : Bool) (bytes traced : List ℕ) → SpellByRounds bytes → (g : GivesText (text_job.OfScript (running.One (earliest_by late_last))) (Some (rows_in bytes)) traced) → AtTicks (HoldsNow late_last g.2.trace.setup) g.2.trace.events
held late_last bytes traced by g =
    let same : by.0 ≡ g.0 = (scripts.spelled_once (rows_in bytes) by.1.0 g.1.0 by.0 g.0 by.1.1 g.1.1).1 in
    let steps : All IsByRounds g.0.lines = subst (λ (s : Scripted). All IsByRounds s.lines) same by.2 in
    let trace : Traced = g.2.trace in
    let is : IsTrace trace = traces.spelled_legal (trace_rows trace) trace (LATEST, g.2.is_text.spelled) in
    let whole : IsSetup g.0.setup = subst IsSetup g.2.is_trace.setup is.setup.is_setup in
    trace_holds late_last g.0 g.0.lines (at_start true) (earliest_kept (is_late_last (earliest_by late_last).values)) trace.setup trace.events whole refl (ap earliest_kept (is_so late_last)) g.2.is_trace.ran.1 g.2.is_trace.setup is.legal steps

-- whatever trace the text of it spells
pub read_holds : (late_last : Bool) (bytes traced : List ℕ) (u : Traced) → SpellByRounds bytes → GivesText (text_job.OfScript (running.One (earliest_by late_last))) (Some (rows_in bytes)) traced → SpellsTrace (rows_in traced) u → AtTicks (HoldsNow late_last u.setup) u.events
read_holds late_last bytes traced u by g read =
    let trace : Traced = g.2.trace in
    let rows : rows_in traced ≡ trace_rows trace = ap rows_in g.2.is_text.is_text ∙ traces.written_back trace in
    let own : SpellsTrace (trace_rows trace) u = subst (λ (rs : List Row). SpellsTrace rs u) rows read in
    let once = traces.spelled_once (trace_rows trace) LATEST own.0 trace u g.2.is_text.spelled own.1 in
    subst (λ (s : Setup). AtTicks (HoldsNow late_last s) u.events) once.1
    (subst (λ (es : List Happened). AtTicks (HoldsNow late_last trace.setup) es) once.2 (held late_last bytes traced by g))

none_short : (u : Traced) (text : List ℕ) → (t : IsReportText form.Lines u text) → IsTrace u → AtTicks (HoldsNow false u.setup) u.events → (t.report.commands ≡ 0) ⊎ (shortfall_in t.report.figures ≡ Some (pos 0))
none_short u text t is holds = elim (telling.no_shortfall u.setup u.events t.report (least_late false u.setup u.events is.legal refl holds) t.is_report) [
  | inl none ↦ inl (t.is_report.commands ∙ ap length none)
  | inr zero ↦ inr zero
]

none_avoidable : (u : Traced) (text : List ℕ) → (t : IsMissesText form.Lines u text) → IsTrace u → AtTicks (HoldsNow true u.setup) u.events → t.tally.avoidable ≡ 0
none_avoidable u text t is holds =
    telling.none_avoidable u.setup u.events is.legal (has_most_on_time true u.setup u.events is.legal refl holds) t.tally.commands t.tally.late t.tally.unavoidable t.tally.avoidable t.windows t.is_tallied.misses

-- the report, and the misses, of what a simulation gives

pub reports : (bytes traced text : List ℕ) (old new : Stream) → SpellByRounds bytes → GivesText (text_job.OfScript (running.One (earliest_by false))) (Some (rows_in bytes)) traced → GivesText (text_job.OfTrace (tell.Figures figures.Report form.Lines)) (Some (rows_in traced)) text → IsWritten text old new
    → ReportsNoShortfall traced old new
reports bytes traced text old new by g told wrote = record {
  trace = told.0;
  text = text;
  spelled = told.1;
  is_text = told.2;
  wrote = wrote;
  none_short = none_short told.0 text told.2 (traces.spelled_legal (rows_in traced) told.0 told.1) (read_holds false bytes traced told.0 by g told.1);
}

pub misses : (bytes traced text : List ℕ) (old new : Stream) → SpellByRounds bytes → GivesText (text_job.OfScript (running.One (earliest_by true))) (Some (rows_in bytes)) traced → GivesText (text_job.OfTrace (tell.Figures figures.Misses form.Lines)) (Some (rows_in traced)) text → IsWritten text old new
    → CountsNoneAvoidable traced old new
misses bytes traced text old new by g told wrote = record {
  trace = told.0;
  text = text;
  spelled = told.1;
  is_text = told.2;
  wrote = wrote;
  none_avoidable = none_avoidable told.0 text told.2 (traces.spelled_legal (rows_in traced) told.0 told.1) (read_holds true bytes traced told.0 by g told.1);
}

-- what a run wrote is all that came to what its writer held
taken : (before traced text : List ℕ) (one two : Stream) → one.held ≡ Some before → two.held ≡ Some (before ++ traced) → IsWritten text one two → text ≡ traced
taken before traced text one two e f w =
    let own : Appends (Some before) (Some (before ++ traced)) text = subst (λ (h : Option (List ℕ)). Appends (Some before) h text) f (subst (λ (h : Option (List ℕ)). Appends h two.held text) e w.0) in
    sym (append_cancel_left before traced text own)

-- a run that reads what another wrote
pub reports_again : (words again : List (List ℕ)) (bytes before traced : List ℕ) (one two old new : Stream) → AskAlone words (text_job.OfScript (running.One (earliest_by false))) → AskAlone again (text_job.OfTrace (tell.Figures figures.Report form.Lines)) → SpellByRounds bytes
    → EndsWell words bytes one two → one.held ≡ Some before → two.held ≡ Some (before ++ traced) → EndsWell again traced old new → ReportsNoShortfall traced old new
reports_again words again bytes before traced one two old new alone alone_again by run e f second =
    let w = wrote (text_job.OfScript (running.One (earliest_by false))) words bytes one two alone run in
    let g = subst (λ (t : List ℕ). GivesText (text_job.OfScript (running.One (earliest_by false))) (Some (rows_in bytes)) t) (taken before traced w.0 one two e f w.2) w.1 in
    let t = wrote (text_job.OfTrace (tell.Figures figures.Report form.Lines)) again traced old new alone_again second in
    reports bytes traced t.0 old new by g t.1 t.2

pub misses_again : (words again : List (List ℕ)) (bytes before traced : List ℕ) (one two old new : Stream) → AskAlone words (text_job.OfScript (running.One (earliest_by true))) → AskAlone again (text_job.OfTrace (tell.Figures figures.Misses form.Lines)) → SpellByRounds bytes
    → EndsWell words bytes one two → one.held ≡ Some before → two.held ≡ Some (before ++ traced) → EndsWell again traced old new → CountsNoneAvoidable traced old new
misses_again words again bytes before traced one two old new alone alone_again by run e f second =
    let w = wrote (text_job.OfScript (running.One (earliest_by true))) words bytes one two alone run in
    let g = subst (λ (t : List ℕ). GivesText (text_job.OfScript (running.One (earliest_by true))) (Some (rows_in bytes)) t) (taken before traced w.0 one two e f w.2) w.1 in
    let t = wrote (text_job.OfTrace (tell.Figures figures.Misses form.Lines)) again traced old new alone_again second in
    misses bytes traced t.0 old new by g t.1 t.2
