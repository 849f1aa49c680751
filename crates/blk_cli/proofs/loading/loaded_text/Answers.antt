use Rattle.std.proofs.Common.{◌≡◌, ℕ, List, Result, Ok, Err, IfOk}
use Rattle.blk_records.specs.Texts.{rows_text}
use Rattle.blk_text.specs.TraceForm.{trace_rows}
use Rattle.blk_text.specs.TraceRecords.{IsTrace}
use Rattle.blk_text.proofs.TraceLaws.{rows_spell}
use Rattle.blk_trace.specs.Traces.{Traced}
use Rattle.blk_cli.specs.OfTraces.{IsTraceText}
use Rattle.blk_cli.proofs.loading.loaded_text.Goals as goal

trace_is : {X E : Type 0} (r : Result X E) (text : X → List ℕ) (t : Traced) → IfOk r (λ x. text x ≡ rows_text (trace_rows t)) → IfOk r (λ _. IsTrace t) → IfOk r (λ x. IsTraceText t (text x))
trace_is (Ok x) text t is fits = record { spelled = rows_spell t fits; is_text = is }
trace_is (Err e) text t is fits = tt

pub returns-in-Trace : goal.returns-in-Trace
returns-in-Trace c = rw c.in-Trace.is (trace_is c.trace_text.result (λ text. text.items) c.args.loaded.now.trace c.trace_text.ensures.text c.trace_text.ensures.fits)
