-- What the comparison comes to, from what became of each run.
use Rattle.std.proofs.Common.{ℕ, suc, ◌≡◌, ◌∙◌, ◌∷◌, ◌++◌, [], List, refl, sym, ap, subst, arith, take, length, get_or, ◌<◌, ◌+◌, map}
use Rattle.std.specs.Prelude.{All}
use Rattle.std.proofs.Math.Seq.{take-suc}
use Rattle.std.proofs.lemmas.List.Elements.{All-nil, All-cons}
use Rattle.blk_schedulers.specs.declared.sched.ComparedScheds.{ComparedScheds}
use Rattle.blk_schedulers.specs.declared.sched.Sched.{Sched}
use Rattle.blk_schedulers.specs.Scheds.{name_of, in_turn}
use Rattle.blk_runs.specs.Runs.{IsTraceOfScript}
use Rattle.blk_runs.specs.Firsts.{RunsWhole}
use Rattle.blk_text.specs.Script.{Scripted}
use Rattle.answer.specs.declared.answer.Part.{Part}
use Rattle.blk_report.specs.Table.{IsTable}
use Rattle.blk_report.specs.declared.figures.Report.{Report}
use Rattle.blk_cli.specs.Forms.{written_in}
use Rattle.blk_trace.specs.Traces.{Traced}
use Rattle.blk_schedulers.specs.declared.form.Form.{Form}
use Rattle.blk_cli.specs.Comparing.{IsReportUnder, AreUnder, AreReports, AreTraces, IsComparedText}

-- nothing yet, one more, and as many as schedulers
pub none_yet : {X : Type 0} (Comes : Sched → Scripted → X → Type 0) (s : Scripted) → AreUnder Comes [] s []
unfolding AreUnder
none_yet Comes s = tt

snoc : {X : Type 0} (Comes : Sched → Scripted → X → Type 0) (ss : List Sched) (s : Scripted) (rs : List X) (x : Sched) (r : X) → AreUnder Comes ss s rs → Comes x s r → AreUnder Comes (ss ++ x ∷ []) s (rs ++ r ∷ [])
unfolding AreUnder
snoc Comes [] s [] x r are one = (one, tt)
snoc Comes [] s (q ∷ rs) x r are one = absurd are
snoc Comes (y ∷ ss) s [] x r are one = absurd are
snoc Comes (y ∷ ss) s (q ∷ rs) x r are one = (are.0, snoc Comes ss s rs x r are.1 one)

pub one_more : {X : Type 0} (Comes : Sched → Scripted → X → Type 0) (ss : List Sched) (i : ℕ) (d : Sched) (s : Scripted) (rs : List X) (r : X) → i < length ss → AreUnder Comes (take i ss) s rs → Comes (get_or ss i d) s r
    → AreUnder Comes (take (i + 1) ss) s (rs ++ r ∷ [])
one_more Comes ss i d s rs r h are one =
    let next : take (suc i) ss ≡ take i ss ++ get_or ss i d ∷ [] = take-suc ss i d h in
    let e : i + 1 ≡ suc i = omega arith in
    let P : List Sched → Type 0 = λ xs. AreUnder Comes xs s (rs ++ r ∷ []) in
    subst P (sym (ap (λ (n : ℕ). take n ss) e ∙ next)) (snoc Comes (take i ss) s rs (get_or ss i d) r are one)

pub as_many : {X : Type 0} (Comes : Sched → Scripted → X → Type 0) (ss : List Sched) (s : Scripted) (rs : List X) → AreUnder Comes ss s rs → length rs ≡ length ss
unfolding AreUnder
as_many Comes [] s [] are = refl
as_many Comes [] s (r ∷ rs) are = absurd are
as_many Comes (x ∷ ss) s [] are = absurd are
as_many Comes (x ∷ ss) s (r ∷ rs) are = ap suc (as_many Comes ss s rs are.1)

all_whole : {X : Type 0} (Comes : Sched → Scripted → X → Type 0) → ((x : Sched) (s : Scripted) (r : X) → Comes x s r → RunsWhole s x) → (ss : List Sched) (s : Scripted) (rs : List X) → AreUnder Comes ss s rs → All (RunsWhole s) ss
unfolding AreUnder
all_whole Comes whole [] s [] are = All-nil (RunsWhole s)
all_whole Comes whole [] s (r ∷ rs) are = absurd are
all_whole Comes whole (x ∷ ss) s [] are = absurd are
all_whole Comes whole (x ∷ ss) s (r ∷ rs) are = All-cons (RunsWhole s) x ss (whole x s r are.0) (all_whole Comes whole ss s rs are.1)

-- where there is a report, or a trace, the script ran whole
report_whole : (x : Sched) (s : Scripted) (r : Report) → IsReportUnder x s r → RunsWhole s x
report_whole x s r is = (is.trace, is.is_trace)

trace_whole : (x : Sched) (s : Scripted) (t : Traced) → IsTraceOfScript x s t → RunsWhole s x
trace_whole x s t is = (t, is)

-- so it ran whole under each of them
pub reports_whole : (ss : List Sched) (s : Scripted) (rs : List Report) → AreReports ss s rs → All (RunsWhole s) ss
reports_whole ss s rs are = all_whole IsReportUnder report_whole ss s rs are

pub traces_whole : (ss : List Sched) (s : Scripted) (ts : List Traced) → AreTraces ss s ts → All (RunsWhole s) ss
traces_whole ss s ts are = all_whole IsTraceOfScript trace_whole ss s ts are

-- the table of what was compared
pub table_is : (l : ComparedScheds) (f : Form) (ss : List Sched) (s : Scripted) (rs : List Report) (told : List Part) (text : List ℕ) → ss ≡ in_turn l → AreReports ss s rs → IsTable (map name_of ss) rs told → text ≡ written_in f told → IsComparedText l f s text
table_is l f ss s rs told text e are is written = record {
  reports = rs;
  are_reports = subst (λ (xs : List Sched). AreReports xs s rs) e are;
  told = told;
  is_table = subst (λ (xs : List Sched). IsTable (map name_of xs) rs told) e is;
  is_text = written;
}
