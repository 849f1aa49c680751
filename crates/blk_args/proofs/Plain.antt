-- What the command line reads of words that are written out.
use Rattle.std.proofs.Common.{◌≡◌, ◌∙◌, ◌∷◌, [], ℕ, zero, suc, List, Some, None, map, ap, sym, refl, subst, codes, true, false, inl, inr}
use Rattle.std.specs.Prelude.{◌↔◌}
use Rattle.std.specs.Borrow.{Bor}
use Prim.Native.String.{String}
use Rattle.clap.specs.Words.{Text, fault_of}
use Rattle.clap.proofs.OnLiterals.{clap_on_literals}
use Rattle.blk_schedulers.specs.declared.lists.ListFault.TheVariants as list
use Rattle.blk_args.specs.declared.words.Job.{Job}
use Rattle.blk_args.specs.declared.table.FiguresAsked.TheVariants as figures
use Rattle.blk_args.specs.declared.inputs.Running.TheVariants as running
use Rattle.blk_args.specs.declared.inputs.Solving.TheVariants as solving
use Rattle.blk_args.specs.declared.inputs.TraceOutput.TheVariants as telling
use Rattle.blk_args.specs.declared.inputs.TextJob.TheVariants as text_job
use Rattle.blk_args.specs.declared.words.Job.TheVariants as job
use Rattle.blk_schedulers.specs.declared.form.Form.TheVariants as form
use Rattle.blk_args.specs.declared.inputs.ShownLoad.TheVariants as shown
use Rattle.blk_args.specs.declared.words.Refusal.TheVariants as refusal
use Rattle.blk_args.specs.declared.words.Kept.TheVariants as kept
use Rattle.blk_args.specs.declared.words.Written.TheVariants as written
use Rattle.blk_args.specs.CommandLine.{Names, AreNames, blk_app}
use Rattle.blk_schedulers.specs.Options.{sched_names, position_names}
use Rattle.blk_schedulers.specs.declared.sched.Sched.{Sched}
use Rattle.blk_schedulers.specs.declared.rows.SchedKind.TheVariants as sched
use Rattle.blk_schedulers.specs.Defaults.{default_sched, default_deadline, default_kyber, default_earliest, deadline_in, deadline_each, kyber_within, earliest_by, default_lineup, with_earliest, in_batches, whole}
use Rattle.blk_args.specs.Asked.{Asks, AsksGrid, grid_read, job_read, of_script, of_trace, of_list}
use Rattle.blk_args.specs.Plain.{words_in, AsksFor, AsksForGrid, AsksForNothing, default_trial, five_by_lateness, whole_import, by_perf, default_load, own_grid, both_positions}

-- texts at some places
abbrev placed : (ℕ → ℕ × ℕ) → List Text → List (Bor Text)
placed f [] = []
placed f (t ∷ ts) = record { ref_ptr = f 0; now = t } ∷ placed (λ n. f (suc n)) ts

-- the places of the lists of names and of the names themselves, of schedulers and of positions; the names at some places
abbrev Lists : Type 0
Lists = (ℕ × ℕ) × (ℕ × ℕ)

abbrev Places : Type 0
Places = (ℕ → ℕ × ℕ) × (ℕ → ℕ × ℕ)

abbrev at_places : Lists → Places → Names
at_places p f = record {
  scheds = record { ref_ptr = p.0; now = placed f.0 sched_names };
  positions = record { ref_ptr = p.1; now = placed f.1 position_names };
}

abbrev nowhere : Lists
nowhere = ((0, 0), (0, 0))

abbrev anywhere : Places
anywhere = ((λ n. (0, 0)), (λ n. (0, 0)))

-- each list of texts behind references is one at some places
abbrev place_in : List (Bor Text) → ℕ → ℕ × ℕ
place_in [] n = (0, 0)
place_in (x ∷ xs) zero = x.ref_ptr
place_in (x ∷ xs) (suc n) = place_in xs n

placed_so : (xs : List (Bor Text)) → placed (place_in xs) (map (λ (x : Bor Text). x.now) xs) ≡ xs
placed_so [] = refl
placed_so (x ∷ xs) = ap (λ (ys : List (Bor Text)). x ∷ ys) (placed_so xs)

-- what holds of them there holds of them all
any_names : (P : Names → Type 0) → ((p : Lists) (f : Places) → P (at_places p f)) → (names : Names) → AreNames names → P names
any_names P h names are =
    let scheds : placed (place_in names.scheds.now) sched_names ≡ names.scheds.now = ap (placed (place_in names.scheds.now)) (sym are.0) ∙ placed_so names.scheds.now in
    let positions : placed (place_in names.positions.now) position_names ≡ names.positions.now = ap (placed (place_in names.positions.now)) (sym are.1) ∙ placed_so names.positions.now in
    subst (λ (xs : List (Bor Text)). P (record { scheds = record { ref_ptr = names.scheds.ref_ptr; now = xs }; positions = names.positions })) scheds
    (subst (λ (xs : List (Bor Text)). P (record { scheds = record { ref_ptr = names.scheds.ref_ptr; now = placed (place_in names.scheds.now) sched_names }; positions = record { ref_ptr = names.positions.ref_ptr; now = xs } })) positions
    (h (names.scheds.ref_ptr, names.positions.ref_ptr) (place_in names.scheds.now, place_in names.positions.now)))

-- a line is read as a job, whatever the places
abbrev pub IsReadAs : List Text → Job → Names → Type 0
IsReadAs words j names = (fault_of (blk_app names) words ≡ []) × (job_read names words ≡ Some j)

-- then it asks for that job alone
pub asks_alone : (words : List Text) (k : Job) → ((p : Lists) (f : Places) → IsReadAs words k (at_places p f)) → (j : Job) → Asks words j ↔ (j ≡ k)
asks_alone words k h j = (
  λ a. let g = any_names (IsReadAs words k) h a.0 a.1 in
      elim a.2 [ inl x ↦ let e : Some j ≡ Some k = sym x.1 ∙ g.1 in cc e | inr x ↦ absurd (rw g.0 at x.0) ],
  λ e. let g = h nowhere anywhere in (at_places nowhere anywhere, (refl, refl), inl (g.0, rw e g.1)),
)

-- a line is read as no job, whatever the places; then it asks for none
abbrev pub IsReadAsNothing : List Text → Names → Type 0
IsReadAsNothing words names = (fault_of (blk_app names) words ≡ []) × (job_read names words ≡ None)

pub asks_nothing : (words : List Text) → ((p : Lists) (f : Places) → IsReadAsNothing words (at_places p f)) → (j : Job) → Asks words j → ⊥
asks_nothing words h j a =
    let g = any_names (IsReadAsNothing words) h a.0 a.1 in
    elim a.2 [ inl x ↦ let e : Some j ≡ None = sym x.1 ∙ g.1 in cc e | inr x ↦ absurd (rw g.0 at x.0) ]

-- a line is read as a grid, whatever the places; then it asks for that grid alone
abbrev pub IsReadAsGrid : List Text → List Sched → Names → Type 0
IsReadAsGrid words g names = (fault_of (blk_app names) words ≡ []) × (grid_read names words ≡ Some g)

pub asks_grid_alone : (words : List Text) (k : List Sched) → ((p : Lists) (f : Places) → IsReadAsGrid words k (at_places p f)) → (g : List Sched) → AsksGrid words g ↔ (g ≡ k)
asks_grid_alone words k h g = (
  λ a. let f = any_names (IsReadAsGrid words k) h a.0 a.1 in let e : Some g ≡ Some k = sym a.3 ∙ f.1 in cc e,
  λ e. let f = h nowhere anywhere in (at_places nowhere anywhere, (refl, refl), f.0, rw e f.1),
)

-- a line as a person types it is read so, whatever the program's name and the places; then it asks for that job, for that grid, or for nothing
abbrev pub IsReadSo : String → Job → Type 0
IsReadSo line j = (name : Text) (p : Lists) (f : Places) → IsReadAs (name ∷ words_in line) j (at_places p f)

abbrev pub IsReadAsGridSo : String → List Sched → Type 0
IsReadAsGridSo line g = (name : Text) (p : Lists) (f : Places) → IsReadAsGrid (name ∷ words_in line) g (at_places p f)

abbrev pub IsReadAsNothingSo : String → Type 0
IsReadAsNothingSo line = (name : Text) (p : Lists) (f : Places) → IsReadAsNothing (name ∷ words_in line) (at_places p f)

pub asks_for : (line : String) (k : Job) → IsReadSo line k → AsksFor line k
asks_for line k h name = asks_alone (name ∷ words_in line) k (h name)

pub asks_for_grid : (line : String) (k : List Sched) → IsReadAsGridSo line k → AsksForGrid line k
asks_for_grid line k h name = asks_grid_alone (name ∷ words_in line) k (h name)

pub asks_for_nothing : (line : String) → IsReadAsNothingSo line → AsksForNothing line
asks_for_nothing line h name = asks_nothing (name ∷ words_in line) (h name)

pub sim_line : IsReadSo "sim" (of_script (running.One default_sched))
unfolding clap_on_literals
sim_line name p f = (refl, refl)

pub none_line : IsReadSo "sim --sched none" (of_script (running.One default_sched))
unfolding clap_on_literals
none_line name p f = (refl, refl)

pub deadline_line : IsReadSo "sim --sched deadline" (of_script (running.One default_deadline))
unfolding clap_on_literals
deadline_line name p f = (refl, refl)

pub kyber_line : IsReadSo "sim --sched kyber" (of_script (running.One default_kyber))
unfolding clap_on_literals
kyber_line name p f = (refl, refl)

pub earliest_line : IsReadSo "sim --sched earliest" (of_script (running.One default_earliest))
unfolding clap_on_literals
earliest_line name p f = (refl, refl)

pub late_last_line : IsReadSo "sim --sched earliest --late-last" (of_script (running.One (earliest_by true)))
unfolding clap_on_literals
late_last_line name p f = (refl, refl)

pub batch_line : IsReadSo "sim --sched deadline --fifo-batch 1" (of_script (running.One (deadline_in 1)))
unfolding clap_on_literals
batch_line name p f = (refl, refl)

pub each_line : IsReadSo "sim --sched deadline --positions each" (of_script (running.One deadline_each))
unfolding clap_on_literals
each_line name p f = (refl, refl)

pub target_line : IsReadSo "sim --sched kyber --read-target 1000000" (of_script (running.One (kyber_within 1_000_000)))
unfolding clap_on_literals
target_line name p f = (refl, refl)

pub compare_line : IsReadSo "compare" (of_script (running.Each default_lineup form.Lines))
unfolding clap_on_literals
compare_line name p f = (refl, refl)

pub compare_earliest_line : IsReadSo "compare --earliest" (of_script (running.Each (with_earliest false) form.Lines))
unfolding clap_on_literals
compare_earliest_line name p f = (refl, refl)

pub compare_late_last_line : IsReadSo "compare --earliest --late-last" (of_script (running.Each (with_earliest true) form.Lines))
unfolding clap_on_literals
compare_late_last_line name p f = (refl, refl)

pub compare_json_line : IsReadSo "compare --json" (of_script (running.Each default_lineup form.Json))
unfolding clap_on_literals
compare_json_line name p f = (refl, refl)

pub tune_line : IsReadSo "tune" (default_trial form.Lines)
unfolding clap_on_literals
tune_line name p f = (refl, refl)

pub tune_so_line : IsReadSo "tune --sched deadline,none --fifo-batch 16,1 --by lateness --top 5 --threads 4" five_by_lateness
unfolding clap_on_literals
tune_so_line name p f = (refl, refl)

pub tune_json_line : IsReadSo "tune --json" (default_trial form.Json)
unfolding clap_on_literals
tune_json_line name p f = (refl, refl)

pub tune_unknown_line : IsReadSo "tune --sched none,cfq" (job.Refuse (refusal.Lists list.Scheds))
unfolding clap_on_literals
tune_unknown_line name p f = (refl, refl)

pub tune_no_list_line : IsReadSo "tune --fifo-batch 1,x" (job.Refuse (refusal.Lists (list.Numbers sched.Deadline 0)))
unfolding clap_on_literals
tune_no_list_line name p f = (refl, refl)

pub tune_twice_line : IsReadSo "tune --read-target 2,5,2" (job.Refuse (refusal.Lists (list.Numbers sched.Kyber 0)))
unfolding clap_on_literals
tune_twice_line name p f = (refl, refl)

pub tune_by_what_line : IsReadSo "tune --by wait" (job.Refuse refusal.By)
unfolding clap_on_literals
tune_by_what_line name p f = (refl, refl)

pub whole_grid_line : IsReadAsGridSo "tune" whole
unfolding clap_on_literals
whole_grid_line name p f = (refl, refl)

pub own_grid_line : IsReadAsGridSo "tune --sched deadline,none --fifo-batch 16,1 --writes-starved 3 --write-target 7,0" own_grid
unfolding clap_on_literals
own_grid_line name p f = (refl, refl)

pub both_positions_line : IsReadAsGridSo "tune --sched deadline --fifo-batch 1 --writes-starved 0 --positions each,one" both_positions
unfolding clap_on_literals
both_positions_line name p f = (refl, refl)

pub migrate_line : IsReadSo "migrate" (of_trace telling.Whole)
unfolding clap_on_literals
migrate_line name p f = (refl, refl)

pub commands_line : IsReadSo "commands" (of_trace telling.Commands)
unfolding clap_on_literals
commands_line name p f = (refl, refl)

pub late_line : IsReadSo "late" (of_trace (telling.Figures figures.Late form.Lines))
unfolding clap_on_literals
late_line name p f = (refl, refl)

pub late_json_line : IsReadSo "late --json" (of_trace (telling.Figures figures.Late form.Json))
unfolding clap_on_literals
late_json_line name p f = (refl, refl)

pub misses_line : IsReadSo "misses" (of_trace (telling.Figures figures.Misses form.Lines))
unfolding clap_on_literals
misses_line name p f = (refl, refl)

pub misses_json_line : IsReadSo "misses --json" (of_trace (telling.Figures figures.Misses form.Json))
unfolding clap_on_literals
misses_json_line name p f = (refl, refl)

pub spread_line : IsReadSo "spread" (of_trace (telling.Figures figures.Spread form.Lines))
unfolding clap_on_literals
spread_line name p f = (refl, refl)

pub spread_json_line : IsReadSo "spread --json" (of_trace (telling.Figures figures.Spread form.Json))
unfolding clap_on_literals
spread_json_line name p f = (refl, refl)

pub picture_line : IsReadSo "picture" (of_trace telling.Picture)
unfolding clap_on_literals
picture_line name p f = (refl, refl)

pub drawn_line : IsReadSo "picture --script --earliest --fifo-batch 1" (of_script (running.Drawn (in_batches 1)))
unfolding clap_on_literals
drawn_line name p f = (refl, refl)

pub scheduled_line : IsReadSo "picture --schedule" (job.OfText text_job.Draw)
unfolding clap_on_literals
scheduled_line name p f = (refl, refl)

pub oracle_line : IsReadSo "oracle" (of_list solving.Least)
unfolding clap_on_literals
oracle_line name p f = (refl, refl)

pub report_line : IsReadSo "oracle --trace" (of_trace (telling.Figures figures.Report form.Lines))
unfolding clap_on_literals
report_line name p f = (refl, refl)

pub report_json_line : IsReadSo "oracle --trace --json" (of_trace (telling.Figures figures.Report form.Json))
unfolding clap_on_literals
report_json_line name p f = (refl, refl)

pub on_time_line : IsReadSo "oracle --met" (of_list solving.Most)
unfolding clap_on_literals
on_time_line name p f = (refl, refl)

pub report_and_on_time_line : IsReadAsNothingSo "oracle --trace --met"
unfolding clap_on_literals
report_and_on_time_line name p f = (refl, refl)

pub certificate_json_line : IsReadSo "oracle --met --json" (job.Refuse refusal.JsonAlone)
unfolding clap_on_literals
certificate_json_line name p f = (refl, refl)

pub check_line : IsReadSo "check" (job.OfText (text_job.Check form.Lines))
unfolding clap_on_literals
check_line name p f = (refl, refl)

pub check_json_line : IsReadSo "check --json" (job.OfText (text_job.Check form.Json))
unfolding clap_on_literals
check_json_line name p f = (refl, refl)

pub import_line : IsReadSo "import" (job.Import (whole_import (written.Kept kept.Schedule)))
unfolding clap_on_literals
import_line name p f = (refl, refl)

pub import_so_line : IsReadSo "import --read-expire 8us --from queue --as perf --device 8,0 --skip 1s --first 9 --table" (job.Import by_perf)
unfolding clap_on_literals
import_so_line name p f = (refl, refl)

pub summary_line : IsReadSo "import --write-expire 8ns --summary" (job.Import (record (whole_import written.Summary) { write_expire = 8 }))
unfolding clap_on_literals
summary_line name p f = (refl, refl)

pub no_time_line : IsReadSo "import --skip 2" (job.Refuse refusal.Skip)
unfolding clap_on_literals
no_time_line name p f = (refl, refl)

pub no_entry_line : IsReadSo "import --from issue" (job.Refuse refusal.From)
unfolding clap_on_literals
no_entry_line name p f = (refl, refl)

pub no_recorder_line : IsReadSo "import --as iostat" (job.Refuse refusal.As)
unfolding clap_on_literals
no_recorder_line name p f = (refl, refl)

pub no_device_line : IsReadSo "import --device sda" (job.Refuse refusal.Device)
unfolding clap_on_literals
no_device_line name p f = (refl, refl)

pub table_and_summary_line : IsReadSo "import --table --summary" (job.Refuse refusal.TableAndSummary)
unfolding clap_on_literals
table_and_summary_line name p f = (refl, refl)

pub script_line : IsReadSo "import --script --round 1ms" (job.Import (whole_import (written.Kept (kept.Script 1_000_000 None))))
unfolding clap_on_literals
script_line name p f = (refl, refl)

pub script_alone_line : IsReadSo "import --script" (job.Refuse refusal.NoRound)
unfolding clap_on_literals
script_alone_line name p f = (refl, refl)

pub depth_alone_line : IsReadSo "import --depth 8" (job.Refuse refusal.NoScript)
unfolding clap_on_literals
depth_alone_line name p f = (refl, refl)

pub judge_line : IsReadSo "judge" (job.OfText (text_job.Judge false))
unfolding clap_on_literals
judge_line name p f = (refl, refl)

pub judge_each_line : IsReadSo "judge --each" (job.OfText (text_job.Judge true))
unfolding clap_on_literals
judge_each_line name p f = (refl, refl)

pub explain_line : IsReadSo "explain" job.Explain
unfolding clap_on_literals
explain_line name p f = (refl, refl)

pub load_line : IsReadSo "load" (job.Load default_sched default_load (shown.Account form.Lines) false)
unfolding clap_on_literals
load_line name p f = (refl, refl)

pub load_json_line : IsReadSo "load --json" (job.Load default_sched default_load (shown.Account form.Json) false)
unfolding clap_on_literals
load_json_line name p f = (refl, refl)

pub busy_line : IsReadSo "load --busy 3" (job.Load default_sched (record default_load { busy = Some 3 }) (shown.Account form.Lines) false)
unfolding clap_on_literals
busy_line name p f = (refl, refl)

pub traced_line : IsReadSo "load --trace --service 100" (job.Load default_sched (record default_load { service = 100 }) shown.Trace false)
unfolding clap_on_literals
traced_line name p f = (refl, refl)

pub timed_line : IsReadSo "load --times" (job.Load default_sched default_load (shown.Account form.Lines) true)
unfolding clap_on_literals
timed_line name p f = (refl, refl)

pub traced_json_line : IsReadSo "load --trace --json" (job.Refuse refusal.TraceAndJson)
unfolding clap_on_literals
traced_json_line name p f = (refl, refl)

pub version_line : (name : Text) → Asks (name ∷ codes "--version" ∷ []) job.Version
unfolding clap_on_literals
version_line name = (at_places nowhere anywhere, (refl, refl), inr (inl refl, refl))
