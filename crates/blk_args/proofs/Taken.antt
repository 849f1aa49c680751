-- What a subcommand takes and what its job reads.
use Rattle.std.proofs.Common.{◌≡◌, ◌∙◌, ◌∷◌, [], ℕ, Bool, true, false, List, Option, None, Some, map, sym, refl, subst, codes}
use Rattle.std.specs.Prelude.{◌≢◌, ◌++◌, IfSome, Result, Ok, Err, option_map}
use Rattle.clap.specs.Words.{Row, Text}
use Rattle.clap.specs.declared.builder.value_parser.Reading.TheVariants as reading
use Rattle.blk_schedulers.specs.Options.{OptionOf, sched_option, default_text, tuning, listing}
use Rattle.blk_schedulers.specs.declared.form.Form.{Form}
use Rattle.blk_schedulers.specs.declared.grid.RankBy.{RankBy}
use Rattle.blk_schedulers.specs.declared.lists.ListFault.{ListFault}
use Rattle.blk_schedulers.specs.declared.numbers.Load.{Load}
use Rattle.blk_schedulers.specs.declared.sched.ComparedScheds.{ComparedScheds}
use Rattle.blk_schedulers.specs.declared.sched.Sched.{Sched}
use Rattle.blk_args.specs.declared.inputs.TextKind.{TextKind}
use Rattle.blk_args.specs.declared.inputs.TextKind.TheVariants as kind
use Rattle.blk_args.specs.declared.table.JobKind.{JobKind}
use Rattle.blk_args.specs.declared.table.JobKind.TheVariants as makes
use Rattle.blk_args.specs.declared.words.CaptureSource.{CaptureSource}
use Rattle.blk_args.specs.declared.words.Import.{Import}
use Rattle.blk_args.specs.declared.words.Job.{Job}
use Rattle.blk_args.specs.declared.words.Refusal.{Refusal}
use Rattle.blk_args.specs.declared.inputs.ShownLoad.{ShownLoad}
use Rattle.blk_args.specs.declared.words.Written.{Written}
use Rattle.blk_args.specs.declared.words.Kept.TheVariants as kept
use Rattle.blk_args.specs.declared.words.Written.TheVariants as written
use Rattle.blk_args.specs.Asked.{job_made, is_flagged, is_other_given, lineup_asked, pictured, time_given, number_given, from_given, source_given, written_of, sched_asked, amounts_of, oracle_job, tune_by, import_by, import_as, takes_all, load_job, loaded, blame_asked, replaying_of}
use Rattle.blk_args.specs.Options.{json_option, met_option, schedule_option, script_option, trace_option, times_option, by_option, read_expire_option, write_expire_option, from_option, skip_option, first_option, fifo_read_expire_option, fifo_write_expire_option}
use Rattle.blk_args.specs.Takers.{takes_as, kind_read, CanRead}

-- a job reads no other texts than a subcommand takes
record Fits (m : JobKind) (name : Text) (j : Job) : Type 0 where
  only : (i : TextKind) → kind_read j ≡ Some i → takes_as m i name ≢ None

reads_one : (m : JobKind) (name : Text) (i : TextKind) → takes_as m i name ≢ None → (j : Job) → kind_read j ≡ Some i → Fits m name j
reads_one m name i taken j r = record { only = λ k s. subst (λ (z : TextKind). takes_as m z name ≢ None) (let e : Some i ≡ Some k = sym r ∙ s in cc e) taken }

reads_none : (m : JobKind) (name : Text) (j : Job) → kind_read j ≡ None → Fits m name j
reads_none m name j r = record { only = λ k s. absurd (let e : None ≡ Some k = sym r ∙ s in cc e) }

mapped : {A : Type 0} (P : Job → Type 0) (f : A → Job) (o : Option A) → ((a : A) → P (f a)) → IfSome (option_map f o) P
mapped P f None h = tt
mapped P f (Some a) h = h a

-- that of each kind of subcommand does
oracle_fits : (name : Text) (trace met json : Bool) → IfSome (oracle_job trace met json) (Fits makes.Oracle name)
oracle_fits name true true json = tt
oracle_fits name true false json = reads_one makes.Oracle name kind.Trace (λ e. cc e) _ refl
oracle_fits name false met true = reads_none makes.Oracle name _ refl
oracle_fits name false true false = reads_one makes.Oracle name kind.Commands (λ e. cc e) _ refl
oracle_fits name false false false = reads_one makes.Oracle name kind.Commands (λ e. cc e) _ refl

picture_fits : (name : Text) (script schedule given : Bool) (lineup : Option ComparedScheds) → IfSome (pictured script schedule given lineup) (Fits makes.Picture name)
picture_fits name true true given lineup = reads_none makes.Picture name _ refl
picture_fits name true false given lineup = mapped (Fits makes.Picture name) _ lineup (λ l. reads_one makes.Picture name kind.Script (λ e. cc e) _ refl)
picture_fits name false schedule true lineup = reads_none makes.Picture name _ refl
picture_fits name false true false lineup = reads_one makes.Picture name kind.Schedule (λ e. cc e) _ refl
picture_fits name false false false lineup = reads_one makes.Picture name kind.Trace (λ e. cc e) _ refl

tune_fits : (name : Text) (fault : Option ListFault) (by : Option RankBy) (top threads : Option ℕ) (f : Form) → Fits makes.Tune name (tune_by fault by top threads f)
tune_fits name (Some r) by top threads f = reads_none makes.Tune name _ refl
tune_fits name None None top threads f = reads_none makes.Tune name _ refl
tune_fits name None (Some b) top threads f = reads_one makes.Tune name kind.Script (λ e. cc e) _ refl

import_as_fits : (m : JobKind) (name : Text) → takes_as m kind.Capture name ≢ None → (i : Import) (all : Bool) → takes_all i ≡ all → (w : Written) → Fits m name (import_as i w)
import_as_fits m name taken i true e (written.Kept (kept.Script n d)) = rw e (reads_one m name kind.Capture taken _ refl)
import_as_fits m name taken i false e (written.Kept (kept.Script n d)) = rw e (reads_none m name _ refl)
import_as_fits m name taken i all e w = reads_one m name kind.Capture taken _ refl

import_fits : (m : JobKind) (name : Text) → takes_as m kind.Capture name ≢ None → (read write : Option ℕ) (queued : Option Bool) (source : Result CaptureSource Refusal) (skip first : Option ℕ) (w : Result Written Refusal) → Fits m name (import_by read write queued source skip first w)
import_fits m name taken None write queued source skip first w = reads_none m name _ refl
import_fits m name taken (Some r) None queued source skip first w = reads_none m name _ refl
import_fits m name taken (Some r) (Some d) None source skip first w = reads_none m name _ refl
import_fits m name taken (Some r) (Some d) (Some q) (Err f) skip first w = reads_none m name _ refl
import_fits m name taken (Some r) (Some d) (Some q) (Ok c) None first w = reads_none m name _ refl
import_fits m name taken (Some r) (Some d) (Some q) (Ok c) (Some s) first (Err f) = reads_none m name _ refl
import_fits m name taken (Some r) (Some d) (Some q) (Ok c) (Some s) first (Ok w) = import_as_fits m name taken _ _ refl w

loaded_fits : (name : Text) (times : Bool) (w : ShownLoad) (s : Option Sched) (l : Option Load) → IfSome (loaded times w s l) (Fits makes.Load name)
loaded_fits name times w None l = tt
loaded_fits name times w (Some s) None = tt
loaded_fits name times w (Some s) (Some l) = reads_none makes.Load name _ refl

load_fits : (name : Text) (times trace json : Bool) (s : Option Sched) (l : Option Load) → IfSome (load_job times trace json s l) (Fits makes.Load name)
load_fits name times true true s l = reads_none makes.Load name _ refl
load_fits name times true false s l = loaded_fits name times _ s l
load_fits name times false json s l = loaded_fits name times _ s l

fits : (m : JobKind) (rows : List Row) (name : Text) → IfSome (job_made m rows) (Fits m name)
fits (makes.Told t) rows name = reads_one (makes.Told t) name kind.Trace (λ e. cc e) _ refl
fits (makes.Formed k) rows name = reads_one (makes.Formed k) name kind.Trace (λ e. cc e) _ refl
fits makes.Explain rows name = reads_none makes.Explain name _ refl
fits makes.Sim rows name = mapped (Fits makes.Sim name) _ _ (λ s. reads_one makes.Sim name kind.Script (λ e. cc e) _ refl)
fits makes.Compare rows name = mapped (Fits makes.Compare name) _ _ (λ l. reads_one makes.Compare name kind.Script (λ e. cc e) _ refl)
fits makes.Tune rows name = tune_fits name _ _ _ _ _
fits makes.Picture rows name = picture_fits name (is_flagged script_option.name rows) (is_flagged schedule_option.name rows) (is_other_given schedule_option.name rows) (lineup_asked rows)
fits makes.Oracle rows name = oracle_fits name (is_flagged trace_option.name rows) (is_flagged met_option.name rows) (is_flagged json_option.name rows)
fits makes.Check rows name = reads_one makes.Check name kind.Certificate (λ e. cc e) _ refl
fits makes.Import rows name =
    import_fits makes.Import name (λ e. cc e) (time_given read_expire_option.name rows) (time_given write_expire_option.name rows) (from_given rows) (source_given rows) (time_given skip_option.name rows)
    (number_given first_option.name rows) (written_of rows)
fits makes.Blame rows name =
    import_fits makes.Blame name (λ e. cc e) (time_given read_expire_option.name rows) (time_given write_expire_option.name rows) (from_given rows) (source_given rows) (time_given skip_option.name rows)
    (number_given first_option.name rows) (blame_asked rows)
fits makes.Replay rows name =
    import_fits makes.Replay name (λ e. cc e) (time_given read_expire_option.name rows) (time_given write_expire_option.name rows) (from_given rows) (source_given rows) (time_given skip_option.name rows)
    (number_given first_option.name rows) (replaying_of rows)
fits makes.Judge rows name = reads_one makes.Judge name kind.Schedule (λ e. cc e) _ refl
fits makes.Load rows name = load_fits name (is_flagged times_option.name rows) (is_flagged trace_option.name rows) (is_flagged json_option.name rows) (sched_asked rows) (amounts_of rows)

made : (o : Option Job) (j : Job) (P : Job → Type 0) → o ≡ Some j → IfSome o P → P j
made o j P e h = rw e at h

pub takes_each : (m : JobKind) (i : TextKind) (name : Text) → CanRead m i → takes_as m i name ≢ None
takes_each m i name r = (made (job_made m r.0) r.1 (Fits m name) r.2 (fits m r.0 name)).only i r.3

-- what options are given: a text, by default, or a flag
abbrev given_text : Text → Text → Row
given_text id text = record { id = id; values = text ∷ []; count = None; source = None; reading = reading.AsWritten }

abbrev defaults : List OptionOf → List Row
defaults = map (λ o. given_text o.name (default_text o.kind))

abbrev flagged : OptionOf → Row
flagged o = given_text o.name (codes "true")

-- what is taken is read
pub reads_each : (m : JobKind) (i : TextKind) (name : Text) → takes_as m i name ≢ None → CanRead m i
reads_each makes.Sim kind.Script name h = (defaults (sched_option ∷ []), _, refl, refl)
reads_each makes.Compare kind.Script name h = (defaults tuning, _, refl, refl)
reads_each makes.Tune kind.Script name h = (defaults (listing ++ by_option ∷ []), _, refl, refl)
reads_each makes.Picture kind.Script name h = (flagged script_option ∷ defaults tuning, _, refl, refl)
reads_each makes.Picture kind.Trace name h = ([], _, refl, refl)
reads_each makes.Picture kind.Schedule name h = (flagged schedule_option ∷ [], _, refl, refl)
reads_each (makes.Told t) kind.Trace name h = ([], _, refl, refl)
reads_each (makes.Formed k) kind.Trace name h = ([], _, refl, refl)
reads_each makes.Oracle kind.Trace name h = (flagged trace_option ∷ [], _, refl, refl)
reads_each makes.Oracle kind.Commands name h = ([], _, refl, refl)
reads_each makes.Check kind.Certificate name h = ([], _, refl, refl)
reads_each makes.Judge kind.Schedule name h = ([], _, refl, refl)
reads_each makes.Import kind.Capture name h = (defaults (read_expire_option ∷ write_expire_option ∷ from_option ∷ skip_option ∷ []), _, refl, refl)
reads_each makes.Blame kind.Capture name h = (defaults (read_expire_option ∷ write_expire_option ∷ from_option ∷ skip_option ∷ []), _, refl, refl)
reads_each makes.Replay kind.Capture name h =
    (defaults (read_expire_option ∷ write_expire_option ∷ from_option ∷ skip_option ∷ fifo_read_expire_option ∷ fifo_write_expire_option ∷ []), _, refl, refl)
reads_each m i name h = absurd (h refl)
