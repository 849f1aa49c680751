-- What the words of a command line ask for.
use Rattle.std.specs.Prelude.{◌≡◌, ◌≢◌, ◌⊎◌, ◌&&◌, ◌||◌, ◌==◌, ⊤, ℕ, Bool, true, false, not, List, [], find, Option, Some, None, Result, Ok, Err, codes, nat_le, option_map, option_and_then, if◌then◌else◌, unwrap_or, ◌∷◌}
use Rattle.std.specs.List.{list_any}
use Rattle.std.specs.Option.{option_map_or, option_or}
use Rattle.std.specs.Str.{bytes_eq}
use Rattle.blk_schedulers.specs.declared.given.TheConstants.{MAX_SHORT}
use Rattle.blk_schedulers.specs.declared.numbers.Load.{Load}
use Rattle.clap.specs.Facts.{explicit_source}
use Rattle.clap.specs.declared.parser.matches.ValueSource.{ValueSource}
use Rattle.clap.specs.Words.{Row, Text, IsAmong, fault_of, first_of, one_of, subcommand_of}
use Rattle.clap.specs.declared.error.kind.ErrorKind.{ErrorKind}
use Rattle.clap.specs.declared.error.kind.ErrorKind.TheVariants as kind
use Rattle.blk_schedulers.specs.declared.grid.RankBy.{RankBy}
use Rattle.blk_schedulers.specs.declared.grid.RankBy.TheVariants as by
use Rattle.blk_schedulers.specs.declared.plans.FifoExpire.{FifoExpire}
use Rattle.blk_schedulers.specs.declared.plans.Plan.{Plan}
use Rattle.blk_schedulers.specs.declared.plans.ReplayBy.{ReplayBy}
use Rattle.blk_schedulers.specs.declared.plans.ReplayBy.TheVariants as replay_by
use Rattle.blk_schedulers.specs.Plans.{plans_given, plans_tried, replay_default}
use Rattle.blk_schedulers.specs.Given.{GivenOptions, sched_given, lineup_given}
use Rattle.blk_schedulers.specs.Grids.{grid_given}
use Rattle.blk_schedulers.specs.Lists.{list_fault}
use Rattle.blk_schedulers.specs.declared.lists.ListFault.{ListFault}
use Rattle.blk_schedulers.specs.declared.sched.ComparedScheds.{ComparedScheds}
use Rattle.blk_schedulers.specs.declared.sched.Sched.{Sched}
use Rattle.blk_args.specs.declared.words.Job.{Job}
use Rattle.blk_args.specs.declared.words.Job.TheVariants as job
use Rattle.blk_args.specs.declared.words.NoJob.{NoJob}
use Rattle.blk_args.specs.declared.words.NoJob.TheVariants as no
use Rattle.blk_schedulers.specs.declared.form.Form.{Form}
use Rattle.blk_schedulers.specs.declared.form.Form.TheVariants as form
use Rattle.blk_args.specs.declared.inputs.ShownLoad.{ShownLoad}
use Rattle.blk_args.specs.declared.inputs.ShownLoad.TheVariants as shown
use Rattle.blk_args.specs.declared.replaying.ShownReplay.{ShownReplay}
use Rattle.blk_args.specs.declared.replaying.ShownReplay.TheVariants as shown_as
use Rattle.blk_args.specs.declared.table.FiguresAsked.TheVariants as figures
use Rattle.blk_args.specs.declared.inputs.Running.{Running}
use Rattle.blk_args.specs.declared.inputs.Running.TheVariants as running
use Rattle.blk_args.specs.declared.inputs.Solving.{Solving}
use Rattle.blk_args.specs.declared.inputs.Solving.TheVariants as solving
use Rattle.blk_args.specs.declared.inputs.TraceOutput.{TraceOutput}
use Rattle.blk_args.specs.declared.inputs.TraceOutput.TheVariants as telling
use Rattle.blk_args.specs.declared.inputs.TextJob.TheVariants as text_job
use Rattle.blk_recorders.specs.Layouts.{device_of}
use Rattle.blk_recorders.specs.declared.detect.CaptureForm.{CaptureForm}
use Rattle.blk_recorders.specs.declared.detect.CaptureForm.TheVariants.{Records, Printed}
use Rattle.blk_recorders.specs.declared.device.Device.{Device}
use Rattle.blk_recorders.specs.declared.recorder.Recorder.TheVariants.{Blkparse, Ftrace, Perf, Bpftrace}
use Rattle.blk_args.specs.declared.words.CaptureSource.{CaptureSource}
use Rattle.blk_args.specs.declared.words.Import.{Import}
use Rattle.blk_args.specs.declared.words.Refusal.{Refusal}
use Rattle.blk_args.specs.declared.words.Refusal.TheVariants as refusal
use Rattle.blk_args.specs.declared.words.Written.{Written}
use Rattle.blk_args.specs.declared.words.Kept.TheVariants as kept
use Rattle.blk_args.specs.declared.words.Written.TheVariants as written
use Rattle.blk_args.specs.declared.blaming.BlameBy.{BlameBy}
use Rattle.blk_args.specs.declared.blaming.BlameBy.TheVariants as blame_by
use Rattle.blk_args.specs.declared.blaming.ShownBlame.{ShownBlame}
use Rattle.blk_args.specs.declared.blaming.ShownBlame.TheVariants as blame
use Rattle.blk_args.specs.declared.blaming.TheConstants.{USUAL_TOP}
use Rattle.blk_args.specs.declared.blaming.TightestAsked.{TightestAsked}
use Rattle.blk_args.specs.declared.table.JobKind.{JobKind}
use Rattle.blk_args.specs.declared.table.JobKind.TheVariants as makes
use Rattle.blk_args.specs.CommandLine.{Names, AreNames, command_table, blk_app}
use Rattle.blk_args.specs.Options.{json_option, picture_option, schedule_option, script_option, trace_option, times_option, by_option, top_option, threads_option, met_option, each_option, read_expire_option, write_expire_option, from_option, as_option, device_option, tags_option, skip_option, first_option, all_option, certificate_option, tightest_option, for_option, blame_by_option, table_option, summary_option, round_option, depth_option, submitters_option, workers_option, bios_option, load_depth_option, busy_option, service_option, replay_sched_option, fifo_read_expire_option, fifo_write_expire_option, replay_by_option, grid_option}
use Rattle.blk_args.specs.Lists.{list_of, times_listed}
use Rattle.blk_args.specs.Times.{MAX_NUMBER, number_in, in_unit, time_of}

-- the job of which this is asked of a script, of a trace, and of a command list
abbrev pub of_script : Running → Job
of_script r = job.OfText (text_job.OfScript r)

abbrev pub of_trace : TraceOutput → Job
of_trace t = job.OfText (text_job.OfTrace t)

abbrev pub of_list : Solving → Job
of_list s = job.OfText (text_job.OfList s)

-- the number of 16 bits that an option is given, the one of 64 bits, and whether a flag is
abbrev pub short_given : Text → List Row → Option ℕ
short_given id rows = option_and_then (number_in MAX_SHORT) (one_of id rows)

abbrev pub number_given : Text → List Row → Option ℕ
number_given id rows = option_and_then (number_in MAX_NUMBER) (one_of id rows)

abbrev pub is_flagged : Text → List Row → Bool
is_flagged id rows = option_map_or (λ text. bytes_eq text (codes "true")) (first_of id rows) false

-- where what an option is given comes from, and whether the words give another than this one; a default doesn't count
abbrev pub source_of : Text → List Row → Option ValueSource
source_of id rows = option_and_then (λ r. r.source) (find (λ r. bytes_eq r.id id) rows)

abbrev pub is_other_given : Text → List Row → Bool
is_other_given but rows = list_any (λ r. not (bytes_eq r.id but) && explicit_source (source_of r.id rows)) rows

-- the time that an option is given, in nanoseconds
abbrev pub time_given : Text → List Row → Option ℕ
time_given id rows = option_and_then time_of (first_of id rows)

-- the list of numbers up to the most that an option is given
abbrev pub list_given : ℕ → Text → List Row → Option (List ℕ)
list_given most id rows = option_and_then (list_of most) (first_of id rows)

-- what the options are given
abbrev pub given_options : List Row → GivenOptions
given_options rows = record {
  text = λ id. first_of id rows;
  short = λ id. short_given id rows;
  number = λ id. number_given id rows;
  list = λ most id. list_given most id rows;
  is_set = λ id. is_flagged id rows;
}

-- the scheduler that the options name, and the schedulers that run a script in turn
abbrev pub sched_asked : List Row → Option Sched
sched_asked rows = sched_given (given_options rows)

abbrev pub lineup_asked : List Row → Option ComparedScheds
lineup_asked rows = lineup_given (given_options rows)

-- the form by whether JSON is asked for, and by the options
abbrev pub form_by : Bool → Form
form_by json = if json then form.Json else form.Lines

abbrev pub form_asked : List Row → Form
form_asked rows = form_by (is_flagged json_option.name rows)

-- their comparison in a form, and the picture of a trace or of a schedule, which take no options, or of a script under them
abbrev pub compared : Form → Option ComparedScheds → Option Job
compared f lineup = option_map (λ l. of_script (running.Each l f)) lineup

abbrev pub pictured : Bool → Bool → Bool → Option ComparedScheds → Option Job
pictured true true given lineup = Some (job.Refuse refusal.ScriptAndSchedule)
pictured true false given lineup = option_map (λ l. of_script (running.Drawn l)) lineup
pictured false schedule true lineup = Some (job.Refuse refusal.NoScriptDrawn)
pictured false true false lineup = Some (job.OfText text_job.Draw)
pictured false false false lineup = Some (of_trace telling.Picture)

abbrev pub picture_given : List Row → Option Job
picture_given rows = pictured (is_flagged script_option.name rows) (is_flagged schedule_option.name rows) (is_other_given schedule_option.name rows) (lineup_asked rows)

-- a load of these numbers, whose devices may be busy and take time, under this scheduler, and what is written of it
abbrev pub amounts : Option ℕ → Option ℕ → Option ℕ → Option ℕ → Option ℕ → Option ℕ → Option Load
amounts submitters workers bios depth service busy = option_and_then (λ s. option_and_then (λ w. option_and_then (λ b. option_and_then (λ d. option_map (λ t.
    record { submitters = s; workers = w; bios = b; depth = d; busy = busy; service = t }) service) depth) bios) workers) submitters

abbrev pub amounts_of : List Row → Option Load
amounts_of rows = amounts (number_given submitters_option.name rows) (number_given workers_option.name rows) (number_given bios_option.name rows) (number_given load_depth_option.name rows)
    (number_given service_option.name rows) (number_given busy_option.name rows)

abbrev pub shown_of : Bool → Bool → ShownLoad
shown_of trace json = if trace then shown.Trace else shown.Account (form_by json)

abbrev pub loaded : Bool → ShownLoad → Option Sched → Option Load → Option Job
loaded times w s l = option_and_then (λ s. option_map (λ l. job.Load s l w times) l) s

-- the job of `load` by whether its trace and JSON are asked for, which exclude one another
abbrev pub load_job : Bool → Bool → Bool → Option Sched → Option Load → Option Job
load_job times trace json s l = if trace && json then Some (job.Refuse refusal.TraceAndJson) else loaded times (shown_of trace json) s l

abbrev pub load_given : List Row → Option Job
load_given rows = load_job (is_flagged times_option.name rows) (is_flagged trace_option.name rows) (is_flagged json_option.name rows) (sched_asked rows) (amounts_of rows)

-- whether a request came in when its first bio was queued, by the text of `--from`
abbrev pub entry_named : Text → Option Bool
entry_named text =
    if bytes_eq text (codes "insert") then Some false
    else (if bytes_eq text (codes "queue") then Some true else None)

abbrev pub from_given : List Row → Option Bool
from_given rows = option_and_then entry_named (first_of from_option.name rows)

-- who printed a capture, by the text of `--as`, and where it is given
abbrev pub as_named : Text → Option CaptureForm
as_named text =
    if bytes_eq text (codes "capture") then Some Records
    else (if bytes_eq text (codes "blkparse") then Some (Printed Blkparse)
    else (if bytes_eq text (codes "ftrace") then Some (Printed Ftrace)
    else (if bytes_eq text (codes "perf") then Some (Printed Perf)
    else (if bytes_eq text (codes "bpftrace") then Some (Printed Bpftrace) else None))))

abbrev pub as_by : Text → Result (Option CaptureForm) Refusal
as_by text = option_map_or (λ f. Ok (Some f)) (as_named text) (Err refusal.As)

abbrev pub as_given : List Row → Result (Option CaptureForm) Refusal
as_given rows = option_map_or as_by (first_of as_option.name rows) (Ok None)

-- the device by the text of `--device`, and where it is given
abbrev pub device_by : Text → Result (Option Device) Refusal
device_by text = option_map_or (λ d. Ok (Some d)) (device_of text) (Err refusal.Device)

abbrev pub device_given : List Row → Result (Option Device) Refusal
device_given rows = option_map_or device_by (first_of device_option.name rows) (Ok None)

-- where a capture comes from, or the refusal of the first that can't be
abbrev pub source_by : Result (Option CaptureForm) Refusal → Result (Option Device) Refusal → Option ℕ → Result CaptureSource Refusal
source_by (Err r) device tags = Err r
source_by (Ok form) (Err r) tags = Err r
source_by (Ok form) (Ok device) tags = Ok (record { form = form; device = device; tags = tags })

abbrev pub source_given : List Row → Result CaptureSource Refusal
source_given rows = source_by (as_given rows) (device_given rows) (number_given tags_option.name rows)

-- the length of a round by the text of `--round`, and where it is given
abbrev pub round_by : Text → Result (Option ℕ) Refusal
round_by text = option_map_or (λ n. Ok (Some n)) (time_of text) (Err refusal.Round)

abbrev pub round_given : List Row → Result (Option ℕ) Refusal
round_given rows = option_map_or round_by (first_of round_option.name rows) (Ok None)

-- a script, which needs a round, and something else, which has neither a round nor a depth
abbrev pub script_asked : Option ℕ → Option ℕ → Result Written Refusal
script_asked None depth = Err refusal.NoRound
script_asked (Some n) depth = Ok (written.Kept (kept.Script n depth))

abbrev pub unscripted : Written → Option ℕ → Option ℕ → Result Written Refusal
unscripted w None None = Ok w
unscripted w None (Some d) = Err refusal.NoScript
unscripted w (Some n) depth = Err refusal.NoScript

-- what is written of an import, by whether a script, a table and a summary are asked for, no two of which may stand together
abbrev pub written_by : Bool → Bool → Bool → Option ℕ → Option ℕ → Result Written Refusal
written_by script table summary round depth =
    if table && summary then Err refusal.TableAndSummary
    else (if script then (if table || summary then Err refusal.ScriptAlone else script_asked round depth)
    else unscripted (if table then (written.Kept kept.Table) else (if summary then written.Summary else (written.Kept kept.Schedule))) round depth)

abbrev pub written_with : Bool → Bool → Bool → Option ℕ → Result (Option ℕ) Refusal → Result Written Refusal
written_with script table summary depth (Err r) = Err r
written_with script table summary depth (Ok round) = written_by script table summary round depth

abbrev pub written_of : List Row → Result Written Refusal
written_of rows = written_with (is_flagged script_option.name rows) (is_flagged table_option.name rows) (is_flagged summary_option.name rows) (number_given depth_option.name rows) (round_given rows)

-- all requests are taken, as they were inserted, and none is left out, which has no bearing on a script
abbrev pub takes_all : Import → Bool
takes_all i = option_map_or (λ n. false) i.first (not i.from_queue && (i.skip == 0))

abbrev pub import_as : Import → Written → Job
import_as i (written.Kept (kept.Script n d)) = if takes_all i then job.Import i else job.Refuse refusal.OfRequests
import_as i w = job.Import i

abbrev pub import_of : Import → Job
import_of i = import_as i i.written

-- the import of these, or the refusal of the first that there isn't
abbrev pub import_by : Option ℕ → Option ℕ → Option Bool → Result CaptureSource Refusal → Option ℕ → Option ℕ → Result Written Refusal → Job
import_by None write from_queue source skip first w = job.Refuse refusal.ReadExpire
import_by (Some r) None from_queue source skip first w = job.Refuse refusal.WriteExpire
import_by (Some r) (Some d) None source skip first w = job.Refuse refusal.From
import_by (Some r) (Some d) (Some q) (Err f) skip first w = job.Refuse f
import_by (Some r) (Some d) (Some q) (Ok c) None first w = job.Refuse refusal.Skip
import_by (Some r) (Some d) (Some q) (Ok c) (Some s) first (Err f) = job.Refuse f
import_by (Some r) (Some d) (Some q) (Ok c) (Some s) first (Ok w) =
    import_of (record { read_expire = r; write_expire = d; from_queue = q; source = c; skip = s; first = first; written = w })

abbrev pub import_with : Result Written Refusal → List Row → Job
import_with written rows = import_by (time_given read_expire_option.name rows) (time_given write_expire_option.name rows) (from_given rows) (source_given rows) (time_given skip_option.name rows)
    (number_given first_option.name rows) written

abbrev pub import_job : List Row → Job
import_job rows = import_with (written_of rows) rows

-- how many stalls and windows are written at most, and how that is
abbrev pub most_shown : Bool → Option ℕ → ℕ
most_shown true top = MAX_NUMBER
most_shown false top = unwrap_or top USUAL_TOP

-- whether an option is given
abbrev pub is_given : Text → List Row → Bool
is_given id rows = option_map_or (λ t. true) (first_of id rows) false

-- a share in thousandths, and whether it is of writes; of reads where nobody says so
abbrev pub up_to_all : ℕ → Option ℕ
up_to_all share = if nat_le share 1_000 then Some share else None

abbrev pub share_of : Text → Option ℕ
share_of text = option_and_then up_to_all (in_unit (codes "%") 10 text)

abbrev pub share_by : Text → Result (Option ℕ) Refusal
share_by text = option_map_or (λ n. Ok (Some n)) (share_of text) (Err refusal.Tightest)

abbrev pub share_given : List Row → Result (Option ℕ) Refusal
share_given rows = option_map_or share_by (first_of tightest_option.name rows) (Ok None)

abbrev pub writes_named : Text → Option Bool
writes_named text =
    if bytes_eq text (codes "reads") then Some false else (if bytes_eq text (codes "writes") then Some true else None)

abbrev pub writes_given : List Row → Option Bool
writes_given rows = option_map_or writes_named (first_of for_option.name rows) (Some false)

-- the tightest that is asked for, if one is; a direction is given with it alone
abbrev pub tightest_with : Bool → Option Bool → Result (Option ℕ) Refusal → Result (Option TightestAsked) Refusal
tightest_with given w (Err r) = Err r
tightest_with given None (Ok s) = Err refusal.For
tightest_with true (Some w) (Ok None) = Err refusal.NoTightest
tightest_with false (Some w) (Ok None) = Ok None
tightest_with given (Some w) (Ok (Some s)) = Ok (Some (record { writes = w; share = s }))

abbrev pub tightest_given : List Row → Result (Option TightestAsked) Refusal
tightest_given rows = tightest_with (is_given for_option.name rows) (writes_given rows) (share_given rows)

-- what is written; a certificate is no JSON
abbrev pub shown_blame : Bool → Bool → Option TightestAsked → Option ShownBlame
shown_blame each certificate (Some asked) = if each || certificate then None else Some (blame.Tightest asked)
shown_blame true true None = None
shown_blame true false None = Some blame.Each
shown_blame false true None = Some blame.Certificate
shown_blame false false None = Some blame.Whole

abbrev pub shown_in : Form → Option ShownBlame → Result ShownBlame Refusal
shown_in f None = Err refusal.OneBlame
shown_in f (Some blame.Whole) = Ok blame.Whole
shown_in f (Some blame.Each) = Ok blame.Each
shown_in form.Lines (Some blame.Certificate) = Ok blame.Certificate
shown_in form.Json (Some blame.Certificate) = Err refusal.CertificateJson
shown_in f (Some (blame.Tightest asked)) = Ok (blame.Tightest asked)
shown_in f (Some blame.Picture) = Ok blame.Picture

-- of whom a table is written that tells whose requests were late; of processes where nobody says so
abbrev pub blame_by_named : Text → Option BlameBy
blame_by_named text =
    if bytes_eq text (codes "pid") then Some blame_by.Process
    else (if bytes_eq text (codes "cpu") then Some blame_by.Processor else (if bytes_eq text (codes "none") then Some blame_by.Nobody else None))

abbrev pub blame_by_given : List Row → Option BlameBy
blame_by_given rows = option_map_or blame_by_named (first_of blame_by_option.name rows) (Some blame_by.Process)

abbrev pub blaming_in : Option BlameBy → ℕ → Form → Result ShownBlame Refusal → Result Written Refusal
blaming_in by most f (Err r) = Err r
blaming_in None most f (Ok s) = Err refusal.BlameBy
blaming_in (Some by) most f (Ok s) = Ok (written.Kept (kept.Blame (record { shown = s; by = by; most = most; form = f })))

abbrev pub blaming_with : Bool → Bool → Option BlameBy → ℕ → Form → Result (Option TightestAsked) Refusal → Result Written Refusal
blaming_with each certificate by most f (Err r) = Err r
blaming_with each certificate by most f (Ok asked) = blaming_in by most f (shown_in f (shown_blame each certificate asked))

abbrev pub blaming_by : Bool → Bool → Option BlameBy → Bool → Option ℕ → Form → Result (Option TightestAsked) Refusal → Result Written Refusal
blaming_by each certificate by true (Some n) f asked = Err refusal.AllAndTop
blaming_by each certificate by all top f asked = blaming_with each certificate by (most_shown all top) f asked

abbrev pub blaming_of : List Row → Result Written Refusal
blaming_of rows =
    blaming_by (is_flagged each_option.name rows) (is_flagged certificate_option.name rows) (blame_by_given rows) (is_flagged all_option.name rows) (number_given top_option.name rows)
    (form_asked rows) (tightest_given rows)

-- the picture, beside which nothing is asked for that is written in lines
abbrev pub asks_lines : List Row → Bool
asks_lines rows =
    is_flagged each_option.name rows || is_flagged certificate_option.name rows || is_given tightest_option.name rows || is_given for_option.name rows || is_given blame_by_option.name rows || is_given top_option.name rows
    || is_flagged all_option.name rows || is_flagged json_option.name rows

abbrev pub drawn_blame : Written
drawn_blame = written.Kept (kept.Blame (record { shown = blame.Picture; most = USUAL_TOP; by = blame_by.Process; form = form.Lines }))

abbrev pub drawn_unless : Bool → Result Written Refusal
drawn_unless lines = if lines then Err refusal.PictureAlone else Ok drawn_blame

abbrev pub blame_asked : List Row → Result Written Refusal
blame_asked rows = if is_flagged picture_option.name rows then drawn_unless (asks_lines rows) else blaming_of rows

abbrev pub blame_job : List Row → Job
blame_job rows = import_with (blame_asked rows) rows

-- by what rows are put in order
abbrev pub by_named : Text → Option RankBy
by_named text =
    if bytes_eq text (codes "misses") then Some by.Misses
    else (if bytes_eq text (codes "lateness") then Some by.Lateness else None)

abbrev pub by_given : List Row → Option RankBy
by_given rows = option_and_then by_named (first_of by_option.name rows)

-- by what replays are
abbrev pub replay_by_named : Text → Option ReplayBy
replay_by_named text =
    if bytes_eq text (codes "late") then Some replay_by.Late
    else (if bytes_eq text (codes "lateness") then Some replay_by.Lateness
    else (if bytes_eq text (codes "read_p99") then Some replay_by.ReadP99 else None))

abbrev pub replay_by_given : List Row → Option ReplayBy
replay_by_given rows = option_map_or replay_by_named (first_of replay_by_option.name rows) (Some replay_by.Late)

-- what the options of a replay are given, or of a grid of them: a text, or what stands for one that isn't; numbers and lists of these
abbrev pub replay_text : Bool → List Row → Text → Option Text
replay_text grid rows id = option_or (first_of id rows) (replay_default grid id)

abbrev pub only_one : List ℕ → Option ℕ
only_one [] = None
only_one (n ∷ []) = Some n
only_one (n ∷ m ∷ ns) = None

abbrev pub replay_list : Bool → ℕ → List Row → Text → Option (List ℕ)
replay_list grid most rows id = option_and_then (list_of most) (replay_text grid rows id)

abbrev pub replay_number : Bool → ℕ → List Row → Text → Option ℕ
replay_number grid most rows id = option_and_then only_one (replay_list grid most rows id)

abbrev pub replay_options : Bool → List Row → GivenOptions
replay_options grid rows = record {
  text = replay_text grid rows;
  short = replay_number grid MAX_SHORT rows;
  number = replay_number grid MAX_NUMBER rows;
  list = λ most id. replay_list grid most rows id;
  is_set = λ id. is_flagged id rows;
}

-- the times that an option lists, and the expiries of FIFO lists where each direction has one
abbrev pub times_given : Text → List Row → Option (List ℕ)
times_given id rows = option_and_then times_listed (first_of id rows)

abbrev pub one_fifo : List ℕ → List ℕ → Option FifoExpire
one_fifo reads writes = option_and_then (λ r. option_map (λ w. record { read = r; write = w }) (only_one writes)) (only_one reads)

-- whether an option of rows is given
abbrev pub asks_rows : List Row → Bool
asks_rows rows = is_given replay_by_option.name rows || is_given top_option.name rows || is_flagged json_option.name rows

-- replays under each scheduler, and one under the scheduler that is named, which have options of their own
abbrev pub replays_by : Bool → Option (List Plan) → ReplayBy → Option ℕ → Form → Result Written Refusal
replays_by true p b top f = Err refusal.TableAlone
replays_by false None b top f = Err refusal.ListAlone
replays_by false (Some p) b top f = Ok (written.Kept (kept.Replay (record { plans = p; by = b; top = top; form = f })))

abbrev pub shown_replay : Bool → ShownReplay
shown_replay table = if table then shown_as.Table else shown_as.Schedule

abbrev pub one_replay_by : Bool → Bool → FifoExpire → Option Sched → Result Written Refusal
one_replay_by true table fifo s = Err refusal.OneReplay
one_replay_by false table fifo None = Err refusal.ListAlone
one_replay_by false table fifo (Some s) = Ok (written.Kept (kept.Replayed (record { sched = s; fifo = fifo }) (shown_replay table)))

abbrev pub replays_of : List Row → FifoExpire → ReplayBy → Result Written Refusal
replays_of rows fifo b = replays_by (is_flagged table_option.name rows) (plans_given (replay_options false rows) fifo) b (number_given top_option.name rows) (form_asked rows)

abbrev pub one_replay_of : List Row → FifoExpire → Result Written Refusal
one_replay_of rows fifo = one_replay_by (asks_rows rows) (is_flagged table_option.name rows) fifo (sched_given (replay_options false rows))

-- replays under each setting of a grid, which have no table
abbrev pub grid_replays_by : Bool → ReplayBy → Option ℕ → Option ℕ → Form → Result Written Refusal
grid_replays_by true b top threads f = Err refusal.GridTable
grid_replays_by false b top threads f = Ok (written.Kept (kept.Grid (record { by = b; top = top; threads = threads; form = f })))

abbrev pub grid_replays : List Row → ReplayBy → Result Written Refusal
grid_replays rows b = grid_replays_by (is_flagged table_option.name rows) b (number_given top_option.name rows) (number_given threads_option.name rows) (form_asked rows)

-- what is replayed without a grid, where no number of threads is given
abbrev pub replays_with : List Row → Option FifoExpire → ReplayBy → Result Written Refusal
replays_with rows None b = Err refusal.ListAlone
replays_with rows (Some f) b = if is_given replay_sched_option.name rows then one_replay_of rows f else replays_of rows f b

abbrev pub single_replays_by : Option ℕ → List Row → Option FifoExpire → ReplayBy → Result Written Refusal
single_replays_by (Some n) rows fifo b = Err refusal.NoGridThreads
single_replays_by None rows fifo b = replays_with rows fifo b

abbrev pub single_replays : List Row → Option FifoExpire → ReplayBy → Result Written Refusal
single_replays rows fifo b = single_replays_by (number_given threads_option.name rows) rows fifo b

-- what is replayed and how it is written, or the refusal of the first option of it that can't be done
abbrev pub replaying_unless : Option ListFault → List Row → Bool → Option FifoExpire → ReplayBy → Result Written Refusal
replaying_unless (Some fault) rows grid fifo b = Err (refusal.Lists fault)
replaying_unless None rows grid fifo b = if grid then grid_replays rows b else single_replays rows fifo b

abbrev pub replaying_in : List Row → Bool → Option FifoExpire → ReplayBy → Result Written Refusal
replaying_in rows grid fifo b = replaying_unless (list_fault (replay_options grid rows)) rows grid fifo b

abbrev pub replaying_by : List Row → Option (List ℕ) → Option (List ℕ) → Option ReplayBy → Result Written Refusal
replaying_by rows None writes b = Err refusal.FifoReadExpire
replaying_by rows (Some rs) None b = Err refusal.FifoWriteExpire
replaying_by rows (Some rs) (Some ws) None = Err refusal.ReplayBy
replaying_by rows (Some rs) (Some ws) (Some b) = replaying_in rows (is_flagged grid_option.name rows) (one_fifo rs ws) b

abbrev pub replaying_of : List Row → Result Written Refusal
replaying_of rows = replaying_by rows (times_given fifo_read_expire_option.name rows) (times_given fifo_write_expire_option.name rows) (replay_by_given rows)

-- a trial, or the refusal of the first option of it that can't be done
abbrev pub tune_by : Option ListFault → Option RankBy → Option ℕ → Option ℕ → Form → Job
tune_by (Some r) b top threads f = job.Refuse (refusal.Lists r)
tune_by None None top threads f = job.Refuse refusal.By
tune_by None (Some b) top threads f = job.Tune (record { by = b; top = top; threads = threads; form = f })

abbrev pub tune_job : List Row → Job
tune_job rows = tune_by (list_fault (given_options rows)) (by_given rows) (number_given top_option.name rows) (number_given threads_option.name rows) (form_asked rows)

abbrev pub replay_job : List Row → Job
replay_job rows = import_with (replaying_of rows) rows

-- the job of `oracle` by whether its flags are given, the first two of which may not stand together, nor the last without the first
abbrev pub oracle_job : Bool → Bool → Bool → Option Job
oracle_job trace met json =
    if trace && met then None
    else (if trace then Some (of_trace (telling.Figures figures.Report (form_by json)))
    else (if json then Some (job.Refuse refusal.JsonAlone)
    else (if met then Some (of_list solving.Most) else Some (of_list solving.Least))))

abbrev pub oracle_given : List Row → Option Job
oracle_given rows = oracle_job (is_flagged trace_option.name rows) (is_flagged met_option.name rows) (is_flagged json_option.name rows)

-- the job that a subcommand makes of what its options are given
abbrev pub job_made : JobKind → List Row → Option Job
job_made (makes.Told t) rows = Some (of_trace t)
job_made makes.Explain rows = Some job.Explain
job_made (makes.Formed k) rows = Some (of_trace (telling.Figures k (form_asked rows)))
job_made makes.Sim rows = option_map (λ s. of_script (running.One s)) (sched_asked rows)
job_made makes.Compare rows = compared (form_asked rows) (lineup_asked rows)
job_made makes.Tune rows = Some (tune_job rows)
job_made makes.Picture rows = picture_given rows
job_made makes.Oracle rows = oracle_given rows
job_made makes.Check rows = Some (job.OfText (text_job.Check (form_asked rows)))
job_made makes.Import rows = Some (import_job rows)
job_made makes.Blame rows = Some (blame_job rows)
job_made makes.Replay rows = Some (replay_job rows)
job_made makes.Judge rows = Some (job.OfText (text_job.Judge (is_flagged each_option.name rows)))
job_made makes.Load rows = load_given rows

-- the job of the subcommand of a name, by what its options are given
abbrev pub job_of : Text × List Row → Option Job
job_of p = option_and_then (λ s. job_made s.makes p.1) (find (λ s. bytes_eq p.0 s.name) command_table)

-- the job that the command line reads in words
abbrev pub job_read : Names → List Text → Option Job
job_read names words = option_and_then job_of (subcommand_of (blk_app names) words)

-- the command line takes the words for this job, or they ask for the version
abbrev pub TakesFor : Names → List Text → Job → Type 0
TakesFor names words j =
    ((fault_of (blk_app names) words ≡ []) × (job_read names words ≡ Some j))
    ⊎ (IsAmong kind.DisplayVersion (fault_of (blk_app names) words) × (j ≡ job.Version))

-- the command line finds a fault in the words, which is no question for the version
abbrev pub FindsFault : Names → List Text → Type 0
FindsFault names words = (k : ErrorKind) × IsAmong k (fault_of (blk_app names) words) × (k ≢ kind.DisplayVersion)

-- it finds none, and reads no job in them
abbrev pub ReadsNone : Names → List Text → Type 0
ReadsNone names words = (fault_of (blk_app names) words ≡ []) × (job_read names words ≡ None)

-- the words ask for this job
abbrev pub Asks : List Text → Job → Type 0
Asks words j = (names : Names) × AreNames names × TakesFor names words j

-- the words ask for nothing: they have a fault, or name no job
abbrev pub AreFaulty : List Text → Type 0
AreFaulty words = (names : Names) × AreNames names × FindsFault names words

abbrev pub NameNone : List Text → Type 0
NameNone words = (names : Names) × AreNames names × ReadsNone names words

-- why there is no job
abbrev pub IsNoJob : List Text → NoJob → Type 0
IsNoJob words no.Memory = ⊤
IsNoJob words (no.Usage text) = AreFaulty words
IsNoJob words no.Nothing = NameNone words

-- the grid by what the options of a subcommand are given, and the one that the command line reads in words
abbrev pub grid_behind : Option (Text × List Row) → Option (List Sched)
grid_behind p = option_and_then (λ p. grid_given (given_options p.1)) p

abbrev pub grid_read : Names → List Text → Option (List Sched)
grid_read names words = grid_behind (subcommand_of (blk_app names) words)

-- the words ask for a trial of this grid, whose lists are those of their options, or else those of the whole grid
abbrev pub AsksGrid : List Text → List Sched → Type 0
AsksGrid words g = (names : Names) × AreNames names × (fault_of (blk_app names) words ≡ []) × (grid_read names words ≡ Some g)

-- they ask for none: they have a fault, or the command line reads no grid in them
abbrev pub AsksNoGrid : List Text → Type 0
AsksNoGrid words = (names : Names) × AreNames names × ((fault_of (blk_app names) words ≢ []) ⊎ (grid_read names words ≡ None))

-- the replays by what the options of a subcommand are given, those that the command line reads in words, and words that ask for these, or for none
abbrev pub plans_by : Option (List ℕ) → Option (List ℕ) → Option (List Sched) → Option (List Plan)
plans_by reads writes scheds = option_and_then (λ rs. option_and_then (λ ws. option_map (λ ss. plans_tried ss rs ws) scheds) writes) reads

abbrev pub plans_by_options : List Row → Option (List Plan)
plans_by_options rows = plans_by (times_given fifo_read_expire_option.name rows) (times_given fifo_write_expire_option.name rows) (grid_given (replay_options true rows))

abbrev pub plans_behind : Option (Text × List Row) → Option (List Plan)
plans_behind p = option_and_then (λ p. plans_by_options p.1) p

abbrev pub plans_read : Names → List Text → Option (List Plan)
plans_read names words = plans_behind (subcommand_of (blk_app names) words)

abbrev pub AsksPlans : List Text → List Plan → Type 0
AsksPlans words plans = (names : Names) × AreNames names × (fault_of (blk_app names) words ≡ []) × (plans_read names words ≡ Some plans)

abbrev pub AsksNoPlans : List Text → Type 0
AsksNoPlans words = (names : Names) × AreNames names × ((fault_of (blk_app names) words ≢ []) ⊎ (plans_read names words ≡ None))
