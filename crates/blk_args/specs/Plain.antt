-- Lines as a person types them, and the jobs that they ask for.
use Rattle.std.specs.Prelude.{◌≡◌, ◌↔◌, ◌==◌, ◌∷◌, [], List, true, false, None, Some, codes}
use Prim.Native.String.{String}
use Rattle.std.specs.List.{slice_split}
use Rattle.clap.specs.Words.{Text}
use Rattle.blk_schedulers.specs.declared.grid.RankBy.TheVariants as by
use Rattle.blk_schedulers.specs.Defaults.{deadline_grid, none_and_deadline}
use Rattle.blk_schedulers.specs.declared.sched.Sched.{Sched}
use Rattle.blk_schedulers.specs.Options.{default_number}
use Rattle.blk_schedulers.specs.declared.numbers.Load.{Load}
use Rattle.blk_schedulers.specs.declared.form.Form.{Form}
use Rattle.blk_schedulers.specs.declared.form.Form.TheVariants as form
use Rattle.blk_recorders.specs.declared.detect.CaptureForm.TheVariants.{Printed}
use Rattle.blk_recorders.specs.declared.recorder.Recorder.TheVariants.{Perf}
use Rattle.blk_args.specs.declared.words.CaptureSource.{CaptureSource}
use Rattle.blk_args.specs.declared.words.Import.{Import}
use Rattle.blk_args.specs.declared.words.Job.{Job}
use Rattle.blk_args.specs.declared.words.Job.TheVariants as job
use Rattle.blk_args.specs.declared.words.Written.{Written}
use Rattle.blk_args.specs.declared.words.Kept.TheVariants as kept
use Rattle.blk_args.specs.declared.words.Written.TheVariants as written
use Rattle.blk_args.specs.Options.{submitters_option, workers_option, bios_option, load_depth_option, service_option}
use Rattle.blk_args.specs.Asked.{Asks, AsksGrid}

-- the words of a line behind the program's name, with a space between
abbrev pub words_in : String → List Text
words_in line = slice_split (λ c. c == 32) (codes line)

-- whatever the program's name, the line asks for this job and for no other; for this grid and for no other; for nothing
abbrev pub AsksFor : String → Job → Type 0
AsksFor line job = (name : Text) → (j : Job) → Asks (name ∷ words_in line) j ↔ (j ≡ job)

abbrev pub AsksForGrid : String → List Sched → Type 0
AsksForGrid line grid = (name : Text) → (g : List Sched) → AsksGrid (name ∷ words_in line) g ↔ (g ≡ grid)

abbrev pub AsksForNothing : String → Type 0
AsksForNothing line = (name : Text) → (j : Job) → Asks (name ∷ words_in line) j → ⊥

-- a trial of the whole grid where no option says how; and one of the five best by lateness, four runs side by side
abbrev pub default_trial : Form → Job
default_trial f = job.Tune (record { by = by.Misses; top = None; threads = None; form = f })

abbrev pub five_by_lateness : Job
five_by_lateness = job.Tune (record { by = by.Lateness; top = Some 5; threads = Some 4; form = form.Lines })

-- a grid of lists of its own, and one of both rules for positions
abbrev pub own_grid : List Sched
own_grid = none_and_deadline (16 ∷ 1 ∷ []) (3 ∷ [])

abbrev pub both_positions : List Sched
both_positions = deadline_grid (1 ∷ []) (0 ∷ []) (1 ∷ 0 ∷ [])

-- an import of all requests where no option says how, in nanoseconds; and one of the first 100 that went out after 2 ms, from when they
-- were queued, reads due after 150 us
abbrev pub any_source : CaptureSource
any_source = record { form = None; device = None; tags = None }

abbrev pub whole_import : Written → Import
whole_import w = record { read_expire = 500_000_000; write_expire = 5_000_000_000; from_queue = false; source = any_source; skip = 0; first = None; written = w }

abbrev pub by_perf : Import
by_perf = record { read_expire = 8_000; write_expire = 5_000_000_000; from_queue = true; source = record { form = Some (Printed Perf); device = Some (record { major = 8; minor = 0 }); tags = None }; skip = 1_000_000_000; first = Some 9; written = (written.Kept kept.Table) }

-- a load where no option sets it
abbrev pub default_load : Load
default_load = record {
  submitters = default_number submitters_option;
  workers = default_number workers_option;
  bios = default_number bios_option;
  depth = default_number load_depth_option;
  busy = None;
  service = default_number service_option;
}
