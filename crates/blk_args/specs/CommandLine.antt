-- The command line, as data.
use Rattle.std.specs.Prelude.{◌≡◌, ◌++◌, ℕ, pos, List, Some, [], ◌∷◌, codes, map, fold, true}
use Rattle.std.specs.Borrow.{Bor}
use Rattle.clap.specs.Words.{App, Rule, Text, new_app, new_rule, with_rule, with_subcommand}
use Rattle.clap.specs.declared.builder.ArgAction.TheVariants.{Set, SetTrue}
use Rattle.clap.specs.declared.builder.value_parser.ValueParser.{ValueParser}
use Rattle.clap.specs.declared.builder.value_parser.ValueParser.TheVariants as vp
use Rattle.blk_schedulers.specs.declared.given.TheConstants.{MAX_SHORT}
use Rattle.blk_schedulers.specs.Options.{OptionKind, Flag, Name, Short, Number, MaybeNumber, Words, MaybeWords, PositionName, OptionOf, sched_names, position_names, sched_option, flags, tuning, listing}
use Rattle.blk_schedulers.specs.Plans.{text_options}
use Rattle.blk_args.specs.declared.table.FiguresAsked.{FiguresAsked}
use Rattle.blk_args.specs.declared.table.FiguresAsked.TheVariants as figures
use Rattle.blk_args.specs.declared.inputs.TraceOutput.TheVariants as telling
pub use Rattle.blk_args.specs.declared.command.Names.{Names}
use Rattle.blk_args.specs.declared.table.JobKind.{JobKind}
use Rattle.blk_args.specs.declared.table.JobKind.TheVariants as makes
use Rattle.blk_args.specs.Options.{json_option, picture_option, schedule_option, script_option, trace_option, times_option, by_option, top_option, threads_option, met_option, each_option, read_expire_option, write_expire_option, from_option, as_option, device_option, tags_option, skip_option, first_option, all_option, certificate_option, tightest_option, for_option, blame_by_option, table_option, summary_option, round_option, depth_option, submitters_option, workers_option, bios_option, load_depth_option, busy_option, service_option, replay_sched_option, fifo_read_expire_option, fifo_write_expire_option, replay_by_option, grid_option}

-- texts behind references
abbrev pub Texts : Type 0
Texts = Bor (List (Bor Text))

-- names are those of the schedulers, and those of positions
abbrev pub AreNames : Names → Type 0
AreNames names = (map (λ name. name.now) names.scheds.now ≡ sched_names) × (map (λ name. name.now) names.positions.now ≡ position_names)

-- an option that takes one of these names, with a default
abbrev pub name_rule : Text → Texts → Text → Rule
name_rule name names default = record (new_rule name) { long = Some name; action = Some Set; parser = Some (vp.Names names); defaults = default ∷ [] }

-- an option that takes a number, with a default and without
abbrev pub number_rule : Text → ValueParser → Text → Rule
number_rule name parser default = record (new_rule name) { long = Some name; action = Some Set; parser = Some parser; defaults = default ∷ [] }

abbrev pub maybe_rule : Text → ValueParser → Rule
maybe_rule name parser = record (new_rule name) { long = Some name; action = Some Set; parser = Some parser }

-- an option that takes a text, with a default
abbrev pub text_rule : Text → Text → Rule
text_rule name default = record (new_rule name) { long = Some name; action = Some Set; parser = Some vp.String; defaults = default ∷ [] }

-- and without
abbrev pub maybe_text_rule : Text → Rule
maybe_text_rule name = record (new_rule name) { long = Some name; action = Some Set; parser = Some vp.String }

-- a flag
abbrev pub flag_rule : Text → Rule
flag_rule name = record (new_rule name) { long = Some name; action = Some SetTrue }

-- a number of 16 bits
abbrev pub short : ValueParser
short = vp.Signed (pos 0) (pos MAX_SHORT)

-- an option of a kind
abbrev pub kind_rule : Names → Text → OptionKind → Rule
kind_rule names name Flag = flag_rule name
kind_rule names name (Name default) = name_rule name names.scheds default
kind_rule names name (Short default) = number_rule name short default
kind_rule names name (Number least most default) = number_rule name (vp.Unsigned least most) default
kind_rule names name (MaybeNumber least most) = maybe_rule name (vp.Unsigned least most)
kind_rule names name (Words default) = text_rule name default
kind_rule names name MaybeWords = maybe_text_rule name
kind_rule names name (PositionName default) = name_rule name names.positions default

abbrev pub option_rule : Names → OptionOf → Rule
option_rule names o = kind_rule names o.name o.kind

-- a subcommand: its name, its options, what these make, and its place in the order in which those that take a text are named
pub record Subcommand : Type 0 where
  pub name : Text
  pub options : List OptionOf
  pub makes : JobKind
  pub place : ℕ

-- one with these options, and one without any
abbrev pub taking : Text → List OptionOf → JobKind → ℕ → Subcommand
taking name options m place = record { name = name; options = options; makes = m; place = place }

abbrev pub plain : Text → JobKind → ℕ → Subcommand
plain name m place = taking name [] m place

-- one over a trace, whose one option is the flag that asks for JSON
abbrev pub formed : Text → FiguresAsked → ℕ → Subcommand
formed name k place = taking name (json_option ∷ []) (makes.Formed k) place

-- how the rows of a trial are put in order, how many are written, and how many runs go side by side
abbrev pub trying : List OptionOf
trying = by_option ∷ top_option ∷ threads_option ∷ json_option ∷ []

-- which requests of a capture are taken, and when they came in and are due
abbrev pub capturing : List OptionOf
capturing =
    read_expire_option ∷ write_expire_option ∷ from_option ∷ as_option ∷ device_option ∷ tags_option ∷ skip_option ∷ first_option ∷ []

-- how they are imported, how they are blamed, and how they are replayed
abbrev pub importing : List OptionOf
importing = capturing ++ table_option ∷ summary_option ∷ script_option ∷ round_option ∷ depth_option ∷ []

abbrev pub blaming : List OptionOf
blaming = capturing ++ each_option ∷ certificate_option ∷ tightest_option ∷ for_option ∷ picture_option ∷ blame_by_option ∷ top_option ∷ all_option ∷ json_option ∷ []

abbrev pub replaying : List OptionOf
replaying =
    capturing ++ fifo_read_expire_option ∷ fifo_write_expire_option ∷ replay_sched_option ∷ grid_option ∷ table_option ∷ replay_by_option ∷ top_option ∷ threads_option ∷ json_option ∷ text_options

-- how much load there is
abbrev pub amount_options : List OptionOf
amount_options = submitters_option ∷ workers_option ∷ bios_option ∷ load_depth_option ∷ busy_option ∷ service_option ∷ []

-- the subcommands over scripts and over traces
abbrev pub run_table : List Subcommand
run_table =
    taking (codes "sim") (sched_option ∷ tuning) makes.Sim 0
    ∷ taking (codes "compare") (flags ++ json_option ∷ tuning) makes.Compare 1
    ∷ taking (codes "tune") (listing ++ trying) makes.Tune 9
    ∷ plain (codes "migrate") (makes.Told telling.Whole) 7
    ∷ plain (codes "commands") (makes.Told telling.Commands) 6
    ∷ formed (codes "late") figures.Late 4
    ∷ formed (codes "misses") figures.Misses 5
    ∷ formed (codes "spread") figures.Spread 3
    ∷ taking (codes "picture") (script_option ∷ schedule_option ∷ (flags ++ tuning)) makes.Picture 8
    ∷ []

-- the others: over command lists and certificates, over captures and schedules, over texts of any form, and over the running layer
abbrev pub other_table : List Subcommand
other_table =
    taking (codes "oracle") (trace_option ∷ met_option ∷ json_option ∷ []) makes.Oracle 2
    ∷ taking (codes "check") (json_option ∷ []) makes.Check 10
    ∷ taking (codes "import") importing makes.Import 12
    ∷ taking (codes "judge") (each_option ∷ []) makes.Judge 11
    ∷ plain (codes "explain") makes.Explain 13
    ∷ taking (codes "load") (sched_option ∷ trace_option ∷ json_option ∷ times_option ∷ (amount_options ++ tuning)) makes.Load 14
    ∷ taking (codes "blame") blaming makes.Blame 15
    ∷ taking (codes "replay") replaying makes.Replay 16
    ∷ []

-- all of them
abbrev pub command_table : List Subcommand
command_table = run_table ++ other_table

-- the version of the program
abbrev pub program_version : Text
program_version = codes "1.0.0"

-- a command with a version, which wants a subcommand
abbrev pub topmost : App → App
topmost a = record a { top = record a.top { has_version = true; subcommand_required = true } }

-- a command with one option more, a subcommand as a command of its own, and a command with one more of these
abbrev pub with_option : Names → App → OptionOf → App
with_option names a o = with_rule a (option_rule names o)

abbrev pub app_for : Names → Subcommand → App
app_for names s = fold (with_option names) (new_app s.name) s.options

abbrev pub with_one : Names → App → Subcommand → App
with_one names a s = with_subcommand a (app_for names s).top

-- the command and its subcommands
abbrev pub blk_app : Names → App
blk_app names = fold (with_one names) (topmost (new_app (codes "blk"))) command_table
