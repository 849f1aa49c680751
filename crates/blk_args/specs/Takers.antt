-- Which subcommands take a kind of text, and how they are named.
use Rattle.std.specs.Prelude.{ℕ, ◌≡◌, ◌≢◌, ◌↔◌, ◌==◌, ◌++◌, List, Option, None, Some, codes, filter, length, if◌then◌else◌}
use Rattle.std.specs.List.{flat_map, range_with_len}
use Rattle.std.specs.Option.{option_to_list}
use Rattle.std.specs.Str.{bytes_eq}
use Rattle.clap.specs.Words.{Row, Text}
use Rattle.blk_args.specs.declared.inputs.TextKind.{TextKind}
use Rattle.blk_args.specs.declared.inputs.TextKind.TheVariants as kind
use Rattle.blk_args.specs.declared.table.JobKind.{JobKind}
use Rattle.blk_args.specs.declared.table.JobKind.TheVariants as makes
use Rattle.blk_args.specs.declared.inputs.TextJob.TheVariants as text_job
use Rattle.blk_args.specs.declared.words.Job.{Job}
use Rattle.blk_args.specs.declared.words.Job.TheVariants as job
use Rattle.blk_args.specs.Asked.{job_made}
use Rattle.blk_args.specs.CommandLine.{Subcommand, command_table}
use Rattle.blk_args.specs.Options.{schedule_option, script_option, trace_option}

-- a name with a flag behind it
abbrev pub name_with : Text → Text → Text
name_with flag name = (name ++ codes " --") ++ flag

-- how the subcommand of a name that makes this is named as one that takes a text of this kind, if it does
abbrev pub takes_as : JobKind → TextKind → Text → Option Text
takes_as makes.Sim kind.Script name = Some name
takes_as makes.Compare kind.Script name = Some name
takes_as makes.Tune kind.Script name = Some name
takes_as makes.Picture kind.Script name = Some (name_with script_option.name name)
takes_as makes.Picture kind.Trace name = Some name
takes_as makes.Picture kind.Schedule name = Some (name_with schedule_option.name name)
takes_as (makes.Told t) kind.Trace name = Some name
takes_as (makes.Formed k) kind.Trace name = Some name
takes_as makes.Oracle kind.Trace name = Some (name_with trace_option.name name)
takes_as makes.Oracle kind.Commands name = Some name
takes_as makes.Check kind.Certificate name = Some name
takes_as makes.Judge kind.Schedule name = Some name
takes_as makes.Import kind.Capture name = Some name
takes_as makes.Blame kind.Capture name = Some name
takes_as makes.Replay kind.Capture name = Some name
takes_as m i name = None

abbrev pub taker : TextKind → Subcommand → Option Text
taker i s = takes_as s.makes i s.name

-- those of a place, and all in the order of their places
abbrev pub at_place : ℕ → List Subcommand → List Subcommand
at_place place subcommands = filter (λ s. s.place == place) subcommands

abbrev pub named_in_order : List Subcommand
named_in_order = flat_map (λ place. at_place place command_table) (range_with_len 0 (length command_table))

-- those that take a text of this kind, but the one of a name
abbrev pub taker_but : TextKind → Text → Subcommand → Option Text
taker_but i but s = if bytes_eq s.name but then None else taker i s

abbrev pub takers : TextKind → Text → List Text
takers i but = flat_map (λ s. option_to_list (taker_but i but s)) named_in_order

-- the kind of text that a job reads, if it reads texts of one kind
abbrev pub kind_read : Job → Option TextKind
kind_read (job.OfText (text_job.OfScript r)) = Some kind.Script
kind_read (job.OfText (text_job.OfTrace t)) = Some kind.Trace
kind_read (job.OfText (text_job.OfList s)) = Some kind.Commands
kind_read (job.OfText (text_job.Check f)) = Some kind.Certificate
kind_read (job.OfText (text_job.Judge e)) = Some kind.Schedule
kind_read (job.OfText text_job.Draw) = Some kind.Schedule
kind_read (job.Tune t) = Some kind.Script
kind_read (job.Import i) = Some kind.Capture
kind_read j = None

-- what a subcommand makes can read texts of a kind: by some that its options are given it is a job that does
abbrev pub CanRead : JobKind → TextKind → Type 0
CanRead m i = (rows : List Row) × (j : Job) × (job_made m rows ≡ Some j) × (kind_read j ≡ Some i)

-- whatever its name, a subcommand takes what it reads, and nothing else
abbrev pub TakesWhatItReads : JobKind → TextKind → Type 0
TakesWhatItReads m i = (name : Text) → takes_as m i name ≢ None ↔ CanRead m i
