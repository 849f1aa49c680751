-- What is said about a trace.
use Rattle.std.specs.Prelude.{◌≡◌, ⊤, ℕ, List}
use Rattle.edd_commands.specs.Capacity.{fixed}
use Rattle.blk_trace.specs.Depths.{IsFixed, capacity_of}
use Rattle.blk_trace.specs.Meaning.{commands_of}
use Rattle.blk_trace.specs.Traces.{Traced}
use Rattle.blk_records.specs.Commands.{SpellsCommands, commands_rows}
use Rattle.blk_records.specs.Texts.{rows_text}
use Rattle.blk_text.specs.TraceForm.{trace_rows, SpellsTraceIn}
use Rattle.blk_text.specs.declared.setup.TheConstants.{LATEST}
use Rattle.blk_cli.specs.Figures.{IsFiguresText}
use Rattle.blk_args.specs.declared.inputs.TraceOutput.{TraceOutput}
use Rattle.blk_args.specs.declared.inputs.TraceOutput.TheVariants as telling
use Rattle.blk_cli.specs.declared.failure.Failure.{Failure}
use Rattle.blk_cli.specs.declared.failure.Failure.TheVariants as failure
use Rattle.blk_cli.specs.Inputs.{IsMemory}

-- the text that spells the trace in the latest version
pub record IsTraceText (trace : Traced) (text : List ℕ) : Type 0 where
  pub spelled : SpellsTraceIn LATEST (trace_rows trace) trace
  pub is_text : text ≡ rows_text (trace_rows trace)

-- the trace's commands as a list at the setup's depth, which is that of each of its rounds
pub record IsCommandsText (trace : Traced) (text : List ℕ) : Type 0 where
  pub one_depth : capacity_of trace.setup trace.events ≡ fixed trace.setup.depth
  pub spelled : SpellsCommands (commands_rows trace.setup.depth (commands_of trace.setup trace.events)) trace.setup.depth (commands_of trace.setup trace.events)
  pub is_text : text ≡ rows_text (commands_rows trace.setup.depth (commands_of trace.setup trace.events))

-- what is said about a trace; what its picture shows, `drawing_of` of blk_picture says
abbrev pub IsTellingText : TraceOutput → Traced → List ℕ → Type 0
IsTellingText telling.Whole trace text = IsTraceText trace text
IsTellingText telling.Commands trace text = IsCommandsText trace text
IsTellingText telling.Picture trace text = ⊤
IsTellingText (telling.Figures asked f) trace text = IsFiguresText asked f trace text

-- why a trace has no command list: an event sets a depth
abbrev pub IsTraceCommandsFailure : Traced → Failure → Type 0
IsTraceCommandsFailure trace failure.NotFixed = IsFixed trace.events → ⊥
IsTraceCommandsFailure trace failure.Memory = ⊤
IsTraceCommandsFailure trace f = ⊥

-- why nothing is said about it
abbrev pub IsTraceOutputFailure : TraceOutput → Traced → Failure → Type 0
IsTraceOutputFailure telling.Commands trace f = IsTraceCommandsFailure trace f
IsTraceOutputFailure t trace f = IsMemory trace f
