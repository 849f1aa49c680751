-- Issues, one event after the other.
use Rattle.std.specs.Prelude.{ℕ, ◌==◌, ◌&&◌, cond, List, Option, Some, None}
use Rattle.edd_commands.specs.declared.Command.{Command}
use Rattle.blk_trace.specs.declared.issued.Outcome.{Outcome}
use Rattle.blk_trace.specs.declared.issued.Issued.{Issued}
use Rattle.blk_trace.specs.Happened.{Happened}
use Rattle.blk_trace.specs.Setups.{Setup}
use Rattle.blk_trace.specs.Meaning.{command_of}
use Rattle.blk_trace.specs.Issues.{flies, was_requeued}

-- the Issue that is in flight under the tag comes to this end, every other stays
abbrev pub ended_by : ℕ → Outcome → Issued → Issued
ended_by tag outcome i = cond (flies i.outcome && (tag == i.tag)) (record { round = i.round; id = i.id; tag = i.tag; outcome = outcome }) i

-- the command of an Issue, unless it was requeued
abbrev pub command_in : Setup → List Happened → Issued → Option Command
command_in setup events i = cond (was_requeued i.outcome) None (Some (command_of setup events i.id))

-- its round, unless it was requeued
abbrev pub round_in : Issued → Option ℕ
round_in i = cond (was_requeued i.outcome) None (Some i.round)
