-- What a simulation holds between two steps.
use Rattle.std.specs.Prelude.{ℕ, List, [], None, replicate}
use Rattle.blk_bio.specs.Limits.{Limits}
use Rattle.blk_queues.specs.Plugs.{Plug}
use Rattle.blk_queues.specs.Queues.{Queue}
use Rattle.blk_sched.specs.Meaning.{Meaning}
use Rattle.blk_core.specs.State.{CoreState}
use Rattle.blk_text.specs.Script.{Scripted}

-- a simulation: the submitters' plugs, their software queues, and the core
pub record SimState : Type 0 where
  pub plugs : List Plug
  pub queues : List Queue
  pub core : CoreState

-- a plug and a software queue without requests
abbrev pub empty_plug : Limits → Plug
empty_plug limits = record { limits = limits; requests = [] }

abbrev pub empty_queue : ℕ → Limits → Queue
empty_queue depth limits = record { depth = depth; limits = limits; requests = []; bios_in = 0; bios_out = 0 }

-- before a script's first step: nothing is anywhere, nothing happened, and nothing is in flight
abbrev pub start_of : Scripted → Meaning → List ℕ → SimState
start_of script meaning kept = record {
  plugs = replicate script.submitters (empty_plug script.setup.limits);
  queues = replicate script.submitters (empty_queue script.soft_depth script.setup.limits);
  core = record { setup = script.setup; events = []; meaning = meaning; kept = kept; flights = replicate script.setup.depth None; requeued = replicate script.setup.hw [] };
}
