use Rattle.std.proofs.Common.{refl}
use Rattle.blk_trace_state.specs.Replay.{replay, replay_from, first_broken, obeys}
use Rattle.blk_trace.specs.Meaning.{rising}
use Rattle.blk_bio.specs.Requests.{last_of}
use Rattle.blk_trace_state.proofs.worked_rows.Goals as goal

pub returns : goal.returns
unfolding replay replay_from first_broken obeys rising last_of
returns c = record { rows = refl; late = refl; long = (refl, refl, refl, refl, refl, refl, refl, refl, refl, refl) }
