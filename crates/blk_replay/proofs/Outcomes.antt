-- Waits of a direction.
use Rattle.std.proofs.Common.{◌≤◌, arith, List, length}
use Rattle.std.proofs.lemmas.List.{length-map}
use Rattle.std.proofs.lemmas.List.Sums.{length-filter, count_by-le-length}
use Rattle.std.specs.List.{filter}
use Rattle.blk_bio.specs.declared.bio.Dir.{Dir}
use Rattle.blk_capture.specs.Summaries.{goes}
use Rattle.blk_replay.specs.declared.figures.Outcome.{Outcome}
use Rattle.blk_replay.specs.Figures.{waits_by_clock}

pub few_waits : (dir : Dir) (outcomes : List Outcome) → length (waits_by_clock dir outcomes) ≤ length outcomes
few_waits dir outcomes = omega (arith, length-map (filter (λ (o : Outcome). goes o.dir dir) outcomes) (λ (o : Outcome). o.wait), length-filter (λ (o : Outcome). goes o.dir dir) outcomes, count_by-le-length (λ (o : Outcome). goes o.dir dir) outcomes)
