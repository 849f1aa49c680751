use Rattle.std.proofs.Common.{◌≡◌, map, take}
use Rattle.edd_figures.specs.Answers.{crowd_row}
use Rattle.edd_figures.proofs.answers.crowd_rows.Given as goal

-- the rows so far
abbrev pub invariant-loop-crowd : goal.invariant-loop-crowd
invariant-loop-crowd l = l.rows.items ≡ map (λ c. crowd_row c) (take l.crowd-index l.crowds)
