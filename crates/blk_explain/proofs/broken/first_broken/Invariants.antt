use Rattle.std.proofs.Common.{◌<◌, ℕ}
use Rattle.csv.specs.Records.{fields_of}
use Rattle.blk_explain.specs.Broken.{IsKeptAt}
use Rattle.blk_explain.proofs.broken.first_broken.Given as goal

abbrev pub invariant-loop-place : goal.invariant-loop-place
invariant-loop-place l = (j : ℕ) → j < l.place → IsKeptAt (fields_of l.title) l.kind l.why (fields_of l.row) j
