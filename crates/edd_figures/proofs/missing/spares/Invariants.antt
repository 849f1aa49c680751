use Rattle.std.proofs.Common.{◌≡◌, ◌≤◌, take}
use Rattle.edd_verdict.specs.Verdicts.{spares_in}
use Rattle.edd_figures.proofs.missing.spares.Given as goal

-- the spare ones so far
abbrev pub invariant-loop-verdict : goal.invariant-loop-verdict
invariant-loop-verdict l = record {
  few : l.count ≤ l.verdict-index;
  so_far : l.count ≡ spares_in (take l.verdict-index l.verdicts);
}
