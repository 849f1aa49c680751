use Rattle.std.proofs.Common.{◌≡◌, ◌≤◌, ◌<◌, ℕ, ◌⊎◌, get_or}
use Rattle.edd_oracle.specs.declared.cover.Served.{Served}
use Rattle.edd_verdict.proofs.tight.latest_due.Given as goal

abbrev pub invariant-loop-place : goal.invariant-loop-place
invariant-loop-place l = record {
  most : (k : ℕ) (e : Served) → l.first ≤ k → k < l.place → (get_or l.served k e).due ≤ l.due;
  best : ℕ;
  low : l.first ≤ best;
  high : (best < l.place) ⊎ (best ≡ l.first);
  reached : (e : Served) → (get_or l.served best e).due ≡ l.due;
}
