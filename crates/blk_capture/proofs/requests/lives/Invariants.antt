use Rattle.std.proofs.Common.{◌≡◌, ◌<◌, ℕ, length, drop, get_or}
use Rattle.blk_capture.specs.Settled.{ends_in}
use Rattle.blk_capture.specs.declared.requests.MergeRoot.{MergeRoot}
use Rattle.blk_capture.proofs.requests.lives.Given as goal

abbrev pub invariant-loop-root : goal.invariant-loop-root
invariant-loop-root g l = record {
  each : length l.lives.items ≡ l.root;
  own : (k : ℕ) (d : MergeRoot) → k < l.root → (get_or l.lives.items k d).root ≡ k;
}

abbrev pub invariant-loop-place : goal.invariant-loop-place
invariant-loop-place g l = record {
  each : length l.lives.items ≡ l.count;
  roots : (k : ℕ) (d : MergeRoot) → k < length l.lives.items → (get_or l.lives.items k d).root ≡ ends_in (drop l.place l.absorptions) k;
}
