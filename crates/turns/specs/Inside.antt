-- The runs of one thread, of every so-many-th place.
use Rattle.std.specs.Prelude.{ℕ, ◌≤◌, ◌<◌, ◌+◌, ◌*◌, List, Result, IfOk, length, slice_index_or}
use denote.Param.Members.{Shared}

module _ {F X E : Type 0} (g : Shared F (ℕ × Unit {0}) (Result X E)) (f : F) where
  -- each of these answers is that of its run
  abbrev pub AreAnswers : ℕ → ℕ → List (Result X E) → Type 0
  AreAnswers from step all = (k : ℕ) (e : Result X E) → k < length all → g.post f (from + k * step, tt) (slice_index_or all k e)

  -- and none is missing below a place
  pub record IsThreadShare (from until step : ℕ) (all : List (Result X E)) : Type 0 where
    pub each : AreAnswers from step all
    pub whole : until ≤ from + length all * step

  -- of n shares the i-th has the runs i, i + n, i + 2n and so on, unless it ran out of memory
  abbrev pub AreShares : {S R : Type 0} → (S → List (Result X E)) → ℕ → ℕ → ℕ → List (Result S R) → Type 0
  AreShares {S} {R} items from until step shares =
      (i : ℕ) (e : Result S R) → i < step → IfOk (slice_index_or shares i e) (λ one. IsThreadShare (from + i) until step (items one))
