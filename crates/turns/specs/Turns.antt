-- What comes of runs, and why not all of them have an answer.
use Rattle.std.specs.Prelude.{◌≡◌, ◌<◌, ⊤, ℕ, List, Result, Ok, Err, length, slice_index_or}
use denote.Param.Members.{Shared}
use Rattle.turns.specs.declared.walk.Stopped.{Stopped}
use Rattle.turns.specs.declared.walk.Stopped.TheVariants as stopped

module _ {F X E : Type 0} (g : Shared F (ℕ × Unit {0}) (Result X E)) (f : F) where
  -- so many runs, each with what it answers
  pub record HaveRun (n : ℕ) (rows : List X) : Type 0 where
    pub each : length rows ≡ n
    pub ran : (i : ℕ) (d : X) → i < n → g.post f (i, tt) (Ok (slice_index_or rows i d))

  -- one of them is refused, and those before it are not
  pub record IsFirstStopped (n : ℕ) (e : E) : Type 0 where
    pub before : List X
    pub within : length before < n
    pub ran : HaveRun (length before) before
    pub refused : g.post f (length before, tt) (Err e)

  -- or memory ran out
  abbrev pub HasStopped : ℕ → Stopped E → Type 0
  HasStopped n (stopped.Refused e) = IsFirstStopped n e
  HasStopped n stopped.Memory = ⊤
