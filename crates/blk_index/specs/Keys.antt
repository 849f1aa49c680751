-- Requests that wait in the order of a key of each, as of a due round.
use Rattle.std.specs.Prelude.{ℕ, Bool, Option, option_map}
use Rattle.std.specs.Ordering.{nat_cmp, ordering_then}
use Rattle.std.specs.declared.cmp.Ordering.{Ordering}
use Rattle.ordered.specs.Ordered.{IsIndexOf}
use Rattle.blk_sched.specs.Meaning.{Waiting}

-- the key and the id of a request, if there is one
abbrev pub key_at : {K : Type 0} → (Waiting → K) → (ℕ → Option Waiting) → ℕ → Option (K × ℕ)
key_at key pending id = option_map (λ w. (key w, id)) (pending id)

module _ {K : Type 0} (cmp : K → K → Ordering) where
  -- a key and an id, in order
  abbrev pub keyed_cmp : K × ℕ → K × ℕ → Ordering
  keyed_cmp x y = ordering_then (cmp x.0 y.0) (nat_cmp x.1 y.1)

  -- each request that waits stands under its key and its id, and nothing else does
  abbrev pub AreKeyed : (Waiting → K) → (ℕ → Option Waiting) → (K × ℕ → Bool) → Type 0
  AreKeyed key pending has = IsIndexOf keyed_cmp (λ q. q.1) (key_at key pending) has
