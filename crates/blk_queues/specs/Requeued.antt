-- Requeue lists: the requests that were requeued, by the hardware queue that had issued them.
use Rattle.std.specs.Prelude.{ℕ, ◌≡◌, Bool, List, [], ◌∷◌, length, count_by, slice_index_or, slice_set}
use Rattle.std.specs.List.{sum_by}
use Rattle.blk_sched.specs.Meaning.{Waiting}

-- the requests that were requeued from a hardware queue, in the order in which they were
abbrev pub requeued_in : List (List Waiting) → ℕ → List Waiting
requeued_in lists hw = slice_index_or lists hw []

-- how many requests are requeued
abbrev pub requeued_total : List (List Waiting) → ℕ
requeued_total lists = sum_by length lists

-- how many requeued requests pass a test
abbrev pub requeued_count : (Waiting → Bool) → List (List Waiting) → ℕ
requeued_count test lists = sum_by (λ list. count_by test list) lists

-- the first request of a hardware queue goes, and the others stay
abbrev pub TakesFirst : List (List Waiting) → ℕ → Waiting → List (List Waiting) → Type 0
TakesFirst old hw first new = (rest : List Waiting) × (requeued_in old hw ≡ first ∷ rest) × (new ≡ slice_set old hw rest)
