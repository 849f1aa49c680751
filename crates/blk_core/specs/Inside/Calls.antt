-- What a dispatch takes.
use Rattle.std.specs.Prelude.{ℕ, List}
use Rattle.blk_sched.specs.Meaning.{Waiting, Meaning}
use Rattle.blk_sched.specs.Policies.{Policy}
use Rattle.blk_queues.specs.Requeued.{requeued_in}
use Rattle.blk_core.specs.Calls.{SendsFrom}

-- which request goes to the device for a hardware queue, by what a scheduler of a policy means and keeps, before and after
abbrev pub Dispatches : {S : Type 0} → Policy → (S → Meaning) → (S → List ℕ) → ℕ → ℕ → S → List (List Waiting) → Waiting → S → List (List Waiting) → Type 0
Dispatches policy meaning kept hw round old requeue_lists w new new_lists =
    SendsFrom policy.serves policy.chooses hw round (requeued_in requeue_lists hw) (meaning old) (kept old) requeue_lists w (meaning new) (kept new) new_lists
