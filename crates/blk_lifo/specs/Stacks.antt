-- A list of requests, read as what waits.
use Rattle.std.specs.Prelude.{ℕ, ◌≡◌, List, map as each, Option, IfNone}
use Rattle.std.specs.FinMap as map
use Rattle.blk_sched.specs.Meaning.{Waiting, Pending, Meaning, ServesNothing}
use Rattle.blk_sched.specs.Policies.{Policy, choosing, serves_all}

-- it holds nothing back: None only where nothing waits; which one it hands out is the order of entry, which its meaning leaves out
abbrev pub lifo_chooses : List ℕ → Meaning → ℕ → ℕ → Option Waiting → List ℕ → Type 0
lifo_chooses kept m hw now answer after = IfNone answer (ServesNothing serves_all hw m) × (after ≡ kept)

-- its policy
abbrev pub lifo_policy : Policy
lifo_policy = choosing serves_all lifo_chooses

-- a request beside its id
abbrev pub named : Waiting → ℕ × Waiting
named w = (w.id, w)

-- the requests by their ids
abbrev pub by_id : List Waiting → Pending
by_id requests = map.from_entries (each named requests)
