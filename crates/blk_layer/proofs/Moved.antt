-- Requests that move one after the other.
use Rattle.std.proofs.Common.{◌≡◌, ◌∙◌, ◌+◌, ◌≤◌, ℕ, zero, suc, ap, sym, refl, arith, add-one, Bool, true, false, List, [], ◌∷◌, Result, Ok, Err, length}
use Rattle.blk_queues.specs.Queues.{Queue}
use Rattle.blk_sched.specs.Meaning.{Waiting}
use Rattle.blk_core.specs.declared.refusals.CoreFault.{CoreFault}
use Rattle.blk_core.specs.State.{CoreState}
use Rattle.blk_layer.specs.Submitting.{MovesSome, IsMoveAnswer, IsMoveAllAnswer}
use Rattle.blk_layer.specs.declared.submitting.DrainFault.{DrainFault}
use Rattle.blk_layer.proofs.Moving.{Stays, same_stays, move_stays}

-- this number of requests of the queue are moved, and the others are left; the limits of both stay the same
pub record IsMoving (serves : ℕ → Waiting → Bool) (queue : Queue) (core : CoreState) (map : List ℕ) (n : ℕ) (now : Queue) (after : CoreState) : Type 0 where
  pub some : MovesSome serves queue core map n now after
  pub count : n + length now.requests ≡ length queue.requests
  pub limits : now.limits ≡ after.setup.limits

pub none_moved : (serves : ℕ → Waiting → Bool) (queue : Queue) (core : CoreState) (map : List ℕ) (now : Queue) (after : CoreState) → now ≡ queue → after ≡ core → queue.limits ≡ core.setup.limits
    → IsMoving serves queue core map 0 now after
unfolding MovesSome
none_moved serves queue core map now after e f same = rw (e, f) (record { some = (refl, refl); count = omega arith; limits = same })

pub moved_on : (serves : ℕ → Waiting → Bool) (queue : Queue) (core : CoreState) (map : List ℕ) (n : ℕ) (now : Queue) (after : CoreState) (new_now : Queue) (new_then : CoreState) (r : Result Bool CoreFault)
    → IsMoving serves queue core map n now after → IsMoveAnswer serves now after map new_now new_then r → r ≡ Ok true → IsMoving serves queue core map (n + 1) new_now new_then
unfolding MovesSome
moved_on serves queue core map n now after new_now new_then (Ok true) is m e = rw add-one (record {
  some = (now, (after, is.some, m));
  count = omega (arith, is.count, ap length m.stood);
  limits = ap (λ (q : Queue). q.limits) m.left ∙ is.limits ∙ sym (ap (λ s. s.limits) (move_stays serves now after map new_now new_then (Ok true) m).setup);
})
moved_on serves queue core map n now after new_now new_then (Ok false) is m e = absurd (let x : Ok false ≡ Ok true = e in cc)
moved_on serves queue core map n now after new_now new_then (Err why) is m e = absurd (let x : Err why ≡ Ok true = e in cc)

empty : {X : Type 0} (xs : List X) → length xs ≤ 0 → xs ≡ []
empty [] h = refl
empty (x ∷ xs) h = absurd (omega (arith, h))

-- all were moved
pub all_moved : (serves : ℕ → Waiting → Bool) (queue : Queue) (core : CoreState) (map : List ℕ) (n : ℕ) (now : Queue) (after : CoreState) → IsMoving serves queue core map n now after → length queue.requests ≤ n
    → IsMoveAllAnswer serves queue core map now after (Ok n)
all_moved serves queue core map n now after is all =
    (is.some, omega (arith, is.count, all), empty now.requests (omega (arith, is.count, all)))

-- one was refused
pub ended : (serves : ℕ → Waiting → Bool) (queue : Queue) (core : CoreState) (map : List ℕ) (n : ℕ) (now : Queue) (after : CoreState) (new_now : Queue) (new_then : CoreState) (r : Result Bool CoreFault) (why : CoreFault)
    → IsMoving serves queue core map n now after → IsMoveAnswer serves now after map new_now new_then r → r ≡ Err why
    → IsMoveAllAnswer serves queue core map new_now new_then (Err record { moved = n; why = why })
ended serves queue core map n now after new_now new_then (Err told) why is m e =
    let same : told ≡ why = (let x : Err told ≡ Err why = e in cc) in
    rw (m.1, m.2) (is.some, is.count, rw (← same) m.0)
ended serves queue core map n now after new_now new_then (Ok true) why is m e = absurd (let x : Ok true ≡ Err why = e in cc)
ended serves queue core map n now after new_now new_then (Ok false) why is m e = absurd (let x : Ok false ≡ Err why = e in cc)

-- what stays of a core into which some were moved
some_stay : (serves : ℕ → Waiting → Bool) (queue : Queue) (core : CoreState) (map : List ℕ) (n : ℕ) (now : Queue) (after : CoreState) → MovesSome serves queue core map n now after → Stays core after
unfolding MovesSome
some_stay serves queue core map zero now after m = same_stays core after m.1
some_stay serves queue core map (suc n) now after (between, (before, some, one)) =
    let first : Stays core before = some_stay serves queue core map n between before some in
    let last : Stays before after = move_stays serves between before map now after (Ok true) one in
    record { setup = last.setup ∙ first.setup; dones = last.dones ∙ first.dones }

pub all_stay : (serves : ℕ → Waiting → Bool) (queue : Queue) (core : CoreState) (map : List ℕ) (now : Queue) (after : CoreState) (r : Result ℕ DrainFault) → IsMoveAllAnswer serves queue core map now after r → Stays core after
all_stay serves queue core map now after (Ok moved) m = some_stay serves queue core map moved now after m.0
all_stay serves queue core map now after (Err fault) m = some_stay serves queue core map fault.moved now after m.0

-- the limits of a queue some of whose requests were moved
some_limits : (serves : ℕ → Waiting → Bool) (queue : Queue) (core : CoreState) (map : List ℕ) (n : ℕ) (now : Queue) (after : CoreState) → MovesSome serves queue core map n now after → now.limits ≡ queue.limits
unfolding MovesSome
some_limits serves queue core map zero now after m = ap (λ (q : Queue). q.limits) m.0
some_limits serves queue core map (suc n) now after (between, (before, some, one)) =
    ap (λ (q : Queue). q.limits) one.left ∙ some_limits serves queue core map n between before some

pub all_limits : (serves : ℕ → Waiting → Bool) (queue : Queue) (core : CoreState) (map : List ℕ) (now : Queue) (after : CoreState) (r : Result ℕ DrainFault) → IsMoveAllAnswer serves queue core map now after r → now.limits ≡ queue.limits
all_limits serves queue core map now after (Ok moved) m = some_limits serves queue core map moved now after m.0
all_limits serves queue core map now after (Err fault) m = some_limits serves queue core map fault.moved now after m.0
