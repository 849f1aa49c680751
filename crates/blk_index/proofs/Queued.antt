-- Requests found by their ids, among those of all hardware queues.
use Rattle.std.proofs.Common.{◌≡◌, ◌<◌, ◌++◌, ◌∷◌, zero, suc, ◌==◌, ◌∙◌, sym, ap, refl, arith, true, false, Bool, cond, ℕ, Some, None, Option, List, [], length, get_or, set}
use Rattle.std.specs.Prelude.{if◌then◌else◌}
use Rattle.std.specs.List.{flat_map}
use Rattle.std.specs.Ordering.{nat_cmp, eq_by_cmp}
use Rattle.std.specs.Cmp.{nat_cmp_total, eq_by_cmp_equiv}
use Rattle.std.specs.BTreeMap.{is_at}
use Rattle.std.specs.Map.{lookup}
use Rattle.std.specs.Option.{option_or}
use Rattle.std.specs.FinMap as map
use Rattle.std.proofs.lemmas.Bool.{eqb-true}
use Rattle.blk_sched.specs.Meaning.{Waiting, Pending}
use Rattle.blk_sched.proofs.Maps.{one_test, get_waiting, looked_up, no_entries}
use Rattle.blk_index.specs.Inside.Queues.{all_pending, queue_at}

abbrev pub Queues : Type 0
Queues = List Pending

pub swapped : (a b : ℕ) → (a == b) ≡ (b == a)
swapped a b = sym (one_test b a) ∙ (eq_by_cmp_equiv nat_cmp_total).symm b a ∙ one_test a b

-- the map's test of two ids
by_key : (q id : ℕ) → eq_by_cmp nat_cmp q id ≡ (q == id)
by_key q id = sym ((eq_by_cmp_equiv nat_cmp_total).symm id q) ∙ one_test id q

-- a map after an entry, and after a removal
pub got_inserted : (m : Pending) (id : ℕ) (w : Waiting) (k : ℕ) → map.get (map.insert m id w) k ≡ (if k == id then Some w else map.get m k)
got_inserted m id w k = map.get-insert nat_cmp_total m id w k ∙ ap (λ b. cond b (Some w) (map.get m k)) (by_key k id)

pub got_removed : (m : Pending) (id k : ℕ) → map.get (map.remove m id) k ≡ (if k == id then None else map.get m k)
got_removed m id k = map.get-remove nat_cmp_total m id k ∙ ap (λ b. cond b None (map.get m k)) (by_key k id)

pub is_inserted : (m new : Pending) (id : ℕ) (w : Waiting) → ((k : ℕ) → map.get new k ≡ (if k == id then Some w else map.get m k)) → new ≡ map.insert m id w
is_inserted m new id w is = map.same_map nat_cmp_total map.nat_cmp-IsAntisymmetric _ _ (λ k. is k ∙ sym (got_inserted m id w k))

pub is_removed : (m new : Pending) (id : ℕ) → ((k : ℕ) → map.get new k ≡ (if k == id then None else map.get m k)) → new ≡ map.remove m id
is_removed m new id is = map.same_map nat_cmp_total map.nat_cmp-IsAntisymmetric _ _ (λ k. is k ∙ sym (got_removed m id k))

-- to remove what isn't there changes nothing
pub stays_removed : (m : Pending) (id : ℕ) → map.get m id ≡ None → map.remove m id ≡ m
stays_removed m id none = sym (is_removed m m id (λ k.
    elim (k == id) as (λ b. (k == id) ≡ b → map.get m k ≡ (if b then None else map.get m k)) [
      | true ↦ λ e. ap (map.get m) (eqb-true k id e) ∙ none
      | false ↦ λ _. refl
    ] refl))

-- ---- all hardware queues

or_none : (o : Option Waiting) → option_or o None ≡ o
or_none None = refl
or_none (Some w) = refl

or_first : (b : Bool) (w : Waiting) (o p : Option Waiting) → cond b (Some w) (option_or o p) ≡ option_or (cond b (Some w) o) p
or_first true w o p = refl
or_first false w o p = refl

lookup_append : (es fs : List (ℕ × Waiting)) (k : ℕ) → lookup (is_at (nat_cmp k)) (es ++ fs) ≡ option_or (lookup (is_at (nat_cmp k)) es) (lookup (is_at (nat_cmp k)) fs)
lookup_append [] fs k = refl
lookup_append (e ∷ es) fs k =
    ap (cond (is_at (nat_cmp k) e.0) (Some e.1)) (lookup_append es fs k)
    ∙ or_first (is_at (nat_cmp k) e.0) e.1 (lookup (is_at (nat_cmp k)) es) (lookup (is_at (nat_cmp k)) fs)

abbrev pub found_in : Queues → ℕ → Option Waiting
found_in queues k = map.get (all_pending queues) k

abbrev pub waiting_in : Queues → ℕ → ℕ → Option Waiting
waiting_in queues hw id = map.get (queue_at queues hw) id

-- the first hardware queue, and the others
found_first : (m : Pending) (queues : Queues) (k : ℕ) → found_in (m ∷ queues) k ≡ option_or (map.get m k) (found_in queues k)
found_first m queues k =
    get_waiting (map.entries m ++ flat_map map.entries queues) k
    ∙ lookup_append (map.entries m) (flat_map map.entries queues) k
    ∙ ap (λ o. option_or o (lookup (is_at (nat_cmp k)) (flat_map map.entries queues))) (sym (looked_up m k))
    ∙ ap (option_or (map.get m k)) (sym (get_waiting (flat_map map.entries queues) k))

-- what no hardware queue has is not found
found_none : (queues : Queues) (id : ℕ) → ((q : ℕ) → waiting_in queues q id ≡ None) → found_in queues id ≡ None
found_none [] id none = map.get-empty nat_cmp id
found_none (m ∷ queues) id none = found_first m queues id ∙ ap (λ o. option_or o (found_in queues id)) (none 0) ∙ found_none queues id (λ q. none (suc q))

-- an id that no other hardware queue has is found in the one that is changed
found_there : (queues : Queues) (hw id : ℕ) (m : Pending) → hw < length queues → ((q : ℕ) → (q ≡ hw → ⊥) → waiting_in queues q id ≡ None) → found_in (set queues hw m) id ≡ map.get m id
found_there [] hw id m low others = absurd (omega arith)
found_there (n ∷ queues) zero id m low others =
    found_first m queues id
    ∙ ap (option_or (map.get m id)) (found_none queues id (λ q. others (suc q) (λ same. absurd (omega (arith, same)))))
    ∙ or_none (map.get m id)
found_there (n ∷ queues) (suc hw) id m low others =
    found_first n (set queues hw m) id
    ∙ ap (λ o. option_or o (found_in (set queues hw m) id)) (others 0 (λ same. absurd (omega (arith, same))))
    ∙ found_there queues hw id m (omega arith) (λ q differ. others (suc q) (λ same. differ (omega (arith, same))))

-- an id at which the hardware queue stays as it was is found as it was
found_still : (queues : Queues) (hw k : ℕ) (m : Pending) → map.get m k ≡ waiting_in queues hw k → found_in (set queues hw m) k ≡ found_in queues k
found_still [] hw k m still = refl
found_still (n ∷ queues) zero k m still = found_first m queues k ∙ ap (λ o. option_or o (found_in queues k)) still ∙ sym (found_first n queues k)
found_still (n ∷ queues) (suc hw) k m still = found_first n (set queues hw m) k ∙ ap (option_or (map.get n k)) (found_still queues hw k m still) ∙ sym (found_first n queues k)

-- one hardware queue is changed at an id that no other has
pub found_changed : (queues : Queues) (hw id : ℕ) (m : Pending) (x : Option Waiting) → hw < length queues → ((q : ℕ) → (q ≡ hw → ⊥) → waiting_in queues q id ≡ None) → ((k : ℕ) → map.get m k ≡ (if k == id then x else waiting_in queues hw k)) → (k : ℕ) → found_in (set queues hw m) k ≡ (if k == id then x else found_in queues k)
found_changed queues hw id m x low others is k =
    elim (k == id) as (λ b. (k == id) ≡ b → found_in (set queues hw m) k ≡ (if b then x else found_in queues k)) [
      | true ↦ λ e. let same : k ≡ id = eqb-true k id e in
          ap (found_in (set queues hw m)) same ∙ found_there queues hw id m low others ∙ ap (map.get m) (sym same) ∙ is k
          ∙ ap (λ b. if b then x else waiting_in queues hw k) e
      | false ↦ λ e. found_still queues hw k m (is k ∙ ap (λ b. if b then x else waiting_in queues hw k) e)
    ] refl

-- nothing waits where nothing waits at any
no_entry : (queues : Queues) → ((q : ℕ) → get_or queues q map.empty ≡ map.empty) → flat_map map.entries queues ≡ []
no_entry [] none = refl
no_entry (m ∷ queues) none = ap (λ l. l ++ flat_map map.entries queues) (ap map.entries (none 0) ∙ no_entries) ∙ no_entry queues (λ q. none (suc q))

pub none_pending : (queues : Queues) → ((q : ℕ) → get_or queues q map.empty ≡ map.empty) → all_pending queues ≡ map.empty
none_pending queues none = ap (map.from_entries {R = nat_cmp}) (no_entry queues none)
