-- What a change does to requests that are found by their ids.
use Rattle.std.proofs.Common.{◌≡◌, ℕ, true, false, cond, sym, ap, ◌∙◌, refl, Some, None, Option}
use Rattle.std.specs.Ordering.{nat_cmp, eq_by_cmp}
use Rattle.std.specs.BTreeMap.{is_at}
use Rattle.std.specs.Cmp.{nat_cmp_total, eq_by_cmp_equiv}
use Rattle.std.specs.FinMap as map
use Rattle.blk_sched.specs.Meaning.{Waiting, Pending}
use Rattle.blk_sched.proofs.Maps.{same_number}
use Rattle.blk_index.specs.Inside.Spots.{Becomes}
use Rattle.blk_index.specs.Inside.Search.{IsNamed}

abbrev pub Found : Type 0
Found = ℕ → Option Waiting

-- the map's test of two ids in the order of the look-up's
by_key : (q id : ℕ) → eq_by_cmp nat_cmp q id ≡ is_at (nat_cmp id) q
by_key q id = sym ((eq_by_cmp_equiv nat_cmp_total).symm id q)

pub becomes_given : (old new : Pending) (id : ℕ) (w : Waiting) → new ≡ map.insert old id w → Becomes (map.get old) id (Some w) (map.get new)
becomes_given old new id w is k = ap (λ (m : Pending). map.get m k) is ∙ map.get-insert nat_cmp_total old id w k ∙ ap (λ b. cond b (Some w) (map.get old k)) (by_key k id)

pub becomes_taken : (old new : Pending) (id : ℕ) → new ≡ map.remove old id → Becomes (map.get old) id None (map.get new)
becomes_taken old new id is k = ap (λ (m : Pending). map.get m k) is ∙ map.get-remove nat_cmp_total old id k ∙ ap (λ b. cond b None (map.get old k)) (by_key k id)

-- each request has its id then
pub named_then : (old new : Found) (id : ℕ) (x : Option Waiting) → IsNamed old → ((v : Waiting) → x ≡ Some v → v.id ≡ id) → Becomes old id x new → IsNamed new
named_then old new id x named own becomes k v found =
    elim (is_at (nat_cmp id) k) as (λ b. is_at (nat_cmp id) k ≡ b → cond b x (old k) ≡ Some v → v.id ≡ k) [
      | true ↦ λ e h. own v h ∙ sym (same_number id k e)
      | false ↦ λ _ h. named k v h
    ] refl (sym (becomes k) ∙ found)

pub named_one : (old new : Found) (id : ℕ) (w : Waiting) → IsNamed old → id ≡ w.id → Becomes old id (Some w) new → IsNamed new
named_one old new id w named own becomes = named_then old new id (Some w) named (λ v h. let same : w ≡ v = cc in ap (λ (u : Waiting). u.id) (sym same) ∙ sym own) becomes

pub named_less : (old new : Found) (id : ℕ) → IsNamed old → Becomes old id None new → IsNamed new
named_less old new id named becomes = named_then old new id None named (λ v h. absurd (cc)) becomes

pub named_same : (old new : Found) → IsNamed old → ((k : ℕ) → new k ≡ old k) → IsNamed new
named_same old new named same k v h = named k v (sym (same k) ∙ h)

-- ---- nothing

pub none_found : (m : Pending) → m ≡ map.empty → (k : ℕ) → map.get m k ≡ None
none_found m none k = ap (λ (x : Pending). map.get x k) none ∙ map.get-empty nat_cmp k

pub none_named : (m : Pending) → m ≡ map.empty → IsNamed (map.get m)
none_named m none k w h = absurd (let x : None ≡ Some w = sym (none_found m none k) ∙ h in cc)

-- an id that isn't there is taken out
pub same_without : (m n : Pending) (id : ℕ) → map.get m id ≡ None → n ≡ map.remove m id → (k : ℕ) → map.get n k ≡ map.get m k
same_without m n id none is k =
    becomes_taken m n id is k ∙ elim (is_at (nat_cmp id) k) as (λ b. is_at (nat_cmp id) k ≡ b → cond b None (map.get m k) ≡ map.get m k) [
      | true ↦ λ e. sym (ap (map.get m) (same_number id k e) ∙ none)
      | false ↦ λ _. refl
    ] refl
