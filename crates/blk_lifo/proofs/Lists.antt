-- Lists of requests of distinct ids.
use Rattle.std.proofs.Common.{◌≡◌, ◌<◌, ◌++◌, ◌∙◌, sym, ap, subst, refl, true, false, Bool, cond, ℕ, zero, suc, Some, None, Option, List, [], ◌∷◌, length, arith}
use Rattle.std.specs.Prelude.{slice_get, slice_set}
use Rattle.std.specs.Ordering.{nat_cmp, is_eq}
use Rattle.std.specs.Cmp.{nat_cmp_total, eq_by_cmp_equiv, tied_itself}
use Rattle.std.specs.BTreeMap.{is_at}
use Rattle.blk_sched.specs.Meaning.{Waiting}
use Rattle.blk_sched.proofs.Maps.{same_number}
use Rattle.blk_lifo.specs.Inside.Stacks.{found, HaveDistinctIds}

-- both tests of two ids
turned : (k id : ℕ) → is_at (nat_cmp k) id ≡ is_at (nat_cmp id) k
turned k id = (eq_by_cmp_equiv nat_cmp_total).symm k id

pub itself : (k : ℕ) → is_at (nat_cmp k) k ≡ true
itself k = ap is_eq (tied_itself nat_cmp_total k)

-- two choices may be exchanged where not both are taken
exchanged : (a t : Bool) (x y z : Option Waiting) → (t ≡ true → a ≡ false) → cond a x (cond t y z) ≡ cond t y (cond a x z)
exchanged true true x y z h = let e : true ≡ false = h refl in cc
exchanged true false x y z h = refl
exchanged false true x y z h = refl
exchanged false false x y z h = refl

cond_again : (t : Bool) (x y z : Option Waiting) → cond t x z ≡ cond t x (cond t y z)
cond_again true x y z = refl
cond_again false x y z = refl

-- what isn't found is neither at the front nor behind
not_here : (t : Bool) (w : Waiting) (z : Option Waiting) → cond t (Some w) z ≡ None → t ≡ false
not_here true w z e = cc
not_here false w z e = refl

not_behind : (t : Bool) (w : Waiting) (z : Option Waiting) → cond t (Some w) z ≡ None → z ≡ None
not_behind true w z e = cc
not_behind false w z e = e

passed : (t : Bool) (w : Waiting) (z : Option Waiting) → t ≡ false → z ≡ None → cond t (Some w) z ≡ None
passed t w z e f = ap (λ b. cond b (Some w) z) e ∙ f

-- one more at the end
pub found_pushed : (ws : List Waiting) (w : Waiting) (k : ℕ) → found ws w.id ≡ None → found (ws ++ w ∷ []) k ≡ cond (is_at (nat_cmp w.id) k) (Some w) (found ws k)
found_pushed [] w k new = ap (λ b. cond b (Some w) (found [] k)) (turned k w.id)
found_pushed (v ∷ ws) w k new =
    ap (cond (is_at (nat_cmp k) v.id) (Some v)) (found_pushed ws w k (not_behind (is_at (nat_cmp w.id) v.id) v (found ws w.id) new))
    ∙ exchanged (is_at (nat_cmp k) v.id) (is_at (nat_cmp w.id) k) (Some v) (Some w) (found ws k)
    (λ e. ap (λ j. is_at (nat_cmp j) v.id) (same_number w.id k e) ∙ not_here (is_at (nat_cmp w.id) v.id) v (found ws w.id) new)

pub distinct_pushed : (ws : List Waiting) (w : Waiting) → HaveDistinctIds ws → found ws w.id ≡ None → HaveDistinctIds (ws ++ w ∷ [])
unfolding HaveDistinctIds
distinct_pushed [] w d new = (refl, tt)
distinct_pushed (v ∷ ws) w d new =
    let behind : found ws w.id ≡ None = not_behind (is_at (nat_cmp w.id) v.id) v (found ws w.id) new in (
      found_pushed ws w v.id behind ∙ passed (is_at (nat_cmp w.id) v.id) w (found ws v.id) (not_here (is_at (nat_cmp w.id) v.id) v (found ws w.id) new) d.0,
      distinct_pushed ws w d.1 behind,
    )

-- the last one taken off
pub distinct_popped : (ws : List Waiting) (w : Waiting) → HaveDistinctIds (ws ++ w ∷ []) → HaveDistinctIds ws × (found ws w.id ≡ None)
unfolding HaveDistinctIds
distinct_popped [] w d = (tt, refl)
distinct_popped (v ∷ ws) w d =
    let rest : HaveDistinctIds ws × (found ws w.id ≡ None) = distinct_popped ws w d.1 in
    let new : cond (is_at (nat_cmp w.id) v.id) (Some w) (found ws v.id) ≡ None = sym (found_pushed ws w v.id rest.1) ∙ d.0 in (
      (not_behind (is_at (nat_cmp w.id) v.id) w (found ws v.id) new, rest.0),
      passed (is_at (nat_cmp w.id) v.id) v (found ws w.id) (not_here (is_at (nat_cmp w.id) v.id) w (found ws v.id) new) rest.1,
    )

-- ids that stand behind differ from the first
other_id : (ws : List Waiting) (v w : Waiting) → found ws v.id ≡ None → found ws w.id ≡ Some w → is_at (nat_cmp w.id) v.id ≡ false
other_id ws v w new there =
    elim (is_at (nat_cmp w.id) v.id) as (λ b. is_at (nat_cmp w.id) v.id ≡ b → b ≡ false) [
      | true ↦ λ e. let at : None ≡ Some w = sym new ∙ ap (found ws) (same_number w.id v.id e) ∙ there in cc
      | false ↦ λ e. refl
    ] refl

-- what stands at a place is found
pub found_at : (ws : List Waiting) (p : ℕ) (w : Waiting) → HaveDistinctIds ws → slice_get ws p ≡ Some w → found ws w.id ≡ Some w
unfolding HaveDistinctIds
found_at [] p w d at = cc
found_at (v ∷ ws) zero w d at =
    let same : v ≡ w = cc in
    subst (λ (u : Waiting). found (v ∷ ws) u.id ≡ Some u) same (ap (λ b. cond b (Some v) (found ws v.id)) (itself v.id))
found_at (v ∷ ws) (suc p) w d at =
    let behind : found ws w.id ≡ Some w = found_at ws p w d.1 at in
    ap (λ b. cond b (Some v) (found ws w.id)) (other_id ws v w d.0 behind) ∙ behind

-- what is found stands at a place, under its id
pub place_of : (ws : List Waiting) (k : ℕ) (w : Waiting) → found ws k ≡ Some w → (p : ℕ) × (p < length ws) × (slice_get ws p ≡ Some w) × (w.id ≡ k)
place_of [] k w f = cc
place_of (v ∷ ws) k w f =
    elim (is_at (nat_cmp k) v.id) as (λ b. is_at (nat_cmp k) v.id ≡ b → cond b (Some v) (found ws k) ≡ Some w → (p : ℕ) × (p < length (v ∷ ws)) × (slice_get (v ∷ ws) p ≡ Some w) × (w.id ≡ k)) [
      | true ↦ λ e g. let same : v ≡ w = cc in (zero, omega arith, g, ap (λ (u : Waiting). u.id) (sym same) ∙ same_number k v.id e)
      | false ↦ λ e g. let rest = place_of ws k w g in (suc rest.0, omega (arith, rest.1), rest.2, rest.3)
    ] refl f

-- the request at a place changed, its id kept
pub found_changed : (ws : List Waiting) (p : ℕ) (w new : Waiting) (k : ℕ) → HaveDistinctIds ws → slice_get ws p ≡ Some w → new.id ≡ w.id → found (slice_set ws p new) k ≡ cond (is_at (nat_cmp w.id) k) (Some new) (found ws k)
unfolding HaveDistinctIds
found_changed [] p w new k d at name = cc
found_changed (v ∷ ws) zero w new k d at name =
    let same : v ≡ w = cc in
    ap (λ j. cond (is_at (nat_cmp k) j) (Some new) (found ws k)) name
    ∙ cond_again (is_at (nat_cmp k) w.id) (Some new) (Some v) (found ws k)
    ∙ ap (λ j. cond (is_at (nat_cmp k) w.id) (Some new) (cond (is_at (nat_cmp k) j) (Some v) (found ws k))) (ap (λ (u : Waiting). u.id) (sym same))
    ∙ ap (λ b. cond b (Some new) (found (v ∷ ws) k)) (turned k w.id)
found_changed (v ∷ ws) (suc p) w new k d at name =
    ap (cond (is_at (nat_cmp k) v.id) (Some v)) (found_changed ws p w new k d.1 at name)
    ∙ exchanged (is_at (nat_cmp k) v.id) (is_at (nat_cmp w.id) k) (Some v) (Some new) (found ws k)
    (λ e. ap (λ j. is_at (nat_cmp j) v.id) (same_number w.id k e) ∙ other_id ws v w d.0 (found_at ws p w d.1 at))

pub distinct_changed : (ws : List Waiting) (p : ℕ) (w new : Waiting) → HaveDistinctIds ws → slice_get ws p ≡ Some w → new.id ≡ w.id → HaveDistinctIds (slice_set ws p new)
unfolding HaveDistinctIds
distinct_changed [] p w new d at name = cc
distinct_changed (v ∷ ws) zero w new d at name =
    let same : v ≡ w = cc in
    (ap (found ws) (name ∙ ap (λ (u : Waiting). u.id) (sym same)) ∙ d.0, d.1)
distinct_changed (v ∷ ws) (suc p) w new d at name = (
  found_changed ws p w new v.id d.1 at name ∙ passed (is_at (nat_cmp w.id) v.id) new (found ws v.id) (other_id ws v w d.0 (found_at ws p w d.1 at)) d.0,
  distinct_changed ws p w new d.1 at name,
)
