-- What waits, as releases, joins and issues change it: in the scheduler and in the trace.
use Rattle.std.proofs.Common.{◌≡◌, ◌≢◌, ◌∙◌, sym, ap, refl, inl, inr, ℕ, ◌+◌, Bool, true, false, cond, Option, Some, None, is_some, ◌==◌}
use Rattle.std.proofs.lemmas.Bool.{eq-eqb, ne_eqb}
use Rattle.std.proofs.lemmas.Bool.Decides.{eqb_tells}
use Rattle.std.specs.Option.{option_map}
use Rattle.std.specs.FinMap as map
use Rattle.std.specs.Ordering.{nat_cmp, eq_by_cmp}
use Rattle.std.specs.Cmp.{nat_cmp_total, unsigned_tied}
use Rattle.blk_sched.specs.Meaning.{Waiting, Pending}
use Rattle.blk_sched.proofs.Maps.{put_back}
use Rattle.blk_core.specs.State.{facts_of}
use Rattle.blk_core.proofs.Seen.{Facts}

flip : (q id : ℕ) → (q == id) ≡ (id == q)
flip q id = elim (eqb_tells q id) [
  | inl y ↦ y.0 ∙ sym (eq-eqb id q (sym y.1))
  | inr n ↦ n.0 ∙ sym (ne_eqb id q (λ e. n.1 (sym e)))
]

-- the map's test for a key is that of the trace's words
by_key : (q id : ℕ) → eq_by_cmp nat_cmp q id ≡ (id == q)
by_key q id = unsigned_tied q id ∙ flip q id

pub get_given : (P : Pending) (id : ℕ) (w : Waiting) (q : ℕ) → map.get (map.insert P id w) q ≡ cond (id == q) (Some w) (map.get P q)
get_given P id w q = map.get-insert nat_cmp_total P id w q ∙ ap (λ b. cond b (Some w) (map.get P q)) (by_key q id)

pub get_taken : (P : Pending) (id q : ℕ) → map.get (map.remove P id) q ≡ cond (id == q) None (map.get P q)
get_taken P id q = map.get-remove nat_cmp_total P id q ∙ ap (λ b. cond b None (map.get P q)) (by_key q id)

-- the scheduler and the trace agree where both are given a request
pub agree_given : (P : Pending) (W V : ℕ → Option Facts) (id : ℕ) (w : Waiting) → ((q : ℕ) → option_map facts_of (map.get P q) ≡ W q) → ((q : ℕ) → V q ≡ cond (id == q) (Some (facts_of w)) (W q)) → (q : ℕ) → option_map facts_of (map.get (map.insert P id w) q) ≡ V q
agree_given P W V id w h step q = ap (option_map facts_of) (get_given P id w q) ∙ at_key (id == q) ∙ sym (step q)
  where
    at_key : (b : Bool) → option_map facts_of (cond b (Some w) (map.get P q)) ≡ cond b (Some (facts_of w)) (W q)
    at_key true = refl
    at_key false = h q

-- and where one is taken out of both
pub agree_taken : (P : Pending) (W V : ℕ → Option Facts) (id : ℕ) → ((q : ℕ) → option_map facts_of (map.get P q) ≡ W q) → ((q : ℕ) → V q ≡ cond (id == q) None (W q)) → (q : ℕ) → option_map facts_of (map.get (map.remove P id) q) ≡ V q
agree_taken P W V id h step q = ap (option_map facts_of) (get_taken P id q) ∙ at_key (id == q) ∙ sym (step q)
  where
    at_key : (b : Bool) → option_map facts_of (cond b None (map.get P q)) ≡ cond b None (W q)
    at_key true = refl
    at_key false = h q

-- how many wait
pub len_new : (P : Pending) (id : ℕ) (w : Waiting) → map.get P id ≡ None → map.len (map.insert P id w) ≡ map.len P + 1
len_new P id w h = map.len-insert nat_cmp_total P id w ∙ ap (λ o. cond (is_some o) (map.len P) (map.len P + 1)) h

pub len_given : (P : Pending) (id : ℕ) (v w : Waiting) → map.get P id ≡ Some v → map.len (map.insert P id w) ≡ map.len P
len_given P id v w h = map.len-insert nat_cmp_total P id w ∙ ap (λ o. cond (is_some o) (map.len P) (map.len P + 1)) h

pub len_taken : (P : Pending) (id : ℕ) (v : Waiting) → map.get P id ≡ Some v → map.len (map.remove P id) + 1 ≡ map.len P
len_taken P id v h =
    sym (len_new (map.remove P id) id v (get_taken P id id ∙ ap (λ b. cond b None (map.get P id)) (eq-eqb id id refl)))
    ∙ ap map.len (put_back P id v) ∙ len_given P id v v h

-- an id that does not wait, where another one is given or taken
pub still_absent : (P : Pending) (id : ℕ) (w : Waiting) (q : ℕ) → id ≢ q → map.get P q ≡ None → map.get (map.insert P id w) q ≡ None
still_absent P id w q ne h = get_given P id w q ∙ ap (λ b. cond b (Some w) (map.get P q)) (ne_eqb id q ne) ∙ h

pub still_none : (P : Pending) (id q : ℕ) → map.get P q ≡ None → map.get (map.remove P id) q ≡ None
still_none P id q h = get_taken P id q ∙ at_key (id == q)
  where
    at_key : (b : Bool) → cond b None (map.get P q) ≡ None
    at_key true = refl
    at_key false = h
