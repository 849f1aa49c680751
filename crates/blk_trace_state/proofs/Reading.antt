-- The Issues of a list of events, by places.
use Rattle.std.proofs.Common.{◌≡◌, ◌+◌, ◌∙◌, ◌∷◌, ℕ, zero, suc, List, [], sym, ap, subst, arith, inl, inr, cond, Bool, true, refl, take, drop}
use Rattle.std.specs.Prelude.{Option, Some, None, option_map}
use Rattle.std.specs.List.{cons_option, list_any}
use Rattle.std.proofs.lemmas.Bool.{or_cases, or_left, or_right}
use Rattle.blk_trace.specs.declared.event.Event.TheVariants.{Issue}
use Rattle.blk_trace.specs.declared.issued.Issued.{Issued}
use Rattle.blk_trace.specs.Happened.{Happened}
use Rattle.blk_trace.specs.Kinds.{is_tick, issues}
use Rattle.blk_trace.specs.Events.{At, round_of, round_at}
use Rattle.blk_trace.specs.Issues.{issue_in, issues_from}
use Rattle.blk_trace.proofs.Words.{issue_is}
use Rattle.blk_trace.proofs.More.{round_cons}

-- an Issue of these events passes the test
pub record IsFound (p : Issued → Bool) (r : ℕ) (es : List Happened) : Type 0 where
  pub place : ℕ
  pub id : ℕ
  pub tag : ℕ
  pub issued : At es place (Issue id tag)
  pub passes : p (issue_in (r + round_at es place) (drop (suc place) es) (id, tag)) ≡ true

any_part : (p : Issued → Bool) (o : Option Issued) (xs : List Issued) → list_any p xs ≡ true → list_any p (cons_option o xs) ≡ true
any_part p None xs h = h
any_part p (Some i) xs h = or_right (p i) (list_any p xs) h

first_round : (r : ℕ) → r + round_of [] ≡ r
unfolding round_of
first_round r = omega arith

pub any_place : (p : Issued → Bool) (r : ℕ) (es : List Happened) (k id tag : ℕ) → At es k (Issue id tag) → p (issue_in (r + round_at es k) (drop (suc k) es) (id, tag)) ≡ true → list_any p (issues_from r es) ≡ true
unfolding issues_from
any_place p r [] k id tag h t = absurd (cc)
any_place p r (x ∷ es) zero id tag h t =
    let is : Issue id tag ≡ x = cc in
    let here : p (issue_in r es (id, tag)) ≡ true = ap (λ n. p (issue_in n es (id, tag))) (sym (first_round r)) ∙ t in
    let P : Happened → Type 0 = λ e. list_any p (cons_option (option_map (issue_in r es) (issues e)) (issues_from (cond (is_tick e) (r + 1) r) es)) ≡ true in
    let there : P (Issue id tag) = or_left (p (issue_in r es (id, tag))) (list_any p (issues_from r es)) here in
    subst P is there
any_place p r (x ∷ es) (suc k) id tag h t =
    let next : ℕ = cond (is_tick x) (r + 1) r in
    let later : p (issue_in (next + round_at es k) (drop (suc k) es) (id, tag)) ≡ true = ap (λ n. p (issue_in n (drop (suc k) es) (id, tag))) (sym (round_cons x (take k es) r)) ∙ t in
    any_part p (option_map (issue_in r es) (issues x)) (issues_from next es) (any_place p next es k id tag h later)

found_later : (p : Issued → Bool) (r : ℕ) (x : Happened) (es : List Happened) → IsFound p (cond (is_tick x) (r + 1) r) es → IsFound p r (x ∷ es)
found_later p r x es f = record {
  place = suc f.place;
  id = f.id;
  tag = f.tag;
  issued = f.issued;
  passes = ap (λ n. p (issue_in n (drop (suc f.place) es) (f.id, f.tag))) (round_cons x (take f.place es) r) ∙ f.passes;
}

found_part : (p : Issued → Bool) (r : ℕ) (x : Happened) (es : List Happened) (o : Option (ℕ × ℕ)) (xs : List Issued) → issues x ≡ o → (list_any p xs ≡ true → IsFound p r (x ∷ es)) → list_any p (cons_option (option_map (issue_in r es) o) xs) ≡ true → IsFound p r (x ∷ es)
found_part p r x es None xs is later h = later h
found_part p r x es (Some q) xs is later h =
    elim (or_cases (p (issue_in r es q)) (list_any p xs) h) [
      | inl t ↦ record { place = 0; id = q.0; tag = q.1; issued = ap Some (issue_is x q is); passes = ap (λ n. p (issue_in n es q)) (first_round r) ∙ t }
      | inr t ↦ later t
    ]

pub place_any : (p : Issued → Bool) (r : ℕ) (es : List Happened) → list_any p (issues_from r es) ≡ true → IsFound p r es
unfolding issues_from
place_any p r [] h = absurd (cc)
place_any p r (x ∷ es) h =
    let next : ℕ = cond (is_tick x) (r + 1) r in
    found_part p r x es (issues x) (issues_from next es) refl (λ t. found_later p r x es (place_any p next es t)) h
