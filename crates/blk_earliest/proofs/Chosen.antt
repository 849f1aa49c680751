-- What is chosen comes first.
use Rattle.std.proofs.Common.{◌≡◌, ◌<◌, ◌≤◌, inl, inr, ℕ, zero, suc, Bool, true, false, cond, sym, ap, ◌∙◌, refl, arith, subst, Some, None, Option, List, [], ◌∷◌, length, get_or}
use Rattle.std.specs.Prelude.{nat_le, All, if◌then◌else◌}
use Rattle.std.specs.List.{Contains}
use Rattle.std.specs.Option.{option_or}
use Rattle.std.proofs.lemmas.Bool.{cases_lt, cases_eq, leb-true, leb-false}
use Rattle.blk_sched.specs.Meaning.{Waiting}
use Rattle.blk_earliest.specs.Choice.{comes_before, first_of_two, first_due, on_time, earliest_choice, IsNoLater, IsEarliest, IsFirstOnTime}
use Rattle.blk_earliest.proofs.Listing.{is_before, from_before}

itself : (w : Waiting) → IsNoLater w w
itself w = inr (refl, omega arith)

after_two : (u v w : Waiting) → IsNoLater u v → IsNoLater v w → IsNoLater u w
after_two u v w first second =
    elim first [
      | inl sooner ↦ elim second [ inl more ↦ inl (omega arith) | inr tie ↦ inl (omega (arith, tie.0)) ]
      | inr same ↦ elim second [ inl more ↦ inl (omega (arith, same.0)) | inr tie ↦ inr (omega (arith, same.0, tie.0), omega (arith, same.1, tie.1)) ]
    ]

before_then : (v w : Waiting) → comes_before v w ≡ true → IsNoLater v w
before_then v w h = elim (from_before v w h) [ inl sooner ↦ inl sooner | inr tie ↦ inr (tie.0, omega (arith, tie.1)) ]

not_before_then : (v w : Waiting) → comes_before v w ≡ false → IsNoLater w v
not_before_then v w h =
    elim (cases_lt v.due w.due) [
      | inl sooner ↦ absurd (let clash : true ≡ false = sym (is_before v w (inl sooner)) ∙ h in cc)
      | inr later ↦
          elim (cases_eq w.due v.due) [
            | inr apart ↦ inl (omega arith)
            | inl same ↦
                elim (cases_lt v.id w.id) [
                  | inl lower ↦ absurd (let clash : true ≡ false = sym (is_before v w (inr (sym same, lower))) ∙ h in cc)
                  | inr higher ↦ inr (same, higher)
                ]
          ]
    ]

-- of two the first is one of them, and comes before both
two_first : (w v u : Waiting) → first_of_two w (Some v) ≡ Some u → IsNoLater u w × IsNoLater u v × ((P : Waiting → Type 0) → P w → P v → P u)
two_first w v u h =
    elim (comes_before v w) as (λ b. comes_before v w ≡ b → (if b then Some v else Some w) ≡ Some u → IsNoLater u w × IsNoLater u v × ((P : Waiting → Type 0) → P w → P v → P u)) [
      | true ↦ λ e g.
          let same : v ≡ u = cc in
          (subst (λ (x : Waiting). IsNoLater x w) same (before_then v w e), subst (λ (x : Waiting). IsNoLater x v) same (itself v), λ P at_w at_v. subst P same at_v)
      | false ↦ λ e g.
          let same : w ≡ u = cc in
          (subst (λ (x : Waiting). IsNoLater x w) same (itself w), subst (λ (x : Waiting). IsNoLater x v) same (not_before_then v w e), λ P at_w at_v. subst P same at_w)
    ] refl h

two_some : (w : Waiting) (o : Option Waiting) → first_of_two w o ≡ None → ⊥
two_some w None h = cc
two_some w (Some v) h =
    elim (comes_before v w) as (λ b. (if b then Some v else Some w) ≡ None → ⊥) [
      | true ↦ λ g. cc
      | false ↦ λ g. cc
    ] h

none_first : (ws : List Waiting) → first_due ws ≡ None → ws ≡ []
none_first [] h = refl
none_first (w ∷ ws) h = absurd (two_some w (first_due ws) h)

behind : (w u : Waiting) (ws : List Waiting) → Contains ws u → Contains (w ∷ ws) u
behind w u ws there = (suc there.0, omega (arith, there.1), there.2)

each_of : (P : Waiting → Type 0) (w : Waiting) (ws : List Waiting) → P w → All P ws → All P (w ∷ ws)
each_of P w ws here rest k = elim k as (λ (j : ℕ). (d : Waiting) → j < length (w ∷ ws) → P (get_or (w ∷ ws) j d)) [
  | zero ↦ λ d lt. here
  | suc j ↦ λ d lt. rest j d (omega arith)
]

first_is : (ws : List Waiting) (u : Waiting) → first_due ws ≡ Some u → IsEarliest ws u
first_is [] u h = absurd (cc)
first_is (w ∷ ws) u h =
    elim (first_due ws) as (λ o. first_due ws ≡ o → first_of_two w o ≡ Some u → IsEarliest (w ∷ ws) u) [
      | None ↦ λ e g.
          let same : w ≡ u = cc in
          let empty : length ws ≡ 0 = ap (λ (l : List Waiting). length l) (none_first ws e) in
          record {
            waits = (0, omega arith, same);
            first = each_of (IsNoLater u) w ws (subst (λ (x : Waiting). IsNoLater x w) same (itself w)) (λ k d lt. absurd (omega arith));
          }
      | Some v ↦ λ e g.
          let rest : IsEarliest ws v = first_is ws v e in
          let two = two_first w v u g in
          record {
            waits = two.2 (λ x. Contains (w ∷ ws) x) (0, omega arith, refl) (behind w v ws rest.waits);
            first = each_of (IsNoLater u) w ws two.0 (λ k d lt. after_two u v (get_or ws k d) two.1 (rest.first k d lt));
          }
    ] refl h

-- ---- of those on time

none_on : (now : ℕ) (ws : List Waiting) → first_due (on_time now ws) ≡ None → All (λ v. v.due < now) ws
none_on now [] h = λ k d lt. absurd (omega arith)
none_on now (w ∷ ws) h =
    elim (nat_le now w.due) as (λ b. nat_le now w.due ≡ b → first_due (cond b (w ∷ on_time now ws) (on_time now ws)) ≡ None → All (λ v. v.due < now) (w ∷ ws)) [
      | true ↦ λ _ g. absurd (two_some w (first_due (on_time now ws)) g)
      | false ↦ λ e g. each_of (λ v. v.due < now) w ws (leb-false now w.due e) (none_on now ws g)
    ] refl h

record IsFirstOn (now : ℕ) (ws : List Waiting) (u : Waiting) : Type 0 where
  waits : Contains ws u
  in_time : now ≤ u.due
  first : All (λ v. now ≤ v.due → IsNoLater u v) ws

first_on : (now : ℕ) (ws : List Waiting) (u : Waiting) → first_due (on_time now ws) ≡ Some u → IsFirstOn now ws u
first_on now [] u h = absurd (cc)
first_on now (w ∷ ws) u h =
    elim (nat_le now w.due) as (λ b. nat_le now w.due ≡ b → first_due (cond b (w ∷ on_time now ws) (on_time now ws)) ≡ Some u → IsFirstOn now (w ∷ ws) u) [
      | false ↦ λ e g.
          let past : w.due < now = leb-false now w.due e in
          let rest : IsFirstOn now ws u = first_on now ws u g in
          record { waits = behind w u ws rest.waits; in_time = rest.in_time; first = each_of (λ v. now ≤ v.due → IsNoLater u v) w ws (λ late. absurd (omega arith)) rest.first }
      | true ↦ λ e g.
          let in_time : now ≤ w.due = leb-true now w.due e in
          elim (first_due (on_time now ws)) as (λ o. first_due (on_time now ws) ≡ o → first_of_two w o ≡ Some u → IsFirstOn now (w ∷ ws) u) [
            | None ↦ λ f q.
                let same : w ≡ u = cc in
                record {
                  waits = (0, omega arith, same);
                  in_time = subst (λ (x : Waiting). now ≤ x.due) same in_time;
                  first = each_of (λ v. now ≤ v.due → IsNoLater u v) w ws (λ _. subst (λ (x : Waiting). IsNoLater x w) same (itself w)) (λ k d lt late. absurd (omega (arith, none_on now ws f k d lt)));
                }
            | Some v ↦ λ f q.
                let rest : IsFirstOn now ws v = first_on now ws v f in
                let two = two_first w v u q in
                record {
                  waits = two.2 (λ x. Contains (w ∷ ws) x) (0, omega arith, refl) (behind w v ws rest.waits);
                  in_time = two.2 (λ x. now ≤ x.due) in_time rest.in_time;
                  first = each_of (λ x. now ≤ x.due → IsNoLater u x) w ws (λ _. two.0) (λ k d lt late. after_two u v (get_or ws k d) two.1 (rest.first k d lt late));
                }
          ] refl g
    ] refl h

-- ---- the law

pub choice_first : (now : ℕ) (ws : List Waiting) (w : Waiting) → earliest_choice false now ws ≡ Some w → IsEarliest ws w
choice_first now ws w h = first_is ws w h

pub choice_on_time : (now : ℕ) (ws : List Waiting) (w : Waiting) → earliest_choice true now ws ≡ Some w → IsFirstOnTime now ws w
choice_on_time now ws w h =
    elim (first_due (on_time now ws)) as (λ o. first_due (on_time now ws) ≡ o → option_or o (first_due ws) ≡ Some w → IsFirstOnTime now ws w) [
      | Some v ↦ λ e g.
          let same : v ≡ w = cc in
          let on : IsFirstOn now ws w = first_on now ws w (e ∙ g) in
          record { waits = on.waits; on_time = λ k d lt late. (on.in_time, on.first k d lt late); late = λ past. absurd (omega (arith, on.in_time)) }
      | None ↦ λ e g.
          let all : IsEarliest ws w = first_is ws w g in
          let past = none_on now ws e in
          record { waits = all.waits; on_time = λ k d lt late. absurd (omega (arith, past k d lt)); late = λ _ k d lt. (past k d lt, all.first k d lt) }
    ] refl h

pub choice_none : (late_last : Bool) (now : ℕ) (ws : List Waiting) → earliest_choice late_last now ws ≡ None → ws ≡ []
choice_none false now ws h = none_first ws h
choice_none true now ws h =
    elim (first_due (on_time now ws)) as (λ o. option_or o (first_due ws) ≡ None → ws ≡ []) [
      | Some v ↦ λ g. absurd (cc)
      | None ↦ λ g. none_first ws g
    ] h
