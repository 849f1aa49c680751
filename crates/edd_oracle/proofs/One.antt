-- Earliest due first, with ties by id, has one schedule.
use Rattle.std.proofs.Common.{◌≡◌, ◌<◌, ◌≤◌, ◌≢◌, ℕ, ◌==◌, ◌⊎◌, zero, suc, inl, inr, List, [], ◌∷◌, length, get_or, count_by, arith, refl, sym, ap, ◌∙◌}
use Rattle.std.proofs.lemmas.Bool.{cases_eq, cases_lt, cases_order, eq-eqb, ne_eqb, eqb-true}
use Rattle.std.proofs.lemmas.List.{get_or_default}
use Rattle.edd_commands.specs.declared.Command.{Command}
use Rattle.edd_commands.specs.declared.steps.Step.{Step}
use Rattle.edd_commands.specs.Capacity.{depth_at}
use Rattle.edd_commands.specs.Schedule.{places_at, IsLegal}
use Rattle.edd_oracle.specs.Input.{HasDistinctIds}
use Rattle.edd_oracle.specs.Priority.{IsEarliestDueFirst, ComesFirst}
use Rattle.edd_oracle.proofs.Counting.{count_yes, count_no, count_rest, count_along}

-- a place where ys has x and xs hasn't, or none
other_place : (x : ℕ) (xs ys : List ℕ) → length xs ≡ length ys → ((p : ℕ) × (p < length ys) × (get_or ys p 0 ≡ x) × (get_or xs p 0 ≢ x)) ⊎ ((p : ℕ) → p < length ys → get_or ys p 0 ≡ x → get_or xs p 0 ≡ x)
other_place x [] [] same = inr (λ p h. absurd (omega arith))
other_place x [] (b ∷ ys) same = absurd (omega arith)
other_place x (a ∷ xs) [] same = absurd (omega arith)
other_place x (a ∷ xs) (b ∷ ys) same =
    elim (other_place x xs ys (omega arith)) [
      | inl there ↦ inl (suc there.0, omega (arith, there.1), there.2, there.3)
      | inr none ↦
          elim (cases_eq b x) [
            | inl at_b ↦
                elim (cases_eq a x) [
                  | inl at_a ↦ inr (λ p. elim p as (λ q. q < length (b ∷ ys) → get_or (b ∷ ys) q 0 ≡ x → get_or (a ∷ xs) q 0 ≡ x) [ zero ↦ λ h e. at_a | suc q ↦ λ h e. none q (omega arith) e ])
                  | inr off ↦ inl (0, omega arith, at_b, off)
                ]
            | inr off ↦ inr (λ p. elim p as (λ q. q < length (b ∷ ys) → get_or (b ∷ ys) q 0 ≡ x → get_or (a ∷ xs) q 0 ≡ x) [ zero ↦ λ h e. absurd (off e) | suc q ↦ λ h e. none q (omega arith) e ])
          ]
    ]

-- where xs has x wherever ys has it, and at one place more, it has it more often
more_places : (x k : ℕ) (xs ys : List ℕ) → length xs ≡ length ys → ((p : ℕ) → p < length ys → get_or ys p 0 ≡ x → get_or xs p 0 ≡ x) → k < length xs → get_or xs k 0 ≡ x → get_or ys k 0 ≢ x → places_at ys x < places_at xs x
unfolding places_at
more_places x k [] ys same along within at off = absurd (omega arith)
more_places x k (a ∷ xs) [] same along within at off = absurd (omega arith)
more_places x zero (a ∷ xs) (b ∷ ys) same along within at off =
    let rest : count_by (λ z. z == x) ys ≤ count_by (λ z. z == x) xs =
    count_along (λ z. z == x) (λ z. z == x) ys xs (omega arith)
    (λ p d e h yes_p.
    let here : get_or ys p 0 ≡ x = sym (get_or_default ys p d 0 h) ∙ eqb-true (get_or ys p d) x yes_p in
    eq-eqb (get_or xs p e) x (get_or_default xs p e 0 (omega arith) ∙ along (suc p) (omega arith) here)) in
    omega (arith, rest, count_yes (λ z. z == x) a xs (eq-eqb a x at), count_no (λ z. z == x) b ys (ne_eqb b x off))
more_places x (suc k) (a ∷ xs) (b ∷ ys) same along within at off =
    let rest : count_by (λ z. z == x) ys < count_by (λ z. z == x) xs =
    more_places x k xs ys (omega arith) (λ p h e. along (suc p) (omega arith) e) (omega arith) at off in
    elim (cases_eq b x) [
      | inl at_b ↦ omega (arith, rest, count_yes (λ z. z == x) b ys (eq-eqb b x at_b), count_yes (λ z. z == x) a xs (eq-eqb a x (along 0 (omega arith) at_b)))
      | inr off_b ↦ omega (arith, rest, count_no (λ z. z == x) b ys (ne_eqb b x off_b), count_rest (λ z. z == x) a xs)
    ]

-- each of two comes first only where they tie
tied : (a b : Command) → ComesFirst a b → ComesFirst b a → a.id ≡ b.id
tied a b first second =
    elim first [
      | inl sooner ↦ elim second [ inl other ↦ absurd (omega arith) | inr tie ↦ absurd (omega (arith, tie.0)) ]
      | inr same ↦ elim second [ inl other ↦ absurd (omega (arith, same.0)) | inr tie ↦ omega (arith, same.1, tie.1) ]
    ]

-- the one schedule's command of the round x doesn't wait there in the other, where both agree before x
clash : (commands : List Command) (steps : List Step) (one other : List ℕ) (x k : ℕ) (d : Command) → HasDistinctIds commands (length commands) → IsLegal commands one steps → IsEarliestDueFirst commands one steps → IsLegal commands other steps → IsEarliestDueFirst commands other steps → ((p : ℕ) → p < length commands → get_or one p 0 < x → get_or other p 0 ≡ get_or one p 0) → k < length commands → get_or one k 0 ≡ x → x < get_or other k 0 → ⊥
clash commands steps one other x k d distinct legal first legal' first' before within at later =
    let released : (get_or commands k d).release ≤ x = omega (arith, legal.released k d within) in
    let full : places_at other x ≡ depth_at steps x = first'.full x k d within released later in
    let most : places_at one x ≤ depth_at steps x = legal.within_depth x in
    let same : length one ≡ length other = legal.one_each ∙ sym legal'.one_each in
    elim (other_place x one other same) [
      | inl there ↦
          let p : ℕ = there.0 in
          let p_in : p < length commands = omega (arith, there.1, legal'.one_each) in
          let p_at : get_or other p 0 ≡ x = there.2 in
          let p_later : x < get_or one p 0 =
          elim (cases_lt x (get_or one p 0)) [
            | inl up ↦ up
            | inr down ↦
                elim (cases_lt (get_or one p 0) x) [
                  | inl under ↦ absurd (omega (arith, before p p_in under))
                  | inr still ↦ absurd (there.3 (omega arith))
                ]
          ] in
          let p_released : (get_or commands p d).release ≤ x = omega (arith, legal'.released p d p_in) in
          let k_first : ComesFirst (get_or commands k d) (get_or commands p d) = first.due_first x p k d p_in p_released p_later within at in
          let p_first : ComesFirst (get_or commands p d) (get_or commands k d) = first'.due_first x k p d within released later p_in p_at in
          let ids : (get_or commands k d).id ≡ (get_or commands p d).id = tied (get_or commands k d) (get_or commands p d) k_first p_first in
          elim (cases_order k p) [
            | inl here ↦ let there' : get_or other k 0 ≡ get_or other p 0 = ap (λ i. get_or other i 0) here in absurd (omega arith)
            | inr apart ↦
                elim apart [
                  | inl below ↦ distinct k p d below p_in ids
                  | inr above ↦ distinct p k d above within (sym ids)
                ]
          ]
      | inr none ↦ absurd (omega (arith, more_places x k one other same none (omega (arith, legal.one_each)) at (λ e. absurd (omega arith))))
    ]

-- both agree before x
agree : (commands : List Command) (steps : List Step) (one other : List ℕ) (d : Command) → HasDistinctIds commands (length commands) → IsLegal commands one steps → IsEarliestDueFirst commands one steps → IsLegal commands other steps → IsEarliestDueFirst commands other steps → (x p : ℕ) → p < length commands → (get_or one p 0 < x → get_or other p 0 ≡ get_or one p 0) × (get_or other p 0 < x → get_or one p 0 ≡ get_or other p 0)
agree commands steps one other d distinct legal first legal' first' zero p within = (λ h. absurd (omega arith), λ h. absurd (omega arith))
agree commands steps one other d distinct legal first legal' first' (suc x) p within =
    let before = agree commands steps one other d distinct legal first legal' first' x in
    let here = before p within in (
      λ h.
          elim (cases_lt (get_or one p 0) x) [
            | inl low ↦ here.0 low
            | inr high ↦
                elim (cases_order (get_or other p 0) (get_or one p 0)) [
                  | inl same ↦ same
                  | inr apart ↦
                      elim apart [
                        | inl under ↦ absurd (omega (arith, here.1 (omega arith)))
                        | inr over ↦ absurd (clash commands steps one other x p d distinct legal first legal' first' (λ q q_in. (before q q_in).0) within (omega arith) (omega arith))
                      ]
                ]
          ],
      λ h.
          elim (cases_lt (get_or other p 0) x) [
            | inl low ↦ here.1 low
            | inr high ↦
                elim (cases_order (get_or one p 0) (get_or other p 0)) [
                  | inl same ↦ same
                  | inr apart ↦
                      elim apart [
                        | inl under ↦ absurd (omega (arith, here.0 (omega arith)))
                        | inr over ↦ absurd (clash commands steps other one x p d distinct legal' first' legal first (λ q q_in. (before q q_in).1) within (omega arith) (omega arith))
                      ]
                ]
          ],
    )

same_lists : (xs ys : List ℕ) → length xs ≡ length ys → ((p : ℕ) → p < length xs → get_or xs p 0 ≡ get_or ys p 0) → xs ≡ ys
same_lists [] [] same each = refl
same_lists [] (y ∷ ys) same each = absurd (omega arith)
same_lists (x ∷ xs) [] same each = absurd (omega arith)
same_lists (x ∷ xs) (y ∷ ys) same each =
    let rest : xs ≡ ys = same_lists xs ys (omega arith) (λ p h. each (suc p) (omega arith)) in
    let first : x ≡ y = each 0 (omega arith) in
    cc

pub one_schedule : (commands : List Command) (steps : List Step) (one other : List ℕ) → HasDistinctIds commands (length commands) → IsLegal commands one steps → IsEarliestDueFirst commands one steps → IsLegal commands other steps → IsEarliestDueFirst commands other steps → one ≡ other
one_schedule commands steps one other distinct legal first legal' first' =
    same_lists one other (legal.one_each ∙ sym legal'.one_each)
    (λ p h.
    sym ((agree commands steps one other record { id = 0; release = 0; due = 0 } distinct legal first legal' first' (suc (get_or one p 0)) p (omega (arith, legal.one_each))).0 (omega arith)))
