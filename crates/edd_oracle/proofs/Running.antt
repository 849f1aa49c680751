-- The commands that run before a round, by round.
use Rattle.std.proofs.Common.{◌≡◌, ◌<◌, ◌≤◌, ℕ, ◌+◌, ◌==◌, ◌&&◌, nat_le, cond, List, [], ◌∷◌, ◌++◌, length, get_or, take, count_by, inl, inr, arith, refl, ap, sym, ◌∙◌, subst}
use Rattle.std.specs.List.{zip}
use Rattle.std.specs.List.Sorted.{IsPermutation}
use Rattle.std.proofs.lemmas.Bool.{cases_eq, cases_lt, cond-true, cond-false, ne_eqb, eq-eqb, and_from, and_left, and_right, le-leb, lt-leb}
use Rattle.std.proofs.lemmas.List.{take_all}
use Rattle.std.proofs.lemmas.List.Sums.{sum_by-cons, sum_by-append}
use Rattle.std.proofs.lemmas.List.Sorted.{sum_by-IsPermutation}
use Rattle.edd_commands.specs.declared.Command.{Command}
use Rattle.edd_commands.specs.Schedule.{places_at}
use Rattle.edd_commands.proofs.Counting.{places_more, places_same}
use Rattle.edd_oracle.specs.declared.cover.Served.{Served}
use Rattle.edd_oracle.specs.Plan.{due_at}
use Rattle.edd_oracle.specs.Inside.Cover.{served_at, running_at}
use Rattle.edd_oracle.proofs.Pairs.{is_due_at, due_more_yes, due_more_late, due_more_other, length_pairs}

-- those of the first n
pub record AreServed (commands : List Command) (rounds : List ℕ) (past n : ℕ) (found : List Served) : Type 0 where
  pub same : (y due : ℕ) → y < past → served_at found y due ≡ count_by (is_due_at y due) (take n (zip commands rounds))
  pub few : (y : ℕ) → running_at found y ≤ places_at (take n rounds) y

pub none_served : (commands : List Command) (rounds : List ℕ) (past : ℕ) (found : List Served) → found ≡ [] → AreServed commands rounds past 0 found
unfolding served_at running_at places_at
none_served commands rounds past found none =
    subst (λ xs. AreServed commands rounds past 0 xs) (sym none) record { same = λ y due h. refl; few = λ y. omega arith }

served_push : (found : List Served) (s : Served) (y due : ℕ) → served_at (found ++ s ∷ []) y due ≡ served_at found y due + cond (nat_le s.due due && s.round == y) 1 0
unfolding served_at
served_push found s y due =
    omega (arith, sum_by-append (λ t. cond (nat_le t.due due && t.round == y) 1 0) found (s ∷ []), sum_by-cons (λ t. cond (nat_le t.due due && t.round == y) 1 0) s [])

running_push : (found : List Served) (s : Served) (y : ℕ) → running_at (found ++ s ∷ []) y ≡ running_at found y + cond (s.round == y) 1 0
unfolding running_at
running_push found s y =
    omega (arith, sum_by-append (λ t. cond (t.round == y) 1 0) found (s ∷ []), sum_by-cons (λ t. cond (t.round == y) 1 0) s [])

-- one more runs before then
pub more_served : (commands : List Command) (rounds : List ℕ) (past n : ℕ) (found new : List Served) (s : Served) (d : Command) → AreServed commands rounds past n found → length rounds ≡ length commands → n < length commands → s.round ≡ get_or rounds n 0 → s.due ≡ (get_or commands n d).due → new ≡ found ++ s ∷ [] → AreServed commands rounds past (n + 1) new
more_served commands rounds past n found new s d so_far long within is_round is_due is_new =
    subst (λ xs. AreServed commands rounds past (n + 1) xs) (sym is_new) record {
      same = λ y due h.
          elim (cases_eq s.round y) [
            | inr other ↦ omega (
              arith,
              served_push found s y due,
              cond-false {A = ℕ} (nat_le s.due due && s.round == y) 1 0 (and_right (nat_le s.due due) (s.round == y) (ne_eqb s.round y other)),
              so_far.same y due h,
              due_more_other commands rounds y due n d long within (λ e. other (is_round ∙ e)),
            )
            | inl here ↦
                elim (cases_lt due s.due) [
                  | inl late ↦ omega (
                    arith,
                    served_push found s y due,
                    cond-false {A = ℕ} (nat_le s.due due && s.round == y) 1 0 (and_left (nat_le s.due due) (s.round == y) (lt-leb s.due due late)),
                    so_far.same y due h,
                    due_more_late commands rounds y due n d long within (omega arith),
                  )
                  | inr timely ↦ omega (
                    arith,
                    served_push found s y due,
                    cond-true {A = ℕ} (nat_le s.due due && s.round == y) 1 0 (and_from (nat_le s.due due) (s.round == y) (le-leb s.due due timely) (eq-eqb s.round y here)),
                    so_far.same y due h,
                    due_more_yes commands rounds y due n d long within (omega arith) (sym is_round ∙ here),
                  )
                ]
          ];
      few = λ y.
          elim (cases_eq s.round y) [
            | inl here ↦ omega (arith, running_push found s y, cond-true {A = ℕ} (s.round == y) 1 0 (eq-eqb s.round y here), so_far.few y, places_more rounds n y (omega arith) (sym is_round ∙ here))
            | inr other ↦ omega (arith, running_push found s y, cond-false {A = ℕ} (s.round == y) 1 0 (ne_eqb s.round y other), so_far.few y, places_same rounds n y (omega arith) (λ e. other (is_round ∙ e)))
          ];
    }

-- the next one runs later
pub same_served : (commands : List Command) (rounds : List ℕ) (past n : ℕ) (found : List Served) (d : Command) → AreServed commands rounds past n found → length rounds ≡ length commands → n < length commands → past ≤ get_or rounds n 0 → AreServed commands rounds past (n + 1) found
same_served commands rounds past n found d so_far long within later =
    record {
      same = λ y due h. so_far.same y due h ∙ sym (due_more_other commands rounds y due n d long within (λ e. absurd (omega arith)));
      few = λ y.
          elim (cases_eq (get_or rounds n 0) y) [
            | inl here ↦ omega (arith, so_far.few y, places_more rounds n y (omega arith) here)
            | inr other ↦ omega (arith, so_far.few y, places_same rounds n y (omega arith) other)
          ];
    }

-- once all are seen, in order
pub served_same : (commands : List Command) (rounds : List ℕ) (past n : ℕ) (found sorted : List Served) → AreServed commands rounds past n found → length rounds ≡ length commands → length commands ≤ n → IsPermutation found sorted → (y due : ℕ) → y < past → served_at sorted y due ≡ due_at commands rounds y due
unfolding served_at due_at
served_same commands rounds past n found sorted so_far long all moved y due h =
    sum_by-IsPermutation (λ s. cond (nat_le s.due due && s.round == y) 1 0) found sorted moved
    ∙ so_far.same y due h
    ∙ ap (λ xs. count_by (is_due_at y due) xs) (take_all n (zip commands rounds) (omega (arith, length_pairs commands rounds long)))

pub served_few : (commands : List Command) (rounds : List ℕ) (past n : ℕ) (found sorted : List Served) → AreServed commands rounds past n found → length rounds ≡ length commands → length commands ≤ n → IsPermutation found sorted → (y : ℕ) → running_at sorted y ≤ places_at rounds y
unfolding running_at
served_few commands rounds past n found sorted so_far long all moved y =
    let moved_count : running_at sorted y ≡ running_at found y = sum_by-IsPermutation (λ s. cond (s.round == y) 1 0) found sorted moved in
    let whole : places_at (take n rounds) y ≡ places_at rounds y = ap (λ xs. places_at xs y) (take_all n rounds (omega arith)) in
    omega (arith, so_far.few y)
