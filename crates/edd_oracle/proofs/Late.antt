-- The due rounds of the commands that are passed over.
use Rattle.std.proofs.Common.{◌≡◌, ◌<◌, ◌≤◌, ℕ, ◌+◌, List, [], ◌∷◌, ◌++◌, length, get_or, ◌⊎◌, inl, inr, arith, ap, sym, ◌∙◌, subst}
use Rattle.std.specs.List.{All, Contains}
use Rattle.std.specs.List.Sorted.{IsPermutation}
use Rattle.std.proofs.lemmas.Bool.{cases_eq}
use Rattle.std.proofs.lemmas.List.{get_or_default}
use Rattle.std.proofs.lemmas.List.Elements.{All-nil, All-push, Contains-push, Contains-append_left}
use Rattle.std.proofs.lemmas.List.Sorted.{All-permutation, Contains-permutation}
use Rattle.edd_commands.specs.declared.Command.{Command}
use Rattle.edd_oracle.specs.OnTime.{IsPassedOver}
use Rattle.edd_oracle.specs.Inside.Cover.{IsPassedDue}

-- those of the first n
pub record AreLate (commands : List Command) (rounds : List ℕ) (n : ℕ) (found : List ℕ) : Type 0 where
  pub each : (k : ℕ) (d : Command) → k < n → IsPassedOver commands rounds k d → Contains found (get_or commands k d).due
  pub some : All (IsPassedDue commands rounds) found

pub no_late : (commands : List Command) (rounds found : List ℕ) → found ≡ [] → AreLate commands rounds 0 found
no_late commands rounds found none =
    subst (λ xs. AreLate commands rounds 0 xs) (sym none) record {
      each = λ k d h passed. absurd (omega arith);
      some = All-nil (IsPassedDue commands rounds);
    }

-- one more is passed over
pub more_late : (commands : List Command) (rounds found new : List ℕ) (n : ℕ) (d : Command) → AreLate commands rounds n found → n < length commands → (get_or commands n d).release ≤ (get_or commands n d).due → (get_or commands n d).due < get_or rounds n 0 → new ≡ found ++ (get_or commands n d).due ∷ [] → AreLate commands rounds (n + 1) new
more_late commands rounds found new n d so_far within some late is_new =
    let same : (e : Command) → get_or commands n d ≡ get_or commands n e = λ e. get_or_default commands n d e within in
    subst (λ xs. AreLate commands rounds (n + 1) xs) (sym is_new) record {
      each = λ k e h passed.
          elim (cases_eq k n) [
            | inl here ↦
                let is_due : (get_or commands n d).due ≡ (get_or commands k e).due = ap (λ (c : Command). c.due) (same e) ∙ ap (λ i. (get_or commands i e).due) (sym here) in
                subst (λ x. Contains (found ++ (get_or commands n d).due ∷ []) x) is_due (Contains-push found (get_or commands n d).due)
            | inr other ↦ Contains-append_left found ((get_or commands n d).due ∷ []) (get_or commands k e).due (so_far.each k e (omega arith) passed)
          ];
      some = All-push (IsPassedDue commands rounds) found (get_or commands n d).due so_far.some record {
        place = n;
        passed = λ e. record {
          in_list = within;
          some = subst (λ (c : Command). c.release ≤ c.due) (same e) some;
          late = subst (λ (c : Command). c.due < get_or rounds n 0) (same e) late;
        };
        is_due = λ e. ap (λ (c : Command). c.due) (same e);
      };
    }

-- the next one isn't
pub same_late : (commands : List Command) (rounds found : List ℕ) (n : ℕ) (d : Command) → AreLate commands rounds n found → n < length commands → ((get_or commands n d).due < (get_or commands n d).release) ⊎ (get_or rounds n 0 ≤ (get_or commands n d).due) → AreLate commands rounds (n + 1) found
same_late commands rounds found n d so_far within apart =
    record {
      each = λ k e h passed.
          elim (cases_eq k n) [
            | inl here ↦
                let same : get_or commands k e ≡ get_or commands n d = ap (λ i. get_or commands i e) here ∙ get_or_default commands n e d within in
                let some : (get_or commands n d).release ≤ (get_or commands n d).due = subst (λ (c : Command). c.release ≤ c.due) same passed.some in
                let late : (get_or commands n d).due < get_or rounds k 0 = subst (λ (c : Command). c.due < get_or rounds k 0) same passed.late in
                let at : get_or rounds k 0 ≡ get_or rounds n 0 = ap (λ i. get_or rounds i 0) here in
                elim apart [
                  | inl never ↦ absurd (omega arith)
                  | inr timely ↦ absurd (omega arith)
                ]
            | inr other ↦ so_far.each k e (omega arith) passed
          ];
      some = so_far.some;
    }

pub late_in_order : (commands : List Command) (rounds found sorted : List ℕ) (n : ℕ) → AreLate commands rounds n found → IsPermutation found sorted → AreLate commands rounds n sorted
late_in_order commands rounds found sorted n so_far moved =
    record {
      each = λ k d h passed. Contains-permutation found sorted (get_or commands k d).due moved (so_far.each k d h passed);
      some = All-permutation (IsPassedDue commands rounds) found sorted moved so_far.some;
    }
