-- Under a policy that leaves nothing open there is one replay.
use Rattle.std.proofs.Common.{◌≡◌, ◌<◌, ◌≤◌, ◌∙◌, sym, ap, subst, ℕ, suc, zero, ◌+◌, ◌-◌, arith, List, length, get_or, Some, inl, inr}
use Rattle.std.proofs.lemmas.Bool.{cases_eq, cases_lt}
use Rattle.std.proofs.lemmas.Grind.{same_number_lists}
use Rattle.std.proofs.lemmas.List.{get_or_past}
use Rattle.std.specs.FinMap.{remove}
use Rattle.blk_sched.specs.Meaning.{Waiting}
use Rattle.blk_sched.specs.Policies.{Policy}
use Rattle.blk_replay.specs.declared.Arrived.{Arrived}
use Rattle.blk_replay.specs.Replay.{Standing, standing, with_entered, ServesNext, PlaysRounds, IsDetermined, HasOneReplay}

-- one request is served, and one standing is left
one_served : (policy : Policy) (round : ℕ) (old : Standing) (w v : Waiting) (a b : Standing) → IsDetermined policy → ServesNext policy round old w a → ServesNext policy round old v b → (w ≡ v) × (a ≡ b)
one_served policy round old w v a b det s t =
    let one = det.one_choice old.kept old.meaning 0 round (Some w) (Some v) s.picked t.picked s.chosen t.chosen in
    let both : Some w ≡ Some v = one.0 in
    let same : w ≡ v = cc in
    let done : s.done ≡ t.done = det.one_done 0 v.extent.dir (round - v.release) t.picked s.done t.done
    (subst (λ (k : List ℕ). policy.told_done 0 v.extent.dir (round - v.release) k s.done) one.1
    (subst (λ (x : Waiting). policy.told_done 0 x.extent.dir (round - x.release) s.picked s.done) same s.told_done)) t.told_done in
    let kept : a.kept ≡ b.kept = det.one_tick (round + 1) t.done a.kept b.kept
    (subst (λ (k : List ℕ). policy.told_tick (round + 1) k a.kept) done s.told_tick) t.told_tick in
    let meaning : a.meaning ≡ b.meaning = s.left ∙ ap (λ (x : Waiting). record old.meaning { pending = remove old.meaning.pending x.id }) same ∙ sym t.left in
    (same, λ i. record { meaning = meaning i; kept = kept i })

-- in each round the two serve the same
record AreAlike (xs ys : List ℕ) (n : ℕ) (a b : Standing) : Type 0 where
  standing : a ≡ b
  rounds : (x : ℕ) → 0 < x → x ≤ n → (p : ℕ) × (get_or xs p 0 ≡ x) × (get_or ys p 0 ≡ x)

alike : (policy : Policy) (requests : List Arrived) (xs ys : List ℕ) (n : ℕ) (start a b : Standing) → IsDetermined policy → PlaysRounds policy requests xs n start a → PlaysRounds policy requests ys n start b → AreAlike xs ys n a b
unfolding PlaysRounds
alike policy requests xs ys zero start a b det g h = record { standing = g ∙ sym h; rounds = λ x some le. absurd (omega arith) }
alike policy requests xs ys (suc n) start a b det g h =
    let before = alike policy requests xs ys n start g.0 h.0 det g.1 h.1 in
    let one = one_served policy (suc n) (with_entered requests (suc n) g.0) g.2.served h.2.served a b det g.2.serves
    (subst (λ (s : Standing). ServesNext policy (suc n) (with_entered requests (suc n) s) h.2.served b) (sym before.standing) h.2.serves) in
    record {
      standing = one.1;
      rounds = λ x some le. elim (cases_eq x (suc n)) [
        | inl last ↦ (g.2.served.id, g.2.answered ∙ sym last, ap (λ (w : Waiting). get_or ys w.id 0) one.0 ∙ h.2.answered ∙ sym last)
        | inr other ↦ before.rounds x some (omega arith)
      ];
    }

pub one_replay : (policy : Policy) → HasOneReplay policy
one_replay policy det start requests xs ys g h =
    let told : h.begun ≡ g.begun = det.one_tick 1 start.kept h.begun g.begun h.told_first g.told_first in
    let other : PlaysRounds policy requests ys (length requests) (standing start.meaning g.begun) h.end = subst (λ (k : List ℕ). PlaysRounds policy requests ys (length requests) (standing start.meaning k) h.end) told h.played in
    let all = alike policy requests xs ys (length requests) (standing start.meaning g.begun) g.end h.end det g.played other in
    same_number_lists xs ys (g.one_each ∙ sym h.one_each) (λ k lt.
    let range = g.own_rounds.in_range k lt in
    let at = all.rounds (get_or xs k 0) range.0 (omega (arith, range.1, g.one_each)) in
    let there : at.0 < length xs = elim (cases_lt at.0 (length xs)) [
      | inl inside ↦ inside
      | inr past ↦ absurd (omega (arith, range.0, at.1, get_or_past xs at.0 0 past))
    ] in
    let same : at.0 ≡ k = g.own_rounds.own at.0 k there lt at.1 in
    sym (sym (ap (λ p. get_or ys p 0) same) ∙ at.2))
