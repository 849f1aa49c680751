-- The requests of a round enter, one after the other.
use Rattle.std.proofs.Common.{◌≡◌, ◌<◌, ◌≤◌, ◌∙◌, sym, ap, refl, ℕ, suc, zero, ◌+◌, ◌==◌, arith, List, [], ◌∷◌, length, take, cond, Some, None, inl, inr}
use Rattle.std.specs.Prelude.{slice_get}
use Rattle.std.proofs.lemmas.Bool.{eq-eqb, ne_eqb, cases_eq}
use Rattle.std.proofs.lemmas.Option.{slice_get_within}
use Rattle.std.specs.FinMap.{get, insert, len}
use Rattle.blk_sched.specs.Meaning.{Pending, Meaning}
use Rattle.blk_replay.specs.declared.Arrived.{Arrived}
use Rattle.blk_replay.specs.Replay.{waiting, once_entered}
use Rattle.blk_replay.specs.Inside.{HasEntered, IsLater}
use Rattle.blk_replay.proofs.Pending.{get_new, get_old, len_new}

-- where no request is released in the round, nothing enters
entered_none : (round id n : ℕ) (rs : List Arrived) (P : Pending) → ((p : ℕ) → p < n → IsLater rs round p) → once_entered round id (take n rs) P ≡ P
unfolding once_entered
entered_none round id zero rs P none = refl
entered_none round id (suc n) [] P none = refl
entered_none round id (suc n) (r ∷ rs) P none =
    ap (once_entered round (suc id) (take n rs)) (ap (λ b. cond b (insert P id (waiting id r)) P) (ne_eqb r.release round (none 0 (omega arith) r refl)))
    ∙ entered_none round (suc id) n rs P (λ p lt. none (suc p) (omega arith))

-- one more enters
entered_more : (round id n : ℕ) (rs : List Arrived) (r : Arrived) (P : Pending) → slice_get rs n ≡ Some r → r.release ≡ round → once_entered round id (take (suc n) rs) P ≡ insert (once_entered round id (take n rs) P) (id + n) (waiting (id + n) r)
unfolding once_entered
entered_more round id n [] r P is at = absurd (cc)
entered_more round id zero (x ∷ rs) r P is at =
    let same : x ≡ r = cc in
    ap (λ b. cond b (insert P id (waiting id x)) P) (eq-eqb x.release round (ap (λ (y : Arrived). y.release) same ∙ at))
    ∙ ap (λ (y : Arrived). insert P id (waiting id y)) same
    ∙ ap (λ k. insert P k (waiting k r)) (let e : id ≡ id + 0 = omega arith in e)
entered_more round id (suc n) (x ∷ rs) r P is at =
    entered_more round (suc id) n rs r (cond (x.release == round) (insert P id (waiting id x)) P) is at
    ∙ ap (λ k. insert (once_entered round (suc id) (take n rs) (cond (x.release == round) (insert P id (waiting id x)) P)) k (waiting k r)) (let e : suc id + n ≡ id + suc n = omega arith in e)

-- none of those that follow is released in the round
pub entered_all : (round id n : ℕ) (rs : List Arrived) (P : Pending) → ((p : ℕ) → n ≤ p → IsLater rs round p) → once_entered round id (take n rs) P ≡ once_entered round id rs P
unfolding once_entered
entered_all round id zero [] P none = refl
entered_all round id zero (r ∷ rs) P none =
    entered_all round (suc id) zero rs P (λ p le. none (suc p) (omega arith))
    ∙ sym (ap (once_entered round (suc id) rs) (ap (λ b. cond b (insert P id (waiting id r)) P) (ne_eqb r.release round (none 0 (omega arith) r refl))))
entered_all round id (suc n) [] P none = refl
entered_all round id (suc n) (r ∷ rs) P none =
    entered_all round (suc id) n rs (cond (r.release == round) (insert P id (waiting id r)) P) (λ p le. none (suc p) (omega arith))

pub enter_none : (requests : List Arrived) (round first : ℕ) (P : Pending) → first ≤ length requests → ((p : ℕ) → p < first → IsLater requests round p) → HasEntered requests round first first P P
enter_none requests round first P within none = record {
  from = omega arith;
  within = within;
  is = sym (entered_none round 0 first requests P none);
  these = λ p r le lt is. absurd (omega arith);
  below = λ p lt. refl;
  above = λ p le. refl;
  count = refl;
}

pub enter_one : (requests : List Arrived) (round first next : ℕ) (old mid new : Pending) (r : Arrived) → HasEntered requests round first next old mid → slice_get requests next ≡ Some r → r.release ≡ round → get old next ≡ None → new ≡ insert mid next (waiting next r) → HasEntered requests round first (next + 1) old new
enter_one requests round first next old mid new r h is at free now = record {
  from = omega arith;
  within = omega (arith, slice_get_within requests next r is);
  is = now ∙ ap (λ m. insert m next (waiting next r)) h.is ∙ ap (λ k. insert (once_entered round 0 (take next requests) old) k (waiting k r)) (let e : next ≡ 0 + next = omega arith in e) ∙ sym (entered_more round 0 next requests r old is at) ∙ ap (λ n. once_entered round 0 (take n requests) old) (let e : suc next ≡ next + 1 = omega arith in e);
  these = λ p x le lt found. elim (cases_eq p next) [
    | inl same ↦
        let one : x ≡ r = let e : slice_get requests p ≡ slice_get requests next = ap (slice_get requests) same in cc in
        (ap (λ (y : Arrived). y.release) one ∙ at, ap (λ m. get m p) now ∙ ap (get (insert mid next (waiting next r))) same ∙ get_new mid next (waiting next r) ∙ ap (λ (k : ℕ). Some (waiting k r)) (sym same) ∙ ap (λ y. Some (waiting p y)) (sym one))
    | inr other ↦
        let before = h.these p x le (omega arith) found in
        (before.0, ap (λ m. get m p) now ∙ get_old mid next (waiting next r) p other ∙ before.1)
  ];
  below = λ p lt. ap (λ m. get m p) now ∙ get_old mid next (waiting next r) p (λ e. absurd (omega (arith, h.from))) ∙ h.below p lt;
  above = λ p le. ap (λ m. get m p) now ∙ get_old mid next (waiting next r) p (λ e. absurd (omega arith)) ∙ h.above p (omega arith);
  count =
      let more : len new ≡ len mid + 1 = ap (λ (m : Pending). len m) now ∙ len_new mid next (waiting next r) (h.above next (omega arith) ∙ free) in
      omega (arith, more, h.count);
}

-- nothing but what waits has changed, over two steps
pub entered_rest : (old mid new : Meaning) (P : Pending) → mid ≡ record old { pending = mid.pending } → new ≡ record mid { pending = P } → new ≡ record old { pending = new.pending }
entered_rest old mid new P e f =
    f ∙ ap (λ (m : Meaning). record m { pending = P }) e ∙ ap (λ p. record old { pending = p }) (sym (ap (λ (m : Meaning). m.pending) f))
