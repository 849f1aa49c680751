-- One record more that is counted.
use Rattle.std.proofs.Common.{◌≡◌, ◌+◌, ◌-◌, ◌^◌, ◌<◌, ◌∙◌, ◌++◌, ◌∷◌, ℕ, Bool, true, false, cond, List, [], length, map, count_by, refl, sym, ap, arith}
use Rattle.std.specs.Prelude.{min}
use Rattle.std.proofs.lemmas.List.Sums.{count_by-le-length, sum_by_push, sum_by-cons}
use Rattle.blk_capture.specs.Fates.{is_unmatched, is_passed, is_of_kind}
use Rattle.blk_capture.specs.Running.{so_far}
use Rattle.blk_capture.specs.declared.fates.Fate.{Fate}
use Rattle.blk_capture.specs.declared.fates.Fate.TheVariants as fate
use Rattle.blk_capture.specs.declared.record.PassReason.{PassReason}
use Rattle.blk_capture.specs.declared.record.PassReason.TheVariants as passed
use Rattle.blk_capture_text.specs.SummaryText.{counts_of, one_counted, counts_with}
use Rattle.blk_capture_text.specs.declared.numbers.UnusedCounts.{UnusedCounts}

least : (n : ℕ) → n < 2 ^ 63 → min (n + 1) (2 ^ 64 - 1) ≡ n + 1
least n l = omega (arith, l)

added : (n : ℕ) (b : Bool) → n < 2 ^ 63 → one_counted n b ≡ n + cond b 1 0
added n true l = least n l
added n false l = omega arith

pub counted_one : (p : Fate → Bool) (fates : List Fate) (f : Fate) (n : ℕ) → length fates < 2 ^ 63 → n ≡ count_by p fates → one_counted n (p f) ≡ count_by p (fates ++ f ∷ [])
counted_one p fates f n few e =
    let low : n < 2 ^ 63 = omega (arith, e, few, count_by-le-length p fates) in
    added n (p f) low ∙ ap (λ k. k + cond (p f) 1 0) e ∙ sym (sum_by_push (λ g. cond (p g) 1 0) fates f)

pub counts_next : (fates : List Fate) (f : Fate) (u : UnusedCounts) → length fates < 2 ^ 63 → u ≡ counts_of fates → counts_with u f ≡ counts_of (fates ++ f ∷ [])
counts_next fates f u few e = ap (λ (v : UnusedCounts). counts_with v f) e ∙ (λ i. record {
  unmatched = counted_one is_unmatched fates f _ few refl i;
  passed = counted_one is_passed fates f _ few refl i;
  plugs = counted_one (is_of_kind passed.Plug) fates f _ few refl i;
  unplugs = counted_one (is_of_kind passed.Unplug) fates f _ few refl i;
  actions = counted_one (is_of_kind passed.Action) fates f _ few refl i;
  discards = counted_one (is_of_kind passed.Discard) fates f _ few refl i;
  erases = counted_one (is_of_kind passed.Erase) fates f _ few refl i;
  flushes = counted_one (is_of_kind passed.Flush) fates f _ few refl i;
  others = counted_one (is_of_kind passed.Nothing) fates f _ few refl i;
  empty = counted_one (is_of_kind passed.Empty) fates f _ few refl i;
  past_end = counted_one (is_of_kind passed.PastEnd) fates f _ few refl i;
})

-- what is counted is known at once
counted_so_far : (p : Fate → Bool) → ((f : Fate) → p (so_far f) ≡ p f) → (fates : List Fate) → count_by p (map so_far fates) ≡ count_by p fates
counted_so_far p same [] = refl
counted_so_far p same (f ∷ fates) =
    sum_by-cons (λ g. cond (p g) 1 0) (so_far f) (map so_far fates)
    ∙ ap (λ b. cond b 1 0 + count_by p (map so_far fates)) (same f)
    ∙ ap (λ n. cond (p f) 1 0 + n) (counted_so_far p same fates)
    ∙ sym (sum_by-cons (λ g. cond (p g) 1 0) f fates)

unmatched_same : (f : Fate) → is_unmatched (so_far f) ≡ is_unmatched f
unmatched_same (fate.Taken k) = refl
unmatched_same fate.LeftOut = refl
unmatched_same fate.Unmatched = refl
unmatched_same (fate.PassedOver kind) = refl

passed_same : (f : Fate) → is_passed (so_far f) ≡ is_passed f
passed_same (fate.Taken k) = refl
passed_same fate.LeftOut = refl
passed_same fate.Unmatched = refl
passed_same (fate.PassedOver kind) = refl

kind_same : (kind : PassReason) (f : Fate) → is_of_kind kind (so_far f) ≡ is_of_kind kind f
kind_same kind (fate.Taken k) = refl
kind_same kind fate.LeftOut = refl
kind_same kind fate.Unmatched = refl
kind_same kind (fate.PassedOver found) = refl

kind_counted : (kind : PassReason) (fates : List Fate) → count_by (is_of_kind kind) (map so_far fates) ≡ count_by (is_of_kind kind) fates
kind_counted kind fates = counted_so_far (is_of_kind kind) (kind_same kind) fates

pub counts_so_far : (fates : List Fate) → counts_of (map so_far fates) ≡ counts_of fates
counts_so_far fates = λ i. record {
  unmatched = counted_so_far is_unmatched unmatched_same fates i;
  passed = counted_so_far is_passed passed_same fates i;
  plugs = kind_counted passed.Plug fates i;
  unplugs = kind_counted passed.Unplug fates i;
  actions = kind_counted passed.Action fates i;
  discards = kind_counted passed.Discard fates i;
  erases = kind_counted passed.Erase fates i;
  flushes = kind_counted passed.Flush fates i;
  others = kind_counted passed.Nothing fates i;
  empty = kind_counted passed.Empty fates i;
  past_end = kind_counted passed.PastEnd fates i;
}
