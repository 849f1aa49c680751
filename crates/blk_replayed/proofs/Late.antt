-- Requests that were late by the clock, and commands that are late in rounds.
use Rattle.std.proofs.Common.{◌≡◌, ◌∙◌, ◌<◌, ◌≤◌, ◌+◌, ◌-◌, ◌∷◌, [], ℕ, suc, List, Bool, true, false, cond, length, map, refl, sym, ap, arith, inl, inr, lt-ltb, le-ltb}
use Rattle.std.proofs.lemmas.Bool.{cases_lt}
use Rattle.std.proofs.lemmas.List.{length-map}
use Rattle.std.proofs.lemmas.List.Sums.{sum_by-cons}
use Rattle.std.specs.List.{zip}
use Rattle.std.specs.Prelude.{◌↔◌, ◌&&◌, count_by, nat_lt, slice_index, slice_index_or}
use Rattle.blk_bio.specs.declared.bio.Dir.{Dir}
use Rattle.blk_bio.specs.declared.bio.Dir.TheVariants.{Read, Write}
use Rattle.blk_capture.specs.Summaries.{goes}
use Rattle.edd_commands.specs.declared.Command.{Command}
use Rattle.edd_figures.specs.Misses.{number_late}
use Rattle.blk_capture.specs.declared.requests.CapturedRequest.{CapturedRequest}
use Rattle.blk_replay.specs.declared.figures.Outcome.{Outcome}
use Rattle.blk_replay.specs.declared.figures.ClockFigures.{ClockFigures}
use Rattle.blk_replay.specs.Figures.{AreOutcomes, AreClockFigures, went_late, outcome_of}
use Rattle.blk_replay.specs.Requests.{AreLateByTheClock, time_of_round}

abbrev is_late : Outcome → Bool
is_late o = nat_lt 0 o.late_by

one_way : (dir : Dir) (b : Bool) → cond (goes dir Read && b) 1 0 + cond (goes dir Write && b) 1 0 ≡ cond b 1 0
one_way Read true = refl
one_way Read false = refl
one_way Write true = refl
one_way Write false = refl

each_way : (o : Outcome) → cond (went_late Read o) 1 0 + cond (went_late Write o) 1 0 ≡ cond (is_late o) 1 0
each_way o = one_way o.dir (nat_lt 0 o.late_by)

-- those of both directions are all
both_ways : (os : List Outcome) → count_by (went_late Read) os + count_by (went_late Write) os ≡ count_by is_late os
both_ways [] = refl
both_ways (o ∷ os) =
    let ih = both_ways os in
    let a = sum_by-cons (λ (x : Outcome). cond (went_late Read x) 1 0) o os in
    let b = sum_by-cons (λ (x : Outcome). cond (went_late Write x) 1 0) o os in
    let c = sum_by-cons (λ (x : Outcome). cond (is_late x) 1 0) o os in
    omega (arith, ih, a, b, c, each_way o)

abbrev one_if : Bool → ℕ
one_if b = cond b 1 0

-- place by place they are the commands that are late
counted_alike : (os : List Outcome) (cs : List Command) (rs : List ℕ) → length cs ≡ length os → length rs ≡ length os
    → ((k : ℕ) (o : Outcome) (c : Command) → k < length os → is_late (slice_index_or os k o) ≡ nat_lt (slice_index_or cs k c).due (slice_index rs k))
    → count_by is_late os ≡ count_by (λ (p : Command × ℕ). nat_lt p.0.due p.1) (zip cs rs)
counted_alike [] [] [] e f h = refl
counted_alike (o ∷ os) (c ∷ cs) (r ∷ rs) e f h =
    let head : is_late o ≡ nat_lt c.due r = h 0 o c (omega arith) in
    let ih = counted_alike os cs rs (omega (arith, e)) (omega (arith, f)) (λ k p d g. h (suc k) p d (omega (arith, g))) in
    let a = sum_by-cons (λ (x : Outcome). cond (is_late x) 1 0) o os in
    let b = sum_by-cons (λ (p : Command × ℕ). cond (nat_lt p.0.due p.1) 1 0) (c, r) (zip cs rs) in
    let same : one_if (is_late o) ≡ one_if (nat_lt c.due r) = ap one_if head in
    omega (arith, ih, a, b, same)
counted_alike (o ∷ os) [] rs e f h = absurd (omega (arith, e))
counted_alike (o ∷ os) (c ∷ cs) [] e f h = absurd (omega (arith, f))
counted_alike [] (c ∷ cs) rs e f h = absurd (omega (arith, e))
counted_alike [] [] (r ∷ rs) e f h = absurd (omega (arith, f))

after_both : (time deadline due round : ℕ) → (due < round) ↔ (deadline < time) → nat_lt 0 (time - deadline) ≡ nat_lt due round
after_both time deadline due round same =
    elim (cases_lt due round) [
      | inl late ↦ (let after = same.0 late in let some : 0 < time - deadline = omega (arith, after) in lt-ltb 0 (time - deadline) some ∙ sym (lt-ltb due round late))
      | inr not ↦ (let before : time ≤ deadline = elim (cases_lt deadline time) [
        | inl after ↦ absurd (let late = same.1 after in omega (arith, late, not))
        | inr by ↦ by
      ] in let none : time - deadline ≤ 0 = omega (arith, before) in le-ltb 0 (time - deadline) none ∙ sym (le-ltb due round not))
    ]

all_alike : (requests : List CapturedRequest) (commands : List Command) (rounds : List ℕ) (f : ClockFigures) (d : CapturedRequest) → length commands ≡ length requests → length rounds ≡ length requests
    → AreLateByTheClock requests commands rounds → AreClockFigures requests rounds f → f.late_reads + f.late_writes ≡ number_late commands rounds
unfolding number_late
all_alike requests commands rounds f d each one_each same are =
    let os = are.outcomes in
    let is = are.are in
    let alike : (k : ℕ) (o : Outcome) (c : Command) → k < length os → is_late (slice_index_or os k o) ≡ nat_lt (slice_index_or commands k c).due (slice_index rounds k) =
    λ k o c h.
    let within : k < length requests = omega (arith, h, is.each) in
    let q = slice_index_or requests k d in
    let time = time_of_round requests (slice_index rounds k) d in
    ap is_late (is.are k o d within) ∙ after_both time q.deadline (slice_index_or commands k c).due (slice_index rounds k) (same k d c within) in
    let all = counted_alike os commands rounds (omega (arith, each, is.each)) (omega (arith, one_each, is.each)) alike in
    omega (arith, are.late_reads, are.late_writes, both_ways os, all)

none_late : (commands : List Command) (rounds : List ℕ) (f : ClockFigures) → length commands ≡ 0 → length rounds ≡ 0 → AreClockFigures [] rounds f → f.late_reads + f.late_writes ≡ number_late commands rounds
unfolding number_late
none_late commands rounds f each one_each are =
    let os = are.outcomes in
    let none : length os ≡ 0 = are.are.each in
    let all = counted_alike os commands rounds (omega (arith, each, none)) (omega (arith, one_each, none)) (λ k o c h. absurd (omega (arith, h, none))) in
    omega (arith, are.late_reads, are.late_writes, both_ways os, all)

-- late by the clock in either direction is late in rounds
pub late_alike : (requests : List CapturedRequest) (commands : List Command) (rounds : List ℕ) (f : ClockFigures) → length commands ≡ length requests → length rounds ≡ length requests
    → AreLateByTheClock requests commands rounds → AreClockFigures requests rounds f → f.late_reads + f.late_writes ≡ number_late commands rounds
late_alike [] commands rounds f each one_each same are = none_late commands rounds f each one_each are
late_alike (q ∷ qs) commands rounds f each one_each same are = all_alike (q ∷ qs) commands rounds f q each one_each same are
