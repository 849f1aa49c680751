-- The places that a late command waited for.
use Rattle.std.proofs.Common.{◌≡◌, ◌<◌, ◌≤◌, ◌+◌, ◌-◌, ◌++◌, ◌&&◌, ℕ, zero, suc, List, [], ◌∷◌, length, get_or, map, take, Bool, true, false, cond, count_by, refl, sym, ◌∙◌, ap, subst, arith, inl, inr, nat_le, nat_lt}
use Rattle.std.specs.List.{filter, All}
use Rattle.std.proofs.lemmas.Bool.{cases_lt, le-leb, lt-leb, lt-ltb, le-ltb, ltb-true, ltb-false, and_from, and_left, and_right}
use Rattle.std.proofs.lemmas.List.Elements.{All-filter, filter_passes}
use Rattle.std.proofs.lemmas.List.{length-take-le, take_all, take-map, length-map, get_or-map, same_lists, length_push, get_or_push, get_or_append_left, get_or_default}
use Rattle.std.proofs.lemmas.List.Sums.{sum_by_more}
use Rattle.edd_commands.specs.declared.steps.Step.{Step}
use Rattle.edd_commands.specs.declared.TheConstants.{MAX_ROUNDS}
use Rattle.edd_commands.specs.Capacity.{carried, depth_at}
use Rattle.edd_commands.proofs.InForce.{carried_suc, carried_none}
use Rattle.edd_commands.proofs.Counting.{places_among, places_among-le}
use Rattle.edd_verdict.specs.declared.Verdict.{Verdict}
use Rattle.edd_verdict.specs.declared.Verdict.TheVariants.{Arrival}
use Rattle.blk_bio.specs.declared.bio.Dir.TheVariants.{Read}
use Rattle.blk_report.specs.declared.serving.Service.{Service}
use Rattle.blk_report.specs.declared.delays.LateCommand.{LateCommand}
use Rattle.blk_report.specs.declared.below.CountAsk.{CountAsk}
use Rattle.std.specs.List.Sorted.{IsPartitionPoint, IsPartitionedBy}
use Rattle.std.proofs.lemmas.List.Sorted.{IsPartitionedBy-ltb, IsNonDecreasingBy-from_default}
use Rattle.blk_report.specs.Services.{AreWithinLimits, AreInIssueOrder}
use Rattle.blk_report.specs.Late.{is_late_service, goes_before, sooner_of, later_of, IsLateCommand, HasVerdict, AreAllLate}
use Rattle.blk_report.specs.Inside.Below.{number_below, answer_of, IsAskWithin}
use Rattle.blk_report.specs.Inside.Waited.{IsFrom, IsAskOfWait, FitsIn, AreCarried, CanWait, late_command}
use Rattle.blk_report.proofs.Halving.{one_if, count_cons}

abbrev pub unserved : Service
unserved = record { id = 0; dir = Read; first = 0; sectors = 0; release = 0; due = 0; issue = 0; tag = 0; back = false }

-- an earlier round has no later place
pub from_up : (xs : List Service) (r e lo hi : ℕ) → r ≤ e → IsFrom xs r lo → IsFrom xs e hi → lo ≤ hi
from_up xs r e lo hi le a b =
    elim (cases_lt hi lo) [
      | inl less ↦ absurd (omega (arith, le, a.before hi unserved less, b.after hi unserved (omega arith) (omega (arith, less, a.within))))
      | inr up ↦ up
    ]

-- what was issued before the release, in between, and later
too_early : (s t : Service) (q : Bool) → t.issue < s.release → goes_before s t && q ≡ false
too_early s t q h = and_left (goes_before s t) q (and_left (nat_le s.release t.issue) (nat_lt t.issue s.issue) (lt-leb s.release t.issue h))

between : (s t : Service) (q : Bool) → s.release ≤ t.issue → t.issue < s.issue → goes_before s t && q ≡ q
between s t q h l = ap (λ b. b && q) (and_from (nat_le s.release t.issue) (nat_lt t.issue s.issue) (le-leb s.release t.issue h) (lt-ltb t.issue s.issue l))

too_late : (s t : Service) (q : Bool) → s.issue ≤ t.issue → goes_before s t && q ≡ false
too_late s t q h = and_left (goes_before s t) q (and_right (nat_le s.release t.issue) (nat_lt t.issue s.issue) (le-ltb t.issue s.issue h))

-- how many of the first k pass, and how many of them were issued in between
pub passing : (Service → Bool) → List Service → ℕ → ℕ
passing q xs k = count_by q (take k xs)

waited : Service → (Service → Bool) → List Service → ℕ → ℕ
waited s q xs k = count_by (λ t. goes_before s t && q t) (take k xs)

passing_more : (q : Service → Bool) (xs : List Service) (k : ℕ) → k < length xs → passing q xs (k + 1) ≡ passing q xs k + one_if (q (get_or xs k unserved))
unfolding passing
passing_more q xs k h = sum_by_more (λ t. cond (q t) 1 0) xs k unserved h

waited_more : (s : Service) (q : Service → Bool) (xs : List Service) (k : ℕ) → k < length xs → waited s q xs (k + 1) ≡ waited s q xs k + one_if (goes_before s (get_or xs k unserved) && q (get_or xs k unserved))
unfolding waited
waited_more s q xs k h = sum_by_more (λ t. cond (goes_before s t && q t) 1 0) xs k unserved h

waited_first : (s : Service) (q : Service → Bool) (xs : List Service) (lo k : ℕ) → IsFrom xs s.release lo → k ≤ lo → waited s q xs k ≡ 0
unfolding waited
waited_first s q xs lo zero a h = refl
waited_first s q xs lo (suc k) a h =
    let t : Service = get_or xs k unserved in
    let rest : waited s q xs k ≡ 0 = waited_first s q xs lo k a (omega arith) in
    let none : one_if (goes_before s t && q t) ≡ 0 = ap one_if (too_early s t (q t) (a.before k unserved (omega arith))) in
    let more = waited_more s q xs k (omega (arith, h, a.within)) in
    let next : suc k ≡ k + 1 = omega arith in
    ap (waited s q xs) next ∙ omega (arith, more, rest, none)

waited_mid : (s : Service) (q : Service → Bool) (xs : List Service) (lo hi m : ℕ) → IsFrom xs s.release lo → IsFrom xs s.issue hi → lo + m ≤ hi → waited s q xs (lo + m) + passing q xs lo ≡ passing q xs (lo + m)
waited_mid s q xs lo hi zero a b h =
    let same : lo + 0 ≡ lo = omega arith in
    let none = waited_first s q xs lo lo a (omega arith) in
    let one : waited s q xs (lo + 0) ≡ waited s q xs lo = ap (waited s q xs) same in
    let other : passing q xs (lo + 0) ≡ passing q xs lo = ap (passing q xs) same in
    omega (arith, none, one, other)
waited_mid s q xs lo hi (suc m) a b h =
    let k : ℕ = lo + m in
    let t : Service = get_or xs k unserved in
    let rest = waited_mid s q xs lo hi m a b (omega arith) in
    let short : k < length xs = omega (arith, h, b.within) in
    let both : one_if (goes_before s t && q t) ≡ one_if (q t) = ap one_if (between s t (q t) (a.after k unserved (omega arith) short) (b.before k unserved (omega arith))) in
    let more = waited_more s q xs k short in
    let more' = passing_more q xs k short in
    let next : lo + suc m ≡ k + 1 = omega arith in
    let one : waited s q xs (lo + suc m) ≡ waited s q xs (k + 1) = ap (waited s q xs) next in
    let other : passing q xs (lo + suc m) ≡ passing q xs (k + 1) = ap (passing q xs) next in
    omega (arith, rest, both, more, more', one, other)

waited_last : (s : Service) (q : Service → Bool) (xs : List Service) (hi m : ℕ) → IsFrom xs s.issue hi → hi + m ≤ length xs → waited s q xs (hi + m) ≡ waited s q xs hi
waited_last s q xs hi zero b h = let same : hi + 0 ≡ hi = omega arith in ap (waited s q xs) same
waited_last s q xs hi (suc m) b h =
    let k : ℕ = hi + m in
    let t : Service = get_or xs k unserved in
    let rest = waited_last s q xs hi m b (omega arith) in
    let none : one_if (goes_before s t && q t) ≡ 0 = ap one_if (too_late s t (q t) (b.after k unserved (omega arith) (omega arith))) in
    let more = waited_more s q xs k (omega arith) in
    let next : hi + suc m ≡ k + 1 = omega arith in
    ap (waited s q xs) next ∙ omega (arith, rest, none, more)

whole : (s : Service) (q : Service → Bool) (xs : List Service) → waited s q xs (length xs) ≡ count_by (λ t. goes_before s t && q t) xs
unfolding waited
whole s q xs = ap (λ l. count_by (λ t. goes_before s t && q t) l) (take_all (length xs) xs (omega arith))

-- in the whole list
pub waited_all : (s : Service) (q : Service → Bool) (xs : List Service) (lo hi : ℕ) → s.release ≤ s.issue → IsFrom xs s.release lo → IsFrom xs s.issue hi → count_by (λ t. goes_before s t && q t) xs + passing q xs lo ≡ passing q xs hi
waited_all s q xs lo hi le a b =
    let up = from_up xs s.release s.issue lo hi le a b in
    let all : waited s q xs (length xs) ≡ count_by (λ t. goes_before s t && q t) xs = whole s q xs in
    let end : hi + (length xs - hi) ≡ length xs = omega (arith, b.within) in
    let last : waited s q xs (length xs) ≡ waited s q xs hi = ap (waited s q xs) (sym end) ∙ waited_last s q xs hi (length xs - hi) b (omega arith) in
    let top : lo + (hi - lo) ≡ hi = omega (arith, up) in
    let mid = waited_mid s q xs lo hi (hi - lo) a b (omega arith) in
    let one : waited s q xs (lo + (hi - lo)) ≡ waited s q xs hi = ap (waited s q xs) top in
    let other : passing q xs (lo + (hi - lo)) ≡ passing q xs hi = ap (passing q xs) top in
    omega (arith, all, last, mid, one, other)

-- each is due no later or later
due_either : (d : ℕ) (xs : List Service) → count_by (λ t. nat_le t.due d) xs + count_by (λ t. nat_lt d t.due) xs ≡ length xs
due_either d [] = refl
due_either d (t ∷ xs) =
    let rest = due_either d xs in
    let a = count_cons (λ (t : Service). nat_le t.due d) t xs in
    let b = count_cons (λ (t : Service). nat_lt d t.due) t xs in
    elim (cases_lt d t.due) [
      | inl later ↦ (let e : one_if (nat_le t.due d) ≡ 0 = ap one_if (lt-leb t.due d later) in let f : one_if (nat_lt d t.due) ≡ 1 = ap one_if (lt-ltb d t.due later) in omega (arith, rest, a, b, e, f))
      | inr sooner ↦ (let e : one_if (nat_le t.due d) ≡ 1 = ap one_if (le-leb t.due d sooner) in let f : one_if (nat_lt d t.due) ≡ 0 = ap one_if (le-ltb d t.due sooner) in omega (arith, rest, a, b, e, f))
    ]

both_due : (d : ℕ) (xs : List Service) (k : ℕ) → k ≤ length xs → passing (λ t. nat_le t.due d) xs k + passing (λ t. nat_lt d t.due) xs k ≡ k
unfolding passing
both_due d xs k h = due_either d (take k xs) ∙ length-take-le k xs h

-- the due rounds below a bound
dues_below : (d : ℕ) (xs : List Service) → count_by (λ x. nat_lt x (d + 1)) (map (λ (s : Service). s.due) xs) ≡ count_by (λ (t : Service). nat_le t.due d) xs
dues_below d [] = refl
dues_below d (t ∷ xs) =
    let rest = dues_below d xs in
    let a = count_cons (λ x. nat_lt x (d + 1)) t.due (map (λ (s : Service). s.due) xs) in
    let b = count_cons (λ (t : Service). nat_le t.due d) t xs in
    elim (cases_lt d t.due) [
      | inl later ↦ (let e : one_if (nat_le t.due d) ≡ 0 = ap one_if (lt-leb t.due d later) in let f : one_if (nat_lt t.due (d + 1)) ≡ 0 = ap one_if (le-ltb t.due (d + 1) (omega arith)) in omega (arith, rest, a, b, e, f))
      | inr sooner ↦ (let e : one_if (nat_le t.due d) ≡ 1 = ap one_if (le-leb t.due d sooner) in let f : one_if (nat_lt t.due (d + 1)) ≡ 1 = ap one_if (lt-ltb t.due (d + 1) (omega arith)) in omega (arith, rest, a, b, e, f))
    ]

below_due : (d : ℕ) (xs : List Service) (k : ℕ) → number_below (map (λ s. s.due) xs) (d + 1) k ≡ passing (λ t. nat_le t.due d) xs k
unfolding number_below passing
below_due d xs k = ap (λ l. count_by (λ x. nat_lt x (d + 1)) l) (take-map (λ (s : Service). s.due) k xs) ∙ dues_below d (take k xs)

-- what the rounds before one carry, and from it on
pub carried_split : (steps : List Step) (a n : ℕ) → carried steps 0 (a + n) ≡ carried steps 0 a + carried steps a n
carried_split steps a zero = let same : a + 0 ≡ a = omega arith in ap (carried steps 0) same ∙ omega (arith, carried_none steps a)
carried_split steps a (suc n) =
    let next : a + suc n ≡ suc (a + n) = omega arith in
    let rest = carried_split steps a n in
    let one = carried_suc steps 0 (a + n) in
    let other = carried_suc steps a n in
    let whole : carried steps 0 (a + suc n) ≡ carried steps 0 (suc (a + n)) = ap (carried steps 0) next in
    let zeroth : depth_at steps (0 + (a + n)) ≡ depth_at steps (a + n) = (let e : 0 + (a + n) ≡ a + n = omega arith in ap (depth_at steps) e) in
    omega (arith, rest, one, other, whole, zeroth)

with_true : (b : Bool) → one_if (b && true) ≡ one_if b
with_true true = refl
with_true false = refl

-- the commands in the rounds that one waited fit in them
places_of : (s : Service) (xs : List Service) (n : ℕ) → s.release + n ≡ s.issue → places_among (map (λ s. s.issue) xs) s.release n ≡ count_by (λ t. goes_before s t && true) xs
places_of s [] n h = refl
places_of s (t ∷ xs) n h =
    let rest = places_of s xs n h in
    let a = count_cons (λ x. nat_le s.release x && nat_lt x (s.release + n)) t.issue (map (λ (s : Service). s.issue) xs) in
    let b = count_cons (λ t. goes_before s t && true) t xs in
    let same : one_if (nat_le s.release t.issue && nat_lt t.issue (s.release + n)) ≡ one_if (goes_before s t) = ap (λ e. one_if (nat_le s.release t.issue && nat_lt t.issue e)) h in
    let true_too : one_if (goes_before s t && true) ≡ one_if (goes_before s t) = with_true (goes_before s t) in
    omega (arith, rest, a, b, same, true_too)

all_pass : (xs : List Service) → count_by (λ _. true) xs ≡ length xs
all_pass [] = refl
all_pass (x ∷ xs) = let rest = all_pass xs in let a = count_cons (λ (_ : Service). true) x xs in omega (arith, rest, a)

passing_all : (xs : List Service) (k : ℕ) → k ≤ length xs → passing (λ _. true) xs k ≡ k
unfolding passing
passing_all xs k h = all_pass (take k xs) ∙ length-take-le k xs h

-- what is said of a late command by its places and the count below its bound
pub record IsWaited (xs : List Service) (steps : List Step) (s : Service) (places sooner : ℕ) : Type 0 where
  pub sooner_is : sooner ≡ sooner_of xs s
  pub later_is : sooner + later_of xs s ≡ places
  pub fits : places ≤ carried steps s.release (s.issue - s.release)

pub is_waited : (xs : List Service) (steps : List Step) (s : Service) (a : CountAsk) → s.release ≤ s.issue → IsAskOfWait xs s a → FitsIn xs steps → IsWaited xs steps s (a.end - a.start) (answer_of (map (λ s. s.due) xs) a)
unfolding sooner_of later_of answer_of
is_waited xs steps s a le is within =
    let q : Service → Bool = λ t. nat_le t.due s.due in
    let r : Service → Bool = λ t. nat_lt s.due t.due in
    let any : Service → Bool = λ _. true in
    let dues : List ℕ = map (λ (s : Service). s.due) xs in
    let up = from_up xs s.release s.issue a.start a.end le is.start is.end in
    let sooner = waited_all s q xs a.start a.end le is.start is.end in
    let later = waited_all s r xs a.start a.end le is.start is.end in
    let whole = waited_all s any xs a.start a.end le is.start is.end in
    let at_start = both_due s.due xs a.start is.start.within in
    let at_end = both_due s.due xs a.end is.end.within in
    let all_start = passing_all xs a.start is.start.within in
    let all_end = passing_all xs a.end is.end.within in
    let low : number_below dues a.bound a.start ≡ passing q xs a.start = ap (λ b. number_below dues b a.start) is.bound ∙ below_due s.due xs a.start in
    let high : number_below dues a.bound a.end ≡ passing q xs a.end = ap (λ b. number_below dues b a.end) is.bound ∙ below_due s.due xs a.end in
    let n : ℕ = s.issue - s.release in
    let in_rounds = places_of s xs n (omega arith) in
    let held = places_among-le (map (λ (s : Service). s.issue) xs) steps within s.release n in
    record {
      sooner_is = omega (arith, sooner, low, high, is.nothing);
      later_is = omega (arith, sooner, later, low, high, is.nothing, at_start, at_end, up);
      fits = omega (arith, whole, all_start, all_end, in_rounds, held, up);
    }

-- one late command: its places are in range, and its row says what is to be said
pub one_row : (xs : List Service) (steps : List Step) (last : ℕ) (sums : List ℕ) (s : Service) (a : CountAsk) (n : ℕ) (v : Verdict) → s.due < s.issue → s.release ≤ s.issue → s.issue ≤ last → IsAskOfWait xs s a → FitsIn xs steps → AreCarried steps last sums → n ≡ answer_of (map (λ s. s.due) xs) a
    → CanWait sums s (a.end - a.start) n × IsLateCommand xs steps (late_command sums s (a.end - a.start) n v)
one_row xs steps last sums s a n v late released in_time asks fits are is =
    let w = is_waited xs steps s a released asks fits in
    let split = carried_split steps s.release (s.issue - s.release) in
    let end : s.release + (s.issue - s.release) ≡ s.issue = omega (arith, released) in
    let up : carried steps 0 (s.release + (s.issue - s.release)) ≡ carried steps 0 s.issue = ap (carried steps 0) end in
    let low = are.at s.release (omega (arith, released, in_time)) in
    let high = are.at s.issue in_time in (
      record {
        few = omega (arith, is, w.sooner_is, w.later_is);
        late = omega (arith, late);
        released = released;
        summed = omega (arith, are.each, in_time);
        room = omega (arith, w.fits, split, up, low, high);
      },
      record {
        lateness = omega (arith, late);
        sooner = is ∙ w.sooner_is;
        later = omega (arith, is, w.later_is);
        adds_up = omega (arith, is, w.fits, w.later_is, split, up, low, high);
      },
    )

-- what holds of all holds of the late ones
pub late_all : (P : Service → Type 0) (xs late : List Service) → late ≡ filter is_late_service xs → All P xs → All P late
late_all P xs late is all = subst (All P) (sym is) (All-filter is_late_service P xs all)

pub late_late : (xs late : List Service) → late ≡ filter is_late_service xs → All (λ s. s.due < s.issue) late
late_late xs late is = subst (All (λ (s : Service). s.due < s.issue)) (sym is) (λ k d h. ltb-true (get_or (filter is_late_service xs) k d).due (get_or (filter is_late_service xs) k d).issue (filter_passes is_late_service xs k d h))

dues_all : (limit : ℕ) (xs : List Service) → All (λ x. x < limit) (map (λ (s : Service). s.due) xs) → All (λ s. s.due < limit) xs
dues_all limit xs all k d h =
    let due : Service → ℕ = λ s. s.due in
    subst (λ n. n < limit) (get_or-map due xs k d 0 h) (all k 0 (omega (arith, h, length-map xs due)))

-- the questions can be asked
pub asks_are : (xs : List Service) (steps : List Step) (late : List Service) (asks : List CountAsk) (limit : ℕ) → AreWithinLimits xs → FitsIn xs steps → late ≡ filter is_late_service xs → length asks ≡ length late
    → ((k : ℕ) (d : Service) (e : CountAsk) → k < length late → IsAskOfWait xs (get_or late k d) (get_or asks k e)) → All (λ x. x < limit) (map (λ s. s.due) xs) → All (IsAskWithin (map (λ s. s.due) xs) limit) asks
asks_are xs steps late asks limit timed fits is long are under k e h =
    let low : k < length late = omega (arith, h, long) in
    let s : Service = get_or late k unserved in
    let a : CountAsk = get_or asks k e in
    let at = are k unserved e low in
    let released : s.release ≤ s.issue = late_all (λ s. s.release ≤ s.issue) xs late is timed.released k unserved low in
    let due : s.due < limit = late_all (λ s. s.due < limit) xs late is (dues_all limit xs under) k unserved low in
    let w = is_waited xs steps s a released at fits in
    let many = length-map xs (λ (s : Service). s.due) in
    record {
      forward = from_up xs s.release s.issue a.start a.end released at.start at.end;
      within = omega (arith, at.end.within, many);
      bounded = omega (arith, at.bound, due);
      small = omega (arith, w.sooner_is, w.later_is, at.end.within, many);
    }

pub asks_forward : (xs : List ℕ) (limit : ℕ) (asks : List CountAsk) → All (IsAskWithin xs limit) asks → All (λ a. a.start ≤ a.end) asks
asks_forward xs limit asks are k e h = (are k e h).forward

-- what was counted of each
counted_each : (f : CountAsk → ℕ) (asks counted : List CountAsk) → map (λ a. a.count) counted ≡ map f asks → (length counted ≡ length asks) × ((k : ℕ) (e c : CountAsk) → k < length asks → (get_or counted k c).count ≡ f (get_or asks k e))
counted_each f asks counted is =
    let count : CountAsk → ℕ = λ a. a.count in
    let long : length counted ≡ length asks = omega (arith, ap length is, length-map counted count, length-map asks f) in
    (long, λ k e c h. sym (get_or-map count counted k c 0 (omega (arith, h, long))) ∙ ap (λ l. get_or l k 0) is ∙ get_or-map f asks k e 0 h)

pub counted_many : (f : CountAsk → ℕ) (asks counted : List CountAsk) → map (λ a. a.count) counted ≡ map f asks → length counted ≡ length asks
counted_many f asks counted is = (counted_each f asks counted is).0

pub each_row : (xs : List Service) (steps : List Step) (last : ℕ) (sums : List ℕ) (late : List Service) (asks counted : List CountAsk) → AreWithinLimits xs → FitsIn xs steps → All (λ s. s.issue ≤ last) xs → AreCarried steps last sums → late ≡ filter is_late_service xs → length asks ≡ length late
    → ((k : ℕ) (d : Service) (e : CountAsk) → k < length late → IsAskOfWait xs (get_or late k d) (get_or asks k e)) → map (λ a. a.count) counted ≡ map (answer_of (map (λ s. s.due) xs)) asks
    → (k : ℕ) (d : Service) (e c : CountAsk) (v : Verdict) → k < length late → CanWait sums (get_or late k d) ((get_or asks k e).end - (get_or asks k e).start) (get_or counted k c).count × IsLateCommand xs steps (late_command sums (get_or late k d) ((get_or asks k e).end - (get_or asks k e).start) (get_or counted k c).count v)
each_row xs steps last sums late asks counted timed fits before sum is long are counts k d e c v h =
    one_row xs steps last sums (get_or late k d) (get_or asks k e) (get_or counted k c).count v
    (late_late xs late is k d h)
    (late_all (λ s. s.release ≤ s.issue) xs late is timed.released k d h)
    (late_all (λ s. s.issue ≤ last) xs late is before k d h)
    (are k d e h) fits sum
    ((counted_each (answer_of (map (λ (s : Service). s.due) xs)) asks counted counts).1 k e c (omega (arith, h, long)))

-- what is said of each, by place and whatever its verdict
abbrev pub AllTold : List Service → List Step → List ℕ → List Service → List CountAsk → List CountAsk → Type 0
AllTold xs steps sums late asks counted =
    (k : ℕ) (d : Service) (e c : CountAsk) (v : Verdict) → k < length late → CanWait sums (get_or late k d) ((get_or asks k e).end - (get_or asks k e).start) (get_or counted k c).count × IsLateCommand xs steps (late_command sums (get_or late k d) ((get_or asks k e).end - (get_or asks k e).start) (get_or counted k c).count v)

-- all of them
pub rows_are : (xs : List Service) (steps : List Step) (sums : List ℕ) (late : List Service) (told : List Verdict) (asks counted : List CountAsk) (rows : List LateCommand) → late ≡ filter is_late_service xs → length rows ≡ length late
    → ((k : ℕ) (d : Service) (e c : CountAsk) (v : Verdict) (r : LateCommand) → k < length late → get_or rows k r ≡ late_command sums (get_or late k d) ((get_or asks k e).end - (get_or asks k e).start) (get_or counted k c).count (get_or told k v))
    → AllTold xs steps sums late asks counted
    → ((k : ℕ) (d : Service) (e c : CountAsk) (v : Verdict) → k < length late → HasVerdict xs steps (late_command sums (get_or late k d) ((get_or asks k e).end - (get_or asks k e).start) (get_or counted k c).count (get_or told k v)))
    → AreAllLate xs steps rows
rows_are xs steps sums late told asks counted rows is long are each judged =
    let no_ask : CountAsk = record { start = 0; end = 0; bound = 0; count = 0 } in
    let of : LateCommand → Service = λ l. l.service in
    let no_row : LateCommand = record { service = unserved; lateness = 0; sooner = 0; later = 0; idle = 0; verdict = Arrival } in
    let many : length (map of rows) ≡ length late = length-map rows of ∙ long in
    record {
      commands =
          same_lists (map of rows) late many
          (λ k d h. (let low : k < length late = omega (arith, h, many) in get_or-map of rows k no_row d (omega (arith, low, long)) ∙ ap of (are k d no_ask no_ask Arrival no_row low)))
          ∙ is;
      each = λ k r h. (let low : k < length late = omega (arith, h, long) in subst (IsLateCommand xs steps) (sym (are k unserved no_ask no_ask Arrival r low)) (each k unserved no_ask no_ask (get_or told k Arrival) low).1);
      judged = λ k r h. (let low : k < length late = omega (arith, h, long) in subst (HasVerdict xs steps) (sym (are k unserved no_ask no_ask Arrival r low)) (judged k unserved no_ask no_ask Arrival low));
    }

-- a row after the others
pub row_push : (P : ℕ → LateCommand → Type 0) (n : ℕ) (old : List LateCommand) (x : LateCommand) (new : List LateCommand) → length old ≡ n → new ≡ old ++ x ∷ [] → ((k : ℕ) (r : LateCommand) → k < n → P k (get_or old k r)) → P n x
    → (length new ≡ n + 1) × ((k : ℕ) (r : LateCommand) → k < n + 1 → P k (get_or new k r))
row_push P n old x new long is before now = (
  ap length is ∙ length_push old x ∙ ap (λ m. m + 1) long,
  λ k r h. elim (cases_lt k n) [
    | inl low ↦ subst (P k) (sym (ap (λ l. get_or l k r) is ∙ get_or_append_left old (x ∷ []) r k (omega (arith, low, long)))) (before k r low)
    | inr high ↦
        let same : n ≡ k = omega (arith, h, high) in
        subst (P k) (sym (ap (λ l. get_or l k r) is ∙ get_or_push old x r k (omega (arith, long, same)))) (subst (λ m. P m x) same now)
  ],
)

pub ask_push : (P : ℕ → CountAsk → Type 0) (n : ℕ) (old : List CountAsk) (x : CountAsk) (new : List CountAsk) → length old ≡ n → new ≡ old ++ x ∷ [] → ((k : ℕ) (r : CountAsk) → k < n → P k (get_or old k r)) → P n x
    → (length new ≡ n + 1) × ((k : ℕ) (r : CountAsk) → k < n + 1 → P k (get_or new k r))
ask_push P n old x new long is before now = (
  ap length is ∙ length_push old x ∙ ap (λ m. m + 1) long,
  λ k r h. elim (cases_lt k n) [
    | inl low ↦ subst (P k) (sym (ap (λ l. get_or l k r) is ∙ get_or_append_left old (x ∷ []) r k (omega (arith, low, long)))) (before k r low)
    | inr high ↦
        let same : n ≡ k = omega (arith, h, high) in
        subst (P k) (sym (ap (λ l. get_or l k r) is ∙ get_or_push old x r k (omega (arith, long, same)))) (subst (λ m. P m x) same now)
  ],
)

-- a round's sum after the others
pub sum_push : (steps : List Step) (n sum : ℕ) (old new : List ℕ) → length old ≡ n → sum ≡ carried steps 0 n → new ≡ old ++ sum ∷ [] → ((x : ℕ) → x < n → get_or old x 0 ≡ carried steps 0 x)
    → (length new ≡ n + 1) × ((x : ℕ) → x < n + 1 → get_or new x 0 ≡ carried steps 0 x)
sum_push steps n sum old new long is more at = (
  ap length more ∙ length_push old sum ∙ ap (λ m. m + 1) long,
  λ x h. elim (cases_lt x n) [
    | inl before ↦ ap (λ l. get_or l x 0) more ∙ get_or_append_left old (sum ∷ []) 0 x (omega (arith, before, long)) ∙ at x before
    | inr last ↦ (let same : x ≡ n = omega (arith, h, last) in ap (λ l. get_or l x 0) more ∙ get_or_push old sum 0 x (omega (arith, long, same)) ∙ is ∙ ap (carried steps 0) (sym same))
  ],
)

-- the last was issued last
pub last_last : (xs : List Service) (n : ℕ) → n ≡ length xs → AreInIssueOrder xs → (k : ℕ) (d e : Service) → k < length xs → (get_or xs k d).issue ≤ (get_or xs (n - 1) e).issue
last_last xs n is rising k d e h =
    let low : n - 1 < length xs = omega (arith, is, h) in
    subst (λ (s : Service). (get_or xs k d).issue ≤ s.issue) (get_or_default xs (n - 1) d e low) (rising k (n - 1) d (omega (arith, is, h)) low)

-- where the commands are parted by a round
pub parted_at : (xs : List Service) (round : ℕ) → AreInIssueOrder xs → IsPartitionedBy (λ (s : Service). nat_lt s.issue round) xs
parted_at xs round rising = IsPartitionedBy-ltb (λ (s : Service). s.issue) xs round (IsNonDecreasingBy-from_default (λ (s : Service). s.issue) xs unserved (λ i j le h. rising i j unserved le h))

pub from_here : (xs : List Service) (round place : ℕ) → place ≤ length xs → IsPartitionPoint (λ (s : Service). nat_lt s.issue round ≡ true) (λ (s : Service). nat_lt s.issue round ≡ false) xs place → IsFrom xs round place
from_here xs round place within parted = record {
  within = within;
  before = λ k d h. ltb-true (get_or xs k d).issue round (parted.0 k d (omega arith) h);
  after = λ k d low h. ltb-false (get_or xs k d).issue round (parted.1 k d low h);
}

pub sum_next : (steps : List Step) (n sum depth : ℕ) → sum ≡ carried steps 0 n → depth ≡ depth_at steps n → sum + depth ≡ carried steps 0 (n + 1)
sum_next steps n sum depth is at =
    let next : suc n ≡ n + 1 = omega arith in
    let same : 0 + n ≡ n = omega arith in
    let more : carried steps 0 (n + 1) ≡ carried steps 0 n + depth_at steps (0 + n) = ap (carried steps 0) (sym next) ∙ carried_suc steps 0 n in
    let deep : depth_at steps (0 + n) ≡ depth_at steps n = ap (depth_at steps) same in
    omega (arith, is, at, more, deep)

pub told_same : (xs : List Service) (steps : List Step) (sums sums' : List ℕ) (late late' : List Service) (asks asks' counted counted' : List CountAsk) → sums ≡ sums' → late ≡ late' → asks ≡ asks' → counted ≡ counted' → AllTold xs steps sums' late' asks' counted' → AllTold xs steps sums late asks counted
told_same xs steps sums sums' late late' asks asks' counted counted' s l a c all =
    subst (λ (z : List ℕ). AllTold xs steps z late asks counted) (sym s)
    (subst (λ (z : List Service). AllTold xs steps sums' z asks counted) (sym l)
    (subst (λ (z : List CountAsk). AllTold xs steps sums' late' z counted) (sym a)
    (subst (λ (z : List CountAsk). AllTold xs steps sums' late' asks' z) (sym c) all)))

-- a question for each
abbrev pub AllAsked : List Service → List Service → List CountAsk → Type 0
AllAsked xs late asks = (k : ℕ) (d : Service) (e : CountAsk) → k < length late → IsAskOfWait xs (get_or late k d) (get_or asks k e)

pub asked_same : (xs late late' : List Service) (asks : List CountAsk) → late ≡ late' → AllAsked xs late asks → AllAsked xs late' asks
asked_same xs late late' asks is all = subst (λ (z : List Service). AllAsked xs z asks) is all

-- the due rounds are in range
pub dues_in : (xs : List Service) (dues : List ℕ) → dues ≡ map (λ s. s.due) xs → AreWithinLimits xs → All (λ x. x < MAX_ROUNDS) dues
dues_in xs dues is timed =
    subst (All (λ (x : ℕ). x < MAX_ROUNDS)) (sym is)
    (λ k d h. (let due : Service → ℕ = λ s. s.due in let low : k < length xs = omega (arith, h, length-map xs due) in subst (λ n. n < MAX_ROUNDS) (sym (get_or-map due xs k unserved d low)) (timed.in_time k unserved low).1))

pub late_in : (xs late : List Service) → late ≡ filter is_late_service xs → AreWithinLimits xs → All (λ s. s.due < MAX_ROUNDS) late
late_in xs late is timed = late_all (λ s. s.due < MAX_ROUNDS) xs late is (λ k d h. (timed.in_time k d h).1)
