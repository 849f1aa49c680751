-- Columns added up.
use mathlib.Core.List.{reverse-cons}
use Rattle.std.proofs.Common.{◌≡◌, ◌<◌, ◌≤◌, ◌+◌, ◌-◌, ◌*◌, ◌++◌, ◌==◌, ◌∙◌, ◌∷◌, ℕ, zero, suc, List, [], length, refl, sym, ap, subst, arith, inl, inr, cond, Bool, true, false, get_or, eqb-true}
use Rattle.std.specs.Prelude.{count_by, sum_by, nat_lt, min, max, ◌/◌, ◌⊎◌, All, not, ◌&&◌, Some, None, map, fold, reverse, slice_get}
use Rattle.std.specs.List.{cons_option, filter_map}
use Rattle.std.proofs.Math.Nat.{div-lt_iff_lt-mul, suc-mul, zero-mul, mul-le-mul_right}
use Rattle.std.proofs.lemmas.Bool.{cases_Bool, eqb-false, lt-ltb, le-ltb, ltb-true, ltb-false}
use Rattle.std.proofs.lemmas.List.Sums.{sum_by_push, sum_by-cons}
use Rattle.std.proofs.lemmas.List.Elements.{All-append}
use Rattle.std.proofs.lemmas.List.{length-map, map-append}
use Rattle.edd_commands.specs.declared.steps.Step.{Step}
use Rattle.edd_commands.specs.Capacity.{carried}
use Rattle.edd_commands.proofs.InForce.{carried_none}
use Rattle.blk_bio.specs.declared.bio.Dir.{Dir}
use Rattle.blk_bio.specs.declared.bio.Dir.TheVariants.{Read, Write}
use Rattle.blk_trace.specs.declared.issued.Issued.{Issued}
use Rattle.blk_trace.specs.Issues.{issues_of}
use Rattle.blk_trace.specs.Traces.{Traced}
use Rattle.blk_trace.specs.Happened.{Happened}
use Rattle.blk_trace.specs.Setups.{Setup, same_dir}
use Rattle.blk_trace.specs.Events.{round_of}
use Rattle.blk_trace.specs.Depths.{capacity_of}
use Rattle.blk_trace.proofs.Counting.{one_if, count-cons}
use Rattle.blk_trace.proofs.Issues.{issue_low}
use Rattle.blk_report.proofs.Waiting.{carried_split}
use Rattle.blk_report.specs.declared.serving.Service.{Service}
use Rattle.blk_report.specs.Services.{service_of}
use Rattle.blk_picture.specs.declared.scale.Scale.{Scale}
use Rattle.blk_picture.specs.declared.columns.Column.{Column}
use Rattle.blk_picture.specs.declared.columns.IssueKind.{IssueKind}
use Rattle.blk_picture.specs.declared.columns.IssueKind.TheVariants.{Reads, Writes, Lates, Backs}
use Rattle.blk_picture.specs.Boxes.{boxes_of}
use Rattle.blk_picture.specs.Columns.{counts_as, is_late, in_column, round_in, rounds_in, column_of, rooms_of}
use Rattle.blk_picture.specs.Made.{made}
use Rattle.blk_picture.specs.Scales.{IsScaled, columns_by}
use Rattle.blk_picture.specs.Pictures.{rounds_shown, most_rounds}
use Rattle.blk_picture.specs.Sums.{columns_in, issued_in, ShowsAll}

-- ---- sums over what is made

made_more : (g : ℕ → Column) (f : Column → ℕ) (n : ℕ) → sum_by f (made g (suc n)) ≡ sum_by f (made g n) + f (g n)
unfolding made
made_more g f n = sum_by_push f (made g n) (g n)

made_none : (g : ℕ → Column) (f : Column → ℕ) → sum_by f (made g 0) ≡ 0
unfolding made
made_none g f = refl

-- a sum whose parts are known up to each place
pub made_sum : (g : ℕ → Column) (f : Column → ℕ) (total : ℕ → ℕ) (m : ℕ) → total 0 ≡ 0 → ((n : ℕ) → n < m → total (suc n) ≡ total n + f (g n)) → sum_by f (made g m) ≡ total m
made_sum g f total zero start step = made_none g f ∙ sym start
made_sum g f total (suc n) start step =
    omega (arith, made_more g f n, made_sum g f total n start (λ k l. step k (omega arith)), step n (omega arith))

-- sums of two parts
pub made_parts : (g : ℕ → Column) (f h k : Column → ℕ) (m : ℕ) → ((n : ℕ) → n < m → f (g n) ≡ h (g n) + k (g n)) → sum_by f (made g m) ≡ sum_by h (made g m) + sum_by k (made g m)
made_parts g f h k zero is = omega (arith, made_none g f, made_none g h, made_none g k)
made_parts g f h k (suc n) is =
    omega (arith, made_more g f n, made_more g h n, made_more g k n, made_parts g f h k n (λ i l. is i (omega arith)), is n (omega arith))

-- ---- what holds of each

none_each : {X : Type 0} (P : X → Type 0) → All P []
none_each P k d l = absurd (omega arith)

first_each : {X : Type 0} (P : X → Type 0) (x : X) (xs : List X) → All P (x ∷ xs) → P x
first_each P x xs h = h 0 x (omega arith)

rest_each : {X : Type 0} (P : X → Type 0) (x : X) (xs : List X) → All P (x ∷ xs) → All P xs
rest_each P x xs h k d l = h (suc k) d (omega arith)

more_each : {X : Type 0} (P : X → Type 0) (x : X) (xs : List X) → P x → All P xs → All P (x ∷ xs)
more_each P x xs h rest zero d l = h
more_each P x xs h rest (suc k) d l = rest k d (omega arith)

pub first_low : (n x : ℕ) (xs : List ℕ) → All (λ r. r ≤ n) (x ∷ xs) → x ≤ n
first_low n x xs h = first_each (λ r. r ≤ n) x xs h

pub rest_low : (n x : ℕ) (xs : List ℕ) → All (λ r. r ≤ n) (x ∷ xs) → All (λ r. r ≤ n) xs
rest_low n x xs h = rest_each (λ r. r ≤ n) x xs h

-- ---- rounds by their columns

-- how many rounds stand in the first n columns
upto : ℕ → ℕ → List ℕ → ℕ
upto per n rounds = count_by (λ r. nat_lt (r / per) n) rounds

one_more : (x n : ℕ) → one_if (nat_lt x (suc n)) ≡ one_if (nat_lt x n) + one_if (x == n)
one_more x n = by (cases_Bool (nat_lt x n)) (cases_Bool (x == n))
  where
    by : (nat_lt x n ≡ true) ⊎ (nat_lt x n ≡ false) → ((x == n) ≡ true) ⊎ ((x == n) ≡ false) → one_if (nat_lt x (suc n)) ≡ one_if (nat_lt x n) + one_if (x == n)
    by (inl a) (inl b) = absurd (omega (arith, ltb-true x n a, eqb-true x n b))
    by (inl a) (inr b) = ap one_if (lt-ltb x (suc n) (omega (arith, ltb-true x n a))) ∙ sym (ap (λ p. one_if p + one_if (x == n)) a ∙ ap (λ p. 1 + one_if p) b)
    by (inr a) (inl b) = ap one_if (lt-ltb x (suc n) (omega (arith, eqb-true x n b))) ∙ sym (ap (λ p. one_if p + one_if (x == n)) a ∙ ap (λ p. 0 + one_if p) b)
    by (inr a) (inr b) = ap one_if (le-ltb x (suc n) (omega (arith, ltb-false x n a, eqb-false x n b))) ∙ sym (ap (λ p. one_if p + one_if (x == n)) a ∙ ap (λ p. 0 + one_if p) b)

upto_none : (per : ℕ) (rounds : List ℕ) → upto per 0 rounds ≡ 0
unfolding upto
upto_none per [] = refl
upto_none per (x ∷ xs) =
    let no : nat_lt (x / per) 0 ≡ false = le-ltb (x / per) 0 (omega arith) in
    omega (arith, count-cons (λ r. nat_lt (r / per) 0) x xs, ap one_if no, upto_none per xs)

upto_more : (per n : ℕ) (rounds : List ℕ) → upto per (suc n) rounds ≡ upto per n rounds + in_column per n rounds
unfolding upto in_column
upto_more per n [] = refl
upto_more per n (x ∷ xs) =
    omega (arith, count-cons (λ r. nat_lt (r / per) (suc n)) x xs, count-cons (λ r. nat_lt (r / per) n) x xs, count-cons (λ r. (r / per) == n) x xs, one_more (x / per) n, upto_more per n xs)

-- all of them, where none is later
upto_all : (per n last : ℕ) (rounds : List ℕ) → 0 < per → last < n * per → All (λ r. r ≤ last) rounds → upto per n rounds ≡ length rounds
unfolding upto
upto_all per n last [] some low h = refl
upto_all per n last (x ∷ xs) some low h =
    let here : x < n * per = omega (arith, first_low last x xs h) in
    let yes : nat_lt (x / per) n ≡ true = lt-ltb (x / per) n ((div-lt_iff_lt-mul {k = per} {x = x} {y = n} some).1 here) in
    omega (arith, count-cons (λ r. nat_lt (r / per) n) x xs, ap one_if yes, upto_all per n last xs some low (rest_low last x xs h))

-- a number of each column, added up
pub columns_sum : (g : ℕ → Column) (f : Column → ℕ) (per m last : ℕ) (rounds : List ℕ) → ((n : ℕ) → f (g n) ≡ in_column per n rounds) → 0 < per → last < m * per → All (λ r. r ≤ last) rounds → sum_by f (made g m) ≡ length rounds
columns_sum g f per m last rounds is some low h =
    made_sum g f (λ n. upto per n rounds) m (upto_none per rounds) (λ n l. omega (arith, upto_more per n rounds, is n))
    ∙ upto_all per m last rounds some low h

-- ---- the rounds of boxes

boxes_low : (setup : Setup) (events : List Happened) (n : ℕ) (xs : List Issued) → ((k : ℕ) (i : Issued) → slice_get xs k ≡ Some i → i.round ≤ n) → All (λ (b : Service). b.issue ≤ n) (map (service_of setup events) (reverse xs))
boxes_low setup events n [] h = none_each (λ (b : Service). b.issue ≤ n)
boxes_low setup events n (x ∷ xs) h =
    let P : Service → Type 0 = λ b. b.issue ≤ n in
    let turned : map (service_of setup events) (reverse (x ∷ xs)) ≡ map (service_of setup events) (reverse xs) ++ service_of setup events x ∷ [] = ap (map (service_of setup events)) (reverse-cons x xs) ∙ map-append (service_of setup events) (reverse xs) (x ∷ []) in
    let rest : All P (map (service_of setup events) (reverse xs)) = boxes_low setup events n xs (λ k i at. h (suc k) i at) in
    subst (All P) (sym turned) (All-append P (map (service_of setup events) (reverse xs)) (service_of setup events x ∷ []) rest (more_each P (service_of setup events x) [] (h 0 x refl) (none_each P)))

pub boxes_last : (setup : Setup) (events : List Happened) → All (λ (b : Service). b.issue ≤ round_of events) (boxes_of setup events)
unfolding boxes_of
boxes_last setup events = boxes_low setup events (round_of events) (issues_of events) (λ k i at. omega (arith, issue_low 0 events k i at))

-- those of a kind
some_low : (t : Bool) (r n : ℕ) (rest : List ℕ) → r ≤ n → All (λ x. x ≤ n) rest → All (λ x. x ≤ n) (cons_option (cond t (Some r) None) rest)
some_low true r n rest l h = more_each (λ x. x ≤ n) r rest l h
some_low false r n rest l h = h

pub rounds_low : (kind : IssueKind) (n : ℕ) (boxes : List Service) → All (λ (b : Service). b.issue ≤ n) boxes → All (λ x. x ≤ n) (rounds_in kind boxes)
unfolding rounds_in
rounds_low kind n [] h = none_each (λ x. x ≤ n)
rounds_low kind n (b ∷ boxes) h = some_low (counts_as kind b) b.issue n (filter_map (round_in kind) boxes) (first_each (λ (b : Service). b.issue ≤ n) b boxes h) (rounds_low kind n boxes (rest_each (λ (b : Service). b.issue ≤ n) b boxes h))

some_long : (t : Bool) (r : ℕ) (rest : List ℕ) → length (cons_option (cond t (Some r) None) rest) ≡ cond t 1 0 + length rest
some_long true r rest = omega arith
some_long false r rest = omega arith

pub rounds_long : (kind : IssueKind) (boxes : List Service) → length (rounds_in kind boxes) ≡ count_by (counts_as kind) boxes
unfolding rounds_in
rounds_long kind [] = refl
rounds_long kind (b ∷ boxes) =
    omega (arith, some_long (counts_as kind b) b.issue (filter_map (round_in kind) boxes), sum_by-cons (λ (x : Service). cond (counts_as kind x) 1 0) b boxes, rounds_long kind boxes)

-- the rounds of all of them
unfoldable pub rounds_all : List Service → List ℕ
rounds_all boxes = map (λ (b : Service). b.issue) boxes

pub all_low : (n : ℕ) (boxes : List Service) → All (λ (b : Service). b.issue ≤ n) boxes → All (λ x. x ≤ n) (rounds_all boxes)
unfolding rounds_all
all_low n [] h = none_each (λ x. x ≤ n)
all_low n (b ∷ boxes) h = more_each (λ x. x ≤ n) b.issue (rounds_all boxes) (first_each (λ (b : Service). b.issue ≤ n) b boxes h) (all_low n boxes (rest_each (λ (b : Service). b.issue ≤ n) b boxes h))

pub all_long : (boxes : List Service) → length (rounds_all boxes) ≡ length boxes
unfolding rounds_all
all_long boxes = length-map boxes (λ (b : Service). b.issue)

-- each is of one kind of four
four : (back late : Bool) (dir : Dir) (x : ℕ) → cond ((not back && not late) && same_dir dir Read) x 0 + cond ((not back && not late) && same_dir dir Write) x 0 + cond (not back && late) x 0 + cond back x 0 ≡ x
four true true Read x = omega arith
four true true Write x = omega arith
four true false Read x = omega arith
four true false Write x = omega arith
four false true Read x = omega arith
four false true Write x = omega arith
four false false Read x = omega arith
four false false Write x = omega arith

in_part : (per n : ℕ) (t : Bool) (r : ℕ) (rest : List ℕ) → in_column per n (cons_option (cond t (Some r) None) rest) ≡ cond t (one_if ((r / per) == n)) 0 + in_column per n rest
unfolding in_column
in_part per n true r rest = count-cons (λ x. (x / per) == n) r rest
in_part per n false r rest = omega arith

kind_part : (per n : ℕ) (kind : IssueKind) (b : Service) (boxes : List Service) → in_column per n (rounds_in kind (b ∷ boxes)) ≡ cond (counts_as kind b) (one_if ((b.issue / per) == n)) 0 + in_column per n (rounds_in kind boxes)
unfolding rounds_in
kind_part per n kind b boxes = in_part per n (counts_as kind b) b.issue (filter_map (round_in kind) boxes)

all_part : (per n : ℕ) (b : Service) (boxes : List Service) → in_column per n (rounds_all (b ∷ boxes)) ≡ one_if ((b.issue / per) == n) + in_column per n (rounds_all boxes)
unfolding rounds_all in_column
all_part per n b boxes = count-cons (λ x. (x / per) == n) b.issue (map (λ (b : Service). b.issue) boxes)

in_none : (per n : ℕ) (kind : IssueKind) → in_column per n (rounds_in kind []) ≡ 0
unfolding rounds_in in_column
in_none per n kind = refl

all_none : (per n : ℕ) → in_column per n (rounds_all []) ≡ 0
unfolding rounds_all in_column
all_none per n = refl

pub in_kinds : (per n : ℕ) (boxes : List Service) → in_column per n (rounds_all boxes) ≡ in_column per n (rounds_in Reads boxes) + in_column per n (rounds_in Writes boxes) + in_column per n (rounds_in Lates boxes) + in_column per n (rounds_in Backs boxes)
in_kinds per n [] = omega (arith, all_none per n, in_none per n Reads, in_none per n Writes, in_none per n Lates, in_none per n Backs)
in_kinds per n (b ∷ boxes) =
    omega (arith, all_part per n b boxes, kind_part per n Reads b boxes, kind_part per n Writes b boxes, kind_part per n Lates b boxes, kind_part per n Backs b boxes, in_kinds per n boxes, four b.back (is_late b) b.dir (one_if ((b.issue / per) == n)))

-- ---- what the rounds of columns carry

room_at : (steps : List Step) (per rounds start n c a b : ℕ) → start ≤ rounds → c < n → a ≡ min (start + c * per) rounds → b ≡ min (start + suc c * per) rounds → get_or (rooms_of steps per rounds start n) c 0 ≡ carried steps a (b - a)
unfolding rooms_of
room_at steps per rounds start zero c a b h l is at = absurd (omega arith)
room_at steps per rounds start (suc n) zero a b h l is at =
    let one : suc zero * per ≡ zero * per + per = suc-mul zero per in
    let none : zero * per ≡ 0 = zero-mul per in
    let from : start ≡ a = omega arith in
    let to : min (start + per) rounds ≡ b = omega arith in
    ap (λ s. carried steps s (min (start + per) rounds - s)) from ∙ ap (λ t. carried steps a (t - a)) to
room_at steps per rounds start (suc n) (suc c) a b h l is at =
    let one : suc c * per ≡ c * per + per = suc-mul c per in
    let two : suc (suc c) * per ≡ suc c * per + per = suc-mul (suc c) per in
    room_at steps per rounds (min (start + per) rounds) n c a b (omega arith) (omega arith) (omega arith) (omega arith)

-- where a column begins
unfoldable pub from_of : ℕ → ℕ → ℕ → ℕ
from_of per rounds c = min (c * per) rounds

pub from_next : (per rounds c : ℕ) → from_of per rounds c ≤ from_of per rounds (suc c)
unfolding from_of
from_next per rounds c = omega (arith, suc-mul c per)

pub room_is : (steps : List Step) (per rounds n c : ℕ) → c < n → get_or (rooms_of steps per rounds 0 n) c 0 ≡ carried steps (from_of per rounds c) (from_of per rounds (suc c) - from_of per rounds c)
unfolding from_of
room_is steps per rounds n c l =
    room_at steps per rounds 0 n c (min (c * per) rounds) (min (suc c * per) rounds) (omega arith) l (omega arith) (omega arith)

from_start : (per rounds : ℕ) → from_of per rounds 0 ≡ 0
unfolding from_of
from_start per rounds = omega (arith, zero-mul per)

from_end : (per rounds m : ℕ) → rounds ≤ m * per → from_of per rounds m ≡ rounds
unfolding from_of
from_end per rounds m whole = omega arith

pub rooms_sum : (g : ℕ → Column) (f : Column → ℕ) (steps : List Step) (per rounds m : ℕ) → ((n : ℕ) → f (g n) ≡ get_or (rooms_of steps per rounds 0 m) n 0) → rounds ≤ m * per → sum_by f (made g m) ≡ carried steps 0 rounds
rooms_sum g f steps per rounds m is whole =
    made_sum g f (λ n. carried steps 0 (from_of per rounds n)) m (ap (carried steps 0) (from_start per rounds) ∙ carried_none steps 0)
    (λ n l.
    let on : from_of per rounds n + (from_of per rounds (suc n) - from_of per rounds n) ≡ from_of per rounds (suc n) = omega (arith, from_next per rounds n) in
    sym (ap (carried steps 0) on) ∙ carried_split steps (from_of per rounds n) (from_of per rounds (suc n) - from_of per rounds n)
    ∙ ap (λ x. carried steps 0 (from_of per rounds n) + x) (sym (is n ∙ room_is steps per rounds m n l)))
    ∙ ap (carried steps 0) (from_end per rounds m whole)

-- ---- scales

-- this number of columns is enough
enough : (rounds per : ℕ) → 0 < per → rounds ≤ columns_by rounds per * per
unfolding columns_by
enough rounds per some =
    let q : ℕ = (rounds + (per - 1)) / per in
    let most : rounds + (per - 1) < suc q * per = (div-lt_iff_lt-mul {k = per} {x = rounds + (per - 1)} {y = suc q} some).0 (omega arith) in
    let low : rounds ≤ q * per = omega (arith, suc-mul q per) in
    let more : q * per ≤ max q 1 * per = mul-le-mul_right {m = q} {n = max q 1} per (omega arith) in
    omega arith

pub scales_show : (events : List Happened) (rounds deep : ℕ) (scale : Scale) → round_of events < rounds → IsScaled rounds deep scale → ShowsAll events scale
scales_show events rounds deep scale l is = record {
  some = is.some;
  whole =
      let all : rounds ≤ columns_by rounds scale.per * scale.per = enough rounds scale.per is.some in
      let same : scale.columns * scale.per ≡ columns_by rounds scale.per * scale.per = ap (λ n. n * scale.per) is.columns_are in
      omega (arith, all, same, is.rounds_are);
  last = omega (arith, l, is.rounds_are);
}

pub own_shows : (t : Traced) (deep : ℕ) (scale : Scale) → IsScaled (rounds_shown t) deep scale → ShowsAll t.events scale
own_shows t deep scale is = scales_show t.events (rounds_shown t) deep scale (omega arith) is

from_most : (a : ℕ) (xs : List ℕ) → a ≤ fold max a xs
from_most a [] = omega arith
from_most a (x ∷ xs) = omega (arith, from_most (max a x) xs)

each_most : (a k : ℕ) (traces : List Traced) (t : Traced) → slice_get traces k ≡ Some t → rounds_shown t ≤ fold max a (map rounds_shown traces)
each_most a k [] t h = absurd (cc)
each_most a zero (u ∷ traces) t h =
    let same : u ≡ t = cc in
    let is : rounds_shown u ≡ rounds_shown t = ap rounds_shown same in
    omega (arith, is, from_most (max a (rounds_shown u)) (map rounds_shown traces))
each_most a (suc k) (u ∷ traces) t h = each_most (max a (rounds_shown u)) k traces t h

pub several_show : (traces : List Traced) (k deep : ℕ) (scale : Scale) (t : Traced) → slice_get traces k ≡ Some t → IsScaled (most_rounds traces) deep scale → ShowsAll t.events scale
unfolding most_rounds
several_show traces k deep scale t h is = scales_show t.events (most_rounds traces) deep scale (omega (arith, each_most 0 k traces t h)) is

-- ---- the columns of a trace

module _ (setup : Setup) (events : List Happened) (scale : Scale) (shows : ShowsAll events scale) where
  abbrev boxes : List Service
  boxes = boxes_of setup events

  low : round_of events < scale.columns * scale.per
  low = omega (arith, shows.whole, shows.last)

  of_kind : (kind : IssueKind) (f : Column → ℕ) → ((n : ℕ) → f (column_of setup events scale n) ≡ in_column scale.per n (rounds_in kind boxes)) → sum_by f (columns_in setup events scale) ≡ count_by (counts_as kind) boxes
  of_kind kind f is =
      columns_sum (column_of setup events scale) f scale.per scale.columns (round_of events) (rounds_in kind boxes) is shows.some low (rounds_low kind (round_of events) boxes (boxes_last setup events))
      ∙ rounds_long kind boxes

  pub reads_sum : sum_by (λ (n : Column). n.reads) (columns_in setup events scale) ≡ count_by (counts_as Reads) boxes
  unfolding column_of
  reads_sum = of_kind Reads (λ (n : Column). n.reads) (λ n. refl)

  pub writes_sum : sum_by (λ (n : Column). n.writes) (columns_in setup events scale) ≡ count_by (counts_as Writes) boxes
  unfolding column_of
  writes_sum = of_kind Writes (λ (n : Column). n.writes) (λ n. refl)

  pub lates_sum : sum_by (λ (n : Column). n.lates) (columns_in setup events scale) ≡ count_by (counts_as Lates) boxes
  unfolding column_of
  lates_sum = of_kind Lates (λ (n : Column). n.lates) (λ n. refl)

  pub backs_sum : sum_by (λ (n : Column). n.backs) (columns_in setup events scale) ≡ count_by (counts_as Backs) boxes
  unfolding column_of
  backs_sum = of_kind Backs (λ (n : Column). n.backs) (λ n. refl)

  pub issued_is : (n : ℕ) → issued_in (column_of setup events scale n) ≡ in_column scale.per n (rounds_all boxes)
  unfolding column_of
  issued_is n = sym (in_kinds scale.per n boxes)

  pub issued_sum : sum_by issued_in (columns_in setup events scale) ≡ length boxes
  issued_sum =
      columns_sum (column_of setup events scale) issued_in scale.per scale.columns (round_of events) (rounds_all boxes) issued_is shows.some low (all_low (round_of events) boxes (boxes_last setup events))
      ∙ all_long boxes

  pub room_of : (n : ℕ) → (column_of setup events scale n).room ≡ get_or (rooms_of (capacity_of setup events) scale.per scale.rounds 0 scale.columns) n 0
  unfolding column_of
  room_of n = refl

  pub room_sum : sum_by (λ (n : Column). n.room) (columns_in setup events scale) ≡ carried (capacity_of setup events) 0 scale.rounds
  room_sum = rooms_sum (column_of setup events scale) (λ (n : Column). n.room) (capacity_of setup events) scale.per scale.rounds scale.columns room_of shows.whole
