-- No column of a legal trace has more boxes than room.
use mathlib.Core.List.{reverse-cons}
use Rattle.std.proofs.Common.{◌≡◌, ◌<◌, ◌≤◌, ◌+◌, ◌-◌, ◌*◌, ◌++◌, ◌==◌, ◌∙◌, ◌∷◌, ℕ, suc, List, [], length, refl, ap, subst, arith, inl, inr, cond, true, eqb-true}
use Rattle.std.specs.Prelude.{sum_by, nat_lt, nat_le, min, ◌/◌, ◌&&◌, All, map, reverse}
use Rattle.std.proofs.Math.Nat.{div-lt_iff_lt-mul, div-mul-le_self}
use Rattle.std.proofs.lemmas.Bool.{cases_Bool, lt-ltb, le-leb}
use Rattle.std.proofs.lemmas.List.{map-append}
use Rattle.std.proofs.lemmas.List.Sums.{sum_by-append}
use Rattle.edd_commands.specs.Schedule.{places_at}
use Rattle.edd_commands.specs.Capacity.{depth_at, carried}
use Rattle.edd_commands.proofs.Counting.{places_among, places_among-le}
use Rattle.blk_trace.specs.Happened.{Happened}
use Rattle.blk_trace.specs.Setups.{Setup}
use Rattle.blk_trace.specs.declared.issued.Issued.{Issued}
use Rattle.blk_trace.specs.Issues.{issues_of}
use Rattle.blk_trace.specs.Events.{round_of}
use Rattle.blk_trace.specs.Depths.{capacity_of}
use Rattle.blk_trace.specs.Legal.{IsLegalTrace}
use Rattle.blk_trace.proofs.Changes.{capacity_depth}
use Rattle.blk_trace.proofs.Counting.{one_if, count-cons}
use Rattle.blk_trace.proofs.Scheduling.{as_many, few_tags}
use Rattle.blk_report.specs.declared.serving.Service.{Service}
use Rattle.blk_report.specs.Services.{service_of}
use Rattle.blk_picture.specs.declared.scale.Scale.{Scale}
use Rattle.blk_picture.specs.declared.columns.Column.{Column}
use Rattle.blk_picture.specs.Boxes.{boxes_of}
use Rattle.blk_picture.specs.Columns.{in_column, column_of}
use Rattle.blk_picture.specs.Sums.{columns_in, issued_in, idle_in, ShowsAll}
use Rattle.blk_picture.proofs.Adding.{first_low, rest_low, rounds_all, all_low, boxes_last, from_of, room_is, room_of, issued_is, issued_sum, room_sum, made_parts}

-- ---- the rounds of all boxes

places_split : (xs ys : List Service) (x : ℕ) → places_at (rounds_all (xs ++ ys)) x ≡ places_at (rounds_all xs) x + places_at (rounds_all ys) x
unfolding places_at rounds_all
places_split xs ys x =
    ap (λ l. places_at l x) (map-append (λ (b : Service). b.issue) xs ys) ∙ sum_by-append (λ (y : ℕ). cond (y == x) 1 0) (rounds_all xs) (rounds_all ys)

-- those of boxes that are turned around
turned_places : (setup : Setup) (events : List Happened) (x : ℕ) (xs : List Issued) → places_at (rounds_all (map (service_of setup events) (reverse xs))) x ≡ places_at (map (λ (i : Issued). i.round) xs) x
unfolding places_at rounds_all
turned_places setup events x [] = refl
turned_places setup events x (i ∷ xs) =
    let box : Issued → Service = service_of setup events in
    let turned : map box (reverse (i ∷ xs)) ≡ map box (reverse xs) ++ box i ∷ [] = ap (map box) (reverse-cons i xs) ∙ map-append box (reverse xs) (i ∷ []) in
    ap (λ l. places_at (rounds_all l) x) turned
    ∙ places_split (map box (reverse xs)) (box i ∷ []) x
    ∙ omega (arith, turned_places setup events x xs, count-cons (λ y. y == x) i.round [], count-cons (λ y. y == x) i.round (map (λ (i : Issued). i.round) xs))

-- ---- no round of a legal trace has more of them than it carries

within_depth : (setup : Setup) (events : List Happened) → IsLegalTrace setup events → (x : ℕ) → places_at (rounds_all (boxes_of setup events)) x ≤ depth_at (capacity_of setup events) x
unfolding boxes_of
within_depth setup events legal x =
    omega (arith, turned_places setup events x (issues_of events), as_many x (issues_of events), few_tags setup events x legal, capacity_depth setup events x)

-- ---- nor a column

column_point : (per total n x : ℕ) → 0 < per → x < total → one_if ((x / per) == n) ≤ one_if (nat_le (from_of per total n) x && nat_lt x (from_of per total n + (from_of per total (suc n) - from_of per total n)))
unfolding from_of
column_point per total n x some l =
    elim (cases_Bool ((x / per) == n)) [
      | inl t ↦
          let same : x / per ≡ n = eqb-true (x / per) n t in
          let low : n * per ≤ x = subst (λ k. k * per ≤ x) same (div-mul-le_self x per) in
          let high : x < suc n * per = (div-lt_iff_lt-mul {k = per} {x = x} {y = suc n} some).0 (omega (arith, same)) in
          let a : ℕ = min (n * per) total in
          let b : ℕ = min (suc n * per) total in
          let from : nat_le a x ≡ true = le-leb a x (omega arith) in
          let to : nat_lt x (a + (b - a)) ≡ true = lt-ltb x (a + (b - a)) (omega arith) in
          let yes : one_if (nat_le a x && nat_lt x (a + (b - a))) ≡ 1 = ap (λ p. one_if (p && nat_lt x (a + (b - a)))) from ∙ ap (λ p. one_if (true && p)) to in
          omega (arith, ap one_if t, yes)
      | inr f ↦ omega (arith, ap one_if f)
    ]

column_among : (per total n last : ℕ) (rounds : List ℕ) → 0 < per → last < total → All (λ r. r ≤ last) rounds → in_column per n rounds ≤ places_among rounds (from_of per total n) (from_of per total (suc n) - from_of per total n)
unfolding in_column
column_among per total n last [] some l h = omega arith
column_among per total n last (x ∷ xs) some l h =
    let a : ℕ = from_of per total n in
    let d : ℕ = from_of per total (suc n) - from_of per total n in
    omega (arith, count-cons (λ r. (r / per) == n) x xs, count-cons (λ r. nat_le a r && nat_lt r (a + d)) x xs, column_point per total n x some (omega (arith, first_low last x xs h)), column_among per total n last xs some l (rest_low last x xs h))

module _ (setup : Setup) (events : List Happened) (scale : Scale) (legal : IsLegalTrace setup events) (shows : ShowsAll events scale) where
  pub column_fits : (n : ℕ) → n < scale.columns → issued_in (column_of setup events scale n) ≤ (column_of setup events scale n).room
  column_fits n l =
      let rounds : List ℕ = rounds_all (boxes_of setup events) in
      let a : ℕ = from_of scale.per scale.rounds n in
      let d : ℕ = from_of scale.per scale.rounds (suc n) - from_of scale.per scale.rounds n in
      let few : in_column scale.per n rounds ≤ places_among rounds a d = column_among scale.per scale.rounds n (round_of events) rounds shows.some shows.last (all_low (round_of events) (boxes_of setup events) (boxes_last setup events)) in
      let most : places_among rounds a d ≤ carried (capacity_of setup events) a d = places_among-le rounds (capacity_of setup events) (within_depth setup events legal) a d in
      let room : (column_of setup events scale n).room ≡ carried (capacity_of setup events) a d = room_of setup events scale shows n ∙ room_is (capacity_of setup events) scale.per scale.rounds scale.columns n l in
      omega (arith, issued_is setup events scale shows n, few, most, room)

  pub idle_sum : sum_by idle_in (columns_in setup events scale) + length (boxes_of setup events) ≡ carried (capacity_of setup events) 0 scale.rounds
  idle_sum =
      let parts = made_parts (column_of setup events scale) (λ (n : Column). n.room) idle_in issued_in scale.columns (λ n l. omega (arith, column_fits n l)) in
      omega (arith, parts, issued_sum setup events scale shows, room_sum setup events scale shows)
