-- What the indexes find in the lists.
use Rattle.std.proofs.Common.{◌≡◌, ◌<◌, ◌^◌, ◌∙◌, ℕ, Bool, true, List, length, get_or, Some, refl, sym, ap, subst}
use Rattle.std.specs.List.{slice_get}
use Rattle.std.proofs.lemmas.Option.{slice_get_within, get_or_from_slice_get}
use Rattle.blk_bio.specs.declared.request.Side.{Side}
use Rattle.blk_bio.specs.declared.request.Side.TheVariants.{Back, Front}
use Rattle.blk_capture.specs.Ranges.{IsBeside}
use Rattle.blk_capture.specs.Rules.{IsOldestAmong, IsNewestAmong, IsShortestAmong, HoldsForNone, BeginsWith, IsOwnBeside, IsInsertedBeside, is_opened, is_inserted}
use Rattle.blk_capture.specs.Inside.LookupKeys.{Seats, whole_key, edge_key, IsOldestUnder, IsNewestUnder, IsEmptyAt, IsUnusedAt}
use Rattle.blk_capture.specs.Inside.Indexes.{AreSeated, AreIndexed, facing, abutting_key, OpenedFirst, OpenedEnd, InsertedFirst, InsertedEnd}
use Rattle.blk_capture.specs.declared.index.RequestIndex.{RequestIndex}
use Rattle.blk_capture.specs.declared.lookup.LookupKey.{LookupKey}
use Rattle.blk_capture.specs.declared.opened.Opened.{Opened}
use Rattle.blk_capture.specs.declared.record.Range.{Range}
use Rattle.blk_capture.proofs.Indexed.{Means, oldest_in, newest_in, none_in, unused_in, same_range, same_edge, way_by}

-- ---- what stands at the place that is found
module _ {X : Type 0} where
  read_is : (xs : List X) (p : ℕ) (x r : X) → slice_get xs p ≡ Some x → r ≡ get_or xs p r → x ≡ r
  read_is xs p x r at is = sym (is ∙ get_or_from_slice_get xs p x r at)

  pub within : (xs : List X) (p : ℕ) (x : X) → slice_get xs p ≡ Some x → p < length xs
  within xs p x at = slice_get_within xs p x at

  pub read_oldest : (age : X → ℕ) (P : X → Type 0) (xs : List X) (p : ℕ) (r x : X) → IsOldestAmong age P xs p x → r ≡ get_or xs p r → IsOldestAmong age P xs p r
  read_oldest age P xs p r x o is = subst (λ y. IsOldestAmong age P xs p y) (read_is xs p x r o.there is) o

  pub read_newest : (age : X → ℕ) (P : X → Type 0) (xs : List X) (p : ℕ) (r x : X) → IsNewestAmong age P xs p x → r ≡ get_or xs p r → IsNewestAmong age P xs p r
  read_newest age P xs p r x o is = subst (λ y. IsNewestAmong age P xs p y) (read_is xs p x r o.there is) o

  pub read_shortest : (end age : X → ℕ) (P : X → Type 0) (xs : List X) (p : ℕ) (r x : X) → IsShortestAmong end age P xs p x → r ≡ get_or xs p r → IsShortestAmong end age P xs p r
  read_shortest end age P xs p r x o is = subst (λ y. IsShortestAmong end age P xs p y) (read_is xs p x r o.there is) o

-- ---- by whole ranges
module _ {X : Type 0} (stands : X → Bool) (range : X → Range) (age : X → ℕ) where
  abbrev Of : Range → X → Type 0
  Of s x = (stands x ≡ true) × (range x ≡ s)

  means_range : (s : Range) (key : LookupKey) → key ≡ whole_key s → Means stands (λ x. whole_key (range x)) age key (Of s)
  means_range s key e = record {
    to = λ x so under. (so, same_range (range x) s (under ∙ e));
    stands_so = λ x fits. fits.0;
    under = λ x fits. ap whole_key fits.1 ∙ sym e;
  }

  pub whole_found : (xs : List X) (seats : Seats) (s : Range) (key : LookupKey) (p : ℕ) → AreSeated stands (λ x. whole_key (range x)) age xs seats → key ≡ whole_key s → IsOldestUnder seats key p → (x : X) × IsOldestAmong age (Of s) xs p x
  whole_found xs seats s key p is e o = oldest_in stands (λ x. whole_key (range x)) age xs seats key (Of s) p is (means_range s key e) o

  pub whole_none : (xs : List X) (seats : Seats) (s : Range) (key : LookupKey) → AreSeated stands (λ x. whole_key (range x)) age xs seats → key ≡ whole_key s → IsEmptyAt seats key → HoldsForNone (Of s) xs
  whole_none xs seats s key is e none = none_in stands (λ x. whole_key (range x)) age xs seats key (Of s) is (means_range s key e) none

-- ---- by where they begin
abbrev From : Range → Opened → Type 0
From s q = (is_opened q.stage ≡ true) × BeginsWith s q.left

abbrev Aged : List Opened → Type 0
Aged qs = (j : ℕ) (y : Opened) → slice_get qs j ≡ Some y → y.age < 2 ^ 63

means_from : (s : Range) (key : LookupKey) → key ≡ edge_key s s.first 0 → Means (λ q. is_opened q.stage) (λ q. edge_key q.left q.left.first 0) (λ q. q.age) key (From s)
means_from s key e = record {
  to = λ x so under. (so, record { way = way_by x.left s (ap (λ (k : LookupKey). k.write) (under ∙ e)); begins = ap (λ (k : LookupKey). k.sector) (under ∙ e) });
  stands_so = λ x fits. fits.0;
  under = λ x fits. same_edge x.left s x.left.first s.first 0 0 fits.1.way fits.1.begins refl ∙ sym e;
}

pub from_found : (qs : List Opened) (seats : Seats) (s : Range) (key : LookupKey) (p : ℕ) → AreSeated (λ q. is_opened q.stage) (λ q. edge_key q.left q.left.first 0) (λ q. q.age) qs seats → key ≡ edge_key s s.first 0 → IsOldestUnder seats key p → (x : Opened) × IsOldestAmong (λ q. q.age) (From s) qs p x
from_found qs seats s key p is e o = oldest_in (λ q. is_opened q.stage) (λ q. edge_key q.left q.left.first 0) (λ q. q.age) qs seats key (From s) p is (means_from s key e) o

pub from_none : (qs : List Opened) (seats : Seats) (s : Range) (key : LookupKey) → AreSeated (λ q. is_opened q.stage) (λ q. edge_key q.left q.left.first 0) (λ q. q.age) qs seats → key ≡ edge_key s s.first 0 → IsEmptyAt seats key → HoldsForNone (From s) qs
from_none qs seats s key is e none = none_in (λ q. is_opened q.stage) (λ q. edge_key q.left q.left.first 0) (λ q. q.age) qs seats key (From s) is (means_from s key e) none

-- ---- by where they meet a newcomer
abbrev edge_of : Side → Range → ℕ
edge_of Back r = r.end
edge_of Front r = r.first

abbrev facing_edge : Side → Range → ℕ
facing_edge Back s = s.first
facing_edge Front s = s.end

beside : (side : Side) (s r : Range) → r.dir ≡ s.dir → edge_of side r ≡ facing_edge side s → IsBeside side s r
beside Back s r way at = record { way = way; meeting = at }
beside Front s r way at = record { way = way; meeting = at }

meeting_at : (side : Side) (s r : Range) → IsBeside side s r → edge_of side r ≡ facing_edge side s
meeting_at Back s r is = is.meeting
meeting_at Front s r is = is.meeting

means_own : (side : Side) (s : Range) (pid : ℕ) → Means (λ q. is_opened q.stage) (λ q. edge_key q.left (edge_of side q.left) q.pid) (λ q. q.age) (edge_key s (facing_edge side s) pid) (IsOwnBeside side pid s)
means_own side s pid = record {
  to =
      λ x so under.
      (so, ap (λ (k : LookupKey). k.pid) under, beside side s x.left (way_by x.left s (ap (λ (k : LookupKey). k.write) under)) (ap (λ (k : LookupKey). k.sector) under));
  stands_so = λ x fits. fits.0;
  under = λ x fits. same_edge x.left s (edge_of side x.left) (facing_edge side s) x.pid pid fits.2.way (meeting_at side s x.left fits.2) fits.1;
}

means_inserted : (side : Side) (s : Range) → Means (λ q. is_inserted q.stage) (λ q. edge_key q.left (edge_of side q.left) 0) (λ q. q.age) (edge_key s (facing_edge side s) 0) (IsInsertedBeside side s)
means_inserted side s = record {
  to = λ x so under. (so, beside side s x.left (way_by x.left s (ap (λ (k : LookupKey). k.write) under)) (ap (λ (k : LookupKey). k.sector) under));
  stands_so = λ x fits. fits.0;
  under = λ x fits. same_edge x.left s (edge_of side x.left) (facing_edge side s) 0 0 fits.1.way (meeting_at side s x.left fits.1) refl;
}

pub own_found : {A : Type 0} (qs : List Opened) (e : RequestIndex A) (side : Side) (s : Range) (pid p : ℕ) → AreIndexed qs e → Aged qs → IsNewestUnder (facing side e.opened) (abutting_key s side pid) p → (x : Opened) × IsNewestAmong (λ q. q.age) (IsOwnBeside side pid s) qs p x
own_found qs e Back s pid p is aged o = newest_in (λ q. is_opened q.stage) (λ q. edge_key q.left q.left.end q.pid) (λ q. q.age) qs (facing Back e.opened) (abutting_key s Back pid) (IsOwnBeside Back pid s) p (is OpenedEnd) aged (means_own Back s pid) o
own_found qs e Front s pid p is aged o = newest_in (λ q. is_opened q.stage) (λ q. edge_key q.left q.left.first q.pid) (λ q. q.age) qs (facing Front e.opened) (abutting_key s Front pid) (IsOwnBeside Front pid s) p (is OpenedFirst) aged (means_own Front s pid) o

pub own_none : {A : Type 0} (qs : List Opened) (e : RequestIndex A) (side : Side) (s : Range) (pid : ℕ) → AreIndexed qs e → Aged qs → IsUnusedAt (facing side e.opened) (abutting_key s side pid) → HoldsForNone (IsOwnBeside side pid s) qs
own_none qs e Back s pid is aged o = unused_in (λ q. is_opened q.stage) (λ q. edge_key q.left q.left.end q.pid) (λ q. q.age) qs (facing Back e.opened) (abutting_key s Back pid) (IsOwnBeside Back pid s) (is OpenedEnd) aged (means_own Back s pid) o
own_none qs e Front s pid is aged o = unused_in (λ q. is_opened q.stage) (λ q. edge_key q.left q.left.first q.pid) (λ q. q.age) qs (facing Front e.opened) (abutting_key s Front pid) (IsOwnBeside Front pid s) (is OpenedFirst) aged (means_own Front s pid) o

pub inserted_found : {A : Type 0} (qs : List Opened) (e : RequestIndex A) (side : Side) (s : Range) (p : ℕ) → AreIndexed qs e → IsOldestUnder (facing side e.inserted) (abutting_key s side 0) p → (x : Opened) × IsOldestAmong (λ q. q.age) (IsInsertedBeside side s) qs p x
inserted_found qs e Back s p is o = oldest_in (λ q. is_inserted q.stage) (λ q. edge_key q.left q.left.end 0) (λ q. q.age) qs (facing Back e.inserted) (abutting_key s Back 0) (IsInsertedBeside Back s) p (is InsertedEnd) (means_inserted Back s) o
inserted_found qs e Front s p is o = oldest_in (λ q. is_inserted q.stage) (λ q. edge_key q.left q.left.first 0) (λ q. q.age) qs (facing Front e.inserted) (abutting_key s Front 0) (IsInsertedBeside Front s) p (is InsertedFirst) (means_inserted Front s) o

pub inserted_none : {A : Type 0} (qs : List Opened) (e : RequestIndex A) (side : Side) (s : Range) → AreIndexed qs e → IsEmptyAt (facing side e.inserted) (abutting_key s side 0) → HoldsForNone (IsInsertedBeside side s) qs
inserted_none qs e Back s is o = none_in (λ q. is_inserted q.stage) (λ q. edge_key q.left q.left.end 0) (λ q. q.age) qs (facing Back e.inserted) (abutting_key s Back 0) (IsInsertedBeside Back s) (is InsertedEnd) (means_inserted Back s) o
inserted_none qs e Front s is o = none_in (λ q. is_inserted q.stage) (λ q. edge_key q.left q.left.first 0) (λ q. q.age) qs (facing Front e.inserted) (abutting_key s Front 0) (IsInsertedBeside Front s) (is InsertedFirst) (means_inserted Front s) o
