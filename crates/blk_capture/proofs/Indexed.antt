-- Indexes and the lists of which they are.
use Rattle.std.proofs.Common.{◌≡◌, ◌≢◌, ◌<◌, ◌^◌, ◌∙◌, ◌++◌, ◌⊎◌, ℕ, suc, Bool, true, false, cond, List, [], ◌∷◌, length, get_or, set, zero, Option, Some, None, inl, inr, sym, ap, subst, refl, arith}
use Rattle.std.specs.Prelude.{if◌then◌else◌}
use Rattle.std.specs.Option.{option_and_then}
use Rattle.std.specs.Ordering.{eq_by_cmp}
use Rattle.ordered.specs.Ordered.{is_key}
use Rattle.ordered.proofs.Indexes.{IsOf, Gets, replaced, kept}
use Rattle.std.specs.List.{slice_get}
use Rattle.std.proofs.lemmas.Bool.{cases_lt}
use Rattle.std.proofs.lemmas.Bool.Decides.{eqb_tells}
use Rattle.std.proofs.lemmas.Option.{slice_get_within, slice_get_read, slice_get_past}
use Rattle.std.proofs.lemmas.List.{get_or-set_other, get_or_default, length-set}
use Rattle.std.proofs.lemmas.Grind.{get_or-set_at}
use Rattle.blk_bio.specs.declared.bio.Dir.{Dir}
use Rattle.blk_bio.specs.declared.bio.Dir.TheVariants as dir
use Rattle.blk_capture.specs.Ranges.{writes, IsLonger}
use Rattle.blk_capture.specs.Rules.{IsOlderThan, IsOldestAmong, IsNewestAmong, IsShortestAmong, HoldsForNone}
use Rattle.blk_capture.specs.Inside.LookupKeys.{Seats, seat, seat_cmp, is_seat, whole_key, edge_key, ending_at, PutsIf, TakesIf, IsOldestUnder, IsNewestUnder, IsEmptyAt, IsUnusedAt, IsShortestOver, IsEmptyOver}
use Rattle.blk_capture.specs.Inside.Indexes.{seat_of, seat_at, AreSeated}
use Rattle.blk_capture.specs.declared.lookup.LookupKey.{LookupKey}
use Rattle.blk_capture.specs.declared.lookup.Seat.{Seat}
use Rattle.blk_capture.specs.declared.record.Range.{Range}
use Rattle.blk_capture.proofs.LookupKeys.{seats_total, one_seat, seat_itself}

-- ---- lists after a write and with one more
pub get_same : {X : Type 0} (xs : List X) (k : ℕ) (x y : X) → slice_get xs k ≡ Some x → slice_get (set xs k y) k ≡ Some y
get_same xs k x y at =
    let lt : k < length xs = slice_get_within xs k x at in
    let n : length (set xs k y) ≡ length xs = length-set xs k y in
    let lt2 : k < length (set xs k y) = omega (arith, n, lt) in
    slice_get_read (set xs k y) (length (set xs k y)) k y refl lt2 (sym (get_or-set_at xs k k y y refl lt))

pub get_other : {X : Type 0} (xs : List X) (k s : ℕ) (y : X) → s ≢ k → slice_get (set xs k y) s ≡ slice_get xs s
get_other xs k s y ne =
    let n : length (set xs k y) ≡ length xs = length-set xs k y in
    elim (cases_lt s (length xs)) [
      | inl lt ↦
          let lt2 : s < length (set xs k y) = omega (arith, n, lt) in
          let here : slice_get xs s ≡ Some (get_or xs s y) = slice_get_read xs (length xs) s (get_or xs s y) refl lt (get_or_default xs s y (get_or xs s y) lt) in
          let there : slice_get (set xs k y) s ≡ Some (get_or xs s y) = slice_get_read (set xs k y) (length (set xs k y)) s (get_or xs s y) refl lt2 (get_or_default xs s y (get_or xs s y) lt ∙ sym (get_or-set_other xs k s y (get_or xs s y) ne)) in
          there ∙ sym here
      | inr ge ↦ slice_get_past (set xs k y) s (omega (arith, n, ge)) ∙ sym (slice_get_past xs s ge)
    ]

pub get_pushed : {X : Type 0} (xs : List X) (y : X) → slice_get (xs ++ y ∷ []) (length xs) ≡ Some y
get_pushed [] y = refl
get_pushed (x ∷ xs) y = get_pushed xs y

pub get_but_last : {X : Type 0} (xs : List X) (y : X) (k : ℕ) → k ≢ length xs → slice_get (xs ++ y ∷ []) k ≡ slice_get xs k
get_but_last [] y zero other = absurd (other refl)
get_but_last [] y (suc k) other = refl
get_but_last (x ∷ xs) y zero other = refl
get_but_last (x ∷ xs) y (suc k) other = get_but_last xs y k (λ e. other (let q : suc k ≡ length (x ∷ xs) = omega arith in q))

-- ---- what changes of an index
at_place : (a b : Seat) → eq_by_cmp seat_cmp a b ≡ true → a.place ≡ b.place
at_place a b h = ap (λ (s : Seat). s.place) (one_seat a b h)

-- a seat is put in or taken out where it is there
putting : (b : Bool) (s : Seat) (old new : Seats) → PutsIf b s old new → (q : Seat) → new q ≡ cond (is_key seat_cmp (if b then Some s else None) q) true (old q)
putting true s old new puts q = puts q
putting false s old new puts q = puts q

taking : (b : Bool) (s : Seat) (old new : Seats) → TakesIf b s old new → (q : Seat) → new q ≡ cond (is_key seat_cmp (if b then Some s else None) q) false (old q)
taking true s old new takes q = takes q
taking false s old new takes q = takes q

placed : (b : Bool) (s : Seat) → IsOf (λ (q : Seat). q.place) s.place (if b then Some s else None)
placed true s = refl
placed false s = tt

module _ {X : Type 0} (stands : X → Bool) (key : X → LookupKey) (age : X → ℕ) where
  abbrev Here : List X → ℕ → Option Seat
  Here = seat_at stands key age

  -- what a list has at one place, and elsewhere as before
  set_there : (xs : List X) (k : ℕ) (x y : X) → slice_get xs k ≡ Some x → Gets (Here xs) k (seat_of stands key age k y) (Here (set xs k y))
  set_there xs k x y at = (ap (option_and_then (seat_of stands key age k)) (get_same xs k x y at), λ p other. ap (option_and_then (seat_of stands key age p)) (get_other xs k p y other))

  pushed_there : (xs : List X) (y : X) → Gets (Here xs) (length xs) (seat_of stands key age (length xs) y) (Here (xs ++ y ∷ []))
  pushed_there xs y = (ap (option_and_then (seat_of stands key age (length xs))) (get_pushed xs y), λ p other. ap (option_and_then (seat_of stands key age p)) (get_but_last xs y p other))

  -- one is taken out, and put in as another
  pub changed : (xs : List X) (k : ℕ) (x y : X) (old middle new : Seats) → AreSeated stands key age xs old → slice_get xs k ≡ Some x
      → TakesIf (stands x) (seat (key x) (age x) k) old middle → PutsIf (stands y) (seat (key y) (age y) k) middle new
      → AreSeated stands key age (set xs k y) new
  changed xs k x y old middle new are at takes puts =
      replaced seat_cmp seats_total (λ q. q.place) at_place (Here xs) (Here (set xs k y)) k (seat_of stands key age k x) (seat_of stands key age k y) old middle new are
      (ap (option_and_then (seat_of stands key age k)) at) (placed (stands x) (seat (key x) (age x) k)) (placed (stands y) (seat (key y) (age y) k)) (set_there xs k x y at)
      (taking (stands x) (seat (key x) (age x) k) old middle takes) (putting (stands y) (seat (key y) (age y) k) middle new puts)

  -- one is put in at the end
  pub pushed : (xs : List X) (y : X) (old new : Seats) → AreSeated stands key age xs old → PutsIf (stands y) (seat (key y) (age y) (length xs)) old new → AreSeated stands key age (xs ++ y ∷ []) new
  pushed xs y old new are puts =
      replaced seat_cmp seats_total (λ q. q.place) at_place (Here xs) (Here (xs ++ y ∷ [])) (length xs) None (seat_of stands key age (length xs) y) old old new are
      (ap (option_and_then (seat_of stands key age (length xs))) (slice_get_past xs (length xs) (omega arith))) tt (placed (stands y) (seat (key y) (age y) (length xs))) (pushed_there xs y)
      (λ q. refl) (putting (stands y) (seat (key y) (age y) (length xs)) old new puts)

  -- one stands where another did, so that nothing changes
  pub unmoved : (xs : List X) (k : ℕ) (x y : X) (old : Seats) → AreSeated stands key age xs old → slice_get xs k ≡ Some x → seat_of stands key age k y ≡ seat_of stands key age k x → AreSeated stands key age (set xs k y) old
  unmoved xs k x y old are at same =
      kept seat_cmp seats_total (λ q. q.place) at_place (Here xs) (Here (set xs k y)) old old are
      (λ p. elim (eqb_tells p k) [
        | inl a ↦ ap (Here (set xs k y)) a.1 ∙ (set_there xs k x y at).0 ∙ same ∙ sym (ap (Here xs) a.1 ∙ ap (option_and_then (seat_of stands key age k)) at)
        | inr a ↦ (set_there xs k x y at).1 p a.1
      ])
      (λ q. refl)

  -- ---- what is found
  -- what stands at a seat
  record Sitting (xs : List X) (k : LookupKey) (a p : ℕ) : Type 0 where
    one : X
    there : slice_get xs p ≡ Some one
    stands_so : stands one ≡ true
    under : key one ≡ k
    aged : age one ≡ a

  found_in : (xs : List X) (k : LookupKey) (a p : ℕ) (o : Option X) → slice_get xs p ≡ o → is_key seat_cmp (option_and_then (seat_of stands key age p) o) (seat k a p) ≡ true → Sitting xs k a p
  found_in xs k a p None at h = absurd (cc)
  found_in xs k a p (Some x) at h = elim (stands x) as (λ b. stands x ≡ b → is_key seat_cmp (if b then Some (seat (key x) (age x) p) else None) (seat k a p) ≡ true → Sitting xs k a p) [
    | true ↦ λ so is.
        let same : seat (key x) (age x) p ≡ seat k a p = one_seat (seat (key x) (age x) p) (seat k a p) is in
        record { one = x; there = at; stands_so = so; under = ap (λ (q : Seat). q.key) same; aged = ap (λ (q : Seat). q.age) same }
    | false ↦ λ _ is. absurd (cc)
  ] refl h

  found_at : (xs : List X) (seats : Seats) (k : LookupKey) (a p : ℕ) → AreSeated stands key age xs seats → seats (seat k a p) ≡ true → Sitting xs k a p
  found_at xs seats k a p are h = found_in xs k a p (slice_get xs p) refl (sym (are (seat k a p)) ∙ h)

  sits_at : (xs : List X) (seats : Seats) (k : LookupKey) (p : ℕ) (x : X) → AreSeated stands key age xs seats → slice_get xs p ≡ Some x → stands x ≡ true → key x ≡ k → seats (seat k (age x) p) ≡ true
  sits_at xs seats k p x are at so under =
      are (seat k (age x) p)
      ∙ ap (λ o. is_key seat_cmp (option_and_then (seat_of stands key age p) o) (seat k (age x) p)) at
      ∙ ap (λ b. is_key seat_cmp (if b then Some (seat (key x) (age x) p) else None) (seat k (age x) p)) so
      ∙ ap (λ (u : LookupKey). is_seat (seat (key x) (age x) p) (seat u (age x) p)) (sym under)
      ∙ seat_itself (seat (key x) (age x) p)

  -- those that stand under a key are those for which P holds
  pub record Means (k : LookupKey) (P : X → Type 0) : Type 0 where
    pub to : (x : X) → stands x ≡ true → key x ≡ k → P x
    pub stands_so : (x : X) → P x → stands x ≡ true
    pub under : (x : X) → P x → key x ≡ k

  pub oldest_in : (xs : List X) (seats : Seats) (k : LookupKey) (P : X → Type 0) (p : ℕ) → AreSeated stands key age xs seats → Means k P → IsOldestUnder seats k p → (x : X) × IsOldestAmong age P xs p x
  oldest_in xs seats k P p is means o =
      let f = found_at xs seats k o.age p is o.there in (
        f.one,
        record {
          there = f.there;
          fits = means.to f.one f.stands_so f.under;
          oldest =
              λ j y at fits.
              subst (λ n. IsOlderThan n p (age y) j) (sym f.aged) (o.oldest (age y) j (sits_at xs seats k j y is at (means.stands_so y fits) (means.under y fits)));
        },
      )

  pub newest_in : (xs : List X) (seats : Seats) (k : LookupKey) (P : X → Type 0) (p : ℕ) → AreSeated stands key age xs seats → ((j : ℕ) (y : X) → slice_get xs j ≡ Some y → age y < 2 ^ 63) → Means k P → IsNewestUnder seats k p → (x : X) × IsNewestAmong age P xs p x
  newest_in xs seats k P p is aged means o =
      let f = found_at xs seats k o.age p is o.there in (
        f.one,
        record {
          there = f.there;
          fits = means.to f.one f.stands_so f.under;
          newest =
              λ j y at fits.
              subst (λ n. IsOlderThan (age y) j n p) (sym f.aged) (o.newest (age y) j (aged j y at) (sits_at xs seats k j y is at (means.stands_so y fits) (means.under y fits)));
        },
      )

  pub none_in : (xs : List X) (seats : Seats) (k : LookupKey) (P : X → Type 0) → AreSeated stands key age xs seats → Means k P → IsEmptyAt seats k → HoldsForNone P xs
  none_in xs seats k P is means none j y at fits =
      let some : seats (seat k (age y) j) ≡ true = sits_at xs seats k j y is at (means.stands_so y fits) (means.under y fits) in
      let bad : true ≡ false = sym some ∙ none (age y) j in
      cc

  pub unused_in : (xs : List X) (seats : Seats) (k : LookupKey) (P : X → Type 0) → AreSeated stands key age xs seats → ((j : ℕ) (y : X) → slice_get xs j ≡ Some y → age y < 2 ^ 63) → Means k P → IsUnusedAt seats k → HoldsForNone P xs
  unused_in xs seats k P is aged means none j y at fits =
      let some : seats (seat k (age y) j) ≡ true = sits_at xs seats k j y is at (means.stands_so y fits) (means.under y fits) in
      let bad : true ≡ false = sym some ∙ none (age y) j (aged j y at) in
      cc

-- ---- keys and ranges
same_way : (a b : Dir) → writes a ≡ writes b → a ≡ b
same_way dir.Read dir.Read e = refl
same_way dir.Write dir.Write e = refl
same_way dir.Read dir.Write e = cc
same_way dir.Write dir.Read e = cc

pub same_range : (r s : Range) → whole_key r ≡ whole_key s → r ≡ s
same_range r s e =
    let way : r.dir ≡ s.dir = same_way r.dir s.dir (ap (λ (k : LookupKey). k.write) e) in
    let first : r.first ≡ s.first = ap (λ (k : LookupKey). k.sector) e in
    let end : r.end ≡ s.end = ap (λ (k : LookupKey). k.end) e in
    ap (λ (x : Dir). (let q : Range = record { dir = x; first = r.first; end = r.end } in q)) way
    ∙ ap (λ (x : ℕ). (let q : Range = record { dir = s.dir; first = x; end = r.end } in q)) first
    ∙ ap (λ (x : ℕ). (let q : Range = record { dir = s.dir; first = s.first; end = x } in q)) end

pub way_by : (r s : Range) → writes r.dir ≡ writes s.dir → r.dir ≡ s.dir
way_by r s e = same_way r.dir s.dir e

pub same_edge : (r s : Range) (a b p q : ℕ) → r.dir ≡ s.dir → a ≡ b → p ≡ q → edge_key r a p ≡ edge_key s b q
same_edge r s a b p q way at pid =
    ap (λ (x : Dir). (let k : LookupKey = record { sector = a; write = writes x; pid = p; end = 0 } in k)) way
    ∙ ap (λ (x : ℕ). (let k : LookupKey = record { sector = x; write = writes s.dir; pid = p; end = 0 } in k)) at
    ∙ ap (λ (x : ℕ). (let k : LookupKey = record { sector = b; write = writes s.dir; pid = x; end = 0 } in k)) pid

longer_key : (s r : Range) → IsLonger s r → whole_key r ≡ ending_at s r.end
longer_key s r is =
    ap (λ (x : Dir). (let k : LookupKey = record { sector = r.first; write = writes x; pid = 0; end = r.end } in k)) is.way
    ∙ ap (λ (x : ℕ). (let k : LookupKey = record { sector = x; write = writes s.dir; pid = 0; end = r.end } in k)) is.begins

-- the shortest of those whose keys are their whole ranges
module _ {X : Type 0} (stands : X → Bool) (range : X → Range) (age : X → ℕ) where
  abbrev Beyond : Range → X → Type 0
  Beyond s x = (stands x ≡ true) × IsLonger s (range x)

  pub shortest_in : (xs : List X) (seats : Seats) (s : Range) (p : ℕ) → AreSeated stands (λ x. whole_key (range x)) age xs seats → IsShortestOver seats s p → (x : X) × IsShortestAmong (λ x. (range x).end) age (Beyond s) xs p x
  shortest_in xs seats s p is o =
      let f = found_at stands (λ x. whole_key (range x)) age xs seats (ending_at s o.end) o.age p is o.there in
      let ends : (range f.one).end ≡ o.end = ap (λ (k : LookupKey). k.end) f.under in (
        f.one,
        record {
          there = f.there;
          fits = (f.stands_so, record { way = way_by (range f.one) s (ap (λ (k : LookupKey). k.write) f.under); begins = ap (λ (k : LookupKey). k.sector) f.under; longer = omega (arith, ends, o.longer) });
          shortest =
              λ j y at fits.
              subst (λ n. (n < (range y).end) ⊎ ((n ≡ (range y).end) × IsOlderThan (age f.one) p (age y) j)) (sym ends)
              (subst (λ n. (o.end < (range y).end) ⊎ ((o.end ≡ (range y).end) × IsOlderThan n p (age y) j)) (sym f.aged)
              (o.shortest (range y).end (age y) j fits.1.longer (sits_at stands (λ x. whole_key (range x)) age xs seats (ending_at s (range y).end) j y is at fits.0 (longer_key s (range y) fits.1))));
        },
      )

  pub none_longer_in : (xs : List X) (seats : Seats) (s : Range) → AreSeated stands (λ x. whole_key (range x)) age xs seats → IsEmptyOver seats s → HoldsForNone (Beyond s) xs
  none_longer_in xs seats s is none j y at fits =
      let some : seats (seat (ending_at s (range y).end) (age y) j) ≡ true = sits_at stands (λ x. whole_key (range x)) age xs seats (ending_at s (range y).end) j y is at fits.0 (longer_key s (range y) fits.1) in
      let bad : true ≡ false = sym some ∙ none (range y).end (age y) j fits.1.longer in
      cc
