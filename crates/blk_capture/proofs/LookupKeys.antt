-- The order of keys.
use Rattle.std.proofs.Common.{◌≡◌, ◌<◌, ◌≤◌, ◌+◌, ◌-◌, ◌^◌, ◌∙◌, ℕ, Bool, true, false, inl, inr, sym, ap, subst, refl, arith}
use Rattle.std.specs.Ordering.{nat_cmp, bool_cmp, ordering_then, ordering_reverse, is_eq, is_gt, is_lt}
use Rattle.std.specs.Cmp.{IsTotalOrder, nat_cmp_total, bool_cmp_total, tied_itself, ranked}
use Rattle.std.specs.declared.cmp.Ordering.{Ordering}
use Rattle.std.specs.declared.cmp.Ordering.TheVariants.{Less, Equal, Greater}
use Rattle.std.proofs.lemmas.Cmp.{then_total, on_total}
use Rattle.ordered.specs.Ordered.{IsLeastFrom, IsGreatestUpTo}
use Rattle.blk_capture.specs.Ranges.{writes}
use Rattle.blk_capture.specs.Rules.{IsOlderThan}
use Rattle.blk_capture.specs.Inside.LookupKeys.{lookup_cmp, seat_cmp, seat, is_seat, whole_key, ending_at, EndsFirst, Seats, IsOldestUnder, IsNewestUnder, IsEmptyAt, IsUnusedAt, IsShortestOver, IsEmptyOver}
use Rattle.blk_capture.specs.declared.lookup.LookupKey.{LookupKey}
use Rattle.blk_capture.specs.declared.lookup.Seat.{Seat}
use Rattle.blk_capture.specs.declared.record.Range.{Range}

keys_total : IsTotalOrder lookup_cmp
keys_total = then_total (on_total (λ s. s.sector) nat_cmp_total) (then_total (on_total (λ s. s.write) bool_cmp_total) (then_total (on_total (λ s. s.pid) nat_cmp_total) (on_total (λ s. s.end) nat_cmp_total)))

exact_bool : (a b : Bool) → bool_cmp a b ≡ Equal → a ≡ b
exact_bool true true h = refl
exact_bool false false h = refl
exact_bool true false h = cc
exact_bool false true h = cc

then_equal : (o p : Ordering) → ordering_then o p ≡ Equal → (o ≡ Equal) × (p ≡ Equal)
then_equal Less p h = absurd (cc)
then_equal Equal p h = (refl, h)
then_equal Greater p h = absurd (cc)

same_fields : (a b : LookupKey) → a.sector ≡ b.sector → a.write ≡ b.write → a.pid ≡ b.pid → a.end ≡ b.end → a ≡ b
same_fields a b e f g h =
    ap (λ (x : ℕ). (let s : LookupKey = record { sector = x; write = a.write; pid = a.pid; end = a.end } in s)) e
    ∙ ap (λ (x : Bool). (let s : LookupKey = record { sector = b.sector; write = x; pid = a.pid; end = a.end } in s)) f
    ∙ ap (λ (x : ℕ). (let s : LookupKey = record { sector = b.sector; write = b.write; pid = x; end = a.end } in s)) g
    ∙ ap (λ (x : ℕ). (let s : LookupKey = record { sector = b.sector; write = b.write; pid = b.pid; end = x } in s)) h

exact_keys : (a b : LookupKey) → lookup_cmp a b ≡ Equal → a ≡ b
exact_keys a b h =
    let s = then_equal (nat_cmp a.sector b.sector) (ordering_then (bool_cmp a.write b.write) (ordering_then (nat_cmp a.pid b.pid) (nat_cmp a.end b.end))) h in
    let w = then_equal (bool_cmp a.write b.write) (ordering_then (nat_cmp a.pid b.pid) (nat_cmp a.end b.end)) s.1 in
    let p = then_equal (nat_cmp a.pid b.pid) (nat_cmp a.end b.end) w.1 in
    same_fields a b (ranked a.sector b.sector Equal (sym s.0)) (exact_bool a.write b.write w.0) (ranked a.pid b.pid Equal (sym p.0)) (ranked a.end b.end Equal (sym p.1))

-- keys that compare alike are one
pub one_key : (s t : LookupKey) → is_eq (lookup_cmp s t) ≡ true → s ≡ t
one_key s t h = elim (lookup_cmp s t) as (λ o. lookup_cmp s t ≡ o → is_eq o ≡ true → s ≡ t) [
  | Less ↦ λ _ r. absurd (cc)
  | Equal ↦ λ e _. exact_keys s t e
  | Greater ↦ λ _ r. absurd (cc)
] refl h

-- two keys of which neither comes after the other compare alike
alike : (s t : LookupKey) → is_gt (lookup_cmp s t) ≡ false → is_gt (lookup_cmp t s) ≡ false → is_eq (lookup_cmp t s) ≡ true
alike s t up down = elim (lookup_cmp t s) as (λ o. lookup_cmp t s ≡ o → is_gt o ≡ false → is_eq o ≡ true) [
  | Less ↦ λ e _.
      let after : lookup_cmp s t ≡ Greater = keys_total.antisymm s t ∙ ap ordering_reverse e in
      absurd (let bad : true ≡ false = ap is_gt (sym after) ∙ up in cc)
  | Equal ↦ λ _ _. refl
  | Greater ↦ λ _ r. absurd (cc)
] refl down

turned : (s t : LookupKey) → is_lt (lookup_cmp t s) ≡ false → is_gt (lookup_cmp s t) ≡ false
turned s t h = elim (lookup_cmp t s) as (λ o. lookup_cmp t s ≡ o → is_lt o ≡ false → is_gt (lookup_cmp s t) ≡ false) [
  | Less ↦ λ _ r. absurd (cc)
  | Equal ↦ λ e _. ap is_gt (keys_total.antisymm s t ∙ ap ordering_reverse e)
  | Greater ↦ λ e _. ap is_gt (keys_total.antisymm s t ∙ ap ordering_reverse e)
] refl h

-- seats that compare alike are one
pub seats_total : IsTotalOrder seat_cmp
seats_total = then_total (on_total (λ s. s.key) keys_total) (then_total (on_total (λ s. s.age) nat_cmp_total) (on_total (λ s. s.place) nat_cmp_total))

same_parts : (s t : Seat) → s.key ≡ t.key → s.age ≡ t.age → s.place ≡ t.place → s ≡ t
same_parts s t e f g =
    ap (λ (x : LookupKey). (let q : Seat = record { key = x; age = s.age; place = s.place } in q)) e
    ∙ ap (λ (x : ℕ). (let q : Seat = record { key = t.key; age = x; place = s.place } in q)) f
    ∙ ap (λ (x : ℕ). (let q : Seat = record { key = t.key; age = t.age; place = x } in q)) g

exact_seats : (s t : Seat) → seat_cmp s t ≡ Equal → s ≡ t
exact_seats s t h =
    let k = then_equal (lookup_cmp s.key t.key) (ordering_then (nat_cmp s.age t.age) (nat_cmp s.place t.place)) h in
    let a = then_equal (nat_cmp s.age t.age) (nat_cmp s.place t.place) k.1 in
    same_parts s t (exact_keys s.key t.key k.0) (ranked s.age t.age Equal (sym a.0)) (ranked s.place t.place Equal (sym a.1))

pub one_seat : (s t : Seat) → is_seat s t ≡ true → s ≡ t
one_seat s t h = elim (seat_cmp s t) as (λ o. seat_cmp s t ≡ o → is_eq o ≡ true → s ≡ t) [
  | Less ↦ λ _ r. absurd (cc)
  | Equal ↦ λ e _. exact_seats s t e
  | Greater ↦ λ _ r. absurd (cc)
] refl h

pub seat_itself : (s : Seat) → is_seat s s ≡ true
seat_itself s = ap is_eq (tied_itself seats_total s)

-- a lexicographic order, and its parts
first_part : (o p : Ordering) → is_gt (ordering_then o p) ≡ false → is_gt o ≡ false
first_part Less p h = refl
first_part Equal p h = refl
first_part Greater p h = h

second_part : (o p : Ordering) → o ≡ Equal → is_gt (ordering_then o p) ≡ false → is_gt p ≡ false
second_part o p e h = ap (λ (x : Ordering). is_gt (ordering_then x p)) (sym e) ∙ h

first_not_less : (o p : Ordering) → is_lt (ordering_then o p) ≡ false → is_lt o ≡ false
first_not_less Less p h = h
first_not_less Equal p h = refl
first_not_less Greater p h = refl

no_later : (a k : ℕ) → a ≤ k → is_gt (nat_cmp a k) ≡ false
no_later a k h = elim (nat_cmp a k) as (λ o. nat_cmp a k ≡ o → is_gt o ≡ false) [
  | Less ↦ λ _. refl
  | Equal ↦ λ _. refl
  | Greater ↦ λ e. let m : k < a = ranked a k Greater (sym e) in absurd (omega arith)
] refl

later : (a k : ℕ) → is_gt (nat_cmp a k) ≡ false → a ≤ k
later a k h = elim (nat_cmp a k) as (λ o. nat_cmp a k ≡ o → is_gt o ≡ false → a ≤ k) [
  | Less ↦ λ e _. let m : a < k = ranked a k Less (sym e) in omega arith
  | Equal ↦ λ e _. let m : a ≡ k = ranked a k Equal (sym e) in omega arith
  | Greater ↦ λ e r. absurd (cc)
] refl h

not_less : (a k : ℕ) → is_lt (nat_cmp a k) ≡ false → k ≤ a
not_less a k h = elim (nat_cmp a k) as (λ o. nat_cmp a k ≡ o → is_lt o ≡ false → k ≤ a) [
  | Less ↦ λ e r. absurd (cc)
  | Equal ↦ λ e _. let m : a ≡ k = ranked a k Equal (sym e) in omega arith
  | Greater ↦ λ e _. let m : k < a = ranked a k Greater (sym e) in omega arith
] refl h

-- ages, and then places
comes_before : (a k b j : ℕ) → is_gt (ordering_then (nat_cmp a b) (nat_cmp k j)) ≡ false → IsOlderThan a k b j
comes_before a k b j h = elim (nat_cmp a b) as (λ o. nat_cmp a b ≡ o → is_gt (ordering_then o (nat_cmp k j)) ≡ false → IsOlderThan a k b j) [
  | Less ↦ λ e _. inl (ranked a b Less (sym e))
  | Equal ↦ λ e g. inr (ranked a b Equal (sym e), later k j g)
  | Greater ↦ λ e g. absurd (cc)
] refl h

comes_after : (a k b j : ℕ) → is_lt (ordering_then (nat_cmp a b) (nat_cmp k j)) ≡ false → IsOlderThan b j a k
comes_after a k b j h = elim (nat_cmp a b) as (λ o. nat_cmp a b ≡ o → is_lt (ordering_then o (nat_cmp k j)) ≡ false → IsOlderThan b j a k) [
  | Less ↦ λ e g. absurd (cc)
  | Equal ↦ λ e g. inr (sym (ranked a b Equal (sym e)), not_less k j g)
  | Greater ↦ λ e _. inl (ranked a b Greater (sym e))
] refl h

from_low : (a b : ℕ) (p : Ordering) → a ≤ b → is_gt p ≡ false → is_gt (ordering_then (nat_cmp a b) p) ≡ false
from_low a b p low h = elim (nat_cmp a b) as (λ o. nat_cmp a b ≡ o → is_gt (ordering_then o p) ≡ false) [
  | Less ↦ λ _. refl
  | Equal ↦ λ _. h
  | Greater ↦ λ e. let m : b < a = ranked a b Greater (sym e) in absurd (omega arith)
] refl

below : (a b : ℕ) (p : Ordering) → a < b → is_gt (ordering_then (nat_cmp a b) p) ≡ false
below a b p lt = elim (nat_cmp a b) as (λ o. nat_cmp a b ≡ o → is_gt (ordering_then o p) ≡ false) [
  | Less ↦ λ _. refl
  | Equal ↦ λ e. let m : a ≡ b = ranked a b Equal (sym e) in absurd (omega arith)
  | Greater ↦ λ e. let m : b < a = ranked a b Greater (sym e) in absurd (omega arith)
] refl

-- at one key the order of seats is that of ages and places
at_key : (s : LookupKey) (a k b j : ℕ) → seat_cmp (seat s a k) (seat s b j) ≡ ordering_then (nat_cmp a b) (nat_cmp k j)
at_key s a k b j = ap (λ o. ordering_then o (ordering_then (nat_cmp a b) (nat_cmp k j))) (tied_itself keys_total s)

from_first : (s : LookupKey) (a k : ℕ) → is_gt (seat_cmp (seat s 0 0) (seat s a k)) ≡ false
from_first s a k = ap is_gt (at_key s 0 0 a k) ∙ from_low 0 a (nat_cmp 0 k) (omega arith) (no_later 0 k (omega arith))

upto_last : (s : LookupKey) (a k m : ℕ) → a < 2 ^ 63 → is_gt (seat_cmp (seat s a k) (seat s (2 ^ 64 - 1) m)) ≡ false
upto_last s a k m lt = ap is_gt (at_key s a k (2 ^ 64 - 1) m) ∙ below a (2 ^ 64 - 1) (nat_cmp k m) (omega (arith, lt))

is_false : (b : Bool) → (b ≡ true → ⊥) → b ≡ false
is_false true h = absurd (h refl)
is_false false h = refl

oldest_is : (seats : Seats) (s : LookupKey) (age place : ℕ) → IsLeastFrom seat_cmp seats (seat s 0 0) (seat s age place) → IsOldestUnder seats s place
oldest_is seats s age place first = record {
  age = age;
  there = first.there;
  oldest = λ a k some. comes_before age place a k (ap is_gt (sym (at_key s age place a k)) ∙ first.least (seat s a k) (from_first s a k) some);
}

-- the first seat from the beginning of a key on is the oldest one there
pub oldest_at : (seats : Seats) (s : LookupKey) (f : Seat) → is_eq (lookup_cmp f.key s) ≡ true → IsLeastFrom seat_cmp seats (seat s 0 0) f → IsOldestUnder seats s f.place
oldest_at seats s f same first =
    let e : f.key ≡ s = one_key f.key s same in
    oldest_is seats s f.age f.place (subst (λ (u : LookupKey). IsLeastFrom seat_cmp seats (seat s 0 0) (seat u f.age f.place)) e first)

-- and where it is of another key, there is none
pub none_oldest : (seats : Seats) (s : LookupKey) (f : Seat) → is_eq (lookup_cmp f.key s) ≡ false → IsLeastFrom seat_cmp seats (seat s 0 0) f → IsEmptyAt seats s
none_oldest seats s f other first a k =
    is_false (seats (seat s a k)) (λ some.
    let up : is_gt (lookup_cmp s f.key) ≡ false = first_part (lookup_cmp s f.key) (ordering_then (nat_cmp 0 f.age) (nat_cmp 0 f.place)) first.high in
    let down : is_gt (lookup_cmp f.key s) ≡ false = first_part (lookup_cmp f.key s) (ordering_then (nat_cmp f.age a) (nat_cmp f.place k)) (first.least (seat s a k) (from_first s a k) some) in
    let bad : true ≡ false = sym (alike s f.key up down) ∙ other in
    cc)

pub none_at : (seats : Seats) (s : LookupKey) → ((q : Seat) → is_gt (seat_cmp (seat s 0 0) q) ≡ false → seats q ≡ false) → IsEmptyAt seats s
none_at seats s none a k = none (seat s a k) (from_first s a k)

newest_is : (seats : Seats) (s : LookupKey) (age place m : ℕ) → IsGreatestUpTo seat_cmp seats (seat s (2 ^ 64 - 1) m) (seat s age place) → IsNewestUnder seats s place
newest_is seats s age place m last = record {
  age = age;
  there = last.there;
  newest = λ a k in_range some. comes_after age place a k (ap is_lt (sym (at_key s age place a k)) ∙ last.greatest (seat s a k) (upto_last s a k m in_range) some);
}

-- the last seat up to the end of a key is the newest one there
pub newest_at : (seats : Seats) (s : LookupKey) (f : Seat) (m : ℕ) → is_eq (lookup_cmp f.key s) ≡ true → IsGreatestUpTo seat_cmp seats (seat s (2 ^ 64 - 1) m) f → IsNewestUnder seats s f.place
newest_at seats s f m same last =
    let e : f.key ≡ s = one_key f.key s same in
    newest_is seats s f.age f.place m (subst (λ (u : LookupKey). IsGreatestUpTo seat_cmp seats (seat s (2 ^ 64 - 1) m) (seat u f.age f.place)) e last)

pub none_newest : (seats : Seats) (s : LookupKey) (f : Seat) (m : ℕ) → is_eq (lookup_cmp f.key s) ≡ false → IsGreatestUpTo seat_cmp seats (seat s (2 ^ 64 - 1) m) f → IsUnusedAt seats s
none_newest seats s f m other last a k in_range =
    is_false (seats (seat s a k)) (λ some.
    let down : is_gt (lookup_cmp f.key s) ≡ false = first_part (lookup_cmp f.key s) (ordering_then (nat_cmp f.age (2 ^ 64 - 1)) (nat_cmp f.place m)) last.low in
    let up : is_gt (lookup_cmp s f.key) ≡ false = turned s f.key (first_not_less (lookup_cmp f.key s) (ordering_then (nat_cmp f.age a) (nat_cmp f.place k)) (last.greatest (seat s a k) (upto_last s a k m in_range) some)) in
    let bad : true ≡ false = sym (alike s f.key up down) ∙ other in
    cc)

pub none_upto : (seats : Seats) (s : LookupKey) (m : ℕ) → ((q : Seat) → is_gt (seat_cmp q (seat s (2 ^ 64 - 1) m)) ≡ false → seats q ≡ false) → IsUnusedAt seats s
none_upto seats s m none a k in_range = none (seat s a k) (upto_last s a k m in_range)

-- ranges that begin alike stand by their ends
ends_cmp : (r : Range) (a b : ℕ) → lookup_cmp (ending_at r a) (ending_at r b) ≡ nat_cmp a b
ends_cmp r a b =
    ap (λ o. ordering_then o (ordering_then (bool_cmp (writes r.dir) (writes r.dir)) (ordering_then (nat_cmp 0 0) (nat_cmp a b)))) (tied_itself nat_cmp_total r.first)
    ∙ ap (λ o. ordering_then o (ordering_then (nat_cmp 0 0) (nat_cmp a b))) (tied_itself bool_cmp_total (writes r.dir))

seat_ends : (r : Range) (a g k b h j : ℕ) → seat_cmp (seat (ending_at r a) g k) (seat (ending_at r b) h j) ≡ ordering_then (nat_cmp a b) (ordering_then (nat_cmp g h) (nat_cmp k j))
seat_ends r a g k b h j = ap (λ o. ordering_then o (ordering_then (nat_cmp g h) (nat_cmp k j))) (ends_cmp r a b)

abbrev over : Range → Seat
over r = seat (ending_at r (r.end + 1)) 0 0

from_over : (r : Range) (e a k : ℕ) → r.end < e → is_gt (seat_cmp (over r) (seat (ending_at r e) a k)) ≡ false
from_over r e a k lt = ap is_gt (seat_ends r (r.end + 1) 0 0 e a k) ∙ from_low (r.end + 1) e (ordering_then (nat_cmp 0 a) (nat_cmp 0 k)) (omega arith) (from_low 0 a (nat_cmp 0 k) (omega arith) (no_later 0 k (omega arith)))

comes_first : (end age place e a k : ℕ) → is_gt (ordering_then (nat_cmp end e) (ordering_then (nat_cmp age a) (nat_cmp place k))) ≡ false → EndsFirst end age place e a k
comes_first end age place e a k h = elim (nat_cmp end e) as (λ o. nat_cmp end e ≡ o → is_gt (ordering_then o (ordering_then (nat_cmp age a) (nat_cmp place k))) ≡ false → EndsFirst end age place e a k) [
  | Less ↦ λ q _. inl (ranked end e Less (sym q))
  | Equal ↦ λ q g. inr (ranked end e Equal (sym q), comes_before age place a k g)
  | Greater ↦ λ q g. absurd (cc)
] refl h

shortest_is : (seats : Seats) (r : Range) (end age place : ℕ) → IsLeastFrom seat_cmp seats (over r) (seat (ending_at r end) age place) → IsShortestOver seats r place
shortest_is seats r end age place first = record {
  end = end;
  age = age;
  there = first.there;
  longer = let low : r.end + 1 ≤ end = later (r.end + 1) end (first_part (nat_cmp (r.end + 1) end) (ordering_then (nat_cmp 0 age) (nat_cmp 0 place)) (ap is_gt (sym (seat_ends r (r.end + 1) 0 0 end age place)) ∙ first.high)) in omega arith;
  shortest = λ e a k lt some. comes_first end age place e a k (ap is_gt (sym (seat_ends r end age place e a k)) ∙ first.least (seat (ending_at r e) a k) (from_over r e a k lt) some);
}

-- the first seat after a range whose key begins alike is that of the shortest
pub shortest_at : (seats : Seats) (r : Range) (f : Seat) → is_eq (lookup_cmp f.key (ending_at r f.key.end)) ≡ true → IsLeastFrom seat_cmp seats (over r) f → IsShortestOver seats r f.place
shortest_at seats r f same first =
    let e : f.key ≡ ending_at r f.key.end = one_key f.key (ending_at r f.key.end) same in
    shortest_is seats r f.key.end f.age f.place (subst (λ (u : LookupKey). IsLeastFrom seat_cmp seats (over r) (seat u f.age f.place)) e first)

-- what stands between two keys that begin alike begins so too
both_ways : (a b : ℕ) → is_gt (nat_cmp a b) ≡ false → is_gt (nat_cmp b a) ≡ false → b ≡ a
both_ways a b h g = let up : a ≤ b = later a b h in let down : b ≤ a = later b a g in omega arith

both_bools : (a b : Bool) → is_gt (bool_cmp a b) ≡ false → is_gt (bool_cmp b a) ≡ false → b ≡ a
both_bools true true h g = refl
both_bools false false h g = refl
both_bools true false h g = absurd (cc)
both_bools false true h g = absurd (cc)

tied : (a b : ℕ) → a ≡ b → nat_cmp b a ≡ Equal
tied a b e = ap (λ n. nat_cmp b n) e ∙ tied_itself nat_cmp_total b

tied_bools : (a b : Bool) → a ≡ b → bool_cmp b a ≡ Equal
tied_bools a b e = ap (λ n. bool_cmp b n) e ∙ tied_itself bool_cmp_total b

begins_alike : (r : Range) (k : LookupKey) (a b : ℕ) → is_gt (lookup_cmp (ending_at r a) k) ≡ false → is_gt (lookup_cmp k (ending_at r b)) ≡ false → k ≡ ending_at r k.end
begins_alike r k a b up down =
    let w : Bool = writes r.dir in
    let f : k.sector ≡ r.first = both_ways r.first k.sector (first_part (nat_cmp r.first k.sector) _ up) (first_part (nat_cmp k.sector r.first) _ down) in
    let up1 : is_gt (ordering_then (bool_cmp w k.write) (ordering_then (nat_cmp 0 k.pid) (nat_cmp a k.end))) ≡ false = second_part (nat_cmp r.first k.sector) _ (tied k.sector r.first f) up in
    let down1 : is_gt (ordering_then (bool_cmp k.write w) (ordering_then (nat_cmp k.pid 0) (nat_cmp k.end b))) ≡ false = second_part (nat_cmp k.sector r.first) _ (tied r.first k.sector (sym f)) down in
    let g : k.write ≡ w = both_bools w k.write (first_part (bool_cmp w k.write) _ up1) (first_part (bool_cmp k.write w) _ down1) in
    let up2 : is_gt (ordering_then (nat_cmp 0 k.pid) (nat_cmp a k.end)) ≡ false = second_part (bool_cmp w k.write) _ (tied_bools k.write w g) up1 in
    let down2 : is_gt (ordering_then (nat_cmp k.pid 0) (nat_cmp k.end b)) ≡ false = second_part (bool_cmp k.write w) _ (tied_bools w k.write (sym g)) down1 in
    let h : k.pid ≡ 0 = both_ways 0 k.pid (first_part (nat_cmp 0 k.pid) _ up2) (first_part (nat_cmp k.pid 0) _ down2) in
    same_fields k (ending_at r k.end) f g h refl

pub none_over : (seats : Seats) (r : Range) (f : Seat) → is_eq (lookup_cmp f.key (ending_at r f.key.end)) ≡ false → IsLeastFrom seat_cmp seats (over r) f → IsEmptyOver seats r
none_over seats r f other first e a k lt =
    is_false (seats (seat (ending_at r e) a k)) (λ some.
    let up : is_gt (lookup_cmp (ending_at r (r.end + 1)) f.key) ≡ false = first_part (lookup_cmp (ending_at r (r.end + 1)) f.key) _ first.high in
    let down : is_gt (lookup_cmp f.key (ending_at r e)) ≡ false = first_part (lookup_cmp f.key (ending_at r e)) _ (first.least (seat (ending_at r e) a k) (from_over r e a k lt) some) in
    let alike : f.key ≡ ending_at r f.key.end = begins_alike r f.key (r.end + 1) e up down in
    let same : is_eq (lookup_cmp f.key (ending_at r f.key.end)) ≡ true = subst (λ (u : LookupKey). is_eq (lookup_cmp f.key u) ≡ true) alike (ap is_eq (tied_itself keys_total f.key)) in
    let bad : true ≡ false = sym same ∙ other in
    cc)

pub none_from_over : (seats : Seats) (r : Range) → ((q : Seat) → is_gt (seat_cmp (over r) q) ≡ false → seats q ≡ false) → IsEmptyOver seats r
none_from_over seats r none e a k lt = none (seat (ending_at r e) a k) (from_over r e a k lt)

-- the same where the key is known to be that of the whole range
pub shortest_by : (seats : Seats) (r : Range) (key : LookupKey) (f : Seat) → key ≡ whole_key r → is_eq (lookup_cmp f.key (record key { end = f.key.end })) ≡ true → IsLeastFrom seat_cmp seats (seat (record key { end = r.end + 1 }) 0 0) f → IsShortestOver seats r f.place
shortest_by seats r key f e same first =
    shortest_at seats r f (subst (λ (k : LookupKey). is_eq (lookup_cmp f.key (record k { end = f.key.end })) ≡ true) e same)
    (subst (λ (k : LookupKey). IsLeastFrom seat_cmp seats (seat (record k { end = r.end + 1 }) 0 0) f) e first)

pub none_by : (seats : Seats) (r : Range) (key : LookupKey) (f : Seat) → key ≡ whole_key r → is_eq (lookup_cmp f.key (record key { end = f.key.end })) ≡ false → IsLeastFrom seat_cmp seats (seat (record key { end = r.end + 1 }) 0 0) f → IsEmptyOver seats r
none_by seats r key f e other first =
    none_over seats r f (subst (λ (k : LookupKey). is_eq (lookup_cmp f.key (record k { end = f.key.end })) ≡ false) e other)
    (subst (λ (k : LookupKey). IsLeastFrom seat_cmp seats (seat (record k { end = r.end + 1 }) 0 0) f) e first)
