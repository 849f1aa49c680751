-- What waits, by where it stands and how old it is.
use Rattle.std.specs.Prelude.{ℕ, ◌≡◌, ◌<◌, ◌^◌, ◌⊎◌, Bool, true, false, cond}
use Rattle.ordered.specs.Ordered.{listed}
use Rattle.std.specs.Ordering.{nat_cmp, bool_cmp, is_eq, ordering_then}
use Rattle.std.specs.declared.cmp.Ordering.{Ordering}
use Rattle.blk_capture.specs.Ranges.{writes}
use Rattle.blk_capture.specs.Rules.{IsOlderThan}
use Rattle.blk_capture.specs.declared.lookup.KeyIndex.{KeyIndex}
use Rattle.blk_capture.specs.declared.lookup.LookupKey.{LookupKey}
use Rattle.blk_capture.specs.declared.lookup.Seat.{Seat}
use Rattle.blk_capture.specs.declared.record.Range.{Range}

-- the order of keys: the field that tells most apart comes first
abbrev pub lookup_cmp : LookupKey → LookupKey → Ordering
lookup_cmp x y = ordering_then (nat_cmp x.sector y.sector) (ordering_then (bool_cmp x.write y.write) (ordering_then (nat_cmp x.pid y.pid) (nat_cmp x.end y.end)))

-- of one key the older one comes first, and of equally old ones the one that stands first
abbrev pub seat_cmp : Seat → Seat → Ordering
seat_cmp x y = ordering_then (lookup_cmp x.key y.key) (ordering_then (nat_cmp x.age y.age) (nat_cmp x.place y.place))

abbrev pub seat : LookupKey → ℕ → ℕ → Seat
seat key age place = record { key = key; age = age; place = place }

-- a range as a whole, and by a sector at which it meets a newcomer
abbrev pub whole_key : Range → LookupKey
whole_key r = record { sector = r.first; write = writes r.dir; pid = 0; end = r.end }

abbrev pub edge_key : Range → ℕ → ℕ → LookupKey
edge_key r sector pid = record { sector = sector; write = writes r.dir; pid = pid; end = 0 }

-- what an index has
abbrev pub Seats : Type 0
Seats = Seat → Bool

abbrev pub has : {A : Type 0} → KeyIndex A → Seats
has e q = listed seat_cmp e.seats q

-- whether two are one
abbrev pub is_seat : Seat → Seat → Bool
is_seat s q = is_eq (seat_cmp s q)

-- one is put in, or taken out, if b says so
abbrev pub PutsIf : Bool → Seat → Seats → Seats → Type 0
PutsIf b s old new = (q : Seat) → new q ≡ cond b (cond (is_seat s q) true (old q)) (old q)

abbrev pub TakesIf : Bool → Seat → Seats → Seats → Type 0
TakesIf b s old new = (q : Seat) → new q ≡ cond b (cond (is_seat s q) false (old q)) (old q)

-- one is taken out, and put in elsewhere
abbrev pub MovesTo : Seat → Seat → Seats → Seats → Type 0
MovesTo s t old new = (q : Seat) → new q ≡ cond (is_seat t q) true (cond (is_seat s q) false (old q))

-- the oldest under a key stands at this place; the newest does
pub record IsOldestUnder (seats : Seats) (key : LookupKey) (place : ℕ) : Type 0 where
  pub age : ℕ
  pub there : seats (seat key age place) ≡ true
  pub oldest : (a k : ℕ) → seats (seat key a k) ≡ true → IsOlderThan age place a k

pub record IsNewestUnder (seats : Seats) (key : LookupKey) (place : ℕ) : Type 0 where
  pub age : ℕ
  pub there : seats (seat key age place) ≡ true
  pub newest : (a k : ℕ) → a < 2 ^ 63 → seats (seat key a k) ≡ true → IsOlderThan a k age place

-- nothing stands there, or nothing whose age is the number of a record
abbrev pub IsEmptyAt : Seats → LookupKey → Type 0
IsEmptyAt seats key = (a k : ℕ) → seats (seat key a k) ≡ false

abbrev pub IsUnusedAt : Seats → LookupKey → Type 0
IsUnusedAt seats key = (a k : ℕ) → a < 2 ^ 63 → seats (seat key a k) ≡ false

-- what begins as a range does and ends after it: of these the one that ends first, and of such the oldest, stands at this place
abbrev pub ending_at : Range → ℕ → LookupKey
ending_at r end = record (whole_key r) { end = end }

abbrev pub EndsFirst : ℕ → ℕ → ℕ → ℕ → ℕ → ℕ → Type 0
EndsFirst end age place e a k = (end < e) ⊎ ((end ≡ e) × IsOlderThan age place a k)

pub record IsShortestOver (seats : Seats) (r : Range) (place : ℕ) : Type 0 where
  pub end : ℕ
  pub age : ℕ
  pub there : seats (seat (ending_at r end) age place) ≡ true
  pub longer : r.end < end
  pub shortest : (e a k : ℕ) → r.end < e → seats (seat (ending_at r e) a k) ≡ true → EndsFirst end age place e a k

abbrev pub IsEmptyOver : Seats → Range → Type 0
IsEmptyOver seats r = (e a k : ℕ) → r.end < e → seats (seat (ending_at r e) a k) ≡ false
