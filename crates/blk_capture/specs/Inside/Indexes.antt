-- Indexes hold just what stands in the lists.
use Rattle.std.specs.Prelude.{ℕ, ◌==◌, ◌&&◌, Bool, List, Option, Some, None, if◌then◌else◌, slice_get}
use Rattle.std.specs.Ordering.{is_eq}
use Rattle.std.specs.Option.{option_and_then}
use Rattle.ordered.specs.Ordered.{IsIndexOf}
use Rattle.blk_bio.specs.declared.request.Side.{Side}
use Rattle.blk_bio.specs.declared.request.Side.TheVariants.{Back, Front}
use Rattle.blk_capture.specs.Rules.{is_opened, is_inserted, is_in_flight}
use Rattle.blk_capture.specs.Inside.LookupKeys.{Seats, has, seat, seat_cmp, lookup_cmp, whole_key, edge_key, PutsIf, TakesIf}
use Rattle.blk_capture.specs.declared.index.MergeIndex.{MergeIndex}
use Rattle.blk_capture.specs.declared.index.RequestIndex.{RequestIndex}
use Rattle.blk_capture.specs.declared.lookup.LookupKey.{LookupKey}
use Rattle.blk_capture.specs.declared.lookup.Seat.{Seat}
use Rattle.blk_capture.specs.declared.opened.Opened.{Opened}
use Rattle.blk_capture.specs.declared.record.Range.{Range}

-- where a request begins or ends that the newcomer abuts at this side
abbrev pub abutting_key : Range → Side → ℕ → LookupKey
abutting_key newcomer Back pid = edge_key newcomer newcomer.first pid
abutting_key newcomer Front pid = edge_key newcomer newcomer.end pid

-- the index that a merge at this side looks in: of requests by their ends, or by their first sectors
abbrev pub facing : {A : Type 0} → Side → MergeIndex A → Seats
facing Back e = has e.ends
facing Front e = has e.firsts

-- the parts of the index of requests
pub data IndexPart : Type 0 where
  OpenedWhole : IndexPart
  OpenedFirst : IndexPart
  OpenedEnd : IndexPart
  OpenedStart : IndexPart
  InsertedWhole : IndexPart
  InsertedFirst : IndexPart
  InsertedEnd : IndexPart
  AtDevice : IndexPart

abbrev pub part_of : {A : Type 0} → IndexPart → RequestIndex A → Seats
part_of OpenedWhole e = has e.opened.wholes
part_of OpenedFirst e = has e.opened.firsts
part_of OpenedEnd e = has e.opened.ends
part_of OpenedStart e = has e.starts
part_of InsertedWhole e = has e.inserted.wholes
part_of InsertedFirst e = has e.inserted.firsts
part_of InsertedEnd e = has e.inserted.ends
part_of AtDevice e = has e.in_flight

-- whether a request stands in a part, and its key there
abbrev pub stands_in : IndexPart → Opened → Bool
stands_in OpenedWhole q = is_opened q.stage
stands_in OpenedFirst q = is_opened q.stage
stands_in OpenedEnd q = is_opened q.stage
stands_in OpenedStart q = is_opened q.stage
stands_in InsertedWhole q = is_inserted q.stage
stands_in InsertedFirst q = is_inserted q.stage
stands_in InsertedEnd q = is_inserted q.stage
stands_in AtDevice q = is_in_flight q.stage

abbrev pub part_key : IndexPart → Opened → LookupKey
part_key OpenedWhole q = whole_key q.left
part_key OpenedFirst q = edge_key q.left q.left.first q.pid
part_key OpenedEnd q = edge_key q.left q.left.end q.pid
part_key OpenedStart q = edge_key q.left q.left.first 0
part_key InsertedWhole q = whole_key q.left
part_key InsertedFirst q = edge_key q.left q.left.first 0
part_key InsertedEnd q = edge_key q.left q.left.end 0
part_key AtDevice q = whole_key q.left

-- the request of a number is put into each part where it stands, or taken out of it
abbrev pub Lists : {A : Type 0} → ℕ → Opened → RequestIndex A → RequestIndex A → Type 0
Lists k q old new = (part : IndexPart) → PutsIf (stands_in part q) (seat (part_key part q) q.age k) (part_of part old) (part_of part new)

abbrev pub Unlists : {A : Type 0} → ℕ → Opened → RequestIndex A → RequestIndex A → Type 0
Unlists k q old new = (part : IndexPart) → TakesIf (stands_in part q) (seat (part_key part q) q.age k) (part_of part old) (part_of part new)

-- both were opened and not inserted, and have one age and one key by their first sectors
abbrev pub first_key : Opened → LookupKey
first_key q = edge_key q.left q.left.first q.pid

abbrev pub keep_first : Opened → Opened → Bool
keep_first p q = ((is_opened p.stage && is_opened q.stage) && (p.age == q.age)) && is_eq (lookup_cmp (first_key p) (first_key q))

-- the seat at a place of a list of what stands there, if it does
abbrev pub seat_of : {X : Type 0} → (X → Bool) → (X → LookupKey) → (X → ℕ) → ℕ → X → Option Seat
seat_of stands key age place x = if stands x then Some (seat (key x) (age x) place) else None

abbrev pub seat_at : {X : Type 0} → (X → Bool) → (X → LookupKey) → (X → ℕ) → List X → ℕ → Option Seat
seat_at stands key age xs place = option_and_then (seat_of stands key age place) (slice_get xs place)

-- an index has the seats of a list, and no others
abbrev pub AreSeated : {X : Type 0} → (X → Bool) → (X → LookupKey) → (X → ℕ) → List X → Seats → Type 0
AreSeated stands key age xs = IsIndexOf seat_cmp (λ s. s.place) (seat_at stands key age xs)

-- each part of the index of requests has just those that stand there
abbrev pub AreIndexed : {A : Type 0} → List Opened → RequestIndex A → Type 0
AreIndexed requests e = (part : IndexPart) → AreSeated (stands_in part) (part_key part) (λ q. q.age) requests (part_of part e)
