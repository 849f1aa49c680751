-- What is known of bios and requests after some records: a rule for each letter, over plain lists.
use Rattle.std.specs.Prelude.{ℕ, ◌≡◌, ◌<◌, ◌≤◌, ◌==◌, nat_lt, ◌⊎◌, Bool, true, false, List, [], ◌∷◌, ◌++◌, length, Option, None, Some, is_some, cond, slice_get, slice_set, zero, suc}
use Rattle.blk_bio.specs.declared.request.Side.{Side}
use Rattle.blk_bio.specs.declared.request.Side.TheVariants.{Back, Front}
use Rattle.blk_capture.specs.Passing.{passed_over}
use Rattle.blk_capture.specs.Ranges.{range_of, grown, IsLonger, IsBeside}
use Rattle.blk_capture.specs.Requests.{entry_by, earlier_of, deadline_of}
use Rattle.blk_capture.specs.declared.clock.Dispatch.{Dispatch}
use Rattle.blk_capture.specs.declared.matching.Role.{Role}
use Rattle.blk_capture.specs.declared.matching.Role.TheVariants as role
use Rattle.blk_capture.specs.declared.members.BioStage.{BioStage}
use Rattle.blk_capture.specs.declared.members.BioStage.TheVariants as bio
use Rattle.blk_capture.specs.declared.members.QueuedBio.{QueuedBio}
use Rattle.blk_capture.specs.declared.opened.Absorption.{Absorption}
use Rattle.blk_capture.specs.declared.opened.Opened.{Opened}
use Rattle.blk_capture.specs.declared.opened.Stage.{Stage}
use Rattle.blk_capture.specs.declared.opened.Stage.TheVariants as stage
use Rattle.blk_capture.specs.declared.record.Action.{Action}
use Rattle.blk_capture.specs.declared.record.Action.TheVariants as action
use Rattle.blk_capture.specs.declared.record.PassReason.{PassReason}
use Rattle.blk_capture.specs.declared.record.Range.{Range}
use Rattle.blk_capture.specs.declared.record.Record.{Record}
use Rattle.blk_capture.specs.declared.requests.Options.{Options}

-- the bios in the order in which they were queued or cut off, the requests in that in which they were opened, for each the bio that it was
-- opened for, the dispatches, and the requests that were merged into others, in the order of the records
pub record Known : Type 0 where
  pub bios : List QueuedBio
  pub openers : List ℕ
  pub requests : List Opened
  pub dispatches : List Dispatch
  pub absorptions : List Absorption

abbrev pub nothing_known : Known
nothing_known = record { bios = []; openers = []; requests = []; dispatches = []; absorptions = [] }

-- where a bio is, and where a request is
abbrev pub is_waiting : BioStage → Bool
is_waiting bio.Waiting = true
is_waiting _ = false

abbrev pub is_opened : Stage → Bool
is_opened stage.Opened = true
is_opened _ = false

abbrev pub is_inserted : Stage → Bool
is_inserted stage.Inserted = true
is_inserted _ = false

abbrev pub is_in_flight : Stage → Bool
is_in_flight (stage.InFlight n) = true
is_in_flight _ = false

-- whether the dispatch of a number is its last one
abbrev pub goes_out_by : ℕ → Stage → Bool
goes_out_by n (stage.InFlight last) = last == n
goes_out_by n (stage.Completed last) = last == n
goes_out_by n _ = false

-- what is found: one of a list with its place, or nothing
abbrev pub Found : Type 0 → Type 0
Found X = Option (ℕ × X)

-- older than another, or as old and before it
abbrev pub IsOlderThan : ℕ → ℕ → ℕ → ℕ → Type 0
IsOlderThan a k b j = (a < b) ⊎ ((a ≡ b) × (k ≤ j))

-- of those for which P holds x at place k is the oldest; the newest; the one that ends first, of several the oldest
pub record IsOldestAmong {X : Type 0} (age : X → ℕ) (P : X → Type 0) (xs : List X) (k : ℕ) (x : X) : Type 0 where
  pub there : slice_get xs k ≡ Some x
  pub fits : P x
  pub oldest : (j : ℕ) (y : X) → slice_get xs j ≡ Some y → P y → IsOlderThan (age x) k (age y) j

pub record IsNewestAmong {X : Type 0} (age : X → ℕ) (P : X → Type 0) (xs : List X) (k : ℕ) (x : X) : Type 0 where
  pub there : slice_get xs k ≡ Some x
  pub fits : P x
  pub newest : (j : ℕ) (y : X) → slice_get xs j ≡ Some y → P y → IsOlderThan (age y) j (age x) k

pub record IsShortestAmong {X : Type 0} (end age : X → ℕ) (P : X → Type 0) (xs : List X) (k : ℕ) (x : X) : Type 0 where
  pub there : slice_get xs k ≡ Some x
  pub fits : P x
  pub shortest : (j : ℕ) (y : X) → slice_get xs j ≡ Some y → P y → (end x < end y) ⊎ ((end x ≡ end y) × IsOlderThan (age x) k (age y) j)

abbrev pub HoldsForNone : {X : Type 0} → (X → Type 0) → List X → Type 0
HoldsForNone {X} P xs = (j : ℕ) (y : X) → slice_get xs j ≡ Some y → P y → ⊥

-- what is found is that one, and nothing where P holds for none
abbrev pub FindsOldest : {X : Type 0} → (X → ℕ) → (X → Type 0) → List X → Found X → Type 0
FindsOldest age P xs None = HoldsForNone P xs
FindsOldest age P xs (Some p) = IsOldestAmong age P xs p.0 p.1

abbrev pub FindsNewest : {X : Type 0} → (X → ℕ) → (X → Type 0) → List X → Found X → Type 0
FindsNewest age P xs None = HoldsForNone P xs
FindsNewest age P xs (Some p) = IsNewestAmong age P xs p.0 p.1

abbrev pub FindsShortest : {X : Type 0} → (X → ℕ) → (X → ℕ) → (X → Type 0) → List X → Found X → Type 0
FindsShortest end age P xs None = HoldsForNone P xs
FindsShortest end age P xs (Some p) = IsShortestAmong end age P xs p.0 p.1

-- what the first search finds, or else the second
abbrev pub OrElse : {X : Type 0} → (List X → Found X → Type 0) → (List X → Found X → Type 0) → List X → Found X → Type 0
OrElse C D xs None = C xs None × D xs None
OrElse C D xs (Some p) = C xs (Some p) ⊎ (C xs None × D xs (Some p))

-- the oldest waiting bio of a range; the shortest that begins with it and is longer
abbrev pub FindsWaitingBio : Range → List QueuedBio → Found QueuedBio → Type 0
FindsWaitingBio s = FindsOldest (λ b. b.age) (λ b. (is_waiting b.stage ≡ true) × (b.range ≡ s))

abbrev pub FindsLongerBio : Range → List QueuedBio → Found QueuedBio → Type 0
FindsLongerBio s = FindsShortest (λ b. b.range.end) (λ b. b.age) (λ b. (is_waiting b.stage ≡ true) × IsLonger s b.range)

-- of the requests that are there the oldest one of which this range is the rest
abbrev pub FindsOldestOf : (Stage → Bool) → Range → List Opened → Found Opened → Type 0
FindsOldestOf there s = FindsOldest (λ q. q.age) (λ q. (there q.stage ≡ true) × (q.left ≡ s))

-- the inserted one, else the opened one
abbrev pub FindsWaiting : Range → List Opened → Found Opened → Type 0
FindsWaiting s = OrElse (FindsOldestOf is_inserted s) (FindsOldestOf is_opened s)

-- the opened one of this range, else of its direction and first sector
pub record BeginsWith (s r : Range) : Type 0 where
  pub way : r.dir ≡ s.dir
  pub begins : r.first ≡ s.first

abbrev pub FindsOpenedFrom : Range → List Opened → Found Opened → Type 0
FindsOpenedFrom s = FindsOldest (λ q. q.age) (λ q. (is_opened q.stage ≡ true) × BeginsWith s q.left)

abbrev pub FindsEntering : Range → List Opened → Found Opened → Type 0
FindsEntering s = OrElse (FindsOldestOf is_opened s) (FindsOpenedFrom s)

-- the one at the device of this range, else the shortest whose rest begins with it and is longer
abbrev pub FindsLonger : Range → List Opened → Found Opened → Type 0
FindsLonger s = FindsShortest (λ q. q.left.end) (λ q. q.age) (λ q. (is_in_flight q.stage ≡ true) × IsLonger s q.left)

abbrev pub FindsEnding : Range → List Opened → Found Opened → Type 0
FindsEnding s = OrElse (FindsOldestOf is_in_flight s) (FindsLonger s)

-- of those that the range abuts: the newest that the process opened and that is not inserted, else the oldest inserted one
abbrev pub IsOwnBeside : Side → ℕ → Range → Opened → Type 0
IsOwnBeside side pid s q = (is_opened q.stage ≡ true) × (q.pid ≡ pid) × IsBeside side s q.left

abbrev pub IsInsertedBeside : Side → Range → Opened → Type 0
IsInsertedBeside side s q = (is_inserted q.stage ≡ true) × IsBeside side s q.left

abbrev pub FindsOwnBeside : Side → ℕ → Range → List Opened → Found Opened → Type 0
FindsOwnBeside side pid s = FindsNewest (λ q. q.age) (IsOwnBeside side pid s)

abbrev pub FindsInsertedBeside : Side → Range → List Opened → Found Opened → Type 0
FindsInsertedBeside side s = FindsOldest (λ q. q.age) (IsInsertedBeside side s)

abbrev pub FindsAbutting : Side → ℕ → Range → List Opened → Found Opened → Type 0
FindsAbutting side pid s = OrElse (FindsOwnBeside side pid s) (FindsInsertedBeside side s)

-- what is known then, and what the record is of
abbrev pub Outcome : Type 0
Outcome = Known × Role

abbrev pub put_bio : ℕ → QueuedBio → Known → Known
put_bio k b m = record m { bios = slice_set m.bios k b }

abbrev pub put_request : ℕ → Opened → Known → Known
put_request k q m = record m { requests = slice_set m.requests k q }

-- the rule of a letter that looks for a bio or a request
pub record IsBy {X : Type 0} (Finds : Found X → Type 0) (rule : Found X → Outcome) (told : Outcome) : Type 0 where
  pub found : Found X
  pub finds : Finds found
  pub is : told ≡ rule found

-- Q: a bio is queued
abbrev pub queued_bio : ℕ → ℕ → Range → ℕ → QueuedBio
queued_bio n pid s time = record { range = s; pid = pid; time = time; age = n; stage = bio.Waiting }

abbrev pub queued : ℕ → ℕ → Range → ℕ → Known → Outcome
queued n pid s time m = (record m { bios = m.bios ++ queued_bio n pid s time ∷ [] }, role.Bio (length m.bios))

-- X: a bio is cut where the range ends
abbrev pub rest_of : Range → QueuedBio → QueuedBio
rest_of s b = record b { range = record b.range { first = s.end } }

abbrev pub cut : Range → Known → Found QueuedBio → Outcome
cut s m None = (m, role.Unmatched)
cut s m (Some p) = (record m { bios = slice_set m.bios p.0 (record p.1 { range = s }) ++ rest_of s p.1 ∷ [] }, role.Bio (length m.bios))

-- G: a request is opened for a bio, by the process and on the processor of the record
abbrev pub opened_for : ℕ → ℕ → ℕ → Range → ℕ → QueuedBio → Opened
opened_for n pid cpu s time b = record { range = s; pid = pid; cpu = cpu; queued = b.time; got = time; inserted = None; merged = None; earlier = None; completed = None; stage = stage.Opened; left = s; age = n }

abbrev pub got : ℕ → ℕ → ℕ → Range → ℕ → Known → Found QueuedBio → Outcome
got n pid cpu s time m None = (m, role.Unmatched)
got n pid cpu s time m (Some p) = (
  record m {
    bios = slice_set m.bios p.0 (record p.1 { stage = bio.Into (length m.requests) });
    openers = m.openers ++ p.0 ∷ [];
    requests = m.requests ++ opened_for n pid cpu s time p.1 ∷ [];
  },
  role.Request (length m.requests),
)

-- a request comes somewhere
abbrev pub comes : (Opened → Opened) → Known → Found Opened → Outcome
comes to m None = (m, role.Unmatched)
comes to m (Some p) = (put_request p.0 (to p.1) m, role.Request p.0)

-- I: it is inserted
abbrev pub inserted_at : ℕ → ℕ → Opened → Opened
inserted_at n time q = record q { stage = stage.Inserted; inserted = Some time; age = n }

-- D: it goes out
abbrev pub sent_at : ℕ → ℕ → Dispatch
sent_at k time = record { request = k; time = time }

abbrev pub issued : ℕ → Known → Found Opened → Outcome
issued time m None = (m, role.Unmatched)
issued time m (Some p) = (
  record m {
    requests = slice_set m.requests p.0 (record p.1 { stage = stage.InFlight (length m.dispatches) });
    dispatches = m.dispatches ++ sent_at p.0 time ∷ [];
  },
  role.Request p.0,
)

-- C: it is completed, or its first part is
abbrev pub done : Stage → Stage
done (stage.InFlight n) = stage.Completed n
done w = w

abbrev pub completed : Range → ℕ → Opened → Opened
completed s time q =
    cond (nat_lt s.end q.left.end) (record q { left = record q.left { first = s.end } }) (record q { stage = done q.stage; completed = Some time })

-- R: it is requeued to where it waited before
abbrev pub requeued : Opened → Opened
requeued q = record q { stage = cond (is_some q.inserted) stage.Inserted stage.Opened }

-- M and F: a request grows by a range that abuts it
abbrev pub grows : Side → Range → ℕ → Opened → Opened
grows side s time q = record q { range = grown side s q.range; left = grown side s q.left; merged = Some time }

-- when it is due, as far as it is known; and one that takes another in takes the sooner deadline
abbrev pub due_so_far : Options → Opened → ℕ
due_so_far o q = deadline_of o q.range.dir (entry_by o.entry q.queued q.inserted) q.earlier

abbrev pub takes_in : Options → Opened → Opened → Opened
takes_in o p q = record q { earlier = Some (earlier_of q.earlier (due_so_far o p)) }

abbrev pub merged : Side → Range → ℕ → Known → ℕ × QueuedBio → Found Opened → Outcome
merged side s time m b None = (put_bio b.0 (record b.1 { stage = bio.Unknown }) m, role.Unmatched)
merged side s time m b (Some p) =
    (put_request p.0 (grows side s time p.1) (put_bio b.0 (record b.1 { stage = bio.Into p.0 }) m), role.Request p.0)

abbrev pub absorbed : Options → Range → ℕ → Known → ℕ × Opened → Found Opened → Outcome
absorbed o s time m p None = (m, role.Unmatched)
absorbed o s time m p (Some w) = (
  record m {
    requests = slice_set (slice_set m.requests w.0 (record w.1 { stage = stage.Absorbed })) p.0 (grows Back s time (takes_in o w.1 p.1));
    absorptions = m.absorptions ++ record { request = w.0; into = p.0 } ∷ [];
  },
  role.Request p.0,
)

-- where no bio of the range waits, a request of it goes into the one that it abuts at the back
abbrev pub IsAbsorbed : Options → Side → Range → ℕ → Known → Found Opened → Outcome → Type 0
IsAbsorbed o side s time m None told = told ≡ (m, role.Unmatched)
IsAbsorbed o Back s time m (Some p) told = IsBy (FindsWaiting s m.requests) (absorbed o s time m p) told
IsAbsorbed o Front s time m (Some p) told = told ≡ (m, role.Unmatched)

abbrev pub IsMergedBy : Options → Side → Range → ℕ → Known → Found QueuedBio → Found Opened → Outcome → Type 0
IsMergedBy o side s time m None p told = IsAbsorbed o side s time m p told
IsMergedBy o side s time m (Some b) p told = told ≡ merged side s time m b p

pub record IsMerged (o : Options) (side : Side) (pid : ℕ) (s : Range) (time : ℕ) (m : Known) (told : Outcome) : Type 0 where
  pub waiting : Found QueuedBio
  pub waits : FindsWaitingBio s m.bios waiting
  pub abutting : Found Opened
  pub abuts : FindsAbutting side pid s m.requests abutting
  pub is : IsMergedBy o side s time m waiting abutting told

-- the rule of each letter, for the record of a number
abbrev pub IsByLetter : Action → Options → ℕ → Record → Known → Outcome → Type 0
IsByLetter action.Queue o n r m told = told ≡ queued n r.pid (range_of r) r.time m
IsByLetter action.Split o n r m told = IsBy (FindsLongerBio (range_of r) m.bios) (cut (range_of r) m) told
IsByLetter action.Get o n r m told = IsBy (FindsWaitingBio (range_of r) m.bios) (got n r.pid r.cpu (range_of r) r.time m) told
IsByLetter action.BackMerge o n r m told = IsMerged o Back r.pid (range_of r) r.time m told
IsByLetter action.FrontMerge o n r m told = IsMerged o Front r.pid (range_of r) r.time m told
IsByLetter action.Insert o n r m told = IsBy (FindsEntering (range_of r) m.requests) (comes (inserted_at n r.time) m) told
IsByLetter action.Issue o n r m told = IsBy (FindsWaiting (range_of r) m.requests) (issued r.time m) told
IsByLetter action.Complete o n r m told = IsBy (FindsEnding (range_of r) m.requests) (comes (completed (range_of r) r.time) m) told
IsByLetter action.Requeue o n r m told = IsBy (FindsOldestOf is_in_flight (range_of r) m.requests) (comes requeued m) told
IsByLetter action.Plug o n r m told = told ≡ (m, role.Unmatched)
IsByLetter action.Unplug o n r m told = told ≡ (m, role.Unmatched)
IsByLetter action.Other o n r m told = told ≡ (m, role.Unmatched)

-- a record that has a reason is passed over, before any rule is asked
abbrev pub IsToldUnless : Option PassReason → Options → ℕ → Record → Known → Outcome → Type 0
IsToldUnless (Some kind) o n r m told = told ≡ (m, role.PassedOver kind)
IsToldUnless None o n r m told = IsByLetter r.action o n r m told

abbrev pub IsTold : Options → ℕ → Record → Known → Outcome → Type 0
IsTold o n r m told = IsToldUnless (passed_over r) o n r m told

-- the records before place n, what each is of, and what is known then
pub record IsToldAt (o : Options) (records : List Record) (roles : List Role) (n : ℕ) (before m : Known) : Type 0 where
  pub read : Record
  pub role : Role
  pub there : slice_get records n ≡ Some read
  pub of : slice_get roles n ≡ Some role
  pub told : IsTold o n read before (m, role)

abbrev pub AreTold : Options → List Record → List Role → ℕ → Known → Type 0
AreTold o records roles zero m = m ≡ nothing_known
AreTold o records roles (suc n) m = (before : Known) × (AreTold o records roles n before × IsToldAt o records roles n before m)
