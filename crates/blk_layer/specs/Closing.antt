-- What closing a layer says.
use Rattle.std.specs.Prelude.{ℕ, Bool, true, false, cond, List, count_by, is_some, ◌≡◌, ◌≢◌, ◌<◌, ◌⊎◌, ◌++◌, ◌==◌, ◌&&◌, [], ◌∷◌, Option, None, Some, length, slice_get, IsPermutation}
use Rattle.blk_bio.specs.declared.bio.Dir.{Dir}
use Rattle.blk_bio.specs.declared.bio.Dir.TheVariants.{Read, Write}
use Rattle.blk_trace.specs.Happened.{Happened}
use Rattle.blk_trace.specs.Kinds.{completes, releases}
use Rattle.std.specs.List.{flat_map, filter_map}
use Rattle.edd_commands.specs.declared.Command.{Command}
use Rattle.blk_bio.specs.Bios.{Bio}
use Rattle.blk_bio.specs.declared.bio.BioId.{BioId}
use Rattle.blk_trace.specs.Setups.{Setup}
use Rattle.blk_trace.specs.Events.{At, HasId, request_of}
use Rattle.blk_trace.specs.Issues.{issues_of}
use Rattle.blk_trace.specs.Meaning.{command_of, issued_ids, waiting_of}
use Rattle.blk_trace.specs.declared.issued.Issued.{Issued}
use Rattle.blk_trace.specs.declared.issued.Outcome.{Outcome}
use Rattle.blk_trace.specs.declared.issued.Outcome.TheVariants as outcome
use Rattle.edd_commands.specs.Order.{BreaksFirst, AreKept}
use Rattle.blk_layer.specs.Seats.{LayerShape, SubmitterSeat, WorkerSeat}
use Rattle.blk_layer.specs.declared.closing.CloseRefused.{CloseRefused}
use Rattle.blk_layer.specs.declared.closing.CloseRefused.TheVariants.{Whole, Differs}
use Rattle.blk_layer.specs.declared.closing.CloseFault.{CloseFault}
use Rattle.blk_layer.specs.declared.closing.CloseFault.TheVariants.{SeatMissing, Memory}

-- a number for each way
abbrev pub way_number : Dir → ℕ
way_number Read = 0
way_number Write = 1

-- whether an event is a Done
abbrev pub is_done : Happened → Bool
is_done e = is_some (completes e)

-- how many Dones there are
unfoldable pub done_count : List Happened → ℕ
done_count events = count_by is_done events

-- one of the submitters has the number
abbrev pub HasNumber : List SubmitterSeat → ℕ → Type 0
HasNumber submitters number = (k : ℕ) × ((s : SubmitterSeat) × (slice_get submitters k ≡ Some s) × (s.number ≡ number))

-- all seats of a layer are there: as many submitters as there are software queues and one for each of these by number, and as
-- many workers as the layer has
pub record AreAllThere (map_of : List ℕ) (workers : ℕ) (submitters : List SubmitterSeat) (seated : List WorkerSeat) : Type 0 where
  pub submitter_count : length submitters ≡ length map_of
  pub each_submitter : (k : ℕ) → k < length map_of → HasNumber submitters k
  pub worker_count : length seated ≡ workers

-- the bios in the accounts of the submitters, and the commands in those of the workers
unfoldable pub all_accepted : List SubmitterSeat → List Bio
all_accepted submitters = flat_map (λ s. s.accepted) submitters

unfoldable pub all_ran : List WorkerSeat → List Command
all_ran workers = flat_map (λ w. w.ran) workers

-- the bios of the requests that were issued, and not requeued since
unfoldable pub issued_bios : List Happened → List Bio
issued_bios events = flat_map (request_of events) (issued_ids events)

-- whether a command has completed
abbrev pub has_completed : Outcome → Bool
has_completed outcome.Flying = false
has_completed outcome.Done = true
has_completed outcome.Back = false

-- the command of an Issue, if it has completed
abbrev pub command_done : Setup → List Happened → Issued → Option Command
command_done setup events i = cond (has_completed i.outcome) (Some (command_of setup events i.id)) None

-- the commands that are done, in the order of their Issues
unfoldable pub done_commands : Setup → List Happened → List Command
done_commands setup events = filter_map (command_done setup events) (issues_of events)

-- the accounts agree with a trace and the bios that are left: the bios that were accepted are those that were issued and those
-- left, and the commands that the workers ran are those that are done, each as many times
pub record AreSettled (setup : Setup) (events : List Happened) (left : List Bio) (submitters : List SubmitterSeat) (workers : List WorkerSeat) : Type 0 where
  pub bios : IsPermutation (all_accepted submitters) (issued_bios events ++ left)
  pub commands : IsPermutation (all_ran workers) (done_commands setup events)

-- whether a bio is the one, and whether a command is, in all that they say
abbrev pub is_bio_of : Bio → Bio → Bool
is_bio_of b c = ((b.id.submitter == c.id.submitter) && (b.id.serial == c.id.serial)) && ((way_number b.dir == way_number c.dir) && ((b.first == c.first) && (b.sectors == c.sectors)))

abbrev pub is_command : Command → Command → Bool
is_command c d = (c.id == d.id) && ((c.release == d.release) && (c.due == d.due))

-- a bio of this id stands another number of times in the accounts than it was issued and is left
pub record DiffersAsBio (events : List Happened) (left : List Bio) (submitters : List SubmitterSeat) (id : BioId) : Type 0 where
  pub bio : Bio
  pub named : bio.id ≡ id
  pub counted : count_by (is_bio_of bio) (all_accepted submitters) ≢ count_by (is_bio_of bio) (issued_bios events ++ left)

-- a bio of this id was released under the id of a command
pub record IsBioOf (events : List Happened) (command : ℕ) (id : BioId) : Type 0 where
  pub place : ℕ
  pub event : Happened
  pub request : List Bio
  pub stands : At events place event
  pub released : releases event ≡ Some (command, request)
  pub named : HasId request id

-- the command of the request that was released with a bio of this id stands another number of times in the accounts than it is done
pub record DiffersAsCommand (setup : Setup) (events : List Happened) (workers : List WorkerSeat) (id : BioId) : Type 0 where
  pub command : ℕ
  pub is_its : IsBioOf events command id
  pub counted : count_by (is_command (command_of setup events command)) (all_ran workers) ≢ count_by (is_command (command_of setup events command)) (done_commands setup events)

-- the accounts disagree on the bio
abbrev pub Disagrees : Setup → List Happened → List Bio → List SubmitterSeat → List WorkerSeat → BioId → Type 0
Disagrees setup events left submitters workers id = DiffersAsBio events left submitters id ⊎ DiffersAsCommand setup events workers id

-- the workers' commands are as many as the Dones, and what is left ends with the bios that wait in the trace
pub record AreCounted (events : List Happened) (left : List Bio) (workers : List WorkerSeat) : Type 0 where
  pub as_many : length (all_ran workers) ≡ done_count events
  pub queued : List Bio
  pub left_is : left ≡ queued ++ waiting_of events

-- the rule of a layer that is closed
abbrev pub close_rules : LayerShape → List SubmitterSeat → List WorkerSeat → List (Type 0)
close_rules layer submitters workers = AreAllThere layer.map layer.workers submitters workers ∷ []

-- why a layer comes back whole: a seat isn't there, or all are and memory ran out
abbrev pub IsCloseFault : LayerShape → List SubmitterSeat → List WorkerSeat → CloseFault → Type 0
IsCloseFault layer submitters workers SeatMissing =
    BreaksFirst (close_rules layer submitters workers) 0 (¬ AreAllThere layer.map layer.workers submitters workers)
IsCloseFault layer submitters workers Memory = AreKept (close_rules layer submitters workers)

-- the layer and its seats as they come back are those that were handed in
pub record AreBack (layer : LayerShape) (submitters : List SubmitterSeat) (workers : List WorkerSeat) (layer_back : LayerShape) (submitters_back : List SubmitterSeat) (workers_back : List WorkerSeat) : Type 0 where
  pub same_layer : layer_back ≡ layer
  pub same_submitters : submitters_back ≡ submitters
  pub same_workers : workers_back ≡ workers

-- all seats are there, and their accounts disagree with the trace and what is left on the bio, though the workers' commands are as
-- many as the Dones
pub record AreAtOdds (layer : LayerShape) (submitters : List SubmitterSeat) (workers : List WorkerSeat) (setup : Setup) (events : List Happened) (left : List Bio) (bio : BioId) : Type 0 where
  pub there : AreAllThere layer.map layer.workers submitters workers
  pub counted : AreCounted events left workers
  pub disagree : Disagrees setup events left submitters workers bio

-- what each refusal says of a layer of this setup; the seats come back in both, the layer where it isn't spent
abbrev pub IsCloseRefusal : {S L A : Type 0} → Setup → LayerShape → List SubmitterSeat → List WorkerSeat → CloseRefused S L A → Type 0
IsCloseRefusal setup layer submitters workers (Whole fault layer_back submitters_back workers_back) = IsCloseFault layer submitters workers fault × AreBack layer submitters workers layer_back submitters_back.items workers_back.items
IsCloseRefusal setup layer submitters workers (Differs bio closed submitters_back workers_back) =
    (closed.trace.setup ≡ setup) × AreAtOdds layer submitters workers setup closed.trace.events closed.left.items bio × (submitters_back.items ≡ submitters) × (workers_back.items ≡ workers)
