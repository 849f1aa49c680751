-- What the deadline scheduler serves and picks, over the plain list of what waits by rising id.
pub use Rattle.blk_sched.specs.Meaning.{is_same}
use Rattle.std.specs.Prelude.{ℕ, ◌+◌, ◌==◌, ◌≡◌, ◌&&◌, ◌||◌, nat_lt, nat_le, Bool, true, false, List, [], ◌∷◌, Option, None, Some, if◌then◌else◌}
use Rattle.std.specs.List.{find, filter}
use Rattle.std.specs.FinMap as map
use Rattle.blk_bio.specs.declared.bio.Dir.{Dir}
use Rattle.blk_bio.specs.declared.bio.Dir.TheVariants.{Read, Write}
use Rattle.blk_sched.specs.Meaning.{Waiting, Meaning}
use Rattle.blk_sched.specs.Policies.{Policy, choosing, serves_all, switch_number}
use Rattle.blk_deadline.specs.declared.Last.{Last}
use Rattle.blk_deadline.specs.declared.BatchState.{BatchState}
use Rattle.blk_deadline.specs.declared.Positions.{Positions}
use Rattle.blk_deadline.specs.declared.Positions.TheVariants.{One, Each}
use Rattle.blk_deadline.specs.declared.Tunables.{Tunables}

abbrev pub has_dir : Dir → Waiting → Bool
has_dir dir w = is_same w.extent.dir dir

-- by the first sector, and then by the id
abbrev pub sorts_before : ℕ → ℕ → ℕ → ℕ → Bool
sorts_before first id other k = nat_lt first other || (first == other && nat_lt id k)

-- the first of two by their first sectors and ids, and the first of a list
abbrev pub first_by_sector : Waiting → Option Waiting → Option Waiting
first_by_sector w None = Some w
first_by_sector w (Some v) = if sorts_before v.extent.first v.id w.extent.first w.id then Some v else Some w

abbrev pub first_by : List Waiting → Option Waiting
first_by [] = None
first_by (w ∷ ws) = first_by_sector w (first_by ws)

-- the oldest of a direction
abbrev pub oldest_of : Dir → List Waiting → Option Waiting
oldest_of dir ws = find (has_dir dir) ws

-- with one position: after the last pick, and only where that was of the direction
abbrev pub after_last : Dir → Option Last → List Waiting → Option Waiting
after_last dir None ws = None
after_last dir (Some l) ws =
    if is_same l.dir dir then first_by (filter (λ w. has_dir dir w && sorts_before l.first l.id w.extent.first w.id) ws) else None

-- with one for each direction: from a sector on
abbrev pub from_sector : Dir → ℕ → List Waiting → Option Waiting
from_sector dir sector ws = first_by (filter (λ w. has_dir dir w && nat_le sector w.extent.first) ws)

-- where a direction stands, and the next one of it
abbrev pub position_in : BatchState → Dir → ℕ
position_in batch Read = batch.read_position
position_in batch Write = batch.write_position

abbrev pub next_of : Positions → BatchState → Dir → List Waiting → Option Waiting
next_of One batch dir ws = after_last dir batch.last ws
next_of Each batch dir ws = from_sector dir (position_in batch dir) ws

-- the direction of the last pick: reads before there is one
abbrev pub last_dir : Option Last → Dir
last_dir None = Read
last_dir (Some l) = l.dir

-- every pick sets the position of its direction
abbrev pub position_after : BatchState → Dir → Waiting → ℕ
position_after batch dir w = if has_dir dir w then w.extent.first else position_in batch dir

abbrev pub taken : BatchState → Waiting → ℕ → ℕ → Waiting × BatchState
taken batch w batching starved = (
  w,
  record {
    last = Some (record { dir = w.extent.dir; first = w.extent.first; id = w.id });
    read_position = position_after batch Read w;
    write_position = position_after batch Write w;
    batching = batching;
    starved = starved;
  },
)

-- the oldest where it is due or there is no next one
abbrev pub due_or_next : ℕ → Waiting → Option Waiting → Waiting
due_or_next now oldest None = oldest
due_or_next now oldest (Some next) = if nat_le oldest.due now then oldest else next

-- rules 2 and 3: reads go first until writes have starved
abbrev pub new_batch : ℕ → BatchState → ℕ → Option Waiting → Option Waiting → (Dir → Option Waiting) → Option (Waiting × BatchState)
new_batch limit batch now None None next = None
new_batch limit batch now (Some r) None next = Some (taken batch (due_or_next now r (next Read)) 1 batch.starved)
new_batch limit batch now None (Some w) next = Some (taken batch (due_or_next now w (next Write)) 1 0)
new_batch limit batch now (Some r) (Some w) next =
    if nat_le limit batch.starved then Some (taken batch (due_or_next now w (next Write)) 1 0)
    else Some (taken batch (due_or_next now r (next Read)) 1 (batch.starved + 1))

-- rule 1: the batch goes on in its direction
abbrev pub in_batch : ℕ → BatchState → (Dir → Option Waiting) → Option Waiting
in_batch limit batch next = if nat_lt batch.batching limit then next (last_dir batch.last) else None

abbrev pub batch_or : Tunables → BatchState → ℕ → (Dir → Option Waiting) → (Dir → Option Waiting) → Option Waiting → Option (Waiting × BatchState)
batch_or tunables batch now oldest next (Some w) = Some (taken batch w (batch.batching + 1) batch.starved)
batch_or tunables batch now oldest next None = new_batch tunables.writes_starved batch now (oldest Read) (oldest Write) next

abbrev pub choice_of : Tunables → BatchState → ℕ → (Dir → Option Waiting) → (Dir → Option Waiting) → Option (Waiting × BatchState)
choice_of tunables batch now oldest next = batch_or tunables batch now oldest next (in_batch tunables.fifo_batch batch next)

-- the choice: a function of what waits, the positions, the batch, how often reads went first, and now
abbrev pub deadline_choice : Tunables → BatchState → ℕ → List Waiting → Option (Waiting × BatchState)
deadline_choice tunables batch now ws = choice_of tunables batch now (λ dir. oldest_of dir ws) (λ dir. next_of tunables.positions batch dir ws)

-- what is handed out, and where the scheduler stands after
abbrev pub handed_out : Option (Waiting × BatchState) → Option Waiting
handed_out None = None
handed_out (Some x) = Some x.0

abbrev pub batch_after : BatchState → Option (Waiting × BatchState) → BatchState
batch_after batch None = batch
batch_after batch (Some x) = x.1

-- where it stands before any pick
abbrev pub batch_at_first : BatchState
batch_at_first = record { last = None; read_position = 0; write_position = 0; batching = 0; starved = 0 }

-- what it keeps beside its meaning, as numbers: the settings, the batch, how often reads went first, the positions, and the last pick
abbrev pub last_numbers : Option Last → List ℕ
last_numbers None = []
last_numbers (Some last) = switch_number (is_same last.dir Write) ∷ last.first ∷ last.id ∷ []

abbrev pub is_each : Positions → Bool
is_each One = false
is_each Each = true

abbrev pub deadline_kept : BatchState → Tunables → List ℕ
deadline_kept batch tunables =
    tunables.fifo_batch ∷ tunables.writes_starved ∷ switch_number tunables.front_merges ∷ switch_number (is_each tunables.positions)
    ∷ batch.batching ∷ batch.starved ∷ batch.read_position ∷ batch.write_position ∷ last_numbers batch.last

-- where it stands and its settings are known by such numbers
abbrev pub AreKnown : (BatchState → Tunables → List ℕ) → Type 0
AreKnown numbers = (t u : BatchState) (s v : Tunables) → numbers t s ≡ numbers u v → (t ≡ u) × (s ≡ v)

-- its choice by what it keeps: of the settings and the batch that are kept, with the batch that follows
abbrev pub deadline_chooses : List ℕ → Meaning → ℕ → ℕ → Option Waiting → List ℕ → Type 0
deadline_chooses kept m hw now answer after =
    (batch : BatchState) × (tunables : Tunables) × (kept ≡ deadline_kept batch tunables)
    × (answer ≡ handed_out (deadline_choice tunables batch now (map.values m.pending)))
    × (after ≡ deadline_kept (batch_after batch (deadline_choice tunables batch now (map.values m.pending))) tunables)

-- its policy
abbrev pub deadline_policy : Policy
deadline_policy = choosing serves_all deadline_chooses
