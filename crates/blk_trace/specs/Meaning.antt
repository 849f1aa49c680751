-- What a trace means: its commands, the rounds in which they ran, and the bios that wait.
use Rattle.std.specs.Prelude.{ℕ, ◌≡◌, ◌+◌, ◌==◌, not, cond, List, [], ◌∷◌, Option, Some, option_map, min, max, map, fold, filter, nat_le, slice_get}
use Rattle.std.specs.List.{flat_map, filter_map, list_any}
use Rattle.blk_bio.specs.Bios.{Bio}
use Rattle.blk_bio.specs.Requests.{dir_of}
use Rattle.edd_commands.specs.declared.Command.{Command}
use Rattle.blk_trace.specs.Happened.{Happened}
use Rattle.blk_trace.specs.Kinds.{releases, is_tick, enters_under}
use Rattle.blk_trace.specs.Setups.{Setup, expire_of}
use Rattle.blk_trace.specs.Events.{At, round_at, request_of}
use Rattle.blk_trace.specs.declared.issued.Issued.{Issued}
use Rattle.blk_trace.specs.Issues.{issues_from, kept_of}

-- each event with its round, where the first one's round is given
unfoldable pub timed : ℕ → List Happened → List (ℕ × Happened)
timed round [] = []
timed round (e ∷ es) = (round, e) ∷ timed (cond (is_tick e) (round + 1) round) es

-- of the events with their rounds the one at place k is e, in this round
abbrev pub IsTimed : List Happened → ℕ → ℕ → Happened → Type 0
IsTimed events k round e = slice_get (timed 0 events) k ≡ Some (round, e)

-- e stands at place k, and before it as many Ticks as the round's number
abbrev pub StandsInRound : List Happened → ℕ → ℕ → Happened → Type 0
StandsInRound events k round e = At events k e × (round ≡ round_at events k)

-- the greatest of some numbers, 0 without any
abbrev pub greatest : List ℕ → ℕ
greatest xs = fold max 0 xs

-- the least of some numbers, 0 without any
abbrev pub least : List ℕ → ℕ
least [] = 0
least (x ∷ xs) = fold min x xs

-- the round in which a request enters under the id by an event, if one does
abbrev pub entry_round : ℕ → ℕ × Happened → Option ℕ
entry_round id t = option_map (λ _. t.0) (enters_under id t.1)

-- the round in which its bios are due
abbrev pub entry_due : Setup → ℕ → ℕ × Happened → Option ℕ
entry_due setup id t = option_map (λ bios. t.0 + expire_of setup (dir_of bios)) (enters_under id t.1)

-- the greatest round of the id's Release and Joins
unfoldable pub release_of : List Happened → ℕ → ℕ
release_of events id = greatest (filter_map (entry_round id) (timed 0 events))

-- the least round in which a bio of the id is due
unfoldable pub due_of : Setup → List Happened → ℕ → ℕ
due_of setup events id = least (filter_map (entry_due setup id) (timed 0 events))

-- the command of the id
abbrev pub command_of : Setup → List Happened → ℕ → Command
command_of setup events id = record { id = id; release = release_of events id; due = due_of setup events id }

abbrev pub round_and_id : Issued → ℕ × ℕ
round_and_id i = (i.round, i.id)

-- the rounds and ids of the Issues that were not requeued, in their order, where the first event's round is given
unfoldable pub served : ℕ → List Happened → List (ℕ × ℕ)
served round events = map round_and_id (kept_of (issues_from round events))

-- the ids in the order of these Issues
unfoldable pub issued_ids : List Happened → List ℕ
issued_ids events = map (λ s. s.1) (served 0 events)

-- the commands, in the order of these Issues
unfoldable pub commands_of : Setup → List Happened → List Command
commands_of setup events = map (command_of setup events) (issued_ids events)

-- the rounds of these Issues, in their order
unfoldable pub rounds_of : List Happened → List ℕ
rounds_of events = map (λ s. s.0) (served 0 events)

-- the ids in the order of their Releases
unfoldable pub released_ids : List Happened → List ℕ
released_ids events = filter_map (λ e. option_map (λ p. p.0) (releases e)) events

-- the list with the number put before the first that is not below it
abbrev pub put_rising : ℕ → List ℕ → List ℕ
put_rising x [] = x ∷ []
put_rising x (y ∷ ys) = cond (nat_le x y) (x ∷ y ∷ ys) (y ∷ put_rising x ys)

-- the numbers of a list, rising
unfoldable pub rising : List ℕ → List ℕ
rising [] = []
rising (x ∷ xs) = put_rising x (rising xs)

-- the released ids that were not issued, or were requeued, rising
unfoldable pub waiting_ids : List Happened → List ℕ
waiting_ids events = rising (filter (λ id. not (list_any (λ i. i == id) (issued_ids events))) (released_ids events))

-- the bios of the released requests that were not issued, or were requeued, by rising id and in tile order
unfoldable pub waiting_of : List Happened → List Bio
waiting_of events = flat_map (request_of events) (waiting_ids events)
