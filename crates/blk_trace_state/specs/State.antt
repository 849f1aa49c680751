-- What a list of events leaves, as one state, and what each event makes of it.
use Rattle.std.specs.Prelude.{ℕ, ◌+◌, ◌==◌, ◌&&◌, ◌++◌, Bool, true, false, not, cond, List, [], ◌∷◌, map, filter, find, count_by, Option, None, option_map}
use Rattle.std.specs.Option.{option_map_or}
use Rattle.std.specs.List.{flat_map, list_any}
use Rattle.edd_commands.specs.declared.Command.{Command}
use Rattle.blk_bio.specs.Bios.{Bio}
use Rattle.blk_bio.specs.Requests.{dir_of}
use Rattle.blk_trace.specs.declared.issued.Outcome.{Outcome}
use Rattle.blk_trace.specs.declared.issued.Outcome.TheVariants as outcome
use Rattle.blk_trace.specs.declared.issued.Issued.{Issued}
use Rattle.blk_trace.specs.declared.event.Event.TheVariants.{Tick, Release, Join, Issue, Done, Back, Depth}
use Rattle.blk_trace.specs.Happened.{Happened}
use Rattle.blk_trace.specs.Setups.{Setup, expire_of}
use Rattle.blk_trace.specs.Events.{join_up}
use Rattle.blk_trace.specs.Meaning.{rising}
use Rattle.blk_trace.specs.Issues.{flies, was_requeued, kept_of}
use Rattle.blk_trace.specs.Inside.Issues.{ended_by}
use Rattle.blk_trace.specs.Waits.{Entered}

-- a request that entered: its id, the round of its last Release or Join, when it is due, and its bios
pub record Entry : Type 0 where
  pub id : ℕ
  pub release : ℕ
  pub due : ℕ
  pub bios : List Bio

-- how many events there were, the round that is on, how many commands it carries and the next one will, and the requests
-- and the Issues in their order
pub record LayerState : Type 0 where
  pub events : ℕ
  pub round : ℕ
  pub depth : ℕ
  pub next_depth : ℕ
  pub entries : List Entry
  pub issued : List Issued

-- before the first event
abbrev pub start_state : Setup → LayerState
start_state setup = record { events = 0; round = 0; depth = setup.depth; next_depth = setup.depth; entries = []; issued = [] }

abbrev pub has_completed : Outcome → Bool
has_completed outcome.Flying = false
has_completed outcome.Done = true
has_completed outcome.Back = false

-- the request with these bios more, where it has the id: released in the round, due when it was
abbrev pub joined_by : ℕ → ℕ → List Bio → Entry → Entry
joined_by round id bios r = cond (r.id == id) (record { id = r.id; release = round; due = r.due; bios = join_up r.bios bios }) r

-- what an event makes of the round, its depth, the requests and the Issues
abbrev pub changed : Setup → LayerState → Happened → LayerState
changed setup s Tick = record s { round = s.round + 1; depth = s.next_depth }
changed setup s (Release id bios) = record s { entries = s.entries ++ record { id = id; release = s.round; due = s.round + expire_of setup (dir_of bios); bios = bios } ∷ [] }
changed setup s (Join id bios) = record s { entries = map (joined_by s.round id bios) s.entries }
changed setup s (Issue id tag) = record s { issued = s.issued ++ record { round = s.round; id = id; tag = tag; outcome = outcome.Flying } ∷ [] }
changed setup s (Done tag) = record s { issued = map (ended_by tag outcome.Done) s.issued }
changed setup s (Back tag) = record s { issued = map (ended_by tag outcome.Back) s.issued }
changed setup s (Depth depth) = record s { next_depth = depth }

-- the state with one event more
abbrev pub next_state : Setup → LayerState → Happened → LayerState
next_state setup s e = record (changed setup s e) { events = s.events + 1 }

-- ---- what is read off a state

-- the request of the id, and its bios
abbrev pub entry_now : LayerState → ℕ → Option Entry
entry_now s id = find (λ r. r.id == id) s.entries

abbrev pub request_now : LayerState → ℕ → List Bio
request_now s id = option_map_or (λ r. r.bios) (entry_now s id) []

-- whether the id was released; was issued; and was issued and not requeued since
abbrev pub has_entry : LayerState → ℕ → Bool
has_entry s id = list_any (λ r. r.id == id) s.entries

abbrev pub has_issue : LayerState → ℕ → Bool
has_issue s id = list_any (λ i. i.id == id) s.issued

abbrev pub is_out : LayerState → ℕ → Bool
is_out s id = list_any (λ i. (i.id == id) && not (was_requeued i.outcome)) s.issued

-- whether the tag's command is in flight; whether it was issued in the round that is on
abbrev pub is_open : LayerState → ℕ → Bool
is_open s tag = list_any (λ i. flies i.outcome && (tag == i.tag)) s.issued

abbrev pub is_used : LayerState → ℕ → Bool
is_used s tag = list_any (λ i. (i.round == s.round) && (tag == i.tag)) s.issued

-- how many commands are in flight, and how many have completed
abbrev pub flying_now : LayerState → ℕ
flying_now s = count_by (λ i. flies i.outcome) s.issued

abbrev pub done_now : LayerState → ℕ
done_now s = count_by (λ i. has_completed i.outcome) s.issued

-- the Issues that were not requeued
abbrev pub kept_now : LayerState → List Issued
kept_now s = kept_of s.issued

-- the command of the id
abbrev pub command_now : LayerState → ℕ → Command
command_now s id = record { id = id; release = option_map_or (λ r. r.release) (entry_now s id) 0; due = option_map_or (λ r. r.due) (entry_now s id) 0 }

-- the commands, and the rounds in which they were issued
abbrev pub commands_now : LayerState → List Command
commands_now s = map (λ i. command_now s i.id) (kept_now s)

abbrev pub rounds_now : LayerState → List ℕ
rounds_now s = map (λ i. i.round) (kept_now s)

-- the request that waits under the id
abbrev pub waits_now : LayerState → ℕ → Option Entered
waits_now s id = cond (is_out s id) None (option_map (λ r. record { release = r.release; due = r.due; bios = r.bios }) (entry_now s id))

-- the requests that wait, by rising id, and their bios
abbrev pub waiting_now : LayerState → List ℕ
waiting_now s = rising (filter (λ id. not (is_out s id)) (map (λ r. r.id) s.entries))

abbrev pub waiting_bios_now : LayerState → List Bio
waiting_bios_now s = flat_map (request_now s) (waiting_now s)
