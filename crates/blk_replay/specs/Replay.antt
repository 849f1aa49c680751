-- Requests as they were captured, served again one a round by a scheduler that follows its policy.
use Rattle.std.specs.Prelude.{ℕ, ◌≡◌, ◌<◌, ◌≤◌, ◌+◌, ◌-◌, ◌==◌, zero, suc, cond, List, [], ◌∷◌, length, slice_index, slice_index_or, Option, Some}
use Rattle.std.specs.FinMap.{insert, remove, get}
use Rattle.edd_commands.specs.declared.Command.{Command}
use Rattle.edd_commands.specs.declared.TheConstants.{MAX_COMMANDS, MAX_ROUNDS}
use Rattle.blk_bio.specs.declared.bio.Dir.{Dir}
use Rattle.blk_bio.specs.Extents.{extent_of}
use Rattle.blk_sched.specs.Meaning.{Waiting, Pending, Meaning}
use Rattle.blk_sched.specs.Policies.{Policy}
use Rattle.blk_replay.specs.declared.Arrived.{Arrived}

-- a captured request as it waits: under its place, at hardware queue 0, of its one bio
abbrev pub waiting : ℕ → Arrived → Waiting
waiting id r = record { id = id; hw = 0; release = r.release; due = r.due; extent = extent_of (r.bio ∷ []) }

-- the commands of requests, whose ids rise from this one on
unfoldable pub commands_from : ℕ → List Arrived → List Command
commands_from id [] = []
commands_from id (r ∷ rs) = record { id = id; release = r.release; due = r.due } ∷ commands_from (suc id) rs

abbrev pub commands_by_arrival : List Arrived → List Command
commands_by_arrival requests = commands_from 0 requests

-- they are no more than schedules are asked for, due in rounds that there are, listed as they entered, and by each round as many have entered as
-- are served in it and before
pub record CanReplay (requests : List Arrived) : Type 0 where
  pub few : length requests ≤ MAX_COMMANDS
  pub in_range : (k : ℕ) (d : Arrived) → k < length requests → (slice_index_or requests k d).due < MAX_ROUNDS
  pub some_round : (k : ℕ) (d : Arrived) → k < length requests → 0 < (slice_index_or requests k d).release
  pub in_order : (k : ℕ) (d : Arrived) → k + 1 < length requests → (slice_index_or requests k d).release ≤ (slice_index_or requests (k + 1) d).release
  pub in_time : (k : ℕ) (d : Arrived) → k < length requests → (slice_index_or requests k d).release ≤ k + 1

-- what waits once those that were released in the round have entered, whose ids rise from this one on
unfoldable pub once_entered : ℕ → ℕ → List Arrived → Pending → Pending
once_entered round id [] pending = pending
once_entered round id (r ∷ rs) pending = once_entered round (suc id) rs (cond (r.release == round) (insert pending id (waiting id r)) pending)

-- a scheduler between two rounds: its meaning, and what it keeps
pub record Standing : Type 0 where
  pub meaning : Meaning
  pub kept : List ℕ

abbrev pub standing : Meaning → List ℕ → Standing
standing meaning kept = record { meaning = meaning; kept = kept }

-- the same once the requests of the round have entered
abbrev pub with_entered : List Arrived → ℕ → Standing → Standing
with_entered requests round s =
    standing (record s.meaning { pending = once_entered round 0 requests s.meaning.pending }) s.kept

-- in the round the request is served that the policy chooses, and the next round begins
pub record ServesNext (policy : Policy) (round : ℕ) (old : Standing) (w : Waiting) (new : Standing) : Type 0 where
  pub picked : List ℕ
  pub done : List ℕ
  pub waits : get old.meaning.pending w.id ≡ Some w
  pub chosen : policy.chooses old.kept old.meaning 0 round (Some w) picked
  pub told_done : policy.told_done 0 (w.extent.dir) (round - w.release) picked done
  pub told_tick : policy.told_tick (round + 1) done new.kept
  pub left : new.meaning ≡ record old.meaning { pending = remove old.meaning.pending w.id }

-- one round: its requests enter, and one is served that has this round in the answer
pub record IsRound (policy : Policy) (requests : List Arrived) (rounds : List ℕ) (round : ℕ) (old new : Standing) : Type 0 where
  pub served : Waiting
  pub serves : ServesNext policy round (with_entered requests round old) served new
  pub answered : slice_index rounds served.id ≡ round

-- the first rounds, as many as this, lead from one standing to another
unfoldable pub PlaysRounds : Policy → List Arrived → List ℕ → ℕ → Standing → Standing → Type 0
PlaysRounds policy requests rounds zero start now = now ≡ start
PlaysRounds policy requests rounds (suc n) start now =
    (middle : Standing) × PlaysRounds policy requests rounds n start middle × IsRound policy requests rounds (suc n) middle now

-- each request has a round of its own, from 1 to as many as there are requests
pub record HaveOwnRounds (rounds : List ℕ) : Type 0 where
  pub in_range : (k : ℕ) → k < length rounds → (0 < slice_index rounds k) × (slice_index rounds k ≤ length rounds)
  pub own : (j k : ℕ) → j < length rounds → k < length rounds → slice_index rounds j ≡ slice_index rounds k → j ≡ k

-- in rounds 1, 2 and so on a scheduler that follows the policy serves the requests, each once and in its round of the answer, and none waits longer
pub record IsReplay (policy : Policy) (start : Standing) (requests : List Arrived) (rounds : List ℕ) : Type 0 where
  pub one_each : length rounds ≡ length requests
  pub own_rounds : HaveOwnRounds rounds
  pub begun : List ℕ
  pub told_first : policy.told_tick 1 start.kept begun
  pub end : Standing
  pub played : PlaysRounds policy requests rounds (length requests) (standing start.meaning begun) end
  pub all_served : end.meaning ≡ start.meaning

-- a policy that leaves nothing open: one choice, and one thing to keep
pub record IsDetermined (policy : Policy) : Type 0 where
  pub one_choice : (kept : List ℕ) (m : Meaning) (hw now : ℕ) (a b : Option Waiting) (x y : List ℕ) → policy.chooses kept m hw now a x → policy.chooses kept m hw now b y → (a ≡ b) × (x ≡ y)
  pub one_done : (hw : ℕ) (dir : Dir) (wait : ℕ) (kept x y : List ℕ) → policy.told_done hw dir wait kept x → policy.told_done hw dir wait kept y → x ≡ y
  pub one_tick : (now : ℕ) (kept x y : List ℕ) → policy.told_tick now kept x → policy.told_tick now kept y → x ≡ y

-- then requests have one replay
abbrev pub HasOneReplay : Policy → Type 0
HasOneReplay policy =
    IsDetermined policy → (start : Standing) (requests : List Arrived) (xs ys : List ℕ) → IsReplay policy start requests xs → IsReplay policy start requests ys → xs ≡ ys
