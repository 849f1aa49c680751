-- What kyber keeps beside what waits, and how each call changes it.
use Rattle.blk_bio.specs.declared.limits.TheConstants.{MAX_QUEUES}
use Rattle.std.specs.Prelude.{ℕ, ◌≡◌, List, [], ◌∷◌, Option, None, Some, slice_index_or, slice_set, replicate}
use Rattle.std.specs.List.{flat_map}
use Rattle.std.specs.FinMap as map
use Rattle.blk_bio.specs.declared.bio.Dir.{Dir}
use Rattle.blk_bio.specs.declared.bio.Dir.TheVariants.{Read, Write}
use Rattle.blk_sched.specs.Meaning.{Waiting, Meaning}
use Rattle.blk_sched.specs.Policies.{Policy, switch_number}
use Rattle.blk_kyber.specs.declared.Targets.{Targets}
use Rattle.blk_kyber.specs.declared.turn.Turn.{Turn}
use Rattle.blk_kyber.specs.Limits.{DirLimits, KyberReport, Completed, RoundBegan, after_report, kyber_limits}
use Rattle.blk_kyber.specs.Choice.{serves_own, first_turn, kyber_choice, chosen}

-- the targets, the limits, and the turn of each hardware queue
pub record KyberState : Type 0 where
  pub targets : Targets
  pub limits : DirLimits
  pub turns : List Turn

-- at first, with a turn for each hardware queue that there may be
abbrev pub state_at_first : Targets → ℕ → KyberState
state_at_first targets depth = record { targets = targets; limits = kyber_limits targets depth []; turns = replicate MAX_QUEUES first_turn }

-- what it chooses for a hardware queue
abbrev pub choice_for : ℕ → KyberState → Meaning → Option (Waiting × Turn)
choice_for hw kept m = kyber_choice hw (slice_index_or kept.turns hw first_turn) kept.limits m.open_picks (map.values m.pending)

-- a pick changes the turn of its hardware queue alone
abbrev pub after_pick : ℕ → KyberState → Option (Waiting × Turn) → KyberState
after_pick hw kept None = kept
after_pick hw kept (Some x) = record kept { turns = slice_set kept.turns hw x.1 }

-- a report changes the limits alone
abbrev pub kept_told : KyberReport → KyberState → KyberState
kept_told report kept = record kept { limits = after_report kept.targets report kept.limits }

-- the limits after a report, where they were those of the earlier ones
abbrev pub Follows : KyberReport → KyberState → KyberState → Type 0
Follows report old new =
    (depth : ℕ) (earlier : List KyberReport) → old.limits ≡ kyber_limits old.targets depth earlier
    → new.limits ≡ kyber_limits old.targets depth (report ∷ earlier)

-- the same as numbers
abbrev pub dir_number : Dir → ℕ
dir_number Read = 0
dir_number Write = 1

abbrev pub turn_numbers : Turn → List ℕ
turn_numbers turn = dir_number turn.dir ∷ turn.taken ∷ []

abbrev pub numbers_of : KyberState → List ℕ
numbers_of kept =
    kept.targets.read ∷ kept.targets.write ∷ kept.limits.depth ∷ kept.limits.reads ∷ kept.limits.writes
    ∷ switch_number kept.limits.missed_reads ∷ switch_number kept.limits.missed_writes ∷ flat_map turn_numbers kept.turns

-- as a scheduler's choice, and as what it keeps after a report
abbrev pub Chooses : List ℕ → Meaning → ℕ → ℕ → Option Waiting → List ℕ → Type 0
Chooses old m hw now picked new =
    (kept : KyberState) × (old ≡ numbers_of kept) × (picked ≡ chosen (choice_for hw kept m)) × (new ≡ numbers_of (after_pick hw kept (choice_for hw kept m)))

abbrev pub IsReported : KyberReport → List ℕ → List ℕ → Type 0
IsReported report old new = (kept : KyberState) × (old ≡ numbers_of kept) × (new ≡ numbers_of (kept_told report kept))

-- its policy
abbrev pub kyber_policy : Policy
kyber_policy = record {
  serves = serves_own;
  chooses = Chooses;
  told_done = λ _ dir wait old new. IsReported (Completed dir wait) old new;
  told_tick = λ now old new. IsReported (RoundBegan now) old new;
}
