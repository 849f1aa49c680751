-- Schedulers before they have any request.
use Rattle.std.proofs.Common.{ℕ, ◌≡◌, ◌∙◌, List, Result, Ok, Err, IfOk, sym, ap, subst, refl}
use Rattle.blk_sched.specs.Meaning.{Meaning, at_start}
use Rattle.blk_schedulers.specs.Scheds.{first_meaning}
use Rattle.blk_schedulers.specs.Rows.{sched_for}
use Rattle.blk_schedulers.specs.declared.rows.SchedKind.{SchedKind}
use Rattle.blk_schedulers.specs.declared.rows.SchedKind.TheVariants as kind
use Rattle.blk_schedulers.specs.declared.sched.Sched.{Sched}
use Rattle.blk_schedulers.specs.declared.sched.SchedFault.{SchedFault}
use Rattle.edd_commands.specs.declared.Command.{Command}
use Rattle.blk_sched.specs.Policies.{Policy}
use Rattle.blk_capture.specs.declared.requests.CapturedRequest.{CapturedRequest}
use Rattle.blk_replay.specs.Replay.{standing}
use Rattle.blk_replay.specs.Requests.{IsReplayOf}
use Rattle.blk_replay.specs.declared.requests.DueBy.{DueBy}
use Rattle.blk_schedulers.specs.Scheds.{numbers_at_first}
use Rattle.blk_replayed.specs.Rows.{sched_start}

-- what is known of a scheduler that was made
pub made_start : {X : Type 0} (r : Result X SchedFault) (x : X) (P : X → Type 0) → r ≡ Ok x → IfOk r P → P x
made_start (Ok y) x P e h = let same : y ≡ x = cc e in subst P same h
made_start (Err f) x P e h = cc e

-- nothing waits, by whichever rule for joins at the front
kind_at_start : (k : SchedKind) (v : List ℕ) → (sched_for k).meaning v ≡ at_start ((sched_for k).meaning v).front
kind_at_start kind.None v = refl
kind_at_start kind.Deadline v = refl
kind_at_start kind.Kyber v = refl
kind_at_start kind.Earliest v = refl

first_at_start : (s : Sched) → first_meaning s ≡ at_start (first_meaning s).front
first_at_start s = kind_at_start s.kind s.values

pub is_at_start : (s : Sched) (m : Meaning) → m ≡ first_meaning s → m ≡ at_start m.front
is_at_start s m e = subst (λ (n : Meaning). n ≡ at_start n.front) (sym e) (first_at_start s)

-- a replay from a start that is that of a scheduler's settings
pub from_start : (policy : Policy) (s : Sched) (m : Meaning) (kept : List ℕ) (requests : List CapturedRequest) (commands : List Command) (by : DueBy) (rounds : List ℕ)
    → m ≡ first_meaning s → kept ≡ numbers_at_first s 1 → IsReplayOf policy (standing m kept) requests commands by rounds → IsReplayOf policy (sched_start s) requests commands by rounds
from_start policy s m kept requests commands by rounds e f h =
    let M : Meaning → Type 0 = λ x. IsReplayOf policy (standing x kept) requests commands by rounds in
    let K : List ℕ → Type 0 = λ x. IsReplayOf policy (standing (first_meaning s) x) requests commands by rounds in
    subst K f (subst M e h)
