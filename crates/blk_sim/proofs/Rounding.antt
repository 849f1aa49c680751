-- The tags of a round, and rounds over software queues that are empty from the first on.
use Rattle.std.proofs.Common.{arith, ◌≡◌, ◌+◌, ◌<◌, ◌≤◌, ◌%◌, ◌==◌, ◌∙◌, ◌++◌, ℕ, zero, suc, Bool, true, false, cond, List, [], Option, Some, None, length, refl, sym, ap, subst, inl, inr}
use Rattle.std.specs.Prelude.{slice_get, Result, Ok, Err, OnOk, OnErr, IfErr}
use Rattle.std.specs.Option.{option_map}
use Rattle.std.proofs.lemmas.Bool.{cases_eq}
use Rattle.std.proofs.Math.Nat.{mod-lt}
use Rattle.edd_commands.specs.declared.Command.{Command}
use Rattle.blk_queues.specs.Queues.{Queue}
use Rattle.blk_trace.specs.Depths.{depth_now}
use Rattle.blk_core.specs.State.{CoreState}
use Rattle.blk_core.specs.Calls.{Completes}
use Rattle.blk_core.specs.Faults.{IsInFlight}
use Rattle.blk_sim.specs.declared.refusal.SimReason.{SimReason}
use Rattle.blk_sim.specs.declared.refusal.SimReason.TheVariants as why
use Rattle.blk_sim.specs.Moves.{EnterInTurn, requests_in, served_requests, drained, DrainInTurn}
use Rattle.blk_sim.specs.Rounds.{AsksQueue, queue_asked, GiveNothing, IssueInTurn, IssuesAll, CompleteInTurn, Works, Rounds}
use Rattle.blk_sim.specs.Inside.Given.{IsGiven}
use Rattle.blk_sim.specs.Refusals.{IsWorkRefused, IsRunRefused, IsDrainInTurnRefused}
use Rattle.blk_sim.specs.Inside.Working.{WorkInTurn, IsWorkInTurnRefused}
use Rattle.blk_sim.proofs.Chains.{enter_none, drained_already, complete_done, complete_passed}
use Rattle.blk_sched.specs.Policies.{Policy}
use Rattle.blk_sim.proofs.Draining.{drained_none}

-- one more hardware queue that gives nothing for a tag
pub nothing_more : (policy : Policy) (tag count k : ℕ) (a b c : CoreState) (found : Option Command) → count ≡ a.setup.hw → b ≡ a → AsksQueue policy (queue_asked count tag k) tag b found c → found ≡ None → GiveNothing policy tag k a → (c ≡ a) × GiveNothing policy tag (k + 1) a
nothing_more policy tag count k a b c found e same h none before =
    let asks : AsksQueue policy (queue_asked a.setup.hw tag k) tag a None c = subst (λ n. AsksQueue policy (queue_asked n tag k) tag a None c) e (subst (λ x. AsksQueue policy (queue_asked count tag k) tag x None c) same (subst (λ o. AsksQueue policy (queue_asked count tag k) tag b o c) none h)) in
    let stays : c ≡ a = asks.1.0 in (
      stays,
      λ j lt. elim (cases_eq j k) [
        | inl s ↦ subst (λ i. AsksQueue policy (queue_asked a.setup.hw tag i) tag a None a) (sym s) (subst (λ x. AsksQueue policy (queue_asked a.setup.hw tag k) tag a None x) stays asks)
        | inr o ↦ before j (omega (arith, lt, o))
      ],
    )

-- the tags end where none gives
pub all_given : (policy : Policy) (tag : ℕ) (a b c : CoreState) (given : Bool) → given ≡ false → tag ≤ depth_now a.setup a.events → IssueInTurn policy tag a b → IsGiven policy tag b given c → IssuesAll policy a c
all_given policy tag a b c given f le chain h =
    let ends : GiveNothing policy tag b.setup.hw b × (c ≡ b) = subst (λ v. IsGiven policy tag b v c) f h in
    record {
      tags = tag;
      few = le;
      issued = subst (λ x. IssueInTurn policy tag a x) (sym ends.1) chain;
      ended = inr (subst (λ (x : CoreState). GiveNothing policy tag x.setup.hw x) (sym ends.1) ends.0);
    }

-- a completion that may be refused
pub done_step : {X : Type 0} (policy : Policy) (n : ℕ) (a b c : CoreState) (r : Result X SimReason) → CompleteInTurn policy n a b → OnOk r (Completes policy.told_done b n c) → IfErr r (λ w. (w ≡ why.NotIssued) × (IsInFlight b n → ⊥)) → OnErr r (c ≡ b) → CompleteInTurn policy (n + 1) a c
done_step policy n a b c (Ok x) h done refused same = complete_done policy n a b c h done
done_step policy n a b c (Err w) h done refused same = complete_passed policy n a b c h refused.1 same

-- software queues without requests
abbrev pub AreEmpty : List Queue → Type 0
AreEmpty queues = (s : ℕ) (q : Queue) → slice_get queues s ≡ Some q → q.requests ≡ []

idle_at : (o : Option Queue) → ((q : Queue) → o ≡ Some q → q.requests ≡ []) → o ≡ option_map drained o
idle_at None h = refl
idle_at (Some q) h = ap Some (sym (drained_already q (h q refl)))

none_in : (o : Option Queue) → ((q : Queue) → o ≡ Some q → q.requests ≡ []) → (b : Bool) → cond b (requests_in o) [] ≡ []
none_in o h false = refl
none_in None h true = refl
none_in (Some q) h true = h q refl

none_served : (queues : List Queue) (count hw n : ℕ) → AreEmpty queues → served_requests queues count hw n ≡ []
unfolding served_requests
none_served queues count hw zero h = refl
none_served queues count hw (suc n) h = ap (λ l. l ++ cond ((n % count) == hw) (requests_in (slice_get queues n)) []) (none_served queues count hw n h) ∙ none_in (slice_get queues n) (h n) ((n % count) == hw)

pub turn_idle : (policy : Policy) (count n : ℕ) (queues : List Queue) (core : CoreState) → AreEmpty queues → DrainInTurn policy count n queues core queues core
unfolding DrainInTurn
turn_idle policy count zero queues core h = (refl, refl)
turn_idle policy count (suc n) queues core h = (
  queues,
  core,
  turn_idle policy count n queues core h,
  record {
    emptied = record { as_many = refl; served = λ s e. idle_at (slice_get queues s) (h s); others = λ s ne. refl };
    entered = subst (λ l. EnterInTurn policy n l core core) (sym (none_served queues count n (length queues) h)) (enter_none policy n core);
  },
)

turn_empties : (policy : Policy) (count n : ℕ) (q q' : List Queue) (a b : CoreState) → DrainInTurn policy count n q a q' b → (s : ℕ) (r : Queue) → (s % count) < n → slice_get q' s ≡ Some r → r.requests ≡ []
unfolding DrainInTurn
turn_empties policy count zero q q' a b h s r lt at = absurd (omega (arith, lt))
turn_empties policy count (suc n) q q' a b h s r lt at = elim (cases_eq (s % count) n) [
  | inl e ↦ drained_none (slice_get h.0 s) r (sym at ∙ h.3.emptied.served s e)
  | inr ne ↦ turn_empties policy count n q h.0 a h.1 h.2 s r (omega (arith, lt, ne)) (sym (h.3.emptied.others s ne) ∙ at)
]

pub all_empty : (policy : Policy) (count : ℕ) (q q' : List Queue) (a b : CoreState) → 0 < count → DrainInTurn policy count count q a q' b → AreEmpty q'
all_empty policy count q q' a b some h s r at = turn_empties policy count count q q' a b h s r (mod-lt s some) at

rounds_none : (policy : Policy) (q : List Queue) (a : CoreState) → Rounds policy 0 q a q a
unfolding Rounds
rounds_none policy q a = (refl, refl)

rounds_suc : (policy : Policy) (n : ℕ) (q q' : List Queue) (a b c : CoreState) → DrainInTurn policy a.setup.hw a.setup.hw q a q' b → AreEmpty q' → WorkInTurn policy (suc n) b c → Rounds policy (suc n) q a q' c
unfolding Rounds WorkInTurn
rounds_suc policy zero q q' a b c d empty h = (q, a, (refl, refl), record { filled = b; drains = d; works = subst (λ x. Works policy x c) h.1 h.2 })
rounds_suc policy (suc n) q q' a b c d empty h = (q', h.0, rounds_suc policy n q q' a b h.0 d empty h.1, record { filled = h.0; drains = turn_idle policy h.0.setup.hw h.0.setup.hw q' h.0 empty; works = h.2 })

pub rounds_of : (policy : Policy) (n : ℕ) (q q' : List Queue) (a b c : CoreState) → 0 < a.setup.hw → 1 ≤ n → DrainInTurn policy a.setup.hw a.setup.hw q a q' b → WorkInTurn policy n b c → Rounds policy n q a q' c
rounds_of policy zero q q' a b c some le d h = absurd (omega (arith, le))
rounds_of policy (suc n) q q' a b c some le d h = rounds_suc policy n q q' a b c d (all_empty policy a.setup.hw q q' a b some d) h

-- a run that is refused in its first drains, or in one of its rounds
pub drains_refused : (policy : Policy) (n : ℕ) (q : List Queue) (a : CoreState) (w : SimReason) → 1 ≤ n → IsDrainInTurnRefused policy a.setup.hw q a w → IsRunRefused policy n q a w
drains_refused policy n q a w le r = record { rounds = 0; few = omega (arith, le); between = q; middle = a; passed = rounds_none policy q a; refused = inl r }

later_refused : (policy : Policy) (n k : ℕ) (q q' : List Queue) (a b m : CoreState) (w : SimReason) → 0 < a.setup.hw → DrainInTurn policy a.setup.hw a.setup.hw q a q' b → k < n → WorkInTurn policy k b m → IsWorkRefused policy m w → IsRunRefused policy n q a w
unfolding WorkInTurn
later_refused policy n zero q q' a b m w some d few h r = record { rounds = 0; few = few; between = q; middle = a; passed = rounds_none policy q a; refused = inr (q', b, d, subst (λ x. IsWorkRefused policy x w) h r) }
later_refused policy n (suc k) q q' a b m w some d few h r =
    let empty : AreEmpty q' = all_empty policy a.setup.hw q q' a b some d in
    record { rounds = suc k; few = few; between = q'; middle = m; passed = rounds_suc policy k q q' a b m d empty h; refused = inr (q', m, turn_idle policy m.setup.hw m.setup.hw q' m empty, r) }

pub work_refused : (policy : Policy) (n : ℕ) (q q' : List Queue) (a b : CoreState) (w : SimReason) → 0 < a.setup.hw → DrainInTurn policy a.setup.hw a.setup.hw q a q' b → IsWorkInTurnRefused policy n b w → IsRunRefused policy n q a w
work_refused policy n q q' a b w some d r = later_refused policy n r.rounds q q' a b r.middle w some d r.few r.worked r.refused
