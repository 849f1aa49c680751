-- Chains of requests that enter the core, of drains, of tags and of rounds.
use Rattle.std.proofs.Common.{arith, ◌≡◌, ◌+◌, ◌≤◌, ◌-◌, ◌∙◌, ◌++◌, ◌∷◌, ℕ, zero, suc, List, [], refl, sym, ap, subst, inl, inr, add-one, append_assoc, length}
use Rattle.std.specs.Prelude.{sum_by}
use Rattle.std.proofs.lemmas.List.{append-nil}
use Rattle.std.proofs.lemmas.List.Sums.{sum_by-cons}
use Rattle.blk_bio.specs.Bios.{Bio}
use Rattle.blk_queues.specs.Plugs.{Plug}
use Rattle.blk_queues.specs.Queues.{Queue}
use Rattle.blk_trace.specs.Events.{IsUsed}
use Rattle.blk_core.specs.State.{CoreState}
use Rattle.blk_core.specs.Faults.{IsInFlight}
use Rattle.blk_sim.specs.declared.refusal.SimReason.{SimReason}
use Rattle.blk_sim.specs.Moves.{EntersCore, EnterInTurn, drained, flushed_plug, with_requests, bios_in, Drains, DrainInTurn}
use Rattle.blk_sim.specs.Rounds.{GivesCommand, IssueInTurn, CompleteInTurn, Works}
use Rattle.blk_core.specs.Calls.{Completes}
use Rattle.blk_sim.specs.Inside.Working.{WorkInTurn}
use Rattle.blk_sched.specs.Policies.{Policy}
use Rattle.blk_sim.specs.Refusals.{IsReleaseRefused, IsMoveRefused}

pub enter_none : (policy : Policy) (hw : ℕ) (a : CoreState) → EnterInTurn policy hw [] a a
unfolding EnterInTurn
enter_none policy hw a = refl

pub enter_both : (policy : Policy) (hw : ℕ) (xs ys : List (List Bio)) (a b c : CoreState) → EnterInTurn policy hw xs a b → EnterInTurn policy hw ys b c → EnterInTurn policy hw (xs ++ ys) a c
unfolding EnterInTurn
enter_both policy hw [] ys a b c e h = subst (λ x. EnterInTurn policy hw ys x c) e h
enter_both policy hw (x ∷ xs) ys a b c e h = (e.0, e.1, enter_both policy hw xs ys e.0 b c e.2 h)

pub enter_more : (policy : Policy) (hw : ℕ) (xs : List (List Bio)) (r : List Bio) (a b c : CoreState) → EnterInTurn policy hw xs a b → EntersCore policy hw r b c → EnterInTurn policy hw (xs ++ r ∷ []) a c
unfolding EnterInTurn
enter_more policy hw xs r a b c e h = enter_both policy hw xs (r ∷ []) a b c e (c, h, refl)

-- of the requests those before the ones that are left entered
pub record IsMoved (policy : Policy) (hw : ℕ) (requests left : List (List Bio)) (a b : CoreState) : Type 0 where
  pub gone : List (List Bio)
  pub whole : requests ≡ gone ++ left
  pub entered : EnterInTurn policy hw gone a b

pub moved_none : (policy : Policy) (hw : ℕ) (requests : List (List Bio)) (a : CoreState) → IsMoved policy hw requests requests a a
moved_none policy hw requests a = record { gone = []; whole = refl; entered = enter_none policy hw a }

pub moved_more : (policy : Policy) (hw : ℕ) (requests left : List (List Bio)) (r : List Bio) (rest : List (List Bio)) (a b c : CoreState) → left ≡ r ∷ rest → IsMoved policy hw requests left a b → EntersCore policy hw r b c → IsMoved policy hw requests rest a c
moved_more policy hw requests left r rest a b c first m t = record {
  gone = m.gone ++ r ∷ [];
  whole = m.whole ∙ ap (λ l. m.gone ++ l) first ∙ sym (append_assoc m.gone (r ∷ []) rest);
  entered = enter_more policy hw m.gone r a b c m.entered t;
}

pub moved_all : (policy : Policy) (hw : ℕ) (requests left : List (List Bio)) (a b : CoreState) → left ≡ [] → IsMoved policy hw requests left a b → EnterInTurn policy hw requests a b
moved_all policy hw requests left a b none m = subst (λ l. EnterInTurn policy hw l a b) (sym (m.whole ∙ ap (λ l. m.gone ++ l) none ∙ append-nil m.gone)) m.entered

pub moved_refused : (policy : Policy) (hw : ℕ) (requests left : List (List Bio)) (r : List Bio) (rest : List (List Bio)) (a b : CoreState) (w : SimReason) → left ≡ r ∷ rest → IsMoved policy hw requests left a b → IsReleaseRefused b r hw w → IsMoveRefused policy requests a hw w
moved_refused policy hw requests left r rest a b w first m refused = record {
  before = m.gone;
  bios = r;
  after = rest;
  place = m.whole ∙ ap (λ l. m.gone ++ l) first;
  middle = b;
  entered = m.entered;
  refused = refused;
}

-- how many bios went out, when one more request did
pub counted_out : (out out' n : ℕ) (requests rest : List (List Bio)) (r : List Bio) → requests ≡ r ∷ rest → out' ≡ out + length r → out + sum_by length requests ≡ n → out' + sum_by length rest ≡ n
counted_out out out' n requests rest r first went counted =
    let k : sum_by length requests ≡ length r + sum_by length rest = ap (sum_by length) first ∙ sum_by-cons length r rest in
    omega (arith, k, went, counted)

-- a software queue that is what it was, without its requests
pub queue_drained : (q q' : Queue) → q'.depth ≡ q.depth → q'.limits ≡ q.limits → q'.requests ≡ [] → q'.bios_in ≡ q.bios_in → q'.bios_out + sum_by length q'.requests ≡ q.bios_out + sum_by length q.requests → q' ≡ drained q
queue_drained q q' d l r i o =
    let none : sum_by length q'.requests ≡ 0 = ap (sum_by length) r in
    let out : q'.bios_out ≡ q.bios_out + sum_by length q.requests = omega (arith, none, o) in
    queue_is q' (drained q) d l r i out
  where
    queue_is : (a b : Queue) → a.depth ≡ b.depth → a.limits ≡ b.limits → a.requests ≡ b.requests → a.bios_in ≡ b.bios_in → a.bios_out ≡ b.bios_out → a ≡ b
    queue_is a b d l r i o =
        ap (λ x. record { depth = x; limits = a.limits; requests = a.requests; bios_in = a.bios_in; bios_out = a.bios_out }) d
        ∙ ap (λ x. record { depth = b.depth; limits = x; requests = a.requests; bios_in = a.bios_in; bios_out = a.bios_out }) l
        ∙ ap (λ x. record { depth = b.depth; limits = b.limits; requests = x; bios_in = a.bios_in; bios_out = a.bios_out }) r
        ∙ ap (λ x. record { depth = b.depth; limits = b.limits; requests = b.requests; bios_in = x; bios_out = a.bios_out }) i
        ∙ ap (λ x. record { depth = b.depth; limits = b.limits; requests = b.requests; bios_in = b.bios_in; bios_out = x }) o

-- a software queue that has no requests is drained
pub drained_already : (q : Queue) → q.requests ≡ [] → drained q ≡ q
drained_already q none = sym (queue_drained q q refl refl none refl refl)

-- where there are none, the core stays as it is
pub none_enters : (policy : Policy) (hw : ℕ) (requests : List (List Bio)) (a : CoreState) → length requests ≡ 0 → EnterInTurn policy hw requests a a
unfolding EnterInTurn
none_enters policy hw [] a e = refl
none_enters policy hw (r ∷ rest) a e = absurd (omega (arith, e))

-- a plug and a software queue after a flush
pub plug_flushed : (p p' : Plug) → p'.limits ≡ p.limits → p'.requests ≡ [] → p' ≡ flushed_plug p
plug_flushed p p' l r = ap (λ x. record { limits = x; requests = p'.requests }) l ∙ ap (λ x. record { limits = p.limits; requests = x }) r

pub queue_with : (q q' : Queue) (requests left : List (List Bio)) → q'.depth ≡ q.depth → q'.limits ≡ q.limits → q'.bios_out ≡ q.bios_out → left ≡ [] → q'.requests ++ left ≡ q.requests ++ requests → q'.bios_in + length (bios_in left) ≡ q.bios_in + length (bios_in requests) → q' ≡ with_requests q requests
queue_with q q' requests left d l o none r i =
    let zero_left : length (bios_in left) ≡ 0 = ap (λ x. length (bios_in x)) none in
    let came : q'.bios_in ≡ q.bios_in + length (bios_in requests) = omega (arith, zero_left, i) in
    let has : q'.requests ≡ q.requests ++ requests = sym (ap (λ x. q'.requests ++ x) none ∙ append-nil q'.requests) ∙ r in
    ap (λ x. record { depth = x; limits = q'.limits; requests = q'.requests; bios_in = q'.bios_in; bios_out = q'.bios_out }) d
    ∙ ap (λ x. record { depth = q.depth; limits = x; requests = q'.requests; bios_in = q'.bios_in; bios_out = q'.bios_out }) l
    ∙ ap (λ x. record { depth = q.depth; limits = q.limits; requests = x; bios_in = q'.bios_in; bios_out = q'.bios_out }) has
    ∙ ap (λ x. record { depth = q.depth; limits = q.limits; requests = q.requests ++ requests; bios_in = x; bios_out = q'.bios_out }) came
    ∙ ap (λ x. record { depth = q.depth; limits = q.limits; requests = q.requests ++ requests; bios_in = q.bios_in + length (bios_in requests); bios_out = x }) o

-- the chains at no step, and one step more
pub drain_none : (policy : Policy) (count : ℕ) (queues : List Queue) (core : CoreState) → DrainInTurn policy count 0 queues core queues core
unfolding DrainInTurn
drain_none policy count queues core = (refl, refl)

pub drain_more : (policy : Policy) (count n : ℕ) (q q' q'' : List Queue) (a b c : CoreState) → DrainInTurn policy count n q a q' b → Drains policy count n q' b q'' c → DrainInTurn policy count (n + 1) q a q'' c
unfolding DrainInTurn
drain_more policy count n q q' q'' a b c h d = rw add-one (q', b, h, d)

pub issue_none : (policy : Policy) (a : CoreState) → IssueInTurn policy 0 a a
unfolding IssueInTurn
issue_none policy a = refl

pub issue_given : (policy : Policy) (n : ℕ) (a b c : CoreState) → IssueInTurn policy n a b → GivesCommand policy n b c → IssueInTurn policy (n + 1) a c
unfolding IssueInTurn
issue_given policy n a b c h d = rw add-one (b, h, inr d)

pub issue_passed : (policy : Policy) (n : ℕ) (a b c : CoreState) → IssueInTurn policy n a b → IsUsed b.events n → c ≡ b → IssueInTurn policy (n + 1) a c
unfolding IssueInTurn
issue_passed policy n a b c h t e = rw add-one (b, h, inl (t, e))

pub complete_none : (policy : Policy) (a : CoreState) → CompleteInTurn policy 0 a a
unfolding CompleteInTurn
complete_none policy a = refl

pub complete_done : (policy : Policy) (n : ℕ) (a b c : CoreState) → CompleteInTurn policy n a b → Completes policy.told_done b n c → CompleteInTurn policy (n + 1) a c
unfolding CompleteInTurn
complete_done policy n a b c h d = rw add-one (b, h, inl d)

pub complete_passed : (policy : Policy) (n : ℕ) (a b c : CoreState) → CompleteInTurn policy n a b → (IsInFlight b n → ⊥) → c ≡ b → CompleteInTurn policy (n + 1) a c
unfolding CompleteInTurn
complete_passed policy n a b c h never e = rw add-one (b, h, inr (never, e))

-- nothing is in flight, so the tags that are left are passed over
complete_idle_suc : (policy : Policy) (n k : ℕ) (a b : CoreState) → CompleteInTurn policy n a b → ((tag : ℕ) → IsInFlight b tag → ⊥) → CompleteInTurn policy (n + k) a b
complete_idle_suc policy n zero a b h never = subst (λ m. CompleteInTurn policy m a b) (let e : n ≡ n + zero = omega arith in e) h
complete_idle_suc policy n (suc k) a b h never = subst (λ m. CompleteInTurn policy m a b) (let e : (n + k) + 1 ≡ n + suc k = omega arith in e) (complete_passed policy (n + k) a b b (complete_idle_suc policy n k a b h never) (never (n + k)) refl)

pub complete_idle : (policy : Policy) (n m : ℕ) (a b : CoreState) → n ≤ m → CompleteInTurn policy n a b → ((tag : ℕ) → IsInFlight b tag → ⊥) → CompleteInTurn policy m a b
complete_idle policy n m a b le h never = subst (λ k. CompleteInTurn policy k a b) (let e : n + (m - n) ≡ m = omega arith in e) (complete_idle_suc policy n (m - n) a b h never)

pub work_none : (policy : Policy) (a : CoreState) → WorkInTurn policy 0 a a
unfolding WorkInTurn
work_none policy a = refl

pub work_more : (policy : Policy) (n : ℕ) (a b c : CoreState) → WorkInTurn policy n a b → Works policy b c → WorkInTurn policy (n + 1) a c
unfolding WorkInTurn
work_more policy n a b c h d = rw add-one (b, h, d)
