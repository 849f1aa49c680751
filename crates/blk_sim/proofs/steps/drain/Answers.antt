use Rattle.std.proofs.Common.{arith, ◌≡◌, ◌≢◌, ◌+◌, ◌<◌, ◌≤◌, ◌-◌, ◌%◌, ◌∙◌, ℕ, List, length, refl, sym, ap, subst, inl, inr}
use Rattle.std.proofs.lemmas.Result.{err_from_is_err_and}
use Rattle.std.specs.Prelude.{slice_get, Some}
use Rattle.std.specs.Option.{option_map}
use Rattle.std.proofs.Math.Nat.{mod-eq_of_lt, add-mod_right}
use Rattle.std.proofs.lemmas.Option.{slice_get_read}
use Rattle.std.proofs.lemmas.Bool.{cases_eq, cases_lt}
use Rattle.std.proofs.lemmas.List.{length-set}
use Rattle.blk_trace.specs.Setups.{Setup}
use Rattle.blk_queues.specs.Queues.{Queue}
use Rattle.blk_sim.specs.Moves.{EnterInTurn, served_requests, drained}
use Rattle.blk_sim.proofs.Chains.{enter_none}
use Rattle.blk_sim.proofs.Events.{chain_took}
use Rattle.blk_sim.proofs.Serving.{served_none, served_past, enter_next, enter_past, none_between, move_later, get_other, get_same, none_past}
use Rattle.blk_sim.proofs.steps.drain.Goals as goal

-- the first software queue of a hardware queue is the one of its own number
below_own : (count hw t : ℕ) → hw < count → t < hw → (t % count) ≢ hw
below_own count hw t below lt here =
    let small : t < count = omega (arith, lt, below) in
    let same : t % count ≡ t = mod-eq_of_lt small in
    absurd (omega (arith, lt, same, here))

pub loop-s-init : goal.loop-s-init
loop-s-init g c =
    let Q : List Queue = c.args.queues.now.items in
    let n : ℕ = c.args.core.now.setup.hw in
    record {
      entered = subst (λ m. EnterInTurn g.S.Scheduler.policy c.args.hw (served_requests Q n c.args.hw m) c.args.core.now c.args.core.now) (let e : 0 + c.args.hw ≡ c.args.hw = omega arith in e) (enter_past _ Q n c.args.hw 0 c.args.hw c.args.core.now c.args.core.now (λ j ge lt. below_own n c.args.hw j c.requires.queue (omega (arith, lt)))
          (subst (λ l. EnterInTurn g.S.Scheduler.policy c.args.hw l c.args.core.now c.args.core.now) (sym (served_none Q n c.args.hw)) (enter_none _ _ _)));
      setup = refl;
      own = mod-eq_of_lt c.requires.queue;
      as_many = refl;
      later = λ t le. refl;
      others = λ t ne. refl;
      served = λ t lt e. absurd (below_own n c.args.hw t c.requires.queue lt e);
    }

pub drain_queue-requires-clause-limits : goal.drain_queue-requires-clause-limits
drain_queue-requires-clause-limits g c =
    let i = c.loop-s.invariant in
    let lt : c.loop-s.s < length c.loop-s.queues.items = omega arith in
    let at : slice_get c.loop-s.queues.items c.loop-s.s ≡ Some c.index_mut.result.now = slice_get_read c.loop-s.queues.items (length c.loop-s.queues.items) c.loop-s.s c.index_mut.result.now refl lt c.index_mut.ensures.value in
    c.requires.limits c.loop-s.s c.index_mut.result.now (sym (i.later c.loop-s.s (omega arith)) ∙ at) ∙ sym (ap (λ (s : Setup). s.limits) i.setup)

pub loop-s-preserved : goal.loop-s-preserved
loop-s-preserved g c =
    let i = c.loop-s.invariant in
    let Q : List Queue = c.args.queues.now.items in
    let n : ℕ = c.args.core.now.setup.hw in
    let is : c.hw-count.result ≡ c.args.core.now.setup.hw = c.hw-count.ensures.value ∙ ap (λ (s : Setup). s.hw) (c.setup.ensures ∙ c.trace.ensures.setup) in
    let lt : c.loop-s.s < length c.loop-s.queues.items = omega arith in
    let at : slice_get c.loop-s.queues.items c.loop-s.s ≡ Some c.index_mut.result.now = slice_get_read c.loop-s.queues.items (length c.loop-s.queues.items) c.loop-s.s c.index_mut.result.now refl lt c.index_mut.ensures.value in
    let was : slice_get Q c.loop-s.s ≡ Some c.index_mut.result.now = sym (i.later c.loop-s.s (omega arith)) ∙ at in
    let moved = c.in_ok-drain_queue.ensures.entered in
    let on : EnterInTurn g.S.Scheduler.policy c.args.hw (served_requests Q n c.args.hw (c.loop-s.s + 1)) c.args.core.now c.drain_queue.new.core =
    enter_next _ Q n c.args.hw c.loop-s.s c.index_mut.result.now c.args.core.now c.loop-s.core c.drain_queue.new.core was i.own i.entered moved in
    record {
      entered = subst (λ m. EnterInTurn g.S.Scheduler.policy c.args.hw (served_requests Q n c.args.hw m) c.args.core.now c.drain_queue.new.core) (let e : (c.loop-s.s + 1) + (n - 1) ≡ c.loop-s.s + c.hw-count.result = omega (arith, is, c.requires.queue) in e)
          (enter_past _ Q n c.args.hw (c.loop-s.s + 1) (n - 1) c.args.core.now c.drain_queue.new.core (λ j ge less. none_between n c.args.hw c.loop-s.s j i.own (omega (arith, ge)) (omega (arith, less, c.requires.queue))) on);
      setup = (chain_took _ _ _ _ _ moved).setup ∙ i.setup;
      own = ap (λ k. (c.loop-s.s + k) % n) is ∙ add-mod_right c.loop-s.s n ∙ i.own;
      as_many = length-set c.loop-s.queues.items c.loop-s.s c.drain_queue.new.queue ∙ i.as_many;
      later = λ t le. get_other c.loop-s.queues.items c.loop-s.s t c.drain_queue.new.queue (λ e. absurd (omega (arith, le, e, is, c.requires.queue))) ∙ i.later t (omega (arith, le));
      others = λ t ne. get_other c.loop-s.queues.items c.loop-s.s t c.drain_queue.new.queue (λ e. ne (ap (λ k. k % n) e ∙ i.own)) ∙ i.others t ne;
      served = λ t less e. elim (cases_eq t c.loop-s.s) [
        | inl same ↦ ap (slice_get _) same ∙ get_same c.loop-s.queues.items c.loop-s.s c.index_mut.result.now c.drain_queue.new.queue at
            ∙ ap Some c.in_ok-drain_queue.ensures.emptied ∙ ap (option_map drained) (sym was) ∙ ap (λ k. option_map drained (slice_get Q k)) (sym same)
        | inr other ↦ get_other c.loop-s.queues.items c.loop-s.s t c.drain_queue.new.queue other ∙ elim (cases_lt t c.loop-s.s) [
          | inl lower ↦ i.served t lower e
          | inr higher ↦ absurd (none_between n c.args.hw c.loop-s.s t i.own (omega (arith, higher, other)) (omega (arith, less, is)) e)
        ]
      ];
    }

pub returns-clause-drained : goal.returns-clause-drained
returns-clause-drained g c =
    let i = c.loop-s.invariant in
    let Q : List Queue = c.args.queues.now.items in
    let n : ℕ = c.args.core.now.setup.hw in
    let end : length Q ≤ c.loop-s.s = let a = i.as_many in omega arith in
    record {
      emptied = record {
        as_many = i.as_many;
        served = λ t e. elim (cases_lt t c.loop-s.s) [
          | inl lt ↦ i.served t lt e
          | inr ge ↦
              let past : length Q ≤ t = omega (arith, end, ge) in
              i.later t ge ∙ none_past Q t past
        ];
        others = i.others;
      };
      entered = subst (λ l. EnterInTurn g.S.Scheduler.policy c.args.hw l c.args.core.now c.loop-s.core) (served_past Q n c.args.hw c.loop-s.s end) i.entered;
    }

pub returns-in_err-drain_queue-clause-refused : goal.returns-in_err-drain_queue-clause-refused
returns-in_err-drain_queue-clause-refused g c = let p = err_from_is_err_and c.from_residual.result c.from_residual.ensures.1 in rw (p.1, p.2) (
    let i = c.loop-s.invariant in
    let Q : List Queue = c.args.queues.now.items in
    let lt : c.loop-s.s < length c.loop-s.queues.items = omega arith in
    let lt0 : c.loop-s.s < length Q = let b = i.as_many in omega arith in
    let at : slice_get c.loop-s.queues.items c.loop-s.s ≡ Some c.index_mut.result.now = slice_get_read c.loop-s.queues.items (length c.loop-s.queues.items) c.loop-s.s c.index_mut.result.now refl lt c.index_mut.ensures.value in
    move_later _ Q c.args.core.now.setup.hw c.args.hw c.loop-s.s (length Q) c.index_mut.result.now c.args.core.now c.loop-s.core _ lt0 (sym (i.later c.loop-s.s (omega arith)) ∙ at) i.own i.entered c.in_err-drain_queue.ensures.refused)
