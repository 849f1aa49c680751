use Rattle.std.proofs.Common.{◌≤◌, ◌+◌, ap, sym, subst, arith, set}
use Rattle.blk_sched.specs.Meaning.{Waiting}
use Rattle.blk_replay.specs.Replay.{standing}
use Rattle.blk_replay.proofs.Between.{IsBetween, is_waiting, some_wait, round_over}
use Rattle.blk_replay.proofs.Legal.{at_first, tick_start, is_replay, is_legal}
use Rattle.blk_replay.proofs.replay.Goals as goal

pub loop-served-init : goal.loop-served-init
loop-served-init g c =
    at_first g.S.Scheduler.policy c.args.requests.now c.in_ok-rounds.rounds.items (g.S.Scheduler.meaning c.on_tick.new.self) (g.S.Scheduler.kept c.on_tick.new.self) c.requires.can (tick_start (g.S.Scheduler.meaning c.args.scheduler) (g.S.Scheduler.meaning c.on_tick.new.self) c.on_tick.ensures.same c.requires.start) (c.in_ok-rounds.ensures.items_if_clones_equal (λ y e. e))

pub serve-id-requires-clause-released : goal.serve-id-requires-clause-released
serve-id-requires-clause-released g c = λ id w there.
    let it = is_waiting g.S.Scheduler.policy c.args.requests.now (standing (g.S.Scheduler.meaning c.on_tick.new.self) (g.S.Scheduler.kept c.on_tick.new.self)) c.loop-served.rounds.items c.loop-served.entered c.in_ok-entered.entered c.loop-served.served (standing (g.S.Scheduler.meaning c.loop-served.scheduler) (g.S.Scheduler.kept c.loop-served.scheduler)) (g.S.Scheduler.meaning c.enter.new.scheduler).pending c.loop-served.invariant c.in_ok-entered.ensures.entered id w there in
    subst (λ (x : Waiting). x.release ≤ c.loop-served.served + 1) (sym it.is) it.released

pub serve-id-requires-clause-own : goal.serve-id-requires-clause-own
serve-id-requires-clause-own g c = λ id w there.
    let it = is_waiting g.S.Scheduler.policy c.args.requests.now (standing (g.S.Scheduler.meaning c.on_tick.new.self) (g.S.Scheduler.kept c.on_tick.new.self)) c.loop-served.rounds.items c.loop-served.entered c.in_ok-entered.entered c.loop-served.served (standing (g.S.Scheduler.meaning c.loop-served.scheduler) (g.S.Scheduler.kept c.loop-served.scheduler)) (g.S.Scheduler.meaning c.enter.new.scheduler).pending c.loop-served.invariant c.in_ok-entered.ensures.entered id w there in
    ap (λ (x : Waiting). x.hw) it.is

pub serve-id-requires-clause-some : goal.serve-id-requires-clause-some
serve-id-requires-clause-some g c =
    some_wait g.S.Scheduler.policy c.args.requests.now (standing (g.S.Scheduler.meaning c.on_tick.new.self) (g.S.Scheduler.kept c.on_tick.new.self)) c.loop-served.rounds.items c.loop-served.entered c.in_ok-entered.entered c.loop-served.served (standing (g.S.Scheduler.meaning c.loop-served.scheduler) (g.S.Scheduler.kept c.loop-served.scheduler)) (g.S.Scheduler.meaning c.enter.new.scheduler).pending c.requires.can (omega arith) c.loop-served.invariant c.in_ok-entered.ensures.entered c.in_ok-entered.ensures.later

pub loop-served-preserved : goal.loop-served-preserved
loop-served-preserved g c =
    let served = c.serve-id.ensures in
    subst (λ id. IsBetween g.S.Scheduler.policy c.args.requests.now (standing (g.S.Scheduler.meaning c.on_tick.new.self) (g.S.Scheduler.kept c.on_tick.new.self)) (set c.loop-served.rounds.items id (c.loop-served.served + 1)) c.in_ok-entered.entered (c.loop-served.served + 1) (standing (g.S.Scheduler.meaning c.serve-id.new.sched) (g.S.Scheduler.kept c.serve-id.new.sched)))
    (sym served.1)
    (round_over g.S.Scheduler.policy c.args.requests.now (standing (g.S.Scheduler.meaning c.on_tick.new.self) (g.S.Scheduler.kept c.on_tick.new.self)) c.loop-served.rounds.items c.loop-served.entered c.in_ok-entered.entered c.loop-served.served (standing (g.S.Scheduler.meaning c.loop-served.scheduler) (g.S.Scheduler.kept c.loop-served.scheduler)) (g.S.Scheduler.meaning c.enter.new.scheduler) (g.S.Scheduler.kept c.enter.new.scheduler) served.0 (standing (g.S.Scheduler.meaning c.serve-id.new.sched) (g.S.Scheduler.kept c.serve-id.new.sched)) c.requires.can c.loop-served.invariant c.in_ok-entered.ensures.entered c.in_ok-entered.ensures.later c.in_ok-entered.ensures.rest c.in_ok-entered.ensures.kept served.2)

pub returns-clause-replay : goal.returns-clause-replay
returns-clause-replay g c =
    is_replay g.S.Scheduler.policy c.args.requests.now (g.S.Scheduler.meaning c.args.scheduler) (g.S.Scheduler.meaning c.on_tick.new.self) (g.S.Scheduler.kept c.args.scheduler) (g.S.Scheduler.kept c.on_tick.new.self)
    c.loop-served.rounds.items c.loop-served.entered c.loop-served.served (standing (g.S.Scheduler.meaning c.loop-served.scheduler) (g.S.Scheduler.kept c.loop-served.scheduler))
    c.on_tick.ensures.same c.on_tick.ensures.told c.requires.start (omega arith) c.loop-served.invariant

pub returns-clause-legal : goal.returns-clause-legal
returns-clause-legal g c =
    is_legal g.S.Scheduler.policy c.args.requests.now (standing (g.S.Scheduler.meaning c.on_tick.new.self) (g.S.Scheduler.kept c.on_tick.new.self)) c.loop-served.rounds.items c.loop-served.entered c.loop-served.served (standing (g.S.Scheduler.meaning c.loop-served.scheduler) (g.S.Scheduler.kept c.loop-served.scheduler)) (omega arith) c.loop-served.invariant
