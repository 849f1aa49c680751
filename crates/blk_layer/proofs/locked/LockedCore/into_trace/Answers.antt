use Rattle.std.proofs.Common.{sym, subst, List}
use Rattle.std.proofs.Math.Logic.{∥∥₁_map}
use Rattle.blk_trace.specs.Happened.{Happened}
use Rattle.blk_core.specs.Runs.{MakesCalls}
use Rattle.blk_layer.specs.Rounds.{EndsFullRounds}
use Rattle.blk_layer.specs.Runs.{MakesLayerCalls}
use Rattle.blk_layer.proofs.Ruled.{calls_run}
use Rattle.blk_layer.proofs.locked.LockedCore.into_trace.Goals as goal

pub returns-clause-ran : goal.returns-clause-ran
returns-clause-ran g c =
    let locked = c.args.self in
    let S = g.S.Scheduler in
    ∥∥₁_map locked.ran (λ runs. (
      locked.core,
      subst (λ (es : List Happened). MakesCalls S.policy g.L.Named.start es locked.core) (sym c.into_trace.ensures.events)
          (calls_run S.policy g.L.Named.map g.L.Named.queues g.L.Named.start locked.core.events locked.core runs),
    ))

pub returns-clause-routed : goal.returns-clause-routed
returns-clause-routed g c =
    let locked = c.args.self in
    let S = g.S.Scheduler in
    ∥∥₁_map locked.ran (λ runs. (locked.core, subst (λ (es : List Happened). MakesLayerCalls S.policy g.L.Named.map g.L.Named.queues g.L.Named.start es locked.core) (sym c.into_trace.ensures.events) runs))

pub returns-clause-full : goal.returns-clause-full
returns-clause-full g c = λ off.
    let core = c.args.self.core in
    subst (λ s. EndsFullRounds s c.into_trace.result.events) (sym c.into_trace.ensures.setup) (subst (λ (es : List Happened). EndsFullRounds core.setup es) (sym c.into_trace.ensures.events) (c.args.self.full off))
