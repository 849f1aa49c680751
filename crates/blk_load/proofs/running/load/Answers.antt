use Rattle.std.proofs.Common.{rules, ◌≡◌, ◌∙◌, ap, refl}
use Rattle.blk_trace.specs.Setups.{Setup}
use Rattle.blk_schedulers.specs.Numbers.{IsLoad}
use Rattle.blk_load.proofs.Made.{can_make_of}
use Rattle.blk_load.proofs.Ruled.{run_by}
use Rattle.blk_load.proofs.running.load.Goals as goal

pub on_layer-requires-clause-can : goal.on_layer-requires-clause-can
on_layer-requires-clause-can g c κs within =
    let l = c.args.load in
    let is : IsLoad l = search rules in
    let own : c.in-Ok-new.core.setup.hw ≡ c.setup.result.hw = rw c.in-Ok-new.ensures.ok refl in
    let hw = own ∙ ap (λ (s : Setup). s.hw) c.setup.ensures in
    let turns = c.in-Ok-in_turn.ensures in
    can_make_of l c.in-Ok-new.core.setup.hw c.hw_queues.result c.in-Ok.map c.in-Ok-in_turn.queues.items hw c.hw_queues.ensures.value is c.in-Ok.ensures.count turns.turn turns.below

pub returns-in-Ok-on_layer-clause-ran : goal.returns-in-Ok-on_layer-clause-ran
returns-in-Ok-on_layer-clause-ran g c =
    let S = g.S.Scheduler in
    let scheduler = c.args.scheduler in
    let told = c.in-Ok-on_layer.ensures in
    run_by S.policy c.in-Ok-new.core c.setup.result (S.meaning scheduler) (S.kept scheduler) c.args.load c.in-Ok-on_layer.loaded.trace
    c.in-Ok-new.ensures.ok c.setup.ensures told.settled.setup told.ran
