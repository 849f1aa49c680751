use Rattle.std.proofs.Common.{◌≤◌, arith}
use Rattle.blk_load.proofs.Made.{few_below, map_counts, no_map_fault}
use Rattle.blk_load.proofs.running.map_of.Goals as goal

pub unreachable-requires : goal.unreachable-requires
unreachable-requires c =
    let low = few_below c.hw_queues.result c.args.load.now.submitters c.args.load.now.workers c.hw_queues.ensures.value in
    let most : c.args.load.now.submitters ≤ 64 = omega (arith, c.requires.few_submitters) in
    let turns = c.in_ok-entries.ensures in
    no_map_fault c.args.load.now.submitters c.hw_queues.result c.in_ok-entries.entries.items turns.turn turns.below c.hw_queues.ensures.some low c.hw_queues.ensures.few most
    c.in-Err.field-0 c.in-Err.ensures.answer

pub returns-clause-count : goal.returns-clause-count
returns-clause-count c =
    let low = few_below c.hw_queues.result c.args.load.now.submitters c.args.load.now.workers c.hw_queues.ensures.value in
    map_counts c.args.load.now.submitters c.hw_queues.result _ c.in_ok-entries.entries.items c.in-Ok.map c.in_ok-entries.ensures.turn c.hw_queues.ensures.some low
    c.hw_queues.ensures.value c.in-Ok.ensures.ok
