use Rattle.std.proofs.Common.{rules, ◌≡◌, [], ◌∙◌, ◌+◌, ◌++◌, take, sym, ap}
use Rattle.blk_layer.specs.Seats.{WorkerSeat}
use Rattle.blk_layer.specs.Closing.{all_ran}
use Rattle.blk_layer.specs.Inside.Closing.{all_left}
use Rattle.blk_layer.proofs.Checked.{lists_more}
use Rattle.blk_layer.proofs.Gathered.{ran_more, no_ran}
use Rattle.blk_layer.proofs.closing.commands_by_seat.Goals as goal

pub loop-worker-init : goal.loop-worker-init
loop-worker-init g c =
    let none : all_ran [] ≡ [] = no_ran in
    search (rules, none)

pub loop-worker-preserved : goal.loop-worker-preserved
loop-worker-preserved g c =
    let i = c.loop-worker.worker-index in
    let seats = c.args.workers.now in
    let item : WorkerSeat = c.worker-item.result in
    let more : all_ran (take (i + 1) seats) ≡ all_ran (take i seats) ++ item.ran = ran_more seats i item c.loop-worker-test.true c.worker-item.is in
    let own : c.of.result ≡ item.ran = search rules in
    ap all_left c.in_ok-push.ensures.items ∙ lists_more c.loop-worker.accounts.items c.of.result ∙ ap (λ l. l ++ c.of.result) c.loop-worker.invariant ∙ ap (λ l. all_ran (take i seats) ++ l) own ∙ sym more
