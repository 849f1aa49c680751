use Rattle.std.proofs.Common.{◌≡◌, ◌+◌, ◌++◌, rules, take}
use Rattle.blk_layer.specs.Seats.{SubmitterSeat}
use Rattle.blk_layer.specs.Closing.{all_accepted}
use Rattle.blk_layer.proofs.Gathered.{accepted_more}
use Rattle.blk_layer.proofs.closing.accepted.Goals as goal

pub loop-submitter-preserved : goal.loop-submitter-preserved
loop-submitter-preserved g c =
    let i = c.loop-submitter.submitter-index in
    let item : SubmitterSeat = c.submitter-item.result in
    let more : all_accepted (take (i + 1) c.args.submitters.now) ≡ all_accepted (take i c.args.submitters.now) ++ item.accepted = accepted_more c.args.submitters.now i item c.loop-submitter-test.true c.submitter-item.is in
    search (rules, more)
