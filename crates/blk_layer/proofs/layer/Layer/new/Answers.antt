use Rattle.std.proofs.Common.{◌≡◌, rules}
use Rattle.blk_layer.proofs.Counted.{fault_same, can_same}
use Rattle.blk_layer.proofs.layer.Layer.new.Goals as goal

pub returns-in-Some-clause-fault : goal.returns-in-Some-clause-fault
returns-in-Some-clause-fault g c =
    let hw : c.hw-hw.result ≡ c.args.core.setup.hw = search rules in
    fault_same c.hw-hw.result c.args.core.setup.hw c.args.map c.args.soft_depth c.as_slice.result.now c.args.worker_queues.items c.in-Some.why hw c.as_slice.ensures.value c.in-Some.ensures.some

pub make-requires-clause-can : goal.make-requires-clause-can
make-requires-clause-can g c =
    let hw : c.hw-hw.result ≡ g.L.Named.setup.hw = search rules in
    can_same c.hw-hw.result g.L.Named.setup.hw c.args.map c.args.soft_depth c.as_slice.result.now c.args.worker_queues.items hw c.as_slice.ensures.value c.in-None.ensures.none
