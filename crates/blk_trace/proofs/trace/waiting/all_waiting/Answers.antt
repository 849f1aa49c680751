use Rattle.std.proofs.Common.{◌≡◌, List, subst, IfOk}
use Rattle.std.specs.List.{flat_map}
use Rattle.std.specs.BTreeMap.{values}
use Rattle.blk_bio.specs.Bios.{Bio}
use Rattle.blk_trace.specs.Meaning.{waiting_of}
use Rattle.blk_trace.proofs.Rising.{all_in_order}
use Rattle.blk_trace.proofs.trace.waiting.all_waiting.Goals as goal

pub returns : goal.returns
returns g c =
    let e : flat_map (λ bios. bios) (values c.in_ok-requests.requests) ≡ waiting_of c.args.events.now =
    all_in_order c.args.setup c.args.events.now c.in_ok-requests.requests c.requires.legal c.in_order.ensures.ordered c.in_ok-requests.ensures in
    subst (λ (l : List Bio). IfOk c.in_order.result (λ v. v.items ≡ l)) e c.in_order.ensures.bios
