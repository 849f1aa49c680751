use Rattle.std.proofs.Common.{◌≡◌, ◌<◌, ◌-◌, ◌∙◌, length, map, drop, ap, arith}
use Rattle.std.specs.Prelude.{reverse}
use Rattle.std.proofs.lemmas.Option.{slice_get-get_or}
use Rattle.blk_trace.specs.Issues.{issues_of}
use Rattle.blk_report.specs.Services.{service_of}
use Rattle.blk_picture.specs.Boxes.{boxes_of}
use Rattle.blk_picture.proofs.boxes.boxes.Goals as goal

pub service_of-requires : goal.service_of-requires
service_of-requires c =
    let xs = c.issues-issues.result.now in
    let k = c.loop-left.left - 1 in
    let low : k < length xs = omega (arith, ap length c.issues-issues.ensures.issues, c.loop-left.invariant.within, c.loop-left-test.true) in
    (c.issues-issues.ensures.each k _ (slice_get-get_or xs k _ low)).0

pub returns-clause-boxes : goal.returns-clause-boxes
unfolding boxes_of
returns-clause-boxes c =
    let t = c.args.trace.now in
    let none : c.loop-left.left ≡ 0 = let h = c.loop-left-test.false in omega (arith, h) in
    c.loop-left.invariant.boxes_are ∙ ap (λ n. map (service_of t.setup t.events) (reverse (drop n (issues_of t.events)))) none
