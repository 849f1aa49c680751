use Rattle.std.proofs.Common.{◌∙◌, ap, arith, w64}
use Rattle.std.specs.Fmt.{signed_decimal}
use Rattle.std.proofs.lemmas.Int.{to_z-of_z}
use Rattle.blk_records.proofs.Rows.{bound_is, late_long}
use Rattle.text_output.proofs.Drafts.{added}
use Rattle.blk_records.proofs.certificate.push_some_bound.Goals as goal

pub put-named-requires : goal.put-named-requires
put-named-requires c =
    let is = c.as_bytes.ensures.value ∙ c.in_ok-late.ensures.ok ∙ ap signed_decimal (to_z-of_z w64 c.args.lateness c.ranges.lateness) in
    omega (arith, c.in_ok-start.ensures.at.1, late_long c.as_bytes.result.now c.args.lateness is (omega (arith, c.ranges.lateness.sfits)))

pub put-mark-requires : goal.put-mark-requires
put-mark-requires c =
    let is = c.as_bytes.ensures.value ∙ c.in_ok-late.ensures.ok ∙ ap signed_decimal (to_z-of_z w64 c.args.lateness c.ranges.lateness) in
    omega (arith, c.in_ok-start.ensures.at.1, late_long c.as_bytes.result.now c.args.lateness is (omega (arith, c.ranges.lateness.sfits)))

pub put_two-end-requires : goal.put_two-end-requires
put_two-end-requires c =
    let is = c.as_bytes.ensures.value ∙ c.in_ok-late.ensures.ok ∙ ap signed_decimal (to_z-of_z w64 c.args.lateness c.ranges.lateness) in
    omega (arith, c.in_ok-start.ensures.at.1, late_long c.as_bytes.result.now c.args.lateness is (omega (arith, c.ranges.lateness.sfits)))

pub put-draft-requires : goal.put-draft-requires
put-draft-requires c =
    let is = c.as_bytes.ensures.value ∙ c.in_ok-late.ensures.ok ∙ ap signed_decimal (to_z-of_z w64 c.args.lateness c.ranges.lateness) in
    omega (arith, c.in_ok-start.ensures.at.1, late_long c.as_bytes.result.now c.args.lateness is (omega (arith, c.ranges.lateness.sfits)))

pub returns : goal.returns
returns c =
    let is = c.as_bytes.ensures.value ∙ c.in_ok-late.ensures.ok ∙ ap signed_decimal (to_z-of_z w64 c.args.lateness c.ranges.lateness) in
    let written = rw (c.put_two-end.ensures.written, c.put-mark.ensures.written, c.put-named.ensures.written, is, c.put-head.ensures.written) at c.put-draft.ensures.written in
    let start = c.in_ok-start.ensures in
    record { text = added _ _ _ _ _ _ _ start.at.0 start.text (written ∙ bound_is _ c.args.lateness c.args.window) }
