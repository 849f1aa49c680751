use Rattle.std.proofs.Common.{◌≡◌, ◌∙◌, Bool, inl, subst, sym}
use Rattle.blk_records.specs.Reads.{IsOutside}
use Rattle.blk_records.specs.declared.fault.TextFault.{TextFault}
use Rattle.blk_records.specs.declared.fault.TextReason.{TextReason}
use Rattle.blk_capture_text.proofs.Resting.{records_from, records_not_from, lines_from, lines_not_from}
use Rattle.blk_capture_text.proofs.summing.stream_input.Goals as goal

pub returns-in-Ok-read_rest-clause-ok : goal.returns-in-Ok-read_rest-clause-ok
returns-in-Ok-read_rest-clause-ok g c =
    let input = c.args.records.now.bytes in
    let left = c.read_first.new.records.bytes in
    let is = sym (rw c.as_slice.ensures.value at c.in-Ok-form_taken.ensures) ∙ c.in-Records.is in
    records_from c.args.options.now c.args.form c.args.device input left c.in-Ok-read_first.first c.in-Ok-read_rest.bytes.items c.stream_records.result c.in-Ok-read_first.ensures.ok (c.in-Ok-read_rest.ensures.ok input c.in-Ok-read_first.ensures.ok) is (rw c.as_slice-in-Ok-read_rest.ensures.value at c.stream_records.ensures.ok)

pub returns-in-Ok-read_rest-clause-err : goal.returns-in-Ok-read_rest-clause-err
returns-in-Ok-read_rest-clause-err g c =
    let input = c.args.records.now.bytes in
    let left = c.read_first.new.records.bytes in
    let is = sym (rw c.as_slice.ensures.value at c.in-Ok-form_taken.ensures) ∙ c.in-Records.is in
    records_not_from c.args.form c.args.device input left c.in-Ok-read_first.first c.in-Ok-read_rest.bytes.items _ c.stream_records.result c.in-Ok-read_first.ensures.ok (c.in-Ok-read_rest.ensures.ok input c.in-Ok-read_first.ensures.ok) is (rw c.as_slice-in-Ok-read_rest.ensures.value at c.stream_records.ensures.err)

pub returns-clause-ok : goal.returns-clause-ok
returns-clause-ok g c =
    let input = c.args.records.now.bytes in
    let left = c.read_first.new.records.bytes in
    let is = sym (rw c.as_slice.ensures.value at c.in-Ok-form_taken.ensures) ∙ c.in-Printed.is in
    lines_from c.args.options.now c.args.form c.in-Printed.recorder c.args.device input left c.in-Ok-read_first.first _ c.stream_lines.result c.in-Ok-read_first.ensures.ok is (c.stream_lines.ensures input c.in-Ok-read_first.ensures.ok)

pub returns-clause-err : goal.returns-clause-err
returns-clause-err g c =
    let input = c.args.records.now.bytes in
    let left = c.read_first.new.records.bytes in
    let is = sym (rw c.as_slice.ensures.value at c.in-Ok-form_taken.ensures) ∙ c.in-Printed.is in
    lines_not_from c.args.options.now c.args.form c.in-Printed.recorder c.args.device input left c.in-Ok-read_first.first _ c.stream_lines.result c.in-Ok-read_first.ensures.ok is (c.stream_lines.ensures input c.in-Ok-read_first.ensures.ok)

-- the reader failed, or memory ran out as it read
outside : (failed : Bool) (f : TextFault) (why : TextReason) → f.why ≡ why → IsOutside failed why → IsOutside failed f.why
outside failed f why is out = subst (IsOutside failed) (sym is) out

pub returns-in-Err-clause-err : goal.returns-in-Err-clause-err
returns-in-Err-clause-err g c = inl (outside c.read_first.new.records.failed c.fault.result c.in-Err.why c.fault.ensures.why c.in-Err.ensures.err)

pub returns-in-Records-clause-err : goal.returns-in-Records-clause-err
returns-in-Records-clause-err g c = inl (outside c.read_rest.new.records.failed c.fault-in-Err-read_rest.result c.in-Err-read_rest.why c.fault-in-Err-read_rest.ensures.why c.in-Err-read_rest.ensures.err)
