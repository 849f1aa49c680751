use Rattle.std.proofs.Common.{◌++◌, []}
use Rattle.blk_capture_text.proofs.Resting.{input_from, input_whole, first_untold, rest_of_lines, lines_end, never_both}
use Rattle.blk_capture_text.proofs.summing.stream_lines.Goals as goal

pub take-requires : goal.take-requires
take-requires g c = (c.args.options.now, [], c.in-Ok.ensures c.args.recorder c.args.device)

pub returns-in-Err : goal.returns-in-Err
returns-in-Err g c = λ input h.
    let bad = rw c.as_slice.ensures.value at (c.in-Err.ensures c.args.options.now [] (c.in-Ok.ensures c.args.recorder c.args.device)) in
    first_untold c.args.recorder c.args.device input c.args.records.now.bytes c.args.first.now _ c.in-Err.fault h bad

pub take_rest-requires-clause-along : goal.take_rest-requires-clause-along
take_rest-requires-clause-along g c =
    (c.args.options.now, c.args.first.now.bytes.items, rw c.as_slice.ensures.value at (c.in-Ok-take.ensures c.args.options.now [] (c.in-Ok.ensures c.args.recorder c.args.device)))

pub returns-in-Err-take_rest : goal.returns-in-Err-take_rest
returns-in-Err-take_rest g c = λ input h.
    let along = rw c.as_slice.ensures.value at (c.in-Ok-take.ensures c.args.options.now [] (c.in-Ok.ensures c.args.recorder c.args.device)) in
    rest_of_lines c.args.recorder c.args.device input c.args.records.now.bytes c.args.first.now _ c.in-Err-take_rest.fault h c.if-first.false
    (c.in-Err-take_rest.ensures c.args.options.now c.args.first.now.bytes.items along)

pub finish-requires : goal.finish-requires
finish-requires g c =
    (c.args.options.now, c.args.first.now.bytes.items, rw c.as_slice.ensures.value at (c.in-Ok-take.ensures c.args.options.now [] (c.in-Ok.ensures c.args.recorder c.args.device)))

pub returns-then-first : goal.returns-then-first
returns-then-first g c = λ input h.
    let along = rw c.as_slice.ensures.value at (c.in-Ok-take.ensures c.args.options.now [] (c.in-Ok.ensures c.args.recorder c.args.device)) in
    lines_end c.args.options.now c.args.recorder c.args.device input c.args.first.now c.args.first.now.bytes.items _ c.finish.result (input_whole input c.args.records.now.bytes c.args.first.now h c.if-first.true)
    (c.finish.ensures c.args.options.now c.args.first.now.bytes.items along)

pub finish-requires-in-Ok-take_rest : goal.finish-requires-in-Ok-take_rest
finish-requires-in-Ok-take_rest g c =
    let along = rw c.as_slice.ensures.value at (c.in-Ok-take.ensures c.args.options.now [] (c.in-Ok.ensures c.args.recorder c.args.device)) in
    let rest = c.in-Ok-take_rest.ensures c.args.options.now c.args.first.now.bytes.items along in
    (c.args.options.now, c.args.first.now.bytes.items ++ rest.rest, rest.along)

pub returns-in-Ok-take_rest : goal.returns-in-Ok-take_rest
returns-in-Ok-take_rest g c = λ input h.
    let along = rw c.as_slice.ensures.value at (c.in-Ok-take.ensures c.args.options.now [] (c.in-Ok.ensures c.args.recorder c.args.device)) in
    let rest = c.in-Ok-take_rest.ensures c.args.options.now c.args.first.now.bytes.items along in
    lines_end c.args.options.now c.args.recorder c.args.device input c.args.first.now (c.args.first.now.bytes.items ++ rest.rest) _ c.finish-in-Ok-take_rest.result
    (input_from input c.args.records.now.bytes c.args.first.now rest.rest h rest.given (λ e. never_both c.args.first.now.is_whole c.if-first.false e))
    (c.finish-in-Ok-take_rest.ensures c.args.options.now (c.args.first.now.bytes.items ++ rest.rest) rest.along)
