use Rattle.std.proofs.Common.{◌≡◌, ◌+◌, ◌*◌, ◌≤◌, ◌<◌, arith, get_or}
use Rattle.csv.specs.Records.{fields_of}
use Rattle.blk_capture_text.specs.Recorded.{time_at}
use Rattle.blk_capture_text.proofs.RowLaws.{lack_is, late_row, spelled_row, seconds_is, nanoseconds_are, told_record}
use Rattle.blk_capture_text.proofs.record.read_row.Goals as goal

pub returns-in-Err-clause-err : goal.returns-in-Err-clause-err
returns-in-Err-clause-err c = lack_is c.args.last (fields_of c.args.row.now) c.in-Err.why c.in-Err.ensures.err

pub returns-then-time-last-clause-err : goal.returns-then-time-last-clause-err
returns-then-time-last-clause-err c =
    let row = fields_of c.args.row.now in
    let seconds = seconds_is row c.in-Ok.numbers c.in-Ok.ensures.ok in
    let nanos = nanoseconds_are row c.in-Ok.numbers c.in-Ok.ensures.ok in
    let early : time_at row < c.args.last = omega (arith, c.if-time-last.true, nanos, seconds) in
    late_row c.args.last row c.in-Ok.numbers c.in-Ok.ensures.ok early

pub returns-clause-after : goal.returns-clause-after
returns-clause-after c =
    let row = fields_of c.args.row.now in
    let seconds = seconds_is row c.in-Ok.numbers c.in-Ok.ensures.ok in
    let nanos = nanoseconds_are row c.in-Ok.numbers c.in-Ok.ensures.ok in
    let order : c.args.last ≤ time_at row = omega (arith, c.if-time-last.false, nanos, seconds) in
    spelled_row c.args.last row c.in-Ok.numbers c.in-Ok.ensures.ok order

pub returns-clause-value : goal.returns-clause-value
returns-clause-value c =
    let row = fields_of c.args.row.now in
    let seconds = seconds_is row c.in-Ok.numbers c.in-Ok.ensures.ok in
    let nanos = nanoseconds_are row c.in-Ok.numbers c.in-Ok.ensures.ok in
    let time : get_or c.in-Ok.numbers 0 0 * 1_000_000_000 + get_or c.in-Ok.numbers 1 0 ≡ time_at row = omega (arith, nanos, seconds) in
    told_record row c.in-Ok.numbers (get_or c.in-Ok.numbers 0 0 * 1_000_000_000 + get_or c.in-Ok.numbers 1 0) c.action_at.result c.op_at.result c.in-Ok.ensures.ok time c.action_at.ensures c.op_at.ensures
