use Rattle.std.proofs.Common.{◌≡◌, ◌+◌, count_by, nat_le, arith}
use Rattle.blk_capture.specs.Summaries.{in_flight_at, back_by, out_by}
use Rattle.blk_capture.proofs.Flying.{flying}
use Rattle.blk_capture.proofs.summary.in_flight_at.Goals as goal

pub overflow_sub-result : goal.overflow_sub-result
overflow_sub-result c =
    let all : in_flight_at c.args.requests.now c.args.time + count_by (back_by c.args.time) c.args.requests.now ≡ count_by (out_by c.args.time) c.args.requests.now = flying c.args.requests.now c.args.time c.requires.timed.came_back in
    let back : count_by (λ x. nat_le x c.args.time) c.args.completions.now ≡ count_by (back_by c.args.time) c.args.requests.now = c.requires.counted c.args.time in
    omega (arith, all, back, c.count_out-out.ensures, c.count_upto-back.ensures)

pub returns-clause-value : goal.returns-clause-value
returns-clause-value c =
    let all : in_flight_at c.args.requests.now c.args.time + count_by (back_by c.args.time) c.args.requests.now ≡ count_by (out_by c.args.time) c.args.requests.now = flying c.args.requests.now c.args.time c.requires.timed.came_back in
    let back : count_by (λ x. nat_le x c.args.time) c.args.completions.now ≡ count_by (back_by c.args.time) c.args.requests.now = c.requires.counted c.args.time in
    omega (arith, all, back, c.count_out-out.ensures, c.count_upto-back.ensures)
