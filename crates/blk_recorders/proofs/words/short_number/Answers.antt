use Rattle.std.proofs.Common.{ℕ, ◌≡◌, ◌≤◌, ◌<◌, ◌+◌, ◌-◌, ◌*◌, ◌^◌, ◌∙◌, List, drop, get_or, ap, sym, arith}
use Rattle.blk_recorders.specs.Words.{number_from}
use Rattle.blk_recorders.proofs.Numbers.{room, next, grows}
use Rattle.blk_recorders.proofs.words.short_number.Goals as goal

pub overflow_mul-number : goal.overflow_mul-number
overflow_mul-number c = omega (arith, room c.loop-byte.byte-index c.loop-byte.number (omega arith) c.loop-byte.invariant.small)

pub overflow_add-number : goal.overflow_add-number
overflow_add-number c = omega (arith, room c.loop-byte.byte-index c.loop-byte.number (omega arith) c.loop-byte.invariant.small)

pub loop-byte-preserved : goal.loop-byte-preserved
loop-byte-preserved c =
    let i : ℕ = c.loop-byte.byte-index in
    let n : ℕ = c.loop-byte.number in
    let w : List ℕ = c.args.word.now in
    let low : 48 ≤ get_or w i 0 = omega (arith, c.if-byte-lt48.false) in
    let high : get_or w i 0 ≤ 57 = omega (arith, c.if-byte-gt57.false) in
    let digit : c.from.result ≡ get_or w i 0 - 48 = c.from.ensures in
    let fits : n * 10 + (get_or w i 0 - 48) < 2 ^ 64 = omega (arith, low, high, room i n (omega arith) c.loop-byte.invariant.small) in
    record {
      same = ap (λ d. number_from (n * 10 + d) (drop (i + 1) w)) digit ∙ sym (next w i n c.loop-byte-test.true low high fits) ∙ c.loop-byte.invariant.same;
      small = grows i n c.from.result c.loop-byte.invariant.small (omega (arith, low, high, digit));
    }
