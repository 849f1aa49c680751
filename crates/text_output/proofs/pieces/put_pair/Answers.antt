use Rattle.std.proofs.Common.{◌≡◌, ◌+◌, ◌-◌, ◌*◌, ◌++◌, ◌∙◌, List, ℕ, ap, take, drop, length, arith}
use Rattle.text_output.specs.declared.pieces.TheConstants.{PAIRS}
use Rattle.text_output.specs.Inside.Digits.{pair_of}
use Rattle.text_output.proofs.Digits.{pair_at}
use Rattle.text_output.proofs.pieces.put_pair.Goals as goal

pub returns : goal.returns
returns c =
    let from = 2 * c.args.pair in
    let two : from + 2 - from ≡ 2 = omega arith in
    let digits : take (from + 2 - from) (drop from PAIRS.now) ≡ pair_of c.args.pair = rw two (pair_at c.args.pair c.requires.0) in
    let end : c.put.result ≡ c.args.at + 2 = c.put.ensures.end ∙ ap (λ (t : List ℕ). c.args.at + length t) digits in
    record { written = rw (← end) (c.put.ensures.written ∙ ap (λ (t : List ℕ). take c.args.at c.args.buf.now ++ t) digits) }
