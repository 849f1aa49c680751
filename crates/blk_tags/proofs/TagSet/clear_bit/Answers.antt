use Rattle.std.proofs.Common.{◌≡◌, ◌<◌, ◌∙◌, ◌^◌, ◌-◌, sym, ap, arith}
use Rattle.blk_tags.proofs.Bits.{place}
use Rattle.blk_tags.proofs.Rule.{may_give}
use Rattle.blk_tags.proofs.TagSet.clear_bit.Goals as goal

pub fetch_and-found-requires : goal.fetch_and-found-requires
fetch_and-found-requires g c =
    let depth : c.self.inside.depth ≡ c.args.self.now.depth = ap (λ s. s.depth) c.self.view_is in
    let small : c.args.tag < c.self.inside.depth = omega (arith, depth, c.requires.below) in (
      c.requires.table ∙ sym (ap (λ s. s.name) c.self.view_is),
      omega (arith, c.self.invariant.1, c.word_of.ensures, place c.args.tag (omega (arith, small, c.self.invariant.0.few))),
      may_give c.self.inside.depth c.self.inside.table.shared.key _ c.args.tag c.word_of.result c.bit_of.result _ _ small c.self.invariant.0.few c.requires.holds c.self.invariant.2 c.word_of.ensures c.bit_of.ensures,
    )

pub returns-clause-gave : goal.returns-clause-gave
returns-clause-gave g c =
    let small : c.args.tag < 256 = omega (arith, ap (λ s. s.depth) c.self.view_is, c.requires.below, c.self.invariant.0.few) in
    c.fetch_and-found.ensures.2.1 c.args.tag small c.word_of.ensures (ap (λ b. 2 ^ 64 - 1 - b) c.bit_of.ensures)
