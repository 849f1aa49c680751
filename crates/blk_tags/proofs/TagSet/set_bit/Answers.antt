use Rattle.std.proofs.Common.{◌≡◌, ◌<◌, ◌∙◌, ◌%◌, sym, ap, arith, bit_and, ◌==◌}
use Rattle.std.proofs.lemmas.Bool.{OnTrue_from, OnFalse_from}
use Rattle.blk_tags.proofs.Bits.{place, was_clear, was_set}
use Rattle.blk_tags.proofs.Rule.{may_take}
use Rattle.blk_tags.proofs.TagSet.set_bit.Goals as goal

pub fetch_or-found-requires : goal.fetch_or-found-requires
fetch_or-found-requires g c =
    let depth : c.self.inside.depth ≡ c.args.self.now.depth = ap (λ s. s.depth) c.self.view_is in
    let small : c.args.tag < c.self.inside.depth = omega (arith, depth, c.requires.below) in (
      c.requires.table ∙ sym (ap (λ s. s.name) c.self.view_is),
      omega (arith, c.self.invariant.1, c.word_of.ensures, place c.args.tag (omega (arith, small, c.self.invariant.0.few))),
      may_take c.self.inside.depth c.self.inside.table.shared.key _ c.args.tag c.word_of.result c.bit_of-bit.result _ _ small c.self.invariant.0.few c.self.invariant.2 c.word_of.ensures c.bit_of-bit.ensures,
    )

pub returns-clause-won : goal.returns-clause-won
returns-clause-won g c = OnTrue_from _ _ (λ e.
    let small : c.args.tag < 256 = omega (arith, ap (λ s. s.depth) c.self.view_is, c.requires.below, c.self.invariant.0.few) in
    let clear = was_clear c.fetch_or-found.result (c.args.tag % 64) (ap (λ b. bit_and c.fetch_or-found.result b == 0) (sym c.bit_of-bit.ensures) ∙ e) in
    ((c.fetch_or-found.ensures.2.1 c.args.tag small c.word_of.ensures c.bit_of-bit.ensures).0 clear).1)

pub returns-clause-free : goal.returns-clause-free
returns-clause-free g c = OnTrue_from _ _ (λ e.
    let small : c.args.tag < 256 = omega (arith, ap (λ s. s.depth) c.self.view_is, c.requires.below, c.self.invariant.0.few) in
    let clear = was_clear c.fetch_or-found.result (c.args.tag % 64) (ap (λ b. bit_and c.fetch_or-found.result b == 0) (sym c.bit_of-bit.ensures) ∙ e) in
    ((c.fetch_or-found.ensures.2.1 c.args.tag small c.word_of.ensures c.bit_of-bit.ensures).0 clear).0)

pub returns-clause-lost : goal.returns-clause-lost
returns-clause-lost g c = OnFalse_from _ _ (λ e.
    let small : c.args.tag < 256 = omega (arith, ap (λ s. s.depth) c.self.view_is, c.requires.below, c.self.invariant.0.few) in
    let full = was_set c.fetch_or-found.result (c.args.tag % 64) (ap (λ b. bit_and c.fetch_or-found.result b == 0) (sym c.bit_of-bit.ensures) ∙ e) in
    (c.fetch_or-found.ensures.2.1 c.args.tag small c.word_of.ensures c.bit_of-bit.ensures).1 full)
