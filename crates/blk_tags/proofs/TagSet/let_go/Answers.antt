use Rattle.std.proofs.Common.{◌≡◌, ◌∙◌, sym, ap, arith, []}
use Rattle.blk_tags.proofs.Rule.{joins}
use Rattle.blk_tags.proofs.TagSet.let_go.Goals as goal

pub join_seat-requires : goal.join_seat-requires
join_seat-requires g c =
    let none : c.other.inside.seat.me.0.tags ≡ [] = ap (λ s. s.tags) c.other.view_is ∙ c.requires.none in
    let name = sym (ap (λ s. s.name) c.self.view_is) in (
      ap (λ s. s.of_set.name) c.seat.view_is ∙ ap (λ s. s.name) c.requires.of_set ∙ name,
      ap (λ s. s.of_set.name) c.other.view_is ∙ ap (λ s. s.name) c.requires.other_of_set ∙ name,
      c.other.invariant.2,
      omega (arith, c.self.invariant.1),
      λ s h at n there. joins _ s _ _ _ _ h at none there,
    )
