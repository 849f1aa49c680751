use Rattle.std.proofs.Common.{◌∙◌, sym, ap, arith}
use Rattle.blk_tags.proofs.Rule.{splits}
use Rattle.blk_tags.proofs.TagSet.split.Goals as goal

pub split_seat-requires : goal.split_seat-requires
split_seat-requires g c = (
  ap (λ s. s.of_set.name) c.seat.view_is ∙ ap (λ s. s.name) c.requires ∙ sym (ap (λ s. s.name) c.self.view_is),
  omega (arith, c.self.invariant.1),
  λ s h at. splits _ s _ _ h at,
)
