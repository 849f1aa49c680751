use Rattle.std.proofs.Common.{◌≡◌, ◌∙◌, sym, ap, subst, arith, length}
use Rattle.std.specs.Prelude.{Contains}
use Rattle.blk_tags.specs.Tags.{IsSeat, tag_seat_of}
use Rattle.blk_tags.proofs.Counts.{held_some, pushed_held}
use Rattle.blk_tags.proofs.Marked.{took_one}
use Rattle.blk_tags.proofs.TagSet.take.Goals as goal

pub invariant_of-seat-2 : goal.invariant_of-seat-2
invariant_of-seat-2 g c =
    let depth : length c.seat.inside.marks.items ≡ c.args.self.now.depth = ap (λ s. s.of_set.depth) c.seat.view_is ∙ ap (λ s. s.depth) c.requires.of_set in
    let both = took_one c.set_bit.new.seat.table_id c.seat.inside.marks.items c.seat.inside.seat.me.0 c.set_bit.new.seat.me.0 c.seat.inside.last c.from.result c.args.tag
    (subst (λ name. IsSeat (tag_seat_of name c.seat.inside.marks.items c.seat.inside.seat.me.0 c.seat.inside.last)) (sym c.set_bit.ensures.same) c.seat.invariant.0) c.seat.invariant.1 c.from.ensures (omega (arith, depth, c.requires.below)) c.if-not-set_bit.ensures.free c.if-not-set_bit.ensures.won in
    (both.0, both.1, c.set_bit.ensures.slots ∙ c.seat.invariant.2)

pub returns-clause-free : goal.returns-clause-free
returns-clause-free g c = λ has. omega (arith, c.if-not-set_bit.ensures.free, held_some c.args.tag c.seat.inside.seat.me.0.tags (subst (λ tags. Contains tags c.args.tag) (sym (ap (λ s. s.tags) c.seat.view_is)) has))

pub returns-clause-held : goal.returns-clause-held
returns-clause-held g c = pushed_held c.args.tag c.seat.inside.seat.me.0.tags c.set_bit.new.seat.me.0.tags (ap (λ h. h.tags) c.if-not-set_bit.ensures.won)
