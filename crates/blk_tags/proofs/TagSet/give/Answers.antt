use Rattle.std.proofs.Common.{◌≡◌, ◌∙◌, sym, ap, subst, arith, length}
use Rattle.std.specs.Prelude.{Contains}
use Rattle.blk_tags.specs.Tags.{IsSeat, tag_seat_of}
use Rattle.blk_tags.proofs.Counts.{held_some}
use Rattle.blk_tags.proofs.Marked.{gave_one, held_below}
use Rattle.blk_tags.proofs.TagSet.give.Goals as goal

pub clear_bit-requires-clause-below : goal.clear_bit-requires-clause-below
clear_bit-requires-clause-below g c =
    let has : Contains c.seat.inside.seat.me.0.tags c.args.tag = subst (λ tags. Contains tags c.args.tag) (sym (ap (λ s. s.tags) c.seat.view_is)) c.requires.holds in
    let depth : length c.seat.inside.marks.items ≡ c.args.self.now.depth = ap (λ s. s.of_set.depth) c.seat.view_is ∙ ap (λ s. s.depth) c.requires.of_set in
    omega (arith, depth, held_below (tag_seat_of c.seat.inside.seat.table_id c.seat.inside.marks.items c.seat.inside.seat.me.0 c.seat.inside.last) c.args.tag c.seat.invariant.0 has)

pub clear_bit-requires-clause-holds : goal.clear_bit-requires-clause-holds
clear_bit-requires-clause-holds g c = held_some c.args.tag c.seat.inside.seat.me.0.tags (subst (λ tags. Contains tags c.args.tag) (sym (ap (λ s. s.tags) c.seat.view_is)) c.requires.holds)

pub index_mut-requires : goal.index_mut-requires
index_mut-requires g c =
    let has : Contains c.seat.inside.seat.me.0.tags c.args.tag = subst (λ tags. Contains tags c.args.tag) (sym (ap (λ s. s.tags) c.seat.view_is)) c.requires.holds in
    omega (arith, c.from.ensures, c.seat.inside.marks.ok.0, held_below (tag_seat_of c.seat.inside.seat.table_id c.seat.inside.marks.items c.seat.inside.seat.me.0 c.seat.inside.last) c.args.tag c.seat.invariant.0 has)

pub invariant_of-seat : goal.invariant_of-seat
invariant_of-seat g c =
    let has : Contains c.seat.inside.seat.me.0.tags c.args.tag = subst (λ tags. Contains tags c.args.tag) (sym (ap (λ s. s.tags) c.seat.view_is)) c.requires.holds in
    let within = held_below (tag_seat_of c.seat.inside.seat.table_id c.seat.inside.marks.items c.seat.inside.seat.me.0 c.seat.inside.last) c.args.tag c.seat.invariant.0 has in
    let both = gave_one c.clear_bit.new.seat.table_id c.seat.inside.marks.items c.seat.inside.seat.me.0 c.clear_bit.new.seat.me.0 c.seat.inside.last c.from.result c.args.tag
    (subst (λ name. IsSeat (tag_seat_of name c.seat.inside.marks.items c.seat.inside.seat.me.0 c.seat.inside.last)) (sym c.clear_bit.ensures.same) c.seat.invariant.0) c.seat.invariant.1 c.from.ensures within c.clear_bit.ensures.gave in
    (both.0, both.1, c.clear_bit.ensures.slots ∙ c.seat.invariant.2)
