use Rattle.std.proofs.Common.{◌<◌, ◌≤◌, ◌∙◌, length, sym, ap, subst, arith}
use Rattle.std.specs.Prelude.{Contains, IsTrue, slice_index_or, ◌↔◌}
use Rattle.std.proofs.lemmas.Bool.{ltb-true}
use Rattle.blk_tags.proofs.Marked.{mark_tells, no_mark, read_mark}
use Rattle.blk_tags.proofs.TagSeat.holds.Goals as goal

pub returns-then-from-len-clause-value : goal.returns-then-from-len-clause-value
returns-then-from-len-clause-value g c =
    let within : c.args.tag < length c.self.inside.marks.items = omega (arith, c.if-from-len.true, c.from.ensures, c.len.ensures, c.self.inside.marks.ok.0) in
    subst (λ tags. IsTrue c.index.result.now ↔ Contains tags c.args.tag) (ap (λ s. s.tags) c.self.view_is)
    (mark_tells c.self.inside.marks.items c.self.inside.seat.me.0.tags c.index.result.now c.args.tag c.self.invariant.1 (read_mark c.self.inside.marks.items c.args.tag c.index.result.now within (c.index.ensures ∙ ap (λ k. slice_index_or c.self.inside.marks.items k c.index.result.now) c.from-then-from-len.ensures)))

pub returns-else-from-len-clause-value : goal.returns-else-from-len-clause-value
returns-else-from-len-clause-value g c =
    let past : length c.self.inside.marks.items ≤ c.args.tag = omega (arith, c.if-from-len.false, c.from.ensures, c.len.ensures, c.self.inside.marks.ok.0) in
    ((λ t. absurd (omega (arith, ltb-true c.from.result c.len.result t, c.if-from-len.false))), λ has. absurd (no_mark c.self.inside.marks.items c.self.inside.seat.me.0.tags c.args.tag c.self.invariant.1 past (subst (λ tags. Contains tags c.args.tag) (sym (ap (λ s. s.tags) c.self.view_is)) has)))
