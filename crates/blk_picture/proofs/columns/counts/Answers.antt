use Rattle.std.proofs.Common.{◌≡◌, ◌+◌, ◌∙◌, ◌==◌, ℕ, sym, ap, arith, cond, get_or, length, replicate}
use Rattle.std.specs.Prelude.{◌/◌}
use Rattle.std.proofs.lemmas.List.{take_all, length-replicate, get_or-replicate}
use Rattle.edd_figures.proofs.Windows.{zeros_of}
use Rattle.blk_picture.specs.Columns.{in_column}
use Rattle.blk_picture.proofs.Counting.{none_in, in_more, in_small}
use Rattle.blk_picture.proofs.columns.counts.Goals as goal

pub loop-round-init : goal.loop-round-init
loop-round-init c =
    let zeros : c.resize.new.self.items ≡ replicate c.args.columns 0 = c.in_ok-resize.ensures.items ∙ zeros_of c.args.columns c.new-counts.result.items _ c.new-counts.ensures.items c.new-counts.ensures.len in
    record {
      each = ap length zeros ∙ length-replicate c.args.columns 0;
      so_far = λ k h. ap (λ l. get_or l k 0) zeros ∙ get_or-replicate c.args.columns k 0 0 h ∙ sym (none_in c.args.per k c.args.rounds.now);
    }

pub count_at-requires : goal.count_at-requires
count_at-requires c = λ k h. omega (arith, c.loop-round.invariant.so_far k (omega (arith, h, c.loop-round.invariant.each)), in_small c.args.per k c.loop-round.round-index c.args.rounds.now, c.requires.few)

pub loop-round-preserved : goal.loop-round-preserved
loop-round-preserved c =
    let old = c.loop-round.invariant in
    let i : ℕ = c.loop-round.round-index in
    record {
      each = c.count_at.ensures.each ∙ old.each;
      so_far = λ k h.
          c.count_at.ensures.counts k (omega (arith, h, old.each))
          ∙ ap (λ (per : ℕ). cond ((get_or c.args.rounds.now i 0 / per) == k) (get_or c.loop-round.counts.items k 0 + 1) (get_or c.loop-round.counts.items k 0)) c.from.ensures
          ∙ ap (λ (x : ℕ). cond ((get_or c.args.rounds.now i 0 / c.args.per) == k) (x + 1) x) (old.so_far k h)
          ∙ sym (in_more c.args.per k i c.args.rounds.now c.loop-round-test.true);
    }

pub returns-clause-counts : goal.returns-clause-counts
returns-clause-counts c = λ k h. c.loop-round.invariant.so_far k h ∙ ap (in_column c.args.per k) (take_all c.loop-round.round-index c.args.rounds.now c.loop-round-test.false)
