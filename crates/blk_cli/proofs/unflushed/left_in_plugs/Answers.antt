use Rattle.std.proofs.Common.{ℕ, ◌≡◌, ◌+◌, ◌*◌, ◌≤◌, ◌∙◌, List, length, refl, sym, ap, add-one, arith}
use Rattle.std.proofs.Math.Nat.{add-mul}
use Rattle.blk_text.specs.declared.script.Line.{Line}
use Rattle.blk_cli.specs.Unflushed.{plugged, left_in_plugs}
use Rattle.blk_cli.proofs.unflushed.left_in_plugs.Goals as goal

none_first : (lines : List Line) → left_in_plugs lines 0 ≡ 0
unfolding left_in_plugs
none_first lines = refl

one_more : (lines : List Line) (s : ℕ) → left_in_plugs lines (s + 1) ≡ left_in_plugs lines s + plugged lines s
unfolding left_in_plugs
one_more lines s = rw (add-one s) refl

pub loop-submitter-init : goal.loop-submitter-init
loop-submitter-init c = record { same = sym (none_first c.args.script.now.lines.items); few = omega arith }

pub loop-submitter-preserved : goal.loop-submitter-preserved
loop-submitter-preserved c =
    let lines = c.args.script.now.lines.items in
    let s = c.loop-submitter.submitter in
    let inv = c.loop-submitter.invariant in
    let of : c.plugged-left.result ≡ plugged lines s = c.plugged-left.ensures.value ∙ ap (λ (ls : List Line). plugged ls s) c.as_slice.ensures.value in
    let most : c.plugged-left.result ≤ length lines = rw c.as_slice.ensures.value at c.plugged-left.ensures.few in
    let wide : (s + 1) * length lines ≡ s * length lines + 1 * length lines = add-mul s 1 (length lines) in
    record {
      same = ap (λ (n : ℕ). n + c.plugged-left.result) inv.same ∙ ap (λ (n : ℕ). left_in_plugs lines s + n) of ∙ sym (one_more lines s);
      few = omega (arith, inv.few, most, wide);
    }
