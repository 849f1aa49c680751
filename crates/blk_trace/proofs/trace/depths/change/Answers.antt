use Rattle.std.proofs.Common.{◌≡◌, ◌+◌, ◌-◌, ◌∙◌, ap, sym, arith, length, get_or, eq-eqb, ne_eqb}
use Rattle.edd_commands.specs.declared.steps.Step.{Step}
use Rattle.blk_trace.proofs.Changes.{change_here, change_after}
use Rattle.blk_trace.proofs.trace.depths.change.Goals as goal

pub returns-then-step-index : goal.returns-then-step-index
returns-then-step-index g c =
    let steps = c.args.steps.now.items in
    let last : c.len-last.result - 1 + 1 ≡ length steps = omega (arith, c.len-last.ensures, c.requires, c.args.steps.now.ok.0) in
    let same = eq-eqb _ _ (c.if-step-index.true ∙ ap (λ (x : Step). x.from) c.index.ensures) in
    sym (change_here steps c.args.step c.index.result.now (c.len-last.result - 1) last same)

pub returns-in-Ok : goal.returns-in-Ok
returns-in-Ok g c =
    let steps = c.args.steps.now.items in
    let last : c.len-last.result - 1 + 1 ≡ length steps = omega (arith, c.len-last.ensures, c.requires, c.args.steps.now.ok.0) in
    let other = ne_eqb c.args.step.from (get_or steps (c.len-last.result - 1) c.index.result.now).from (λ e. c.if-step-index.false (e ∙ sym (ap (λ (x : Step). x.from) c.index.ensures))) in
    c.in-Ok.ensures.items ∙ sym (change_after steps c.args.step c.index.result.now (c.len-last.result - 1) last other)
