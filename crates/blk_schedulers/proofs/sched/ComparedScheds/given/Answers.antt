use Rattle.std.proofs.Common.{rules, ◌∙◌, ◌<◌, ap, sym, arith, length, Some, option_map}
use Rattle.std.proofs.lemmas.List.{take_more_set}
use Rattle.blk_schedulers.specs.Given.{all_compared}
use Rattle.blk_schedulers.proofs.Compared.{one_more, one_missing}
use Rattle.blk_schedulers.proofs.sched.ComparedScheds.given.Goals as goal

pub returns-in_err-scheds : goal.returns-in_err-scheds
returns-in_err-scheds g c =
    let o = g.G.Given.given c.args.options.now in
    let none = one_missing o c.rows-rows.result.now c.loop-i.i _ c.loop-i-test.true c.in_err-scheds.ensures in
    c.from_residual.ensures ∙ sym (ap (option_map (λ scheds. record { scheds = scheds })) (ap (all_compared o) (sym c.rows-rows.ensures.rows) ∙ none))

pub loop-i-preserved : goal.loop-i-preserved
loop-i-preserved g c =
    let o = g.G.Given.given c.args.options.now in
    let lt : c.loop-i.i < length c.loop-i.scheds = omega (arith, c.loop-i.invariant.whole, c.loop-i-test.true, c.rows-rows.ensures.count) in
    record {
      whole = search rules;
      given = one_more o c.rows-rows.result.now c.loop-i.i _ _ c.in_ok-scheds.field-0 c.loop-i-test.true c.loop-i.invariant.given c.in_ok-scheds.ensures
          ∙ ap Some (sym (take_more_set c.loop-i.scheds c.loop-i.i c.in_ok-scheds.field-0 lt));
    }
