use Rattle.std.proofs.Common.{List, Result, ◌≡◌, ◌≤◌, ◌+◌, ◌*◌, ◌∷◌, ◌++◌, [], length, arith, sym, ap, ◌∙◌}
use Rattle.std.proofs.lemmas.List.{length_push}
use Rattle.turns.specs.Inside.{AreAnswers}
use Rattle.turns.proofs.Shares.{one_more_answer, next_place}
use Rattle.turns.proofs.walk.share.Goals as goal
use Rattle.turns.proofs.walk.share.Goals.{else-loop-place-test, then-loop-place-test+in_ok-push+then-until-place}

pub loop-place-preserved : goal.loop-place-preserved
loop-place-preserved g c =
    let old = c.loop-place.all.items in
    let all = old ++ c.run.result ∷ [] in
    let more : AreAnswers g.F.Fn c.args.run.now c.args.from c.args.step all =
    one_more_answer g.F.Fn c.args.run.now c.args.from c.args.step old c.run.result c.loop-place.place c.loop-place.invariant.at c.loop-place.invariant.are c.run.ensures in
    let at : c.loop-place.place + c.args.step ≡ c.args.from + length all * c.args.step =
    next_place c.args.from c.args.step (length old) c.loop-place.place c.loop-place.invariant.at
    ∙ ap (λ n. c.args.from + n * c.args.step) (sym (length_push old c.run.result)) in
    record { at = rw c.in_ok-push.ensures.items at; are = rw c.in_ok-push.ensures.items more }

pub returns : goal.returns
returns g c = elim c.loop-place-test.branch [
  | else-loop-place-test w ↦ rw w.all-is (record { each = record { each = c.loop-place.invariant.are; whole = omega (arith, c.loop-place.invariant.at) } })
  | then-loop-place-test+in_ok-push+then-until-place w ↦
      let old = c.loop-place.all.items in
      let all = old ++ w.run.result ∷ [] in
      let more : AreAnswers g.F.Fn c.args.run.now c.args.from c.args.step all =
      one_more_answer g.F.Fn c.args.run.now c.args.from c.args.step old w.run.result c.loop-place.place c.loop-place.invariant.at c.loop-place.invariant.are w.run.ensures in
      let at : c.loop-place.place + c.args.step ≡ c.args.from + length all * c.args.step =
      next_place c.args.from c.args.step (length old) c.loop-place.place c.loop-place.invariant.at
      ∙ ap (λ n. c.args.from + n * c.args.step) (sym (length_push old w.run.result)) in
      let whole : c.args.until ≤ c.args.from + length all * c.args.step = omega (arith, at) in
      rw w.all-is (rw w.in_ok-push.ensures.items (record { each = record { each = more; whole = whole } }))
]
