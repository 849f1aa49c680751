use Rattle.std.proofs.Common.{ℕ, ◌∙◌, ◌<◌, ◌+◌, ◌++◌, List, [], length, ap, sym, inl, inr, refl, arith}
use Rattle.blk_recorders.specs.Words.{words}
use Rattle.blk_recorders.specs.Steps.{sofar, take_words}
use Rattle.blk_recorders.proofs.Reading.{line_taken, line_refused}
use Rattle.blk_recorders.proofs.Wholes.{between_whole, fed_inside, end_behind, left_over, rises_on, told_at}
use Rattle.blk_recorders.proofs.steps.StepReader.take_lines.Goals as goal

pub returns-in-Err-clause-reads : goal.returns-in-Err-clause-reads
returns-in-Err-clause-reads c = λ past rest whole. elim (c.in-Err.ensures.takes past) [
  | inl memory ↦ inl memory
  | inr e ↦ inr (told_at _ c.loop-begin.self.number c.take.new.self.number c.in-Err.why c.in-Err.ensures.number (sym (c.loop-begin.invariant.same past rest whole)
      ∙ line_refused c.args.most c.args.recorder c.args.asked c.loop-begin.self.number (sofar past c.loop-begin.self) c.in-Err.why (c.args.text.now ++ rest) c.loop-begin.begin c.in-Ok.end
      (end_behind c.args.text.now rest c.loop-begin.begin c.in-Ok.end whole c.in-Ok.ensures.end c.loop-begin-test.true)
      (ap (λ (l : List ℕ). take_words c.args.most c.args.recorder c.args.asked (sofar past c.loop-begin.self) (words l)) (between_whole c.args.text.now rest c.loop-begin.begin c.in-Ok.end c.in-Ok.ensures.end.within)
      ∙ ap (take_words c.args.most c.args.recorder c.args.asked (sofar past c.loop-begin.self)) (sym c.in-Ok.ensures.cut) ∙ e)))
]

pub loop-begin-preserved : goal.loop-begin-preserved
loop-begin-preserved c =
    let text : List ℕ = c.args.text.now in
    let end : ℕ = c.in-Ok.end in
    let inside : c.loop-begin.begin < length text = c.loop-begin-test.true in
    record {
      within = omega (arith, c.in-Ok.ensures.end.within);
      landed = λ rest whole. elim (fed_inside text rest c.loop-begin.begin end whole c.in-Ok.ensures.end inside) [
        | inl inner ↦ inl (omega (arith, inner))
        | inr none ↦ inr none
      ];
      same = λ past rest whole.
          let taken = line_taken c.args.most c.args.recorder c.args.asked c.loop-begin.self.number (sofar past c.loop-begin.self) (sofar past c.take.new.self) (text ++ rest) c.loop-begin.begin end
          (end_behind text rest c.loop-begin.begin end whole c.in-Ok.ensures.end inside)
          (ap (λ (l : List ℕ). take_words c.args.most c.args.recorder c.args.asked (sofar past c.loop-begin.self) (words l)) (between_whole text rest c.loop-begin.begin end c.in-Ok.ensures.end.within)
          ∙ ap (take_words c.args.most c.args.recorder c.args.asked (sofar past c.loop-begin.self)) (sym c.in-Ok.ensures.cut) ∙ c.in-Ok-take.ensures.takes past) in
          rw (c.more-self.ensures, c.in-Ok-take.ensures.number) (sym taken ∙ c.loop-begin.invariant.same past rest whole);
      counted = omega (arith, c.in-Ok-take.ensures.counted, c.loop-begin.invariant.counted);
      few = λ h. c.in-Ok-take.ensures.few (c.loop-begin.invariant.few h);
    }

pub returns-clause-reads : goal.returns-clause-reads
returns-clause-reads c = λ past rest whole.
    sym (c.loop-begin.invariant.same past rest whole)
    ∙ left_over c.args.most c.args.recorder c.args.asked c.loop-begin.self.number (sofar past c.loop-begin.self) c.args.text.now rest c.loop-begin.begin (omega (arith, c.loop-begin-test.false)) (c.loop-begin.invariant.landed rest whole)

pub returns-clause-rises : goal.returns-clause-rises
returns-clause-rises c = λ past u h.
    let none : List ℕ = [] in
    rises_on c.args.most c.args.recorder c.args.asked _ c.loop-begin.self.number _ (sofar past c.loop-begin.self) c.args.text.now u h
    (sym (c.loop-begin.invariant.same past none (inl refl))
    ∙ left_over c.args.most c.args.recorder c.args.asked c.loop-begin.self.number (sofar past c.loop-begin.self) c.args.text.now none c.loop-begin.begin (omega (arith, c.loop-begin-test.false)) (c.loop-begin.invariant.landed none (inl refl)))
