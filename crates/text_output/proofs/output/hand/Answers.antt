use Rattle.std.proofs.Common.{◌∙◌, ◌++◌, ap, sym, take, length, refl, arith}
use Rattle.std.proofs.lemmas.List.{take_rest, length-drop}
use Rattle.std.proofs.KnownBytes.{Appends-trans}
use Rattle.text_output.proofs.Written.{split_at, less_taken, none_more, some_left}
use Rattle.text_output.proofs.output.hand.Goals as goal

pub returns-in-None-clause-less : goal.returns-in-None-clause-less
returns-in-None-clause-less g c =
    let (done, split, appended) = c.loop-turn.invariant.taken in
    let rest = c.loop-turn.rest.now in
    less_taken _ _ _ done rest split (some_left rest (sym c.is_empty.ensures ∙ c.if-is_empty.false)) (none_more _ _ _ done rest 0 refl appended c.in-None.ensures.kept)

pub loop-turn-preserved : goal.loop-turn-preserved
loop-turn-preserved g c =
    let (done, split, appended) = c.loop-turn.invariant.taken in
    let rest = c.loop-turn.rest.now in
    let count = c.in-Some.count in
    let took = c.in-Some.ensures.took in
    record {
      taken = (done ++ take count rest, split_at _ done rest count split ∙ ap (λ l. (done ++ take count rest) ++ l) (sym (take_rest rest count)), Appends-trans _ _ _ _ _ appended took.2);
      left = omega (arith, ap length (take_rest rest count), length-drop count rest, took.0, took.1, c.loop-turn.invariant.left);
      same = c.in-Some.ensures.good ∙ c.loop-turn.invariant.same;
    }
