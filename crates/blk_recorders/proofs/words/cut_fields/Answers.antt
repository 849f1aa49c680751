use Rattle.std.proofs.Common.{◌≡◌, ◌==◌, ℕ, ◌≤◌, ◌<◌, ◌-◌, true, false, take, drop, get_or, length, [], ◌∷◌, ◌++◌, refl, rules, arith}
use Rattle.std.proofs.lemmas.Grind.{common_steps}
use Rattle.blk_recorders.specs.Words.{word_texts}
use Rattle.blk_recorders.proofs.Cutting.{field_taken, field_last, one_more}
use Rattle.blk_recorders.proofs.words.cut_fields.Goals.{then-row-place-eq44+in_ok-push, else-row-place-eq44}
use Rattle.blk_recorders.proofs.words.cut_fields.Goals as goal

pub loop-place-preserved : goal.loop-place-preserved
loop-place-preserved c = elim c.if-row-place-eq44.branch [
  | then-row-place-eq44+in_ok-push w ↦ (
      let inv = c.loop-place.invariant in
      let comma : (get_or c.args.row.now c.loop-place.place 0 == 44) ≡ true = search (rules, w.if-row-place-eq44.true) in
      let grown : word_texts w.push.new.self.items ≡ word_texts c.loop-place.cut.items ++ take (c.loop-place.place - c.loop-place.begin) (drop c.loop-place.begin c.args.row.now) ∷ [] = search (rules, common_steps, w.in_ok-push.ensures.items) in
      record {
        begun = omega (arith, w.begin-is);
        plain = λ k low high. absurd (omega (arith, w.begin-is));
        same = rw (w.cut-is, w.begin-is) (field_taken c.args.row.now c.loop-place.begin c.loop-place.place (word_texts c.loop-place.cut.items) _ _ inv.begun c.loop-place-test.true comma inv.plain refl inv.same grown);
      })
  | else-row-place-eq44 w ↦ (
      let inv = c.loop-place.invariant in
      let plain : (get_or c.args.row.now c.loop-place.place 0 == 44) ≡ false = search (rules, w.if-row-place-eq44.false) in
      record {
        begun = omega (arith, w.begin-is, inv.begun);
        plain = rw w.begin-is (one_more (λ (b : ℕ). b == 44) c.args.row.now c.loop-place.begin c.loop-place.place inv.plain plain);
        same = rw (w.cut-is, w.begin-is) inv.same;
      })
]

pub returns : goal.returns
returns c =
    let inv = c.loop-place.invariant in
    let all : (k : ℕ) → c.loop-place.begin ≤ k → k < length c.args.row.now → (get_or c.args.row.now k 0 == 44) ≡ false = λ k low high. inv.plain k low (omega (arith, c.loop-place-test.false)) in
    let grown : word_texts c.push-2.new.self.items ≡ word_texts c.loop-place.cut.items ++ drop c.loop-place.begin c.args.row.now ∷ [] = search (rules, common_steps, c.in_ok-push-2.ensures.items) in
    field_last c.args.row.now c.loop-place.begin (word_texts c.loop-place.cut.items) _ _ (omega (arith, inv.begun, c.loop-place.auto.place-end)) all refl inv.same grown
