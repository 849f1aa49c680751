use Rattle.std.proofs.Common.{◌≡◌, ◌==◌, ℕ, ◌≤◌, ◌<◌, true, false, get_or, length, refl, rules, arith}
use Rattle.blk_recorders.specs.Words.{is_blank, word_texts}
use Rattle.blk_recorders.proofs.Cutting.{word_taken, word_last, one_more, blank_is_no_feed}
use Rattle.blk_recorders.proofs.words.cut_line.Goals.{then-is_blank+in_ok-push_word, else-is_blank+else-byte-eq10}
use Rattle.blk_recorders.proofs.words.cut_line.Goals as goal

pub loop-place-preserved : goal.loop-place-preserved
loop-place-preserved c = elim c.if-is_blank.branch [
  | then-is_blank+in_ok-push_word w ↦ (
      let text = c.args.text.now in
      let inv = c.loop-place.invariant in
      let blank : is_blank (get_or text c.loop-place.place 0) ≡ true = search (rules, w.if-is_blank.ensures) in
      record {
        from = omega (arith, w.begin-is, inv.from, inv.begun);
        begun = omega (arith, w.begin-is);
        plain = λ k low high. absurd (omega (arith, w.begin-is));
        unfed = one_more (λ (b : ℕ). b == 10) text c.args.from c.loop-place.place inv.unfed (blank_is_no_feed (get_or text c.loop-place.place 0) blank);
        same = λ e low high. rw (w.cut-is, w.begin-is) (word_taken text c.loop-place.begin c.loop-place.place e (word_texts c.loop-place.cut.items) _ _ _ inv.begun (omega (arith, low)) high blank inv.plain refl
            (inv.same e (omega (arith, low)) high) w.in_ok-push_word.ensures);
      })
  | else-is_blank+else-byte-eq10 w ↦ (
      let text = c.args.text.now in
      let inv = c.loop-place.invariant in
      let plain : is_blank (get_or text c.loop-place.place 0) ≡ false = search (rules, w.if-is_blank.ensures) in
      let unfed : (get_or text c.loop-place.place 0 == 10) ≡ false = search (rules, w.if-byte-eq10.false) in
      record {
        from = omega (arith, w.begin-is, inv.from);
        begun = omega (arith, w.begin-is, inv.begun);
        plain = rw w.begin-is (one_more (λ (b : ℕ). is_blank b) text c.loop-place.begin c.loop-place.place inv.plain plain);
        unfed = one_more (λ (b : ℕ). b == 10) text c.args.from c.loop-place.place inv.unfed unfed;
        same = λ e low high. rw (w.cut-is, w.begin-is) (inv.same e (omega (arith, low)) high);
      })
]

pub returns-then-byte-eq10-clause-cut : goal.returns-then-byte-eq10-clause-cut
returns-then-byte-eq10-clause-cut c =
    let inv = c.loop-place.invariant in
    let inside : c.loop-place.place ≤ length c.args.text.now = omega (arith, c.loop-place-test.true) in
    word_last c.args.text.now c.loop-place.begin c.loop-place.place (word_texts c.loop-place.cut.items) _ _ _ inv.begun inside inv.plain refl (inv.same c.loop-place.place (omega arith) inside) c.in_ok-push_word-2.ensures

pub returns-clause-cut : goal.returns-clause-cut
returns-clause-cut c =
    let text = c.args.text.now in
    let inv = c.loop-place.invariant in
    let over : c.loop-place.place ≤ length text = c.loop-place.auto.place-end c.requires in
    let low : c.loop-place.begin ≤ length text = omega (arith, inv.begun, over) in
    let plain : (k : ℕ) → c.loop-place.begin ≤ k → k < length text → is_blank (get_or text k 0) ≡ false = λ k l h. inv.plain k l (omega (arith, h, c.loop-place-test.false)) in
    word_last text c.loop-place.begin (length text) (word_texts c.loop-place.cut.items) _ _ _ low (omega arith) plain refl (inv.same (length text) over (omega arith)) c.in_ok-push_word-3.ensures
