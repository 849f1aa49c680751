use Rattle.std.proofs.Common.{◌≡◌, ◌∙◌, sym, ap, ℕ, List, [], ◌∷◌, Bool, true, false, get_or, arith}
use Rattle.std.specs.FinMap as map
use Rattle.blk_sched.specs.Policies.{switch_number}
use Rattle.blk_deadline.specs.Choice.{deadline_choice, deadline_kept, handed_out, batch_after}
use Rattle.blk_deadline.proofs.Numbers as deadline
use Rattle.blk_earliest.specs.Choice.{earliest_choice, earliest_kept}
use Rattle.blk_kyber.specs.Limits.{Completed, RoundBegan, KyberReport}
use Rattle.blk_kyber.specs.Choice.{chosen}
use Rattle.blk_kyber.specs.State.{KyberState, numbers_of, choice_for, after_pick, kept_told, IsReported}
use Rattle.blk_kyber.proofs.Numbers as kyber
use Rattle.blk_capture_tests.proofs.replay.laws.law_of_determined.Goals as goal

pub returns-clause-none : goal.returns-clause-none
returns-clause-none c = record {
  one_choice = λ kept m hw now a b x y s t. (s.0 ∙ sym t.0, s.1 ∙ sym t.1);
  one_done = λ hw dir wait kept x y s t. s ∙ sym t;
  one_tick = λ now kept x y s t. s ∙ sym t;
}

pub returns-clause-deadline : goal.returns-clause-deadline
returns-clause-deadline c = record {
  one_choice = λ kept m hw now a b x y s t.
      let e : deadline_kept s.0 s.1 ≡ deadline_kept t.0 t.1 = sym s.2 ∙ t.2 in
      let same = deadline.one_kept s.0 t.0 s.1 t.1 e in
      let batch : s.0 ≡ t.0 = same.0 in
      let tunables : s.1 ≡ t.1 = same.1 in (
        s.3 ∙ (λ i. handed_out (deadline_choice (tunables i) (batch i) now (map.values m.pending))) ∙ sym t.3,
        s.4 ∙ (λ i. deadline_kept (batch_after (batch i) (deadline_choice (tunables i) (batch i) now (map.values m.pending))) (tunables i)) ∙ sym t.4,
      );
  one_done = λ hw dir wait kept x y s t. s ∙ sym t;
  one_tick = λ now kept x y s t. s ∙ sym t;
}

one_report : (report : KyberReport) (old x y : List ℕ) → IsReported report old x → IsReported report old y → x ≡ y
one_report report old x y s t = s.2 ∙ ap (λ (k : KyberState). numbers_of (kept_told report k)) (kyber.one_kept s.0 t.0 (sym s.1 ∙ t.1)) ∙ sym t.2

pub returns-clause-kyber : goal.returns-clause-kyber
returns-clause-kyber c = record {
  one_choice = λ kept m hw now a b x y s t.
      let same : s.0 ≡ t.0 = kyber.one_kept s.0 t.0 (sym s.1 ∙ t.1) in (
        s.2 ∙ ap (λ (k : KyberState). chosen (choice_for hw k m)) same ∙ sym t.2,
        s.3 ∙ ap (λ (k : KyberState). numbers_of (after_pick hw k (choice_for hw k m))) same ∙ sym t.3,
      );
  one_done = λ hw dir wait kept x y s t. one_report (Completed dir wait) kept x y s t;
  one_tick = λ now kept x y s t. one_report (RoundBegan now) kept x y s t;
}

one_bool : (a b : Bool) → switch_number a ≡ switch_number b → a ≡ b
one_bool true true e = cc
one_bool false false e = cc
one_bool true false e = absurd (omega arith)
one_bool false true e = absurd (omega arith)

pub returns-clause-earliest : goal.returns-clause-earliest
returns-clause-earliest c = record {
  one_choice = λ kept m hw now a b x y s t.
      let e : earliest_kept s.0 ≡ earliest_kept t.0 = sym s.1 ∙ t.1 in
      let same : s.0 ≡ t.0 = one_bool s.0 t.0 (ap (λ (l : List ℕ). get_or l 0 0) e) in
      (s.2 ∙ ap (λ l. earliest_choice l now (map.values m.pending)) same ∙ sym t.2, s.3 ∙ sym t.3);
  one_done = λ hw dir wait kept x y s t. s ∙ sym t;
  one_tick = λ now kept x y s t. s ∙ sym t;
}
