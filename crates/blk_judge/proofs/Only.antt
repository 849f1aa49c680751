-- No two lists of verdicts are right of one schedule.
use Rattle.std.proofs.Common.{◌≡◌, ◌<◌, ◌∙◌, ℕ, List, length, get_or, Some, None, refl, sym, ap, arith}
use Rattle.std.specs.Prelude.{Option}
use Rattle.std.proofs.lemmas.List.{same_lists, get_or_default}
use Rattle.edd_commands.specs.declared.Command.{Command}
use Rattle.edd_commands.specs.declared.steps.Step.{Step}
use Rattle.edd_verdict.specs.declared.Verdict.{Verdict}
use Rattle.edd_verdict.specs.Verdicts.{IsLate, IsVerdict, IsVerdictAt, AreVerdicts}

none : Command
none = record { id = 0; release = 0; due = 0 }

module _ (commands : List Command) (rounds : List ℕ) (steps : List Step) where
  -- each late command has one verdict
  abbrev pub HaveOne : Type 0
  HaveOne = (k : ℕ) → k < length commands → IsLate commands rounds k → (verdict : Verdict) × IsVerdict commands rounds steps k verdict × ((other : Verdict) → IsVerdict commands rounds steps k other → other ≡ verdict)

  one_at : HaveOne → (k : ℕ) (o p : Option Verdict) → k < length commands → IsVerdictAt commands rounds steps k o → IsVerdictAt commands rounds steps k p → o ≡ p
  one_at one k None None h a b = refl
  one_at one k None (Some w) h a b = absurd (omega (arith, a none, b.0 none))
  one_at one k (Some v) None h a b = absurd (omega (arith, a.0 none, b none))
  one_at one k (Some v) (Some w) h a b =
      let found = one k h a.0 in
      ap (λ (x : Verdict). Some x) (found.2 v a.1 ∙ sym (found.2 w b.1))

  pub only_one : HaveOne → (vs others : List (Option Verdict)) → AreVerdicts commands rounds steps vs → AreVerdicts commands rounds steps others → others ≡ vs
  only_one one vs others a b =
      same_lists others vs (b.one_each ∙ sym a.one_each)
      (λ k d h.
      let low : k < length commands = omega (arith, h, b.one_each) in
      get_or_default others k d None h
      ∙ one_at one k (get_or others k None) (get_or vs k None) low (b.each k low) (a.each k low)
      ∙ get_or_default vs k None d (omega (arith, low, a.one_each)))
