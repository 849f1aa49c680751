-- The verdicts of the late commands, in their order.
use Rattle.std.proofs.Common.{◌≡◌, ◌<◌, ◌≤◌, ◌∙◌, ℕ, zero, suc, List, [], ◌∷◌, length, get_or, map, refl, sym, ap, subst, arith, Some, None}
use Rattle.std.specs.Prelude.{Option}
use Rattle.std.specs.List.{filter, filter_map}
use Rattle.std.proofs.lemmas.Bool.{lt-ltb, le-ltb}
use Rattle.std.proofs.lemmas.List.{get_or-map, length-map}
use Rattle.edd_commands.specs.declared.Command.{Command}
use Rattle.edd_commands.specs.declared.steps.Step.{Step}
use Rattle.edd_verdict.specs.declared.Verdict.{Verdict}
use Rattle.edd_verdict.specs.Verdicts.{IsLate, IsVerdict, IsVerdictAt, AreVerdicts}
use Rattle.blk_report.specs.declared.serving.Service.{Service}
use Rattle.blk_report.specs.declared.delays.LateCommand.{LateCommand}
use Rattle.blk_report.specs.Services.{command_in}
use Rattle.blk_report.specs.Late.{is_late_service, IsServiceVerdict, HasVerdict}

-- a command at a place has no verdict where it is on time, and else one of which P holds
abbrev Stands : (ℕ → Verdict → Type 0) → ℕ → Service → Option Verdict → Type 0
Stands P k s None = s.issue ≤ s.due
Stands P k s (Some v) = (s.due < s.issue) × P k v

-- the place of a late command, with its verdict
pub record StandsAt (P : ℕ → Verdict → Type 0) (xs : List Service) (s : Service) (v : Verdict) : Type 0 where
  pub place : ℕ
  pub within : place < length xs
  pub stands : (d : Service) → get_or xs place d ≡ s
  pub holds : P place v

pub record AreTold (P : ℕ → Verdict → Type 0) (xs late : List Service) (told : List Verdict) : Type 0 where
  pub long : length told ≡ length late
  pub at : (k : ℕ) (d : Service) (w : Verdict) → k < length late → StandsAt P xs (get_or late k d) (get_or told k w)

one_on : (P : ℕ → Verdict → Type 0) (x : Service) (xs : List Service) (s : Service) (v : Verdict) → StandsAt (λ k. P (suc k)) xs s v → StandsAt P (x ∷ xs) s v
one_on P x xs s v t = record { place = suc t.place; within = omega (arith, t.within); stands = λ d. t.stands d; holds = t.holds }

first_or_on : (P : ℕ → Verdict → Type 0) (x : Service) (xs late : List Service) (v : Verdict) (told : List Verdict) → P 0 v → AreTold (λ k. P (suc k)) xs late told → (k : ℕ) (d : Service) (w : Verdict) → k < length (x ∷ late) → StandsAt P (x ∷ xs) (get_or (x ∷ late) k d) (get_or (v ∷ told) k w)
first_or_on P x xs late v told now rest zero d w l = record { place = 0; within = omega arith; stands = λ e. refl; holds = now }
first_or_on P x xs late v told now rest (suc k) d w l = one_on P x xs (get_or late k d) (get_or told k w) (rest.at k d w (omega arith))

pub are_told : (P : ℕ → Verdict → Type 0) (xs : List Service) (vs : List (Option Verdict)) → length vs ≡ length xs → ((k : ℕ) (d : Service) → k < length xs → Stands P k (get_or xs k d) (get_or vs k None)) → AreTold P xs (filter is_late_service xs) (filter_map (λ o. o) vs)
are_told P [] [] h each = record { long = refl; at = λ k d w l. absurd (omega arith) }
are_told P [] (v ∷ vs) h each = absurd (omega arith)
are_told P (x ∷ xs) [] h each = absurd (omega arith)
are_told P (x ∷ xs) (None ∷ vs) h each =
    let late : List Service = filter is_late_service xs in
    let told : List Verdict = filter_map (λ (o : Option Verdict). o) vs in
    let in_time : x.issue ≤ x.due = each 0 x (omega arith) in
    let same : filter is_late_service (x ∷ xs) ≡ late = rw (le-ltb x.due x.issue in_time) refl in
    let rest : AreTold (λ k. P (suc k)) xs late told = are_told (λ k. P (suc k)) xs vs (omega arith) (λ k d l. each (suc k) d (omega arith)) in
    subst (λ (l : List Service). AreTold P (x ∷ xs) l told) (sym same) (record { long = rest.long; at = λ k d w l. one_on P x xs (get_or late k d) (get_or told k w) (rest.at k d w l) })
are_told P (x ∷ xs) (Some v ∷ vs) h each =
    let late : List Service = filter is_late_service xs in
    let told : List Verdict = filter_map (λ (o : Option Verdict). o) vs in
    let now : (x.due < x.issue) × P 0 v = each 0 x (omega arith) in
    let same : filter is_late_service (x ∷ xs) ≡ x ∷ late = rw (lt-ltb x.due x.issue now.0) refl in
    let rest : AreTold (λ k. P (suc k)) xs late told = are_told (λ k. P (suc k)) xs vs (omega arith) (λ k d l. each (suc k) d (omega arith)) in
    subst (λ (l : List Service). AreTold P (x ∷ xs) l (v ∷ told)) (sym same) (record { long = omega (arith, rest.long); at = first_or_on P x xs late v told now.1 rest })

abbrev none : Command
none = record { id = 0; release = 0; due = 0 }

module _ (xs : List Service) (steps : List Step) where
  abbrev commands : List Command
  commands = map command_in xs

  abbrev rounds : List ℕ
  rounds = map (λ (s : Service). s.issue) xs

  -- each late command has one verdict
  abbrev pub HaveOne : Type 0
  HaveOne = (k : ℕ) → k < length commands → IsLate commands rounds k → (verdict : Verdict) × IsVerdict commands rounds steps k verdict × ((other : Verdict) → IsVerdict commands rounds steps k other → other ≡ verdict)

  -- this one is right, and no other
  abbrev pub IsOnly : ℕ → Verdict → Type 0
  IsOnly k v = IsServiceVerdict xs steps k v × ((other : Verdict) → IsServiceVerdict xs steps k other → other ≡ v)

  due_here : (k : ℕ) (d : Service) (e : Command) → k < length xs → (get_or commands k e).due ≡ (get_or xs k d).due
  due_here k d e h = ap (λ (c : Command). c.due) (get_or-map command_in xs k d e h)

  issued_here : (k : ℕ) (d : Service) → k < length xs → get_or rounds k 0 ≡ (get_or xs k d).issue
  issued_here k d h = get_or-map (λ (s : Service). s.issue) xs k d 0 h

  stands : HaveOne → (k : ℕ) (d : Service) (o : Option Verdict) → k < length xs → IsVerdictAt commands rounds steps k o → Stands IsOnly k (get_or xs k d) o
  stands one k d None h in_time = omega (arith, in_time none, due_here k d none h, issued_here k d h)
  stands one k d (Some v) h is =
      let found = one k (omega (arith, length-map xs command_in)) is.0 in
      let only : (other : Verdict) → IsVerdict commands rounds steps k other → other ≡ v = λ other right. found.2 other right ∙ sym (found.2 v is.1) in
      (omega (arith, is.0 none, due_here k d none h, issued_here k d h), (is.1, only))

  pub verdicts_by : HaveOne → (vs : List (Option Verdict)) (late : List Service) (told : List Verdict) → AreVerdicts commands rounds steps vs → late ≡ filter is_late_service xs → told ≡ filter_map (λ o. o) vs → AreTold IsOnly xs late told
  verdicts_by one vs late told are late_is told_is =
      let all : AreTold IsOnly xs (filter is_late_service xs) (filter_map (λ o. o) vs) = are_told IsOnly xs vs (are.one_each ∙ length-map xs command_in) (λ k d h. stands one k d (get_or vs k None) h (are.each k (omega (arith, h, length-map xs command_in)))) in
      subst (λ (l : List Service). AreTold IsOnly xs l told) (sym late_is) (subst (AreTold IsOnly xs (filter is_late_service xs)) (sym told_is) all)

  pub has_verdict : (l : LateCommand) → StandsAt IsOnly xs l.service l.verdict → HasVerdict xs steps l
  has_verdict l t = record { place = t.place; within = t.within; stands = t.stands; right = t.holds.0; only = t.holds.1 }
