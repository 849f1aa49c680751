-- What the separate check says of an answer of the oracle.
use Rattle.std.proofs.Common.{◌≡◌, ◌∙◌, ℕ, ℤ, List, refl, sym, arith, inl, inr}
use Rattle.std.specs.Prelude.{Ok, Err}
use Rattle.edd_commands.specs.declared.Command.{Command}
use Rattle.edd_check.specs.declared.Window.{Window}
use Rattle.edd_commands.specs.declared.steps.Step.{Step}
use Rattle.edd_check.specs.declared.CheckFault.TheVariants as fault
use Rattle.edd_check.specs.declared.on_time.OnTimeFault.TheVariants as on_time_fault
use Rattle.edd_commands.specs.Schedule.{IsLegal, IsGreatestLateness}
use Rattle.edd_check.specs.Rules.{IsLeastOverDeep, IsFirstEarly}
use Rattle.edd_check.specs.Window.{IsCrowded}
use Rattle.edd_check.specs.OnTime.{number_on_time, bound_of, IsCover}
use Rattle.edd_check.specs.Check.{PassesCheck}
use Rattle.edd_check.specs.CheckOnTime.{PassesOnTimeCheck}
use Rattle.edd_check.proofs.Latest.{same_greatest}

abbrev none : Command
none = record { id = 0; release = 0; due = 0 }

abbrev no_window : Window
no_window = record { from = 0; due = 0 }

not_early : (commands : List Command) (rounds : List ℕ) (steps : List Step) (id : ℕ) → IsLegal commands rounds steps → IsFirstEarly commands rounds id → ⊥
not_early commands rounds steps id legal first = absurd (omega (arith, first.early none, legal.released first.place none first.in_list))

not_deep : (commands : List Command) (rounds : List ℕ) (steps : List Step) (x : ℕ) → IsLegal commands rounds steps → IsLeastOverDeep rounds steps x → ⊥
not_deep commands rounds steps x legal deep = absurd (omega (arith, deep.over, legal.within_depth x))

pub passes : (commands : List Command) (steps : List Step) (late : ℤ) (rounds : List ℕ) (w : Window) → IsLegal commands rounds steps → IsGreatestLateness commands rounds late → IsCrowded commands steps late w → PassesCheck commands steps late rounds w
passes commands steps late rounds w legal greatest crowded (Ok _) is = tt
passes commands steps late rounds w legal greatest crowded (Err fault.Length) is = absurd (is legal.one_each)
passes commands steps late rounds w legal greatest crowded (Err (fault.BeforeRelease id)) is = absurd (not_early commands rounds steps id legal is.1)
passes commands steps late rounds w legal greatest crowded (Err fault.Memory) is = refl
passes commands steps late rounds w legal greatest crowded (Err (fault.OverDepth x)) is = absurd (not_deep commands rounds steps x legal is.1.1)
passes commands steps late rounds w legal greatest crowded (Err (fault.WrongLateness own)) is =
    absurd (is.1.1 (same_greatest commands rounds own late is.1.0 greatest none))
passes commands steps late rounds w legal greatest crowded (Err (fault.NotCrowded n)) is =
    let load = is.1.1.0 in
    let few = is.1.1.1 in
    absurd (omega (arith, load, few, crowded))

pub passes_on_time : (commands : List Command) (steps : List Step) (rounds : List ℕ) (on_time : ℕ) (cover : List Window) → IsLegal commands rounds steps → number_on_time commands rounds ≡ on_time → IsCover cover → bound_of commands steps cover ≡ on_time → PassesOnTimeCheck commands steps rounds on_time cover
passes_on_time commands steps rounds on_time cover legal number is_cover bound (Ok _) is = tt
passes_on_time commands steps rounds on_time cover legal number is_cover bound (Err on_time_fault.Length) is = absurd (is legal.one_each)
passes_on_time commands steps rounds on_time cover legal number is_cover bound (Err (on_time_fault.BeforeRelease id)) is = absurd (not_early commands rounds steps id legal is.1)
passes_on_time commands steps rounds on_time cover legal number is_cover bound (Err on_time_fault.Memory) is = refl
passes_on_time commands steps rounds on_time cover legal number is_cover bound (Err (on_time_fault.OverDepth x)) is = absurd (not_deep commands rounds steps x legal is.1.1)
passes_on_time commands steps rounds on_time cover legal number is_cover bound (Err (on_time_fault.WrongMet own)) is =
    let told = is.1.0 in
    absurd (is.1.1 (sym told ∙ number))
passes_on_time commands steps rounds on_time cover legal number is_cover bound (Err (on_time_fault.Windows p)) is =
    let first = is.1.1 in
    let at = is_cover p first.in_list in
    elim (first.astray no_window) [
      | inl short ↦ absurd (omega (arith, at.some no_window))
      | inr over ↦ absurd (omega (arith, at.rising no_window over.0, over.1))
    ]
passes_on_time commands steps rounds on_time cover legal number is_cover bound (Err (on_time_fault.Loose n)) is =
    let told = is.1.1.1.0 in
    let less = is.1.1.1.1 in
    absurd (omega (arith, told, less, bound))
