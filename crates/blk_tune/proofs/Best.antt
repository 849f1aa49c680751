-- Where nothing is avoidable and where nothing is lost, by what the reports say of all legal schedules.
use Rattle.std.proofs.Common.{ℕ, ◌≡◌, ◌∙◌, ◌+◌, List, Some, None, ap, subst, arith, length, ℤ, pos, ◌-ℤ◌, ◌≤ℤ◌}
use Rattle.std.specs.Prelude.{◌↔◌, Option}
use Rattle.std.proofs.lemmas.Int.{ints}
use Rattle.edd_commands.specs.declared.Command.{Command}
use Rattle.edd_commands.specs.declared.steps.Step.{Step}
use Rattle.edd_commands.specs.Schedule.{IsGreatestLateness, IsLowerBound}
use Rattle.edd_figures.specs.declared.lateness.Figures.{Figures}
use Rattle.edd_figures.specs.declared.missing.Crowd.{Crowd}
use Rattle.edd_figures.specs.Figures.{HasFigures, shortfall_in}
use Rattle.edd_figures.specs.Misses.{number_late, IsLeastLate}
use Rattle.blk_trace.specs.Depths.{capacity_of}
use Rattle.blk_trace.specs.Happened.{Happened}
use Rattle.blk_trace.specs.Meaning.{commands_of, rounds_of}
use Rattle.blk_trace.specs.Setups.{Setup}
use Rattle.blk_report.specs.declared.figures.Report.{Report}
use Rattle.blk_report.specs.declared.missing.Tally.{Tally}
use Rattle.blk_report.specs.Misses.{IsTallied}
use Rattle.blk_report.specs.Shortfall.{IsReport}
use Rattle.blk_tune.specs.Row.{HasFewestLate, IsLatestOfNone}

fewest_late : (commands : List Command) (rounds : List ℕ) (steps : List Step) (late unavoidable avoidable : ℕ) → late ≡ number_late commands rounds → IsLeastLate commands steps unavoidable → unavoidable + avoidable ≡ late
    → (avoidable ≡ 0) ↔ HasFewestLate commands rounds steps
fewest_late commands rounds steps late unavoidable avoidable is least rest = (
  λ z other legal. omega (arith, least.least other legal, is, rest, z),
  λ h. omega (arith, h least.schedule least.legal, least.reached, is, rest),
)

pub fewest : (setup : Setup) (events : List Happened) (t : Tally) (windows : List Crowd) → IsTallied setup events t windows
    → (t.avoidable ≡ 0) ↔ HasFewestLate (commands_of setup events) (rounds_of events) (capacity_of setup events)
fewest setup events t windows is =
    fewest_late (commands_of setup events) (rounds_of events) (capacity_of setup events) t.late t.unavoidable t.avoidable is.misses.late_is is.misses.least is.misses.rest

-- the greatest is no greater than another number that is the greatest of the same schedule
no_greater : (commands : List Command) (rounds : List ℕ) (one other : ℤ) (d : Command) → IsGreatestLateness commands rounds one → IsGreatestLateness commands rounds other → one ≤ℤ other
no_greater commands rounds one other d is that = subst (λ (z : ℤ). z ≤ℤ other) (is.reached d) (that.bound is.place d is.in_list)

least_late : (commands : List Command) (rounds : List ℕ) (steps : List Step) (greatest least : ℤ) (lost : Option ℤ) (d : Command) → IsGreatestLateness commands rounds greatest → IsLowerBound commands steps least
    → ((late : ℤ) → IsLowerBound commands steps late → late ≤ℤ least) → pos 0 ≤ℤ (greatest -ℤ least) → lost ≡ Some (greatest -ℤ least) → (lost ≡ Some (pos 0)) ↔ IsLatestOfNone commands rounds steps
least_late commands rounds steps greatest least lost d is bound most above e = (
  λ z.
      let none : greatest -ℤ least ≡ pos 0 = cc (e, z) in
      let same : least ≡ greatest = omega (arith, ints, none) in
      (greatest, is, subst (λ (l : ℤ). IsLowerBound commands steps l) same bound),
  λ h.
      let up : greatest ≤ℤ h.0 = no_greater commands rounds greatest h.0 d is h.1 in
      let down : h.0 ≤ℤ least = most h.0 h.2 in
      let none : greatest -ℤ least ≡ pos 0 = omega (arith, ints, up, down, above) in
      e ∙ ap (λ (l : ℤ). Some l) none,
)

least_of : (commands : List Command) (rounds : List ℕ) (steps : List Step) (f : Option Figures) → HasFigures commands rounds steps f → (shortfall_in f ≡ Some (pos 0)) ↔ IsLatestOfNone commands rounds steps
least_of commands rounds steps None none = (
  λ z. absurd (cc z),
  λ g. let e : length commands ≡ 0 = ap length none in absurd (omega (arith, e, g.1.in_list)),
)
least_of commands rounds steps (Some f) are =
    let d : Command = record { id = 0; release = 0; due = 0 } in
    least_late commands rounds steps f.greatest f.least (Some f.shortfall) d are.greatest are.least.least
    (λ late lower. lower are.least.schedule f.least are.least.legal are.least.reached) are.not_negative (ap (λ (l : ℤ). Some l) are.shortfall)

pub least : (setup : Setup) (events : List Happened) (r : Report) → IsReport setup events r
    → (shortfall_in r.figures ≡ Some (pos 0)) ↔ IsLatestOfNone (commands_of setup events) (rounds_of events) (capacity_of setup events)
least setup events r is = least_of (commands_of setup events) (rounds_of events) (capacity_of setup events) r.figures is.figures
