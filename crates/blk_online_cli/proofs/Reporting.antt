-- The shortfall of what is least late, and the avoidable misses of what has the most on time.
use Rattle.std.proofs.Common.{◌≡◌, ◌≤◌, ◌+◌, ℕ, ◌⊎◌, List, [], ◌∷◌, length, nat_lt, Option, None, Some, ℤ, pos, ◌-ℤ◌, ◌≤ℤ◌, inl, inr, arith, refl, ◌∙◌, ap}
use Rattle.std.specs.List.{zip}
use Rattle.std.proofs.lemmas.Int.{ints}
use Rattle.std.proofs.lemmas.Bool.{cases_lt, le-leb, lt-leb, lt-ltb, le-ltb}
use Rattle.edd_commands.specs.declared.Command.{Command}
use Rattle.edd_commands.specs.Schedule.{IsLegal, IsLeastLateness}
use Rattle.edd_check.specs.OnTime.{number_on_time, is_on_time}
use Rattle.edd_oracle.proofs.Counting.{count_yes, count_no}
use Rattle.blk_trace.specs.Happened.{Happened}
use Rattle.blk_trace.specs.Setups.{Setup}
use Rattle.blk_trace.specs.Depths.{capacity_of}
use Rattle.blk_trace.specs.Legal.{IsLegalTrace}
use Rattle.blk_trace.specs.Meaning.{commands_of, rounds_of}
use Rattle.blk_trace.proofs.Scheduling.{legal-schedule}
use Rattle.blk_report.specs.declared.figures.Report.{Report}
use Rattle.edd_figures.specs.declared.lateness.Figures.{Figures}
use Rattle.edd_figures.specs.Figures.{HasFigures, shortfall_in}
use Rattle.blk_report.specs.Shortfall.{IsReport}
use Rattle.edd_figures.specs.Misses.{number_late}
use Rattle.blk_online.specs.Best.{HasLeastLateness, HasMostOnTime}
use Rattle.blk_online_cli.specs.Shortfalls.{HasNoShortfall, HasNoneAvoidable}

-- where the greatest is least there is no shortfall
none_lost : (setup : Setup) (events : List Happened) (f : Option Figures) → HasLeastLateness setup events → HasFigures (commands_of setup events) (rounds_of events) (capacity_of setup events) f
    → (commands_of setup events ≡ []) ⊎ (shortfall_in f ≡ Some (pos 0))
none_lost setup events None least none = inl none
none_lost setup events (Some t) least are =
    let own : IsLeastLateness (commands_of setup events) (capacity_of setup events) t.greatest = least t.greatest are.greatest in
    let low : t.greatest ≤ℤ t.least = own.least are.least.schedule t.least are.least.legal are.least.reached in
    let high : pos 0 ≤ℤ (t.greatest -ℤ t.least) = are.not_negative in
    let zero_is : (t.greatest -ℤ t.least) ≡ pos 0 = omega (arith, ints, low, high) in
    inr (ap (λ (z : ℤ). Some z) (are.shortfall ∙ zero_is))

pub no_shortfall : (setup : Setup) (events : List Happened) (r : Report) → HasLeastLateness setup events → IsReport setup events r → HasNoShortfall setup events r
no_shortfall setup events r least report = none_lost setup events r.figures least report.figures

-- each command is on time or late
on_time_or_late : (commands : List Command) (rounds : List ℕ) → length rounds ≡ length commands → number_on_time commands rounds + number_late commands rounds ≡ length commands
unfolding number_on_time number_late
on_time_or_late [] rounds same = refl
on_time_or_late (c ∷ cs) [] same = absurd (omega arith)
on_time_or_late (c ∷ cs) (x ∷ xs) same =
    let rest = on_time_or_late cs xs (omega arith) in
    let p : Command × ℕ = (c, x) in
    elim (cases_lt c.due x) [
      | inl late ↦ omega (arith, rest, count_no (λ (q : Command × ℕ). is_on_time q.0 q.1) p (zip cs xs) (lt-leb x c.due late), count_yes (λ (q : Command × ℕ). nat_lt q.0.due q.1) p (zip cs xs) (lt-ltb c.due x late))
      | inr in_time ↦ omega (arith, rest, count_yes (λ (q : Command × ℕ). is_on_time q.0 q.1) p (zip cs xs) (le-leb x c.due in_time), count_no (λ (q : Command × ℕ). nat_lt q.0.due q.1) p (zip cs xs) (le-ltb c.due x in_time))
    ]

pub none_avoidable : (setup : Setup) (events : List Happened) → IsLegalTrace setup events → HasMostOnTime setup events → HasNoneAvoidable setup events
none_avoidable setup events legal most count late unavoidable avoidable windows m =
    let commands : List Command = commands_of setup events in
    let own : IsLegal commands (rounds_of events) (capacity_of setup events) = legal-schedule setup events legal in
    let best : List ℕ = m.least.schedule in
    let fewer : number_on_time commands best ≤ number_on_time commands (rounds_of events) = most.most best m.least.legal in
    omega (arith, fewer, on_time_or_late commands best m.least.legal.one_each, on_time_or_late commands (rounds_of events) own.one_each, m.least.reached, m.late_is, m.rest)
