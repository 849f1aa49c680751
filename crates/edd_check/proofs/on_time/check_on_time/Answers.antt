use Rattle.std.proofs.Common.{◌≡◌, ◌≤◌, ◌+◌, inl, inr, subst, arith, rules}
use Rattle.edd_commands.specs.declared.Command.{Command}
use Rattle.edd_check.specs.declared.Window.{Window}
use Rattle.edd_commands.specs.Schedule.{IsLegal}
use Rattle.edd_check.specs.OnTime.{number_on_time, bound_of, IsOnTimeBound, IsCover}
use Rattle.edd_check.proofs.Covers.{covers_bound}
use Rattle.edd_check.proofs.on_time.check_on_time.Goals as goal

abbrev none : Command
none = record { id = 0; release = 0; due = 0 }

abbrev no_window : Window
no_window = record { from = 0; due = 0 }

pub returns-in-Some-clause-accepts : goal.returns-in-Some-clause-accepts
returns-in-Some-clause-accepts g c =
    λ legal on_time is bound.
    let first = c.in-Some.ensures.first in
    absurd (omega (arith, first.early none, legal.released first.place none first.in_list))

pub returns-in-Some-first_astray-clause-accepts : goal.returns-in-Some-first_astray-clause-accepts
returns-in-Some-first_astray-clause-accepts g c =
    λ legal on_time is bound.
    let first = c.in-Some-first_astray.ensures.first in
    let at = is c.in-Some-first_astray.place first.in_list in
    elim (first.astray no_window) [
      | inl short ↦ absurd (omega (arith, at.some no_window))
      | inr over ↦ absurd (omega (arith, at.rising no_window over.0, over.1))
    ]

pub returns-then-most-on_time-clause-answer : goal.returns-then-most-on_time-clause-answer
returns-then-most-on_time-clause-answer g c =
    let legal : IsLegal c.args.commands.now c.args.rounds.now c.args.capacity.now = search rules in
    let on_time : number_on_time c.args.commands.now c.args.rounds.now ≡ c.args.on_time = omega (arith, c.number_on_time-own.ensures) in
    let is : IsCover c.args.cover.now = c.in_default-first_astray.ensures.none in
    let bound : bound_of c.args.commands.now c.args.capacity.now c.args.cover.now ≡ c.carried_by.result + c.outside.result = omega (arith, c.carried_by.ensures.value, c.outside.ensures.value) in
    let above : number_on_time c.args.commands.now c.args.rounds.now ≤ bound_of c.args.commands.now c.args.capacity.now c.args.cover.now = covers_bound c.args.commands.now c.args.capacity.now c.args.cover.now c.args.rounds.now legal in
    (legal, (on_time, (is, (bound, omega (arith, c.if-most-on_time.true)))))

pub returns-clause-most : goal.returns-clause-most
returns-clause-most g c =
    let legal : IsLegal c.args.commands.now c.args.rounds.now c.args.capacity.now = search rules in
    let on_time : number_on_time c.args.commands.now c.args.rounds.now ≡ c.args.on_time = omega (arith, c.number_on_time-own.ensures) in
    let bound : bound_of c.args.commands.now c.args.capacity.now c.args.cover.now ≡ c.args.on_time = omega (arith, c.carried_by.ensures.value, c.outside.ensures.value) in
    record {
      schedule = c.args.rounds.now;
      legal = legal;
      reached = on_time;
      most = subst (λ n. IsOnTimeBound c.args.commands.now c.args.capacity.now n) bound (covers_bound c.args.commands.now c.args.capacity.now c.args.cover.now);
    }
