use Rattle.std.proofs.Common.{◌≡◌, ◌∙◌, ◌<◌, ◌-◌, ◌^◌, ℤ, pos, negsuc, ◌+ℤ◌, ◌≤ℤ◌, ◌<ℤ◌, subst, arith, rules, ap, of_z, w64}
use Rattle.std.specs.Prelude.{⊤}
use Rattle.std.proofs.lemmas.Int.{ints, to_z-of_z}
use Rattle.std.proofs.lemmas.Option.{MatchOption-at_some}
use Rattle.edd_commands.specs.declared.Command.{Command}
use Rattle.edd_commands.specs.Schedule.{IsLegal, IsGreatestLateness}
use Rattle.edd_check.specs.Rules.{IsLeastOverDeep}
use Rattle.edd_commands.specs.Capacity.{carried}
use Rattle.edd_check.specs.Window.{rounds_between, room_of, load_of, IsCrowded}
use Rattle.edd_check.proofs.Latest.{greatest_in_range, same_greatest}
use Rattle.edd_check.proofs.Least.{least_here}
use Rattle.edd_check.proofs.check.Given.{Over}
use Rattle.edd_check.proofs.check.Goals as goal

own_in_range : (g : Over) (c : goal.Else-own-lateness g) → (negsuc (2 ^ 41) ≤ℤ c.in-Some-greatest_lateness.own) × (c.in-Some-greatest_lateness.own <ℤ pos (2 ^ 41))
own_in_range g c =
    greatest_in_range c.args.commands.now c.args.rounds.now c.in-Some-greatest_lateness.own (omega arith) c.requires.commands_in c.requires.rounds_in c.in-Some-greatest_lateness.ensures.greatest record { id = 0; release = 0; due = 0 }

pub end_of-requires-clause-low : goal.end_of-requires-clause-low
end_of-requires-clause-low g c = let own = own_in_range g c in omega (arith, ints)

pub end_of-requires-clause-high : goal.end_of-requires-clause-high
end_of-requires-clause-high g c = let own = own_in_range g c in omega (arith, ints)

-- what its rounds carry, where the claim is good
counted : (g : Over) (c : goal.Else-load-carries g) → c.sum-carries.result ≡ room_of c.args.capacity.now c.args.lateness c.args.window
counted g c =
    let late : ℤ = pos c.args.window.due +ℤ c.args.lateness in
    let n : c.end_of.result - c.args.window.from ≡ rounds_between c.args.window.from late = grind (arith, to_z-of_z, c.end_of.ensures.rounds) in
    c.sum-carries.ensures.value ∙ ap (λ k. carried c.args.capacity.now c.args.window.from k) n

proven : (g : Over) (c : goal.Else-load-carries g) → IsLegal c.args.commands.now c.args.rounds.now c.args.capacity.now × IsGreatestLateness c.args.commands.now c.args.rounds.now c.args.lateness × IsCrowded c.args.commands.now c.args.capacity.now c.args.lateness c.args.window
proven g c =
    let legal : IsLegal c.args.commands.now c.args.rounds.now c.args.capacity.now = search rules in
    let same : c.in-Some-greatest_lateness.own ≡ c.args.lateness = omega (arith, ints) in
    (legal, subst (λ z. IsGreatestLateness c.args.commands.now c.args.rounds.now z) same c.in-Some-greatest_lateness.ensures.greatest, subst (λ k. k < load_of c.args.commands.now c.args.window) (counted g c) (omega arith))

pub returns-clause-answer : goal.returns-clause-answer
returns-clause-answer g c =
    let all = proven g c in
    (all.0, all.1, all.2, (c.load-load.ensures, counted g c))

pub returns-clause-least : goal.returns-clause-least
returns-clause-least g c =
    let all = proven g c in
    least_here c.args.commands.now c.args.capacity.now c.args.lateness c.args.rounds.now c.args.window all.0 all.1 all.2

none : Command
none = record { id = 0; release = 0; due = 0 }

pub returns-in-Some-clause-accepts : goal.returns-in-Some-clause-accepts
returns-in-Some-clause-accepts g c =
    λ legal greatest crowded.
    let first = c.in-Some.ensures.first in
    absurd (omega (arith, first.early none, legal.released first.place none first.in_list))

pub returns-in-Some-over_deep-clause-accepts : goal.returns-in-Some-over_deep-clause-accepts
returns-in-Some-over_deep-clause-accepts g c =
    λ legal greatest crowded.
    let deep = MatchOption-at_some ⊤ (IsLeastOverDeep c.args.rounds.now c.args.capacity.now) c.in-Some-over_deep.round c.in-Some-over_deep.is c.in-Ok.ensures.least in
    absurd (omega (arith, deep.over, legal.within_depth c.in-Some-over_deep.round))

pub returns-then-own-lateness-clause-accepts : goal.returns-then-own-lateness-clause-accepts
returns-then-own-lateness-clause-accepts g c =
    λ legal greatest crowded.
    let same = same_greatest c.args.commands.now c.args.rounds.now c.in-Some-greatest_lateness.own c.args.lateness c.in-Some-greatest_lateness.ensures.greatest greatest none in
    absurd (c.if-own-lateness.true (ap (of_z w64) same))
