use Rattle.std.proofs.Common.{◌≡◌, ℕ, List, ap, sym, ◌∙◌, subst}
use Rattle.edd_check.specs.declared.Window.{Window}
use Rattle.edd_check.specs.OnTime.{number_on_time, bound_of, IsOnTimeBound}
use Rattle.edd_oracle.specs.OnTime.{IsPassedCover}
use Rattle.edd_oracle.proofs.Bound.{most_answer}
use Rattle.edd_oracle.proofs.most_on_time_taken.Goals as goal

pub returns-clause-most : goal.returns-clause-most
returns-clause-most g c =
    let rounds : List ℕ = c.in-Ok-schedule_on_time.rounds.items in
    let cover : List Window = c.in-Ok-cover.cover.items in
    let passed : IsPassedCover c.args.commands.now rounds c.args.capacity.now cover =
    subst (λ xs. IsPassedCover c.args.commands.now xs c.args.capacity.now cover) c.as_slice.ensures.value c.in-Ok-cover.ensures.passed in
    let bound : IsOnTimeBound c.args.commands.now c.args.capacity.now (bound_of c.args.commands.now c.args.capacity.now cover) =
    subst (λ ws. IsOnTimeBound c.args.commands.now c.args.capacity.now (bound_of c.args.commands.now c.args.capacity.now ws)) c.as_slice-3.ensures.value c.law_of_covers.ensures in
    let number : number_on_time c.args.commands.now rounds ≡ c.number_on_time-on_time.result =
    sym (c.number_on_time-on_time.ensures ∙ ap (λ xs. number_on_time c.args.commands.now xs) c.as_slice-2.ensures.value) in
    most_answer c.args.commands.now rounds c.args.capacity.now c.number_on_time-on_time.result cover c.in-Ok-schedule_on_time.ensures.legal c.in-Ok-schedule_on_time.ensures.carries c.in-Ok-schedule_on_time.ensures.first passed bound number c.in-Ok-schedule_on_time.ensures.in_range c.in-Ok-cover.ensures.in_range
