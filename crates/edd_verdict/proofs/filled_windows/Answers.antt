use Rattle.std.proofs.Common.{ap, sym, ◌∙◌, subst}
use Rattle.std.specs.Option.{is_some}
use Rattle.edd_commands.proofs.InForce.{depth_bounds}
use Rattle.edd_oracle.specs.Input.{IsTaken}
use Rattle.edd_verdict.proofs.Subset.{on_time_taken, best_on_time, best_windows, none_filled}
use Rattle.edd_verdict.proofs.filled_windows.Goals as goal

pub solve_taken-requires : goal.solve_taken-requires
solve_taken-requires g c =
    subst IsTaken (sym (c.as_slice-on_time.ensures.value ∙ c.in_ok-commands_on_time.ensures)) (on_time_taken c.args.commands.now c.args.rounds.now c.args.capacity.now c.requires.legal c.requires.taken)

pub filled-requires-clause-some : goal.filled-requires-clause-some
filled-requires-clause-some g c = λ y. (depth_bounds c.args.capacity.now y c.requires.capacity).0

pub filled-requires-clause-on_time : goal.filled-requires-clause-on_time
filled-requires-clause-on_time g c =
    let best = rw c.in-Some.is at c.in_ok-answer.ensures.best in
    let are = c.as_slice-on_time.ensures.value ∙ c.in_ok-commands_on_time.ensures in
    best_on_time c.args.commands.now c.args.rounds.now c.args.capacity.now c.as_slice-on_time.result.now c.as_slice-on_time.result.now _ c.as_slice.result.now _ _ c.requires.legal are are c.as_slice.ensures.value best

pub returns : goal.returns
returns g c =
    let best = rw c.in-Some.is at c.in_ok-answer.ensures.best in
    let are = c.as_slice-on_time.ensures.value ∙ c.in_ok-commands_on_time.ensures in
    best_windows c.args.commands.now c.args.rounds.now c.args.capacity.now c.as_slice-on_time.result.now c.as_slice-on_time.result.now _ c.as_slice.result.now _ _ c.in_ok-windows.windows.items c.requires.legal are are c.as_slice.ensures.value best c.in_ok-windows.ensures

pub returns-in_default : goal.returns-in_default
returns-in_default g c =
    none_filled c.args.commands.now c.args.rounds.now c.args.capacity.now c.requires.legal (λ x. (depth_bounds c.args.capacity.now x c.requires.capacity).0)
    (sym c.in_ok-commands_on_time.ensures ∙ sym c.as_slice-on_time.ensures.value ∙ c.in_ok-answer.ensures.none.0 (ap (λ x. is_some x) c.in_default.is)) c.new.result.items c.new.ensures.items
