use Rattle.std.proofs.Common.{ℕ, List, ◌≤◌, ◌<◌, sym, subst}
use Rattle.std.specs.List.{All}
use Rattle.edd_commands.specs.Capacity.{depth_at}
use Rattle.edd_oracle.specs.declared.cover.Served.{Served}
use Rattle.edd_oracle.specs.Inside.Cover.{running_at}
use Rattle.edd_verdict.specs.Inside.Tight.{AreFull, AreTight}
use Rattle.edd_verdict.proofs.Tightening.{served_few, served_timely, all_filled}
use Rattle.edd_verdict.proofs.tight.filled.Goals as goal

pub full_rounds-requires-clause-few : goal.full_rounds-requires-clause-few
full_rounds-requires-clause-few g c =
    subst (λ (xs : List Served). (y : ℕ) → running_at xs y ≤ depth_at c.args.capacity.now y) (sym c.as_slice.ensures.value)
    (served_few c.args.commands.now c.args.rounds.now c.in_ok-served.served.items c.in_ok-served.ensures.moved c.args.capacity.now c.requires.legal)

pub full_rounds-requires-clause-timely : goal.full_rounds-requires-clause-timely
full_rounds-requires-clause-timely g c =
    subst (λ (xs : List Served). All (λ s. (s.round ≤ s.due) × (s.round < 2199023255552)) xs) (sym c.as_slice.ensures.value)
    (served_timely c.args.commands.now c.args.rounds.now c.in_ok-served.served.items c.in_ok-served.ensures.moved c.args.capacity.now c.requires.legal c.requires.on_time c.requires.in_range)

pub returns : goal.returns
returns g c =
    let full : List Served = c.in_ok-full.full.items in
    let are : AreFull c.in_ok-served.served.items c.args.capacity.now full = subst (λ xs. AreFull xs c.args.capacity.now full) c.as_slice.ensures.value c.in_ok-full.ensures.full in
    let tight : AreTight full c.in_ok-found.found.items = subst (λ xs. AreTight xs c.in_ok-found.found.items) c.as_slice-2.ensures.value c.in_ok-found.ensures in
    all_filled c.args.commands.now c.args.rounds.now c.in_ok-served.served.items c.in_ok-served.ensures.moved c.args.capacity.now c.requires.legal full c.requires.first c.requires.on_time are c.in_ok-found.found.items tight
