use Rattle.std.proofs.Common.{sym, ap, subst, arith, length, Contains, List}
use Rattle.edd_commands.specs.declared.Command.{Command}
use Rattle.blk_trace.specs.Happened.{Happened}
use Rattle.blk_trace.specs.Events.{IsReleased}
use Rattle.blk_layer.specs.Closing.{done_commands, IsBioOf}
use Rattle.blk_trace.proofs.Ids.{released_first}
use Rattle.blk_layer.proofs.Completed.{done_issued, done_length}
use Rattle.blk_layer.proofs.Agreed.{differs_as}
use Rattle.blk_layer.proofs.closing.command_bio.Goals as goal

pub differing_command-requires : goal.differing_command-requires
differing_command-requires g c =
    let all = done_length c.args.trace.now.setup c.args.trace.now.events c.events-events.ensures.legal in
    omega (arith, c.requires, ap length c.in_ok-ran.ensures, ap length c.in_ok-done.ensures, all)

pub bio_of-requires : goal.bio_of-requires
bio_of-requires g c =
    let events : List Happened = c.args.trace.now.events in
    let setup = c.args.trace.now.setup in
    let has : Contains (done_commands setup events) c.in-Some.command = subst (λ (l : List Command). Contains l c.in-Some.command) c.in_ok-done.ensures c.in-Some.ensures.some.0 in
    let released : IsReleased events c.in-Some.command.id = released_first setup events c.in-Some.command.id c.events-events.ensures.legal (done_issued setup events c.in-Some.command has) in
    subst (λ (l : List Happened). IsReleased l c.in-Some.command.id) (sym c.events-events.ensures.events) released

pub returns-in-Some-clause-some : goal.returns-in-Some-clause-some
returns-in-Some-clause-some g c =
    differs_as c.args.trace.now.setup c.args.trace.now.events c.args.workers.now c.in-Some.command c.in_ok-done.done.items c.in_ok-ran.ran.items c.bio_of.result
    c.in_ok-done.ensures c.in_ok-ran.ensures c.in-Some.ensures.some
    (subst (λ (l : List Happened). IsBioOf l c.in-Some.command.id c.bio_of.result) c.events-events.ensures.events c.bio_of.ensures)
