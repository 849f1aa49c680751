use Rattle.std.proofs.Common.{◌<◌, ℕ, get_or, arith, refl, ap}
use Rattle.std.proofs.lemmas.Int.{ints}
use Rattle.std.proofs.lemmas.List.{get_or_default}
use Rattle.edd_commands.specs.declared.Command.{Command}
use Rattle.edd_commands.specs.declared.TheConstants.{MAX_ROUNDS}
use Rattle.edd_oracle.proofs.Crowded.{crowded_at, greatest_at}
use Rattle.edd_oracle.proofs.window.latest_window.Goals as goal

abbrev none : Command
none = record { id = 0; release = 0; due = 0 }

pub returns-clause-greatest : goal.returns-clause-greatest
returns-clause-greatest g c =
    let k : ℕ = c.latest-late.result in
    let round_small : get_or c.args.rounds.now k 0 < MAX_ROUNDS = c.requires.rounds_in k 0 (omega (arith, c.requires.legal.one_each)) in
    let due_small : (get_or c.args.commands.now k none).due < MAX_ROUNDS = (c.requires.commands_in k none c.latest-late.ensures.in_list).1 in
    greatest_at c.args.commands.now c.args.rounds.now k (get_or c.args.rounds.now k 0) (get_or c.args.commands.now k none).due none _ c.latest-late.ensures.in_list refl refl (omega (arith, ints)) c.latest-late.ensures.latest

pub returns-clause-crowded : goal.returns-clause-crowded
returns-clause-crowded g c =
    let k : ℕ = c.latest-late.result in
    let round_small : get_or c.args.rounds.now k 0 < MAX_ROUNDS = c.requires.rounds_in k 0 (omega (arith, c.requires.legal.one_each)) in
    let due_small : (get_or c.args.commands.now k none).due < MAX_ROUNDS = (c.requires.commands_in k none c.latest-late.ensures.in_list).1 in
    crowded_at c.args.commands.now c.args.rounds.now c.args.capacity.now (get_or c.args.rounds.now k 0) (get_or c.args.commands.now k none).due c.in_ok-from.from k none _ c.requires.legal.one_each c.requires.first c.in_ok-from.ensures c.latest-late.ensures.in_list refl refl (omega (arith, ints))

pub returns-clause-latest : goal.returns-clause-latest
returns-clause-latest g c =
    let k : ℕ = c.latest-late.result in
    record {
      place = k;
      in_list = c.latest-late.ensures.in_list;
      latest = c.latest-late.ensures.latest;
      is_due = λ e. ap (λ (b : Command). b.due) (get_or_default c.args.commands.now k none e c.latest-late.ensures.in_list);
      is_start = c.in_ok-from.ensures;
    }
