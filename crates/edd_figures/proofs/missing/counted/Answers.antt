use Rattle.std.proofs.Common.{arith, map, ap, refl, ◌∙◌}
use Rattle.edd_figures.specs.Misses.{crowd_of}
use Rattle.edd_figures.proofs.Tardy.{all_commands, least_late}
use Rattle.edd_figures.proofs.missing.counted.Goals as goal

pub overflow_sub-unavoidable : goal.overflow_sub-unavoidable
overflow_sub-unavoidable g c =
    let m = c.requires.most in
    omega (arith, all_commands c.args.commands.now c.args.answer.now.rounds.items m.legal.one_each, m.number)

pub overflow_sub-late : goal.overflow_sub-late
overflow_sub-late g c = omega (arith, all_commands c.args.commands.now c.args.rounds.now c.requires.legal.one_each, c.number_on_time.ensures)

pub overflow_sub-counts : goal.overflow_sub-counts
overflow_sub-counts g c =
    let m = c.requires.most in
    let legal = c.requires.legal in
    omega (arith, all_commands c.args.commands.now c.args.rounds.now legal.one_each, m.most.most c.args.rounds.now legal, c.number_on_time.ensures)

pub returns-clause-misses : goal.returns-clause-misses
returns-clause-misses g c =
    let m = c.requires.most in
    let legal = c.requires.legal in
    let on_time = all_commands c.args.commands.now c.args.answer.now.rounds.items m.legal.one_each in
    let all = all_commands c.args.commands.now c.args.rounds.now legal.one_each in
    record {
      count_is = refl;
      late_is = omega (arith, all, c.number_on_time.ensures);
      least = least_late c.args.commands.now c.args.capacity.now c.args.answer.now.on_time _ m.most (omega (arith, on_time, m.number));
      rest = omega (arith, all, m.most.most c.args.rounds.now legal, c.number_on_time.ensures);
      cover = c.args.answer.now.cover.items;
      disjoint = m.disjoint;
      best = c.args.answer.now.rounds.items;
      legal = m.legal;
      first = c.requires.first;
      passed = c.requires.passed;
      windows_are = c.in_ok-windows.ensures ∙ ap (λ l. map (crowd_of c.args.commands.now c.args.capacity.now) l) c.as_slice.ensures.value;
      bound = omega (arith, m.bound, on_time, m.number);
    }
