use Rattle.std.proofs.Common.{◌≡◌, ◌-◌, get_or, arith, refl, subst}
use Rattle.edd_oracle.specs.Inside.Cover.{AreWindows}
use Rattle.edd_oracle.proofs.Windows.{more_windows, same_windows}
use Rattle.edd_oracle.proofs.cover.windows.Goals as goal

pub loop-left-preserved-in-Ok-1 : goal.loop-left-preserved-in-Ok-1
loop-left-preserved-in-Ok-1 g c =
    record {
      windows = more_windows c.args.served.now c.args.capacity.now c.args.passed.now c.loop-left.left (c.loop-left.left - 1) c.loop-left.cover.items c.push.new.self.items c.loop-left.from record { from = c.begin-from.result; due = get_or c.args.passed.now (c.loop-left.left - 1) 0 } c.loop-left.invariant.windows (omega arith) c.loop-left.invariant.within refl (omega arith) c.begin-from.ensures c.in-Ok.ensures.items;
      within = omega (arith, c.loop-left.invariant.within);
    }

pub loop-left-preserved : goal.loop-left-preserved
loop-left-preserved g c =
    record {
      windows = same_windows c.args.served.now c.args.capacity.now c.args.passed.now c.loop-left.left (c.loop-left.left - 1) c.loop-left.cover.items c.loop-left.from c.requires.rising_dues c.loop-left.invariant.windows (omega arith) c.loop-left.invariant.within (omega arith)
          (c.requires.in_range (c.loop-left.left - 1) 0 (omega (arith, c.loop-left.invariant.within)));
      within = omega (arith, c.loop-left.invariant.within);
    }

pub returns : goal.returns
returns g c =
    let done : c.loop-left.left ≡ 0 = omega arith in
    subst (λ n. AreWindows c.args.served.now c.args.capacity.now c.args.passed.now n c.loop-left.cover.items) done c.loop-left.invariant.windows.windows
