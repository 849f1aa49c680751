use Rattle.std.proofs.Common.{◌≡◌, ◌+◌, length, max, inr, refl, ap, arith}
use Rattle.blk_arrivals.specs.Coming.{begin_of}
use Rattle.blk_arrivals.specs.Plugs.{no_plugs, steps_from}
use Rattle.blk_arrivals.specs.Inside.Plugs.{plugs_of}
use Rattle.blk_arrivals.proofs.Stepping.{AreSteps, more_steps, last_step, last_fit, as_many}
use Rattle.blk_arrivals.proofs.builder.steps_of.Goals as goal
use Rattle.blk_arrivals.proofs.builder.steps_of.Goals.{Else-len-gt-MAX_STEPS, After-drop-builder-then-len-gt-MAX_STEPS-2, After-drop-builder-then-len-gt-MAX_STEPS-2-3, After-drop-builder-2}

-- one record more
more : (c : Else-len-gt-MAX_STEPS) → AreSteps (begin_of c.args.records.now) c.args.span c.args.told c.args.keys.now c.args.records.now (c.loop-record.record-index + 1) c.take.new.self.lines.items (plugs_of c.take.new.self)
more c =
    let s = c.loop-record.invariant in
    more_steps (begin_of c.args.records.now) c.args.span c.args.told c.args.keys.now c.args.records.now c.loop-record.record-index c.loop-record.builder.lines.items c.take.new.self.lines.items (plugs_of c.loop-record.builder)
    (plugs_of c.take.new.self) _ c.round_of_time.result c.effect_of-effect.result c.loop-record-test.true c.requires.in_time s.short (record { rest = s.rest; held = s.held; bios = s.bios; fit = s.fit })
    (rw c.begin_of-begin.ensures at c.round_of_time.ensures) c.effect_of-effect.ensures.value c.effect_of-effect.ensures.effect c.in-Ok-take.ensures.lines c.in-Ok-take.ensures.plugs

-- which is one too many
many : (c : After-drop-builder-then-len-gt-MAX_STEPS-2) → AreSteps (begin_of c.args.records.now) c.args.span c.args.told c.args.keys.now c.args.records.now (c.loop-record.record-index + 1) c.take.new.self.lines.items (plugs_of c.take.new.self)
many c =
    let s = c.loop-record.invariant in
    more_steps (begin_of c.args.records.now) c.args.span c.args.told c.args.keys.now c.args.records.now c.loop-record.record-index c.loop-record.builder.lines.items c.take.new.self.lines.items (plugs_of c.loop-record.builder)
    (plugs_of c.take.new.self) _ c.round_of_time.result c.effect_of-effect.result c.loop-record-test.true c.requires.in_time s.short (record { rest = s.rest; held = s.held; bios = s.bios; fit = s.fit })
    (rw c.begin_of-begin.ensures at c.round_of_time.ensures) c.effect_of-effect.ensures.value c.effect_of-effect.ensures.effect c.in-Ok-take.ensures.lines c.in-Ok-take.ensures.plugs

pub loop-record-preserved : goal.loop-record-preserved
loop-record-preserved c = (let s = more c in record { rest = s.rest; held = s.held; bios = s.bios; short = omega arith; fit = s.fit })

pub returns-then-len-gt-MAX_STEPS-clause-err : goal.returns-then-len-gt-MAX_STEPS-clause-err
returns-then-len-gt-MAX_STEPS-clause-err c = (let s = many c in inr (refl, as_many c.take.new.self.lines.items _ _ _ (omega arith) s.rest))

-- at the end
whole : (c : After-drop-builder-2) → c.finish.new.self.lines.items ≡ steps_from (begin_of c.args.records.now) c.args.span c.args.told c.args.keys.now (no_plugs (length c.args.keys.now)) c.args.records.now
whole c =
    last_step (begin_of c.args.records.now) c.args.span c.args.told c.args.keys.now c.loop-record.builder.lines.items c.finish.new.self.lines.items _ (plugs_of c.loop-record.builder) c.args.records.now c.loop-record.record-index
    (omega arith) c.loop-record.invariant.rest c.in-Ok-finish.ensures

-- which are too many
too_long : (c : After-drop-builder-then-len-gt-MAX_STEPS-2-3) → c.finish.new.self.lines.items ≡ steps_from (begin_of c.args.records.now) c.args.span c.args.told c.args.keys.now (no_plugs (length c.args.keys.now)) c.args.records.now
too_long c =
    last_step (begin_of c.args.records.now) c.args.span c.args.told c.args.keys.now c.loop-record.builder.lines.items c.finish.new.self.lines.items _ (plugs_of c.loop-record.builder) c.args.records.now c.loop-record.record-index
    (omega arith) c.loop-record.invariant.rest c.in-Ok-finish.ensures

pub returns-then-len-gt-MAX_STEPS-2-clause-err : goal.returns-then-len-gt-MAX_STEPS-2-clause-err
returns-then-len-gt-MAX_STEPS-2-clause-err c = (let long = ap length (too_long c) in inr (refl, omega (arith, long)))

pub returns-clause-ok : goal.returns-clause-ok
returns-clause-ok c = whole c

pub returns-clause-fit : goal.returns-clause-fit
returns-clause-fit c =
    let s = c.loop-record.invariant in
    last_fit (max (length c.args.keys.now) 1) (plugs_of c.loop-record.builder) c.loop-record.builder.lines.items c.finish.new.self.lines.items (omega (arith, s.held)) s.bios s.short s.fit c.in-Ok-finish.ensures
