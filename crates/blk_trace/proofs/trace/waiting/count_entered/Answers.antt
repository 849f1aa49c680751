use Rattle.std.proofs.Common.{◌≡◌, ◌≤◌, ◌+◌, ◌∙◌, length, take, ap, sym, arith, length-append}
use Rattle.blk_bio.specs.declared.limits.TheConstants.{MAX_SEGMENTS}
use Rattle.blk_bio.specs.Limits.{IsLimits}
use Rattle.blk_trace.specs.Events.{entered, bios_of}
use Rattle.blk_trace.proofs.Pushing.{entered_up, none_entered}
use Rattle.blk_trace.proofs.Counted.{few_more}
use Rattle.blk_trace.proofs.trace.waiting.count_entered.Goals as goal

pub loop-event-init : goal.loop-event-init
loop-event-init g c = record { number = sym (ap length none_entered); few = omega arith }

pub loop-event-preserved : goal.loop-event-preserved
loop-event-preserved g c =
    let es = c.args.events.now in
    let i = c.loop-event.event-index in
    let e = c.event-item.result in
    let limits : IsLimits c.args.setup.limits = rw (← c.limits.ensures) c.max_segments.ensures.is_limits in
    let few : length (bios_of e) ≤ MAX_SEGMENTS = few_more c.args.setup es i e limits c.requires c.loop-event-test.true c.event-item.is in
    let more : length (entered (take (i + 1) es)) ≡ length (entered (take i es)) + length (bios_of e) = ap length (entered_up es i e c.loop-event-test.true c.event-item.is) ∙ length-append (entered (take i es)) (bios_of e) in
    let now : length c.bios.result.now ≡ length (bios_of e) = ap length c.bios.ensures in
    record {
      number = omega (arith, c.loop-event.invariant.number, more, now);
      few = omega (arith, c.loop-event.invariant.few, few, now);
    }
