use Rattle.std.proofs.Common.{◌≡◌, ◌≤◌, ◌+◌, ◌∙◌, cond, length, take, ap, sym, arith}
use Rattle.std.specs.List.{flat_map}
use Rattle.std.proofs.lemmas.List.{take_all}
use Rattle.blk_bio.specs.declared.limits.TheConstants.{MAX_SEGMENTS}
use Rattle.blk_bio.specs.Limits.{IsLimits}
use Rattle.blk_ids.specs.ById as by_id
use Rattle.blk_trace.specs.Events.{request_of, bios_of}
use Rattle.blk_trace.specs.Meaning.{issued_ids}
use Rattle.blk_trace.specs.Waits.{has_id}
use Rattle.blk_trace.specs.Inside.Gathered.{enters_to_stay}
use Rattle.blk_trace.proofs.Accounting.{waiting}
use Rattle.blk_trace.proofs.Gathering.{stays_by}
use Rattle.blk_trace.proofs.Counted.{few_more, wait_more, none_waits, all_wait}
use Rattle.blk_trace.proofs.trace.waiting.count_waiting.Goals as goal
use Rattle.blk_trace.proofs.trace.waiting.count_waiting.Goals.{then-stays, else-stays}

pub loop-event-init : goal.loop-event-init
loop-event-init g c = record { number = sym (none_waits (waiting c.args.events.now)); few = omega arith }

pub loop-event-preserved : goal.loop-event-preserved
loop-event-preserved g c =
    let es = c.args.events.now in
    let i = c.loop-event.event-index in
    let e = c.event-item.result in
    let limits : IsLimits c.args.setup.limits = rw (← c.limits.ensures) c.max_segments.ensures.is_limits in
    let few : length (bios_of e) ≤ MAX_SEGMENTS = few_more c.args.setup es i e limits c.requires.legal c.loop-event-test.true c.event-item.is in
    let told : enters_to_stay (λ id. has_id (issued_ids es) id) e ≡ c.stays.result = sym (c.stays.ensures ∙ stays_by c.args.setup es (by_id.kept_at c.args.known.now) e c.requires.legal c.requires.kept) in
    let more : length (flat_map (request_of (take (i + 1) es)) (waiting es)) ≡ length (flat_map (request_of (take i es)) (waiting es)) + cond c.stays.result (length (bios_of e)) 0 =
    wait_more c.args.setup es i e c.requires.legal c.loop-event-test.true c.event-item.is ∙ ap (λ b. length (flat_map (request_of (take i es)) (waiting es)) + cond b (length (bios_of e)) 0) told in
    elim c.if-stays.branch [
      | then-stays w ↦
          let now : length w.bios.result.now ≡ length (bios_of e) = ap length w.bios.ensures in
          let one : cond c.stays.result (length (bios_of e)) 0 ≡ length (bios_of e) = ap (λ b. cond b (length (bios_of e)) 0) w.if-stays.true in
          record {
            number = omega (arith, c.loop-event.invariant.number, more, one, now, w.bios-is);
            few = omega (arith, c.loop-event.invariant.few, few, now, w.bios-is);
          }
      | else-stays w ↦
          let none : cond c.stays.result (length (bios_of e)) 0 ≡ 0 = ap (λ b. cond b (length (bios_of e)) 0) w.if-stays.false in
          record {
            number = omega (arith, c.loop-event.invariant.number, more, none, w.bios-is);
            few = omega (arith, c.loop-event.invariant.few, w.bios-is);
          }
    ]

pub returns : goal.returns
returns g c =
    let es = c.args.events.now in
    c.loop-event.invariant.number
    ∙ ap (λ l. length (flat_map (request_of l) (waiting es))) (take_all c.loop-event.event-index es c.loop-event-test.false)
    ∙ all_wait es
