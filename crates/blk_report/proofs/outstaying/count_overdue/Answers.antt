use Rattle.std.proofs.Common.{◌≡◌, ◌<◌, ◌≤◌, ◌+◌, ◌++◌, ◌∙◌, ◌∷◌, ℕ, Bool, List, [], length, length-append, get_or, take, true, false, cond, refl, ap, sym, subst, arith}
use Rattle.std.specs.Prelude.{Option, Some, None}
use Rattle.std.specs.Option.{option_map_or}
use Rattle.std.specs.List.{flat_map}
use Rattle.std.proofs.lemmas.List.{take_all, take_more, flat_map_more}
use Rattle.blk_bio.specs.Bios.{Bio}
use Rattle.blk_bio.specs.declared.limits.TheConstants.{MAX_SEGMENTS}
use Rattle.blk_bio.specs.Limits.{Limits, IsLimits}
use Rattle.blk_trace.specs.Happened.{Happened}
use Rattle.blk_trace.specs.Events.{bios_of}
use Rattle.blk_trace.specs.Kinds.{enters}
use Rattle.blk_trace.specs.Legal.{IsLegalTrace}
use Rattle.blk_trace.specs.Setups.{Setup}
use Rattle.blk_trace.proofs.Counted.{few_more}
use Rattle.blk_report.specs.Overdue.{is_overdue, bios_under, overdue_of}
use Rattle.blk_report.proofs.outstaying.count_overdue.Goals as goal

few_of : (b : Bool) (bios : List Bio) → length (cond b bios []) ≤ length bios
few_of true bios = omega arith
few_of false bios = omega arith

few_under : (test : ℕ → Bool) (entry : Option (ℕ × List Bio)) → length (option_map_or (λ p. cond (test p.0) p.1 []) entry []) ≤ length (option_map_or (λ p. p.1) entry [])
few_under test None = omega arith
few_under test (Some (id, bios)) = few_of (test id) bios

-- they are as few as a request may have
few_here : (setup own : Setup) (limits : Limits) (es : List Happened) (i : ℕ) (e : Happened) → limits ≡ own.limits → own ≡ setup → IsLimits limits → IsLegalTrace setup es → i < length es → e ≡ get_or es i e
    → length (bios_under (is_overdue setup es) e) ≤ MAX_SEGMENTS
few_here setup own limits es i e is same within legal low at =
    let few : length (bios_of e) ≤ MAX_SEGMENTS = few_more setup es i e (subst IsLimits (is ∙ ap (λ (s : Setup). s.limits) same) within) legal low at in
    omega (arith, few, few_under (is_overdue setup es) (enters e))

pub loop-event-init : goal.loop-event-init
loop-event-init g c = record { number = refl; few = omega arith }

pub overflow_add-bios : goal.overflow_add-bios
overflow_add-bios g c =
    let t = c.args.trace.now in
    let all : c.events-event-items.result.now ≡ t.events = c.events-event-items.ensures.events in
    let i : ℕ = c.loop-event.event-index in
    let e : Happened = c.event-item.result in
    let low : i < length t.events = omega (arith, c.loop-event-test.true, ap length all) in
    let legal = c.events-event-items.ensures.legal in
    let few = few_here t.setup c.setup.result c.limits.result t.events i e c.limits.ensures c.setup.ensures c.max_segments.ensures.is_limits legal low (c.event-item.is ∙ ap (λ l. get_or l i e) all) in
    omega (arith, c.loop-event.invariant.few, few, c.overdue_by-bios.ensures, low, legal.not_too_long)

pub loop-event-preserved : goal.loop-event-preserved
loop-event-preserved g c =
    let t = c.args.trace.now in
    let es : List Happened = t.events in
    let under : Happened → List Bio = bios_under (is_overdue t.setup es) in
    let all : c.events-event-items.result.now ≡ es = c.events-event-items.ensures.events in
    let i : ℕ = c.loop-event.event-index in
    let e : Happened = c.event-item.result in
    let low : i < length es = omega (arith, c.loop-event-test.true, ap length all) in
    let at : e ≡ get_or es i e = c.event-item.is ∙ ap (λ l. get_or l i e) all in
    let few = few_here t.setup c.setup.result c.limits.result es i e c.limits.ensures c.setup.ensures c.max_segments.ensures.is_limits c.events-event-items.ensures.legal low at in
    let so_far : List Bio = flat_map under (take i es) in
    let more : length (flat_map under (take (i + 1) es)) ≡ length so_far + length (under e) =
    ap (λ l. length (flat_map under l)) (take_more es i e low ∙ ap (λ x. take i es ++ x ∷ []) (sym at))
    ∙ sym (ap length (flat_map_more under [] (take i es) e)) ∙ length-append so_far (under e) in
    record {
      number = omega (arith, c.loop-event.invariant.number, more, c.overdue_by-bios.ensures);
      few = omega (arith, c.loop-event.invariant.few, few, c.overdue_by-bios.ensures);
    }

pub returns : goal.returns
unfolding overdue_of
returns g c =
    let t = c.args.trace.now in
    c.loop-event.invariant.number
    ∙ ap (λ l. length (flat_map (bios_under (is_overdue t.setup t.events)) l)) (take_all c.loop-event.event-index t.events (let over = c.loop-event-test.false in omega (arith, over, ap length c.events-event-items.ensures.events)))
