use Rattle.std.proofs.Common.{◌≡◌, ◌∙◌, sym, ap, subst, refl, rules, arith, length, List, ◌++◌, Some, None}
use Rattle.blk_layer.specs.Seats.{LayerShape, WorkerSeat}
use Rattle.blk_layer.specs.Closing.{done_count, AreAllThere, AreSettled, Disagrees, all_ran, issued_bios}
use Rattle.blk_trace.specs.Happened.{Happened}
use Rattle.blk_trace.specs.Events.{AreOnce}
use Rattle.blk_layer.specs.Inside.Closing.{AllDiffer}
use Rattle.blk_layer.proofs.Onces.{are_distinct}
use Rattle.blk_layer.proofs.Agreed.{none_of, some_of, same_settled, same_counted, same_disagrees, written_back}
use Rattle.blk_core.specs.State.{CoreState}
use Rattle.blk_layer.proofs.layer.Layer.close_all.Goals as goal

pub audit-requires-clause-all : goal.audit-requires-clause-all
audit-requires-clause-all g c =
    let count : c.self.inside.workers ≡ c.args.self.workers = ap (λ (l : LayerShape). l.workers) c.self.view_is in
    omega (arith, ap length c.as_mut_slice.ensures.value, c.requires.there.worker_count, count, c.self.invariant.3)

pub settle-settled-requires : goal.settle-settled-requires
settle-settled-requires g c =
    let same : c.as_slice-2.result.now ≡ c.args.workers.items =
    c.as_slice-2.ensures.value ∙ written_back c.args.workers.len c.args.workers.items c.audit.new.workers (c.audit.ensures.workers ∙ c.as_mut_slice.ensures.value) (omega (arith, ap length c.audit.ensures.workers, ap length c.as_mut_slice.ensures.value, c.as_mut_slice.ensures.len)) in
    let mine : c.as_mut_slice.result.now ≡ c.args.workers.items = c.as_mut_slice.ensures.value in
    record {
      counted = ap (λ (l : List WorkerSeat). length (all_ran l)) (same ∙ sym mine) ∙ c.audit.ensures.counted ∙ sym (ap (λ (s : CoreState). done_count s.events) c.audit.ensures.core);
    }

pub returns-in-None-clause-settled : goal.returns-in-None-clause-settled
returns-in-None-clause-settled g c =
    let workers : c.as_slice-2.result.now ≡ c.args.workers.items =
    c.as_slice-2.ensures.value ∙ written_back c.args.workers.len c.args.workers.items c.audit.new.workers (c.audit.ensures.workers ∙ c.as_mut_slice.ensures.value) (omega (arith, ap length c.audit.ensures.workers, ap length c.as_mut_slice.ensures.value, c.as_mut_slice.ensures.len)) in
    let submitters : c.as_slice.result.now ≡ c.args.submitters.items = search rules in
    let none : c.in-Ok.field-0.differs ≡ None = search rules in
    let named : c.audit.new.self.core.setup ≡ g.L.Named.setup = c.audit.new.self.named in
    same_settled c.audit.new.self.core.setup g.L.Named.setup c.audit.new.self.core.events c.into_trace-trace.result.events c.in-Ok.field-0.left.items c.as_slice.result.now c.args.submitters.items c.as_slice-2.result.now c.args.workers.items
    (sym named) c.into_trace-trace.ensures.events submitters workers
    (none_of c.in-Ok.field-0.differs (AreSettled c.audit.new.self.core.setup c.audit.new.self.core.events c.in-Ok.field-0.left.items c.as_slice.result.now c.as_slice-2.result.now) none c.in-Ok.ensures.none)

pub returns-in-None-clause-counted : goal.returns-in-None-clause-counted
returns-in-None-clause-counted g c =
    let workers : c.as_slice-2.result.now ≡ c.args.workers.items =
    c.as_slice-2.ensures.value ∙ written_back c.args.workers.len c.args.workers.items c.audit.new.workers (c.audit.ensures.workers ∙ c.as_mut_slice.ensures.value) (omega (arith, ap length c.audit.ensures.workers, ap length c.as_mut_slice.ensures.value, c.as_mut_slice.ensures.len)) in
    same_counted c.audit.new.self.core.events c.into_trace-trace.result.events c.in-Ok.field-0.left.items c.as_slice-2.result.now c.args.workers.items c.into_trace-trace.ensures.events workers c.in-Ok.ensures.counted

pub returns-in_default-clause-refused : goal.returns-in_default-clause-refused
returns-in_default-clause-refused g c =
    let workers = written_back c.args.workers.len c.args.workers.items c.audit.new.workers (c.audit.ensures.workers ∙ c.as_mut_slice.ensures.value) (omega (arith, ap length c.audit.ensures.workers, ap length c.as_mut_slice.ensures.value, c.as_mut_slice.ensures.len)) in
    (c.requires.there, record { same_layer = c.self.view_is; same_submitters = refl; same_workers = workers })

pub returns-clause-refused : goal.returns-clause-refused
returns-clause-refused g c =
    let back = written_back c.args.workers.len c.args.workers.items c.audit.new.workers (c.audit.ensures.workers ∙ c.as_mut_slice.ensures.value) (omega (arith, ap length c.audit.ensures.workers, ap length c.as_mut_slice.ensures.value, c.as_mut_slice.ensures.len)) in
    let workers : c.as_slice-2.result.now ≡ c.args.workers.items = c.as_slice-2.ensures.value ∙ back in
    let submitters : c.as_slice.result.now ≡ c.args.submitters.items = search rules in
    let some : c.in-Ok.field-0.differs ≡ Some c.in-Some.bio = search rules in
    let named : c.audit.new.self.core.setup ≡ g.L.Named.setup = c.audit.new.self.named in
    let disagree = some_of c.in-Ok.field-0.differs (Disagrees c.audit.new.self.core.setup c.audit.new.self.core.events c.in-Ok.field-0.left.items c.as_slice.result.now c.as_slice-2.result.now) c.in-Some.bio some c.in-Ok.ensures.some in (
      c.into_trace-trace.ensures.setup ∙ named,
      record {
        there = c.requires.there;
        counted = same_counted c.audit.new.self.core.events c.into_trace-trace.result.events c.in-Ok.field-0.left.items c.as_slice-2.result.now c.args.workers.items c.into_trace-trace.ensures.events workers c.in-Ok.ensures.counted;
        disagree = same_disagrees c.audit.new.self.core.setup g.L.Named.setup c.audit.new.self.core.events c.into_trace-trace.result.events c.in-Ok.field-0.left.items c.as_slice.result.now c.args.submitters.items c.as_slice-2.result.now c.args.workers.items c.in-Some.bio
            (sym named) c.into_trace-trace.ensures.events submitters workers disagree;
      },
      refl,
      back,
    )

pub returns-in-None-clause-setup : goal.returns-in-None-clause-setup
returns-in-None-clause-setup g c = c.into_trace-trace.ensures.setup ∙ c.audit.new.self.named

pub returns-in-None-clause-once : goal.returns-in-None-clause-once
returns-in-None-clause-once g c =
    let submitters : c.as_slice.result.now ≡ c.args.submitters.items = search rules in
    let none : c.in-Ok.field-0.differs ≡ None = search rules in
    let there : AreAllThere c.args.self.map c.args.self.workers c.args.submitters.items c.args.workers.items = c.requires.there in
    let apart : AllDiffer c.args.submitters.items = are_distinct (length c.args.self.map) c.args.submitters.items there.submitter_count there.each_submitter in
    let once : AllDiffer c.as_slice.result.now → AreOnce (issued_bios c.audit.new.self.core.events ++ c.in-Ok.field-0.left.items) =
    none_of c.in-Ok.field-0.differs (AllDiffer c.as_slice.result.now → AreOnce (issued_bios c.audit.new.self.core.events ++ c.in-Ok.field-0.left.items)) none c.in-Ok.ensures.once in
    subst (λ (es : List Happened). AreOnce (issued_bios es ++ c.in-Ok.field-0.left.items)) (sym c.into_trace-trace.ensures.events) (once (subst AllDiffer (sym submitters) apart))
