use Rattle.std.proofs.Common.{◌≡◌, ◌∙◌, ◌++◌, ◌≢◌, refl, ap, subst, inr, List, IsPermutation, count_by}
use Rattle.blk_bio.specs.Bios.{Bio}
use Rattle.blk_bio.specs.declared.bio.BioId.{BioId}
use Rattle.blk_trace.specs.Happened.{Happened}
use Rattle.blk_trace.specs.Setups.{Setup}
use Rattle.blk_trace.specs.Events.{entered, AreOnce}
use Rattle.blk_trace.specs.Meaning.{waiting_of}
use Rattle.blk_trace.proofs.Words.{some_of}
use Rattle.blk_layer.specs.Closing.{is_bio_of, issued_bios, all_accepted, all_ran, done_commands, AreSettled, DiffersAsCommand, Disagrees}
use Rattle.blk_layer.specs.Inside.Closing.{AllDiffer}
use Rattle.blk_layer.proofs.Agreed.{disagree_bio, agree_all, none_of, none_map, some_map}
use Rattle.blk_layer.proofs.Onces.{once_moved, all_once}
use Rattle.blk_layer.proofs.closing.settle.Goals as goal

pub returns-in-Some-clause-counted : goal.returns-in-Some-clause-counted
returns-in-Some-clause-counted g c =
    let es : List Happened = c.args.core.now.events in
    let queued : List Bio = c.in_ok-left.left.items in
    let left : c.extend_from_slice-2.new.self.items ≡ queued ++ waiting_of es =
    c.in_ok-extend_from_slice-2.ensures.items ∙ ap (λ l. queued ++ l) (c.as_slice-2.ensures.value ∙ c.in_ok-waiting.ensures.waiting ∙ ap waiting_of c.trace-trace.ensures.events) in
    record { as_many = c.requires.counted; queued = queued; left_is = left }

pub returns-in-Some-clause-some : goal.returns-in-Some-clause-some
returns-in-Some-clause-some g c =
    let es : List Happened = c.args.core.now.events in
    let queued : List Bio = c.in_ok-left.left.items in
    let left : c.extend_from_slice-2.new.self.items ≡ queued ++ waiting_of es =
    c.in_ok-extend_from_slice-2.ensures.items ∙ ap (λ l. queued ++ l) (c.as_slice-2.ensures.value ∙ c.in_ok-waiting.ensures.waiting ∙ ap waiting_of c.trace-trace.ensures.events) in
    let stored : c.extend_from_slice.new.self.items ≡ entered es ++ queued =
    c.in_ok-extend_from_slice.ensures.items ∙ ap (λ l. l ++ c.as_slice.result.now) (c.in_ok-stored.ensures ∙ ap entered c.trace-trace.ensures.events) ∙ ap (λ l. entered es ++ l) c.as_slice.ensures.value in
    let setup = c.args.core.now.setup in
    let found = some_of c.in_ok-bio.field-0 (λ (id : BioId). (bio : Bio) × (bio.id ≡ id) × (count_by (is_bio_of bio) (all_accepted c.args.submitters.now) ≢ count_by (is_bio_of bio) c.extend_from_slice.new.self.items)) c.in-Some.bio c.in-Some.is c.in_ok-bio.ensures.some in
    disagree_bio setup es queued c.extend_from_slice-2.new.self.items (all_accepted c.args.submitters.now) c.extend_from_slice.new.self.items c.args.submitters.now c.args.workers.now c.in-Some.bio c.trace-trace.ensures.accounted left refl stored found

pub returns-clause-counted : goal.returns-clause-counted
returns-clause-counted g c =
    let es : List Happened = c.args.core.now.events in
    let queued : List Bio = c.in_ok-left.left.items in
    let left : c.extend_from_slice-2.new.self.items ≡ queued ++ waiting_of es =
    c.in_ok-extend_from_slice-2.ensures.items ∙ ap (λ l. queued ++ l) (c.as_slice-2.ensures.value ∙ c.in_ok-waiting.ensures.waiting ∙ ap waiting_of c.trace-trace.ensures.events) in
    record { as_many = c.requires.counted; queued = queued; left_is = left }

pub returns-clause-none : goal.returns-clause-none
returns-clause-none g c =
    let es : List Happened = c.args.core.now.events in
    let queued : List Bio = c.in_ok-left.left.items in
    let left : c.extend_from_slice-2.new.self.items ≡ queued ++ waiting_of es =
    c.in_ok-extend_from_slice-2.ensures.items ∙ ap (λ l. queued ++ l) (c.as_slice-2.ensures.value ∙ c.in_ok-waiting.ensures.waiting ∙ ap waiting_of c.trace-trace.ensures.events) in
    let stored : c.extend_from_slice.new.self.items ≡ entered es ++ queued =
    c.in_ok-extend_from_slice.ensures.items ∙ ap (λ l. l ++ c.as_slice.result.now) (c.in_ok-stored.ensures ∙ ap entered c.trace-trace.ensures.events) ∙ ap (λ l. entered es ++ l) c.as_slice.ensures.value in
    let setup = c.args.core.now.setup in
    let same : IsPermutation (all_accepted c.args.submitters.now) c.extend_from_slice.new.self.items = none_of c.in_ok-bio.field-0 (IsPermutation (all_accepted c.args.submitters.now) c.extend_from_slice.new.self.items) c.in_default.is c.in_ok-bio.ensures.none in
    let trace = c.trace-trace.result.now in
    let list : done_commands trace.setup trace.events ≡ done_commands setup es = ap (λ (s : Setup). done_commands s trace.events) c.trace-trace.ensures.setup ∙ ap (done_commands setup) c.trace-trace.ensures.events in
    none_map c.in_ok-differs.differs (IsPermutation (all_ran c.args.workers.now) (done_commands trace.setup trace.events)) (AreSettled setup es c.extend_from_slice-2.new.self.items c.args.submitters.now c.args.workers.now)
    (λ commands. agree_all setup es queued c.extend_from_slice-2.new.self.items (all_accepted c.args.submitters.now) c.extend_from_slice.new.self.items c.args.submitters.now c.args.workers.now c.trace-trace.ensures.accounted left refl stored same (subst (IsPermutation (all_ran c.args.workers.now)) list commands))
    c.in_ok-differs.ensures.none

pub returns-clause-some : goal.returns-clause-some
returns-clause-some g c =
    let es : List Happened = c.args.core.now.events in
    let setup = c.args.core.now.setup in
    let trace = c.trace-trace.result.now in
    let workers = c.args.workers.now in
    some_map c.in_ok-differs.differs (DiffersAsCommand trace.setup trace.events workers) (Disagrees setup es c.extend_from_slice-2.new.self.items c.args.submitters.now workers)
    (λ id d. inr (subst (λ (l : List Happened). DiffersAsCommand setup l workers id) c.trace-trace.ensures.events (subst (λ (s : Setup). DiffersAsCommand s trace.events workers id) c.trace-trace.ensures.setup d)))
    c.in_ok-differs.ensures.some

pub returns-clause-once : goal.returns-clause-once
returns-clause-once g c =
    let es : List Happened = c.args.core.now.events in
    let queued : List Bio = c.in_ok-left.left.items in
    let left : c.extend_from_slice-2.new.self.items ≡ queued ++ waiting_of es =
    c.in_ok-extend_from_slice-2.ensures.items ∙ ap (λ l. queued ++ l) (c.as_slice-2.ensures.value ∙ c.in_ok-waiting.ensures.waiting ∙ ap waiting_of c.trace-trace.ensures.events) in
    let stored : c.extend_from_slice.new.self.items ≡ entered es ++ queued =
    c.in_ok-extend_from_slice.ensures.items ∙ ap (λ l. l ++ c.as_slice.result.now) (c.in_ok-stored.ensures ∙ ap entered c.trace-trace.ensures.events) ∙ ap (λ l. entered es ++ l) c.as_slice.ensures.value in
    let setup = c.args.core.now.setup in
    let same : IsPermutation (all_accepted c.args.submitters.now) c.extend_from_slice.new.self.items = none_of c.in_ok-bio.field-0 (IsPermutation (all_accepted c.args.submitters.now) c.extend_from_slice.new.self.items) c.in_default.is c.in_ok-bio.ensures.none in
    let trace = c.trace-trace.result.now in
    let list : done_commands trace.setup trace.events ≡ done_commands setup es = ap (λ (s : Setup). done_commands s trace.events) c.trace-trace.ensures.setup ∙ ap (done_commands setup) c.trace-trace.ensures.events in
    none_map c.in_ok-differs.differs (IsPermutation (all_ran c.args.workers.now) (done_commands trace.setup trace.events)) (AllDiffer c.args.submitters.now → AreOnce (issued_bios es ++ c.extend_from_slice-2.new.self.items))
    (λ commands apart.
    let agreed : AreSettled setup es c.extend_from_slice-2.new.self.items c.args.submitters.now c.args.workers.now = agree_all setup es queued c.extend_from_slice-2.new.self.items (all_accepted c.args.submitters.now) c.extend_from_slice.new.self.items c.args.submitters.now c.args.workers.now c.trace-trace.ensures.accounted left refl stored same (subst (IsPermutation (all_ran c.args.workers.now)) list commands) in
    once_moved (all_accepted c.args.submitters.now) (issued_bios es ++ c.extend_from_slice-2.new.self.items) agreed.bios (all_once c.args.submitters.now c.in_ok-bio.ensures.each apart))
    c.in_ok-differs.ensures.none
