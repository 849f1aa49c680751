use Rattle.std.proofs.Common.{refl, ◌≡◌, ◌∙◌, ap, sym}
use Rattle.std.specs.Prelude.{not}
use Rattle.blk_bio.specs.declared.request.Side.{Side}
use Rattle.blk_bio.specs.Requests.{IsRequest, Fits}
use Rattle.blk_trace.specs.declared.known.Entry.{Entry}
use Rattle.blk_trace.specs.declared.known.Stage.TheVariants.{Waits, Gone, Requeued}
use Rattle.blk_trace.specs.declared.known.Known.{Known}
use Rattle.blk_trace.specs.Happened.{Join}
use Rattle.blk_trace.specs.Setups.{Setup}
use Rattle.blk_trace.specs.Events.{request_of, join_up}
use Rattle.blk_trace.specs.Waits.{Entered, summary, entered_at}
use Rattle.blk_trace.proofs.Asked.{holds, fails, some_found, none_found}
use Rattle.blk_trace.proofs.Joining.{fits_to}
use Rattle.blk_trace.proofs.Knowing.{known_none, known_some, never_issued, once_issued}
use Rattle.blk_trace.proofs.Room.{room_kept, full_kept}
use Rattle.blk_trace.proofs.First.{join_unknown, join_already_issued, join_bio_twice, join_fit, join_too_long, join_unbroken}
use Rattle.blk_trace.proofs.trace.Trace.broken_join.Goals as goal

pub returns-in_default-clause-some : goal.returns-in_default-clause-some
returns-in_default-clause-some g c = join_unknown c.args.self.now.setup c.args.self.now.events c.args.id c.args.request.now (known_none c.args.self.now.setup c.args.self.now.events c.args.id (sym c.known_at.ensures.value ∙ c.in_default.is))

pub returns-in-Gone-clause-some : goal.returns-in-Gone-clause-some
returns-in-Gone-clause-some g c =
    let k = known_some c.args.self.now.setup c.args.self.now.events c.args.id c.in-Some.known (sym c.known_at.ensures.value ∙ c.in-Some.is) in
    join_already_issued c.args.self.now.setup c.args.self.now.events c.args.id c.args.request.now k.released (λ h. h (once_issued c.args.self.now.setup c.args.self.now.events c.args.id c.in-Some.known k (λ e. let no : Waits ≡ Gone = sym e ∙ c.in-Gone.is in absurd (cc))))

pub returns-in-Requeued-clause-some : goal.returns-in-Requeued-clause-some
returns-in-Requeued-clause-some g c =
    let k = known_some c.args.self.now.setup c.args.self.now.events c.args.id c.in-Some.known (sym c.known_at.ensures.value ∙ c.in-Some.is) in
    join_already_issued c.args.self.now.setup c.args.self.now.events c.args.id c.args.request.now k.released (λ h. h (once_issued c.args.self.now.setup c.args.self.now.events c.args.id c.in-Some.known k (λ e. let no : Waits ≡ Requeued = sym e ∙ c.in-Requeued.is in absurd (cc))))

pub returns-then-not-are_new-clause-some : goal.returns-then-not-are_new-clause-some
returns-then-not-are_new-clause-some g c =
    let k = known_some c.args.self.now.setup c.args.self.now.events c.args.id c.in-Some.known (sym c.known_at.ensures.value ∙ c.in-Some.is) in
    let never = never_issued c.args.self.now.setup c.args.self.now.events c.args.id c.in-Some.known k c.in-Waits.is in
    join_bio_twice c.args.self.now.setup c.args.self.now.events c.args.id c.args.request.now k.released never (fails c.are_new.result c.if-not-are_new.true c.are_new.ensures)

pub returns-then-is_none-clause-some : goal.returns-then-is_none-clause-some
returns-then-is_none-clause-some g c =
    let k = known_some c.args.self.now.setup c.args.self.now.events c.args.id c.in-Some.known (sym c.known_at.ensures.value ∙ c.in-Some.is) in
    let never = never_issued c.args.self.now.setup c.args.self.now.events c.args.id c.in-Some.known k c.in-Waits.is in
    let lim : c.limits.result ≡ c.args.self.now.setup.limits = c.limits.ensures ∙ ap (λ (x : Setup). x.limits) c.setup.ensures in
    let is : c.in-Some.known.entry ≡ summary (entered_at c.args.self.now.setup c.args.self.now.events c.args.id) = ap (λ (x : Known). x.entry) k.is in
    let bios = c.known_at.ensures.request k.released in
    let w : Entered = entered_at c.args.self.now.setup c.args.self.now.events c.args.id in
    let P : Type 0 = (w : Entered) → c.in-Some.known.entry ≡ summary w → IsRequest w.bios → (x : Side) → Fits c.limits.result w.bios c.args.request.now x → ⊥ in
    let no = none_found c.joined.result P (c.is_none.ensures ∙ ap not c.if-is_none.true) c.joined.ensures.none in
    join_fit c.args.self.now.setup c.args.self.now.events c.args.id c.args.request.now k.released never (holds c.are_new.result c.if-not-are_new.false c.are_new.ensures)
    (λ f. let f' = fits_to c.args.self.now.setup.limits c.limits.result w.bios w.bios c.args.request.now (sym lim) refl f in no w is bios f'.0 f'.1)

pub returns-then-not-has_places-clause-some : goal.returns-then-not-has_places-clause-some
returns-then-not-has_places-clause-some g c =
    let k = known_some c.args.self.now.setup c.args.self.now.events c.args.id c.in-Some.known (sym c.known_at.ensures.value ∙ c.in-Some.is) in
    let never = never_issued c.args.self.now.setup c.args.self.now.events c.args.id c.in-Some.known k c.in-Waits.is in
    let lim : c.limits.result ≡ c.args.self.now.setup.limits = c.limits.ensures ∙ ap (λ (x : Setup). x.limits) c.setup.ensures in
    let is : c.in-Some.known.entry ≡ summary (entered_at c.args.self.now.setup c.args.self.now.events c.args.id) = ap (λ (x : Known). x.entry) k.is in
    let bios = c.known_at.ensures.request k.released in
    let w : Entered = entered_at c.args.self.now.setup c.args.self.now.events c.args.id in
    let Q : Entry → Type 0 = λ new. (w : Entered) → c.in-Some.known.entry ≡ summary w → IsRequest w.bios → ((x : Side) × Fits c.limits.result w.bios c.args.request.now x) × (new ≡ summary record { release = 0; due = w.due; bios = join_up w.bios c.args.request.now }) in
    let f = some_found c.joined.result Q (c.is_none.ensures ∙ ap not c.if-is_none.false) c.joined.ensures.some in
    let fit = fits_to c.limits.result c.args.self.now.setup.limits w.bios (request_of c.args.self.now.events c.args.id) c.args.request.now lim refl (f.1.1 w is bios).0 in
    join_too_long c.args.self.now.setup c.args.self.now.events c.args.id c.args.request.now k.released never (holds c.are_new.result c.if-not-are_new.false c.are_new.ensures) fit (full_kept c.args.self.now.setup c.args.self.now.events (Join c.args.id c.args.request.now) refl refl (fails c.has_places.result c.if-not-has_places.true c.has_places.ensures))

pub returns-else-not-has_places-clause-none : goal.returns-else-not-has_places-clause-none
returns-else-not-has_places-clause-none g c =
    let k = known_some c.args.self.now.setup c.args.self.now.events c.args.id c.in-Some.known (sym c.known_at.ensures.value ∙ c.in-Some.is) in
    let never = never_issued c.args.self.now.setup c.args.self.now.events c.args.id c.in-Some.known k c.in-Waits.is in
    let lim : c.limits.result ≡ c.args.self.now.setup.limits = c.limits.ensures ∙ ap (λ (x : Setup). x.limits) c.setup.ensures in
    let is : c.in-Some.known.entry ≡ summary (entered_at c.args.self.now.setup c.args.self.now.events c.args.id) = ap (λ (x : Known). x.entry) k.is in
    let bios = c.known_at.ensures.request k.released in
    let w : Entered = entered_at c.args.self.now.setup c.args.self.now.events c.args.id in
    let Q : Entry → Type 0 = λ new. (w : Entered) → c.in-Some.known.entry ≡ summary w → IsRequest w.bios → ((x : Side) × Fits c.limits.result w.bios c.args.request.now x) × (new ≡ summary record { release = 0; due = w.due; bios = join_up w.bios c.args.request.now }) in
    let f = some_found c.joined.result Q (c.is_none.ensures ∙ ap not c.if-is_none.false) c.joined.ensures.some in
    let fit = fits_to c.limits.result c.args.self.now.setup.limits w.bios (request_of c.args.self.now.events c.args.id) c.args.request.now lim refl (f.1.1 w is bios).0 in
    join_unbroken c.args.self.now.setup c.args.self.now.events c.args.id c.args.request.now k.released never (holds c.are_new.result c.if-not-are_new.false c.are_new.ensures) fit (room_kept c.args.self.now.setup c.args.self.now.events (Join c.args.id c.args.request.now) refl refl (holds c.has_places.result c.if-not-has_places.false c.has_places.ensures))

pub joined-requires : goal.joined-requires
joined-requires g c =
    let k = known_some c.args.self.now.setup c.args.self.now.events c.args.id c.in-Some.known (sym c.known_at.ensures.value ∙ c.in-Some.is) in
    (entered_at c.args.self.now.setup c.args.self.now.events c.args.id, ap (λ (x : Known). x.entry) k.is, c.known_at.ensures.request k.released)
