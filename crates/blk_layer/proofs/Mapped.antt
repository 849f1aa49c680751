-- Requests that are each of one submitter, for which a map has a hardware queue.
use Rattle.std.proofs.Common.{◌≡◌, ◌<◌, ℕ, zero, suc, refl, sym, ap, subst, arith, Bool, List, [], ◌∷◌, ◌++◌, Some, None, length, Result, Ok, Err, IfErr}
use Rattle.std.specs.Prelude.{◌≢◌, ◌≤◌, slice_get, slice_index_or}
use Rattle.std.specs.List.{flat_map}
use Rattle.blk_bio.specs.Bios.{Bio}
use Rattle.blk_bio.specs.declared.limits.TheConstants.{MAX_QUEUES}
use Rattle.blk_queues.specs.Maps.{IsHwCount}
use Rattle.blk_queues.specs.Plugs.{Plug}
use Rattle.blk_queues.specs.Queues.{Queue}
use Rattle.blk_sched.specs.Meaning.{Waiting}
use Rattle.blk_core.specs.State.{CoreState}
use Rattle.blk_core.specs.declared.refusals.CoreFault.TheVariants.{NoQueue}
use Rattle.blk_layer.specs.Seats.{SubmitterSeat, AreOwn}
use Rattle.blk_layer.specs.Submitting.{FlushesInto, MovesSome, IsMoveFault, IsMoveAllAnswer, AreMapped, submitter_of, queue_of}
use Rattle.blk_layer.specs.declared.submitting.DrainFault.{DrainFault}
use Rattle.blk_layer.specs.Runs.{IsMappedTo}

-- where there is none
pub none_mapped : (map : List ℕ) (requests : List (List Bio)) → requests ≡ [] → AreMapped map requests
none_mapped map requests e = subst (AreMapped map) (sym e) (λ k bios at. absurd (let x : None ≡ Some bios = at in cc))

-- the first of them, and the others
pub first_mapped : (map : List ℕ) (requests : List (List Bio)) (first : List Bio) (later : List (List Bio)) → requests ≡ first ∷ later → AreMapped map requests
    → AreOwn (submitter_of first) first × (submitter_of first < length map)
first_mapped map requests first later e are = are 0 first (rw e refl)

later_mapped : (map : List ℕ) (requests : List (List Bio)) (first : List Bio) (later : List (List Bio)) → requests ≡ first ∷ later → AreMapped map requests → AreMapped map later
later_mapped map requests first later e are k bios at = are (suc k) bios (rw e at)

-- those that are left after moves
pub some_mapped : (serves : ℕ → Waiting → Bool) (map : List ℕ) (queue : Queue) (core : CoreState) (n : ℕ) (now : Queue) (after : CoreState)
    → MovesSome serves queue core map n now after → AreMapped map queue.requests → AreMapped map now.requests
unfolding MovesSome
some_mapped serves map queue core zero now after m are = subst (λ (q : Queue). AreMapped map q.requests) (sym m.0) are
some_mapped serves map queue core (suc n) now after (between, (before, some, last)) are =
    later_mapped map between.requests last.first now.requests last.stood (some_mapped serves map queue core n between before some are)

pub all_mapped : (serves : ℕ → Waiting → Bool) (map : List ℕ) (queue : Queue) (core : CoreState) (now : Queue) (after : CoreState) (r : Result ℕ DrainFault)
    → IsMoveAllAnswer serves queue core map now after r → AreMapped map queue.requests → AreMapped map now.requests
all_mapped serves map queue core now after (Ok moved) m are = some_mapped serves map queue core moved now after m.0 are
all_mapped serves map queue core now after (Err fault) m are = some_mapped serves map queue core fault.moved now after m.0 are

-- an element of a list, whatever stands for one past its end
at_place : {X : Type 0} (xs : List X) (k : ℕ) (d : X) → k < length xs → slice_get xs k ≡ Some (slice_index_or xs k d)
at_place [] k d less = absurd (omega (arith, less))
at_place (x ∷ xs) zero d less = refl
at_place (x ∷ xs) (suc k) d less = at_place xs k d (omega (arith, less))

-- the hardware queue of such a request
pub mapped_to : (map : List ℕ) (bios : List Bio) → AreOwn (submitter_of bios) bios × (submitter_of bios < length map) → IsMappedTo map bios (queue_of map bios)
mapped_to map bios are = record { submitter = submitter_of bios; own = are.0; entry = at_place map (submitter_of bios) MAX_QUEUES are.1 }

-- both parts of a list of one's own bios
own_left : (number : ℕ) (xs ys : List Bio) → AreOwn number (xs ++ ys) → AreOwn number xs
own_left number [] ys own k d less = absurd (omega (arith, less))
own_left number (x ∷ xs) ys own zero d less = own 0 d (omega arith)
own_left number (x ∷ xs) ys own (suc k) d less = own_left number xs ys (λ j e l. own (suc j) e (omega (arith, l))) k d (omega (arith, less))

own_right : (number : ℕ) (xs ys : List Bio) → AreOwn number (xs ++ ys) → AreOwn number ys
own_right number [] ys own = own
own_right number (x ∷ xs) ys own = own_right number xs ys (λ k d less. own (suc k) d (omega (arith, less)))

-- a request of one's own bios
own_mapped : (map : List ℕ) (number : ℕ) (bios : List Bio) → number < length map → AreOwn number bios → AreOwn (submitter_of bios) bios × (submitter_of bios < length map)
own_mapped map number [] low own = ((λ k d less. absurd (omega (arith, less))), omega (arith, low))
own_mapped map number (b ∷ bios) low own =
    let is : b.id.submitter ≡ number = own 0 b (omega arith) in
    (subst (λ n. AreOwn n (b ∷ bios)) (sym is) own, omega (arith, is, low))

-- more requests behind, of one's own bios
behind : (map : List ℕ) (number : ℕ) (requests more : List (List Bio)) → number < length map → AreOwn number (flat_map (λ (request : List Bio). request) more) → AreMapped map requests
    → AreMapped map (requests ++ more)
behind map number [] [] low own are k bios at = absurd (let x : None ≡ Some bios = at in cc)
behind map number [] (first ∷ more) low own are zero bios at =
    let is : first ≡ bios = (let x : Some first ≡ Some bios = at in cc) in
    own_mapped map number bios low (subst (AreOwn number) is (own_left number first (flat_map (λ (request : List Bio). request) more) own))
behind map number [] (first ∷ more) low own are (suc k) bios at =
    behind map number [] more low (own_right number first (flat_map (λ (request : List Bio). request) more) own) are k bios at
behind map number (first ∷ requests) more low own are zero bios at = are 0 bios at
behind map number (first ∷ requests) more low own are (suc k) bios at = behind map number requests more low own (λ j b s. are (suc j) b s) k bios at

-- what a flush put behind
pub flushed_mapped : (map : List ℕ) (queue : Queue) (seat : SubmitterSeat) (plug : Plug) (new_queue : Queue) (new_seat : SubmitterSeat) (new_plug : Plug)
    → FlushesInto queue seat plug new_queue new_seat new_plug → AreOwn new_seat.number new_seat.accepted → new_seat.number < length map → AreMapped map queue.requests → AreMapped map new_queue.requests
flushed_mapped map queue seat plug new_queue new_seat new_plug f own low are =
    let taken : List Bio = flat_map (λ (request : List Bio). request) f.flushes.taken in
    let theirs : AreOwn new_seat.number taken = own_right new_seat.number seat.accepted taken (subst (AreOwn new_seat.number) f.flushes.added own) in
    subst (AreMapped map) (sym (ap (λ (q : Queue). q.requests) f.put)) (behind map new_seat.number queue.requests f.flushes.taken low theirs are)

-- the submitter of a request is that of its first bio
pub first_submitter : (bios : List Bio) (first : Bio) → 0 < length bios → first ≡ slice_index_or bios 0 first → submitter_of bios ≡ first.id.submitter
first_submitter [] first some is = absurd (omega (arith, some))
first_submitter (b ∷ bios) first some is = ap (λ (x : Bio). x.id.submitter) (sym is)

-- what stands at a place, whatever stands for one past the end
pub any_default : (xs : List ℕ) (k d e : ℕ) → k < length xs → slice_index_or xs k d ≡ slice_index_or xs k e
any_default [] k d e less = absurd (omega (arith, less))
any_default (x ∷ xs) zero d e less = refl
any_default (x ∷ xs) (suc k) d e less = any_default xs k d e (omega (arith, less))

-- a core that has the map's hardware queues has that of each such request
pub all_there : (serves : ℕ → Waiting → Bool) (map : List ℕ) (hw : ℕ) (queue : Queue) (core : CoreState) (now : Queue) (after : CoreState) (r : Result ℕ DrainFault)
    → IsMoveAllAnswer serves queue core map now after r → AreMapped map queue.requests → IsHwCount map hw → after.setup.hw ≡ hw → IfErr r (λ e. e.why ≢ NoQueue)
all_there serves map hw queue core now after (Ok moved) m are count same = tt
all_there serves map hw queue core now after (Err fault) m are count same = λ none.
    let told : IsMoveFault now after map NoQueue = subst (λ why. IsMoveFault now after map why) none m.2 in
    let left : AreMapped map now.requests = some_mapped serves map queue core fault.moved now after m.0 are in
    let its = first_mapped map now.requests told.first told.later told.stands left in
    let place : ℕ = submitter_of told.first in
    let at : ℕ = queue_of map told.first in
    let below : at < hw = (count at).0 (place, its.1, any_default map place at MAX_QUEUES its.1) in
    let above : after.setup.hw ≤ at = told.fault in
    omega (arith, below, above, same)
