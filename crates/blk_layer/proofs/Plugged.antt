-- What flushes add up to.
use Rattle.std.proofs.Common.{◌≡◌, ◌∙◌, ◌+◌, ◌≤◌, sym, ap, refl, arith, add-zero, List, [], ◌∷◌, ◌++◌, append_assoc, length}
use Rattle.std.specs.List.{flat_map}
use Rattle.std.proofs.lemmas.List.{append-nil}
use Rattle.std.proofs.lemmas.Grind.{flat_map-append}
use Rattle.blk_bio.specs.Bios.{Bio}
use Rattle.blk_queues.specs.Plugs.{Plug, bios_plugged}
use Rattle.blk_queues.specs.Queues.{Queue}
use Rattle.blk_layer.specs.Seats.{SubmitterSeat}
use Rattle.blk_layer.specs.declared.submitting.FlushReason.{FlushReason}
use Rattle.blk_layer.specs.declared.submitting.FlushReason.TheVariants.{Foreign, Repeated, SoftFull, Memory}
use Rattle.blk_layer.specs.Submitting.{Flushes, FlushesInto, IsRoomReason}
use Rattle.blk_layer.specs.Inside.Submitting.{IsOfBios}

-- a flush of nothing
pub none_flushed : (seat : SubmitterSeat) (plug : Plug) (new : SubmitterSeat) (left : Plug) → new ≡ seat → left ≡ plug → Flushes seat plug new left
none_flushed seat plug new left e f = rw (e, f) (record { taken = []; stood = refl; limits = refl; added = sym (append-nil seat.accepted); number = refl })

-- one flush after another
pub flushed_on : (a : SubmitterSeat) (p : Plug) (b : SubmitterSeat) (q : Plug) (c : SubmitterSeat) (r : Plug) → Flushes a p b q → Flushes b q c r → Flushes a p c r
flushed_on a p b q c r one two = record {
  taken = one.taken ++ two.taken;
  stood = one.stood ∙ ap (λ l. one.taken ++ l) two.stood ∙ sym (append_assoc one.taken two.taken r.requests);
  limits = two.limits ∙ one.limits;
  added = two.added ∙ ap (λ l. l ++ flat_map (λ (x : List Bio). x) two.taken) one.added
      ∙ append_assoc a.accepted (flat_map (λ (x : List Bio). x) one.taken) (flat_map (λ (x : List Bio). x) two.taken)
      ∙ ap (λ l. a.accepted ++ l) (sym (flat_map-append (λ (x : List Bio). x) one.taken two.taken));
  number = two.number ∙ one.number;
}

-- one request flushed
pub one_flushed : (a : SubmitterSeat) (p : Plug) (first : List Bio) (b : SubmitterSeat) (q : Plug) → p ≡ record { limits = q.limits; requests = first ∷ q.requests }
    → b ≡ record { number = a.number; accepted = a.accepted ++ first } → Flushes a p b q
one_flushed a p first b q stood added = record {
  taken = first ∷ [];
  stood = ap (λ (x : Plug). x.requests) stood;
  limits = sym (ap (λ (x : Plug). x.limits) stood);
  added = ap (λ (x : SubmitterSeat). x.accepted) added ∙ ap (λ l. a.accepted ++ l) (sym (append-nil first));
  number = ap (λ (x : SubmitterSeat). x.number) added;
}

length_both : (xs ys : List Bio) → length (xs ++ ys) ≡ length xs + length ys
length_both [] ys = omega arith
length_both (x ∷ xs) ys = omega (arith, length_both xs ys)

-- the same of the software queue: of nothing, of one flush after another, and of one request
pub none_put : (queue : Queue) (seat : SubmitterSeat) (plug : Plug) → FlushesInto queue seat plug queue seat plug
unfolding none_flushed
none_put queue seat plug = record {
  flushes = none_flushed seat plug seat plug refl refl;
  put = sym (rw (append-nil queue.requests, add-zero) refl);
}

pub put_on : (x : Queue) (a : SubmitterSeat) (p : Plug) (y : Queue) (b : SubmitterSeat) (q : Plug) (z : Queue) (c : SubmitterSeat) (r : Plug)
    → FlushesInto x a p y b q → FlushesInto y b q z c r → FlushesInto x a p z c r
unfolding flushed_on
put_on x a p y b q z c r one two =
    let first = one.flushes.taken in
    let second = two.flushes.taken in
    let bios : List (List Bio) → List Bio = λ l. flat_map (λ (request : List Bio). request) l in
    let count : x.bios_in + length (bios first) + length (bios second) ≡ x.bios_in + length (bios (first ++ second)) =
    omega (arith, ap length (flat_map-append (λ (request : List Bio). request) first second), length_both (bios first) (bios second)) in
    let list : (x.requests ++ first) ++ second ≡ x.requests ++ (first ++ second) = append_assoc x.requests first second in
    record {
      flushes = flushed_on a p b q c r one.flushes two.flushes;
      put = two.put ∙ ap (λ (w : Queue). record w { requests = w.requests ++ second; bios_in = w.bios_in + length (bios second) }) one.put
          ∙ ap (λ n. record x { requests = (x.requests ++ first) ++ second; bios_in = n }) count
          ∙ ap (λ l. record x { requests = l; bios_in = x.bios_in + length (bios (first ++ second)) }) list;
    }

pub one_put : (x : Queue) (a : SubmitterSeat) (p : Plug) (first : List Bio) (y : Queue) (b : SubmitterSeat) (q : Plug) → p ≡ record { limits = q.limits; requests = first ∷ q.requests }
    → b ≡ record { number = a.number; accepted = a.accepted ++ first } → y ≡ record x { requests = x.requests ++ first ∷ []; bios_in = x.bios_in + length first } → FlushesInto x a p y b q
unfolding one_flushed
one_put x a p first y b q stood added put = record {
  flushes = one_flushed a p first b q stood added;
  put = put ∙ ap (λ l. record x { requests = x.requests ++ first ∷ []; bios_in = x.bios_in + length l }) (sym (append-nil first));
}

-- an empty list
pub none_there : {X : Type 0} (xs : List X) → length xs ≤ 0 → xs ≡ []
none_there [] h = refl
none_there (x ∷ xs) h = absurd (omega arith)

-- a plug without requests has no bios
pub none_held : (plug : Plug) → length plug.requests ≤ 0 → length (bios_plugged plug) ≡ 0
none_held plug h = ap (λ (l : List (List Bio)). length (flat_map (λ (x : List Bio). x) l)) (none_there plug.requests h)

-- what the bios themselves refuse says nothing of the room
pub room_of : (queue : Queue) (bios : List Bio) (why : FlushReason) → IsOfBios why → IsRoomReason queue bios why
room_of queue bios (Foreign id) h = tt
room_of queue bios (Repeated id) h = tt
room_of queue bios SoftFull h = absurd h
room_of queue bios Memory h = absurd h
