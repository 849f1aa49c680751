-- How many bios were accepted, one submitter after the other, and what is known of a layer that was closed with nothing left.
use Rattle.std.proofs.Common.{◌≡◌, ◌∙◌, ◌+◌, ◌<◌, ℕ, sym, ap, refl, subst, arith, List, [], ◌∷◌, ◌++◌, length, length-append, take, get_or, IsPermutation}
use Rattle.std.specs.List.{flat_map}
use Rattle.std.proofs.lemmas.List.{take_more, append-nil}
use Rattle.std.proofs.lemmas.Grind.{flat_map-append}
use Rattle.blk_bio.specs.Bios.{Bio}
use Rattle.blk_trace.specs.Happened.{Happened}
use Rattle.blk_trace.specs.Events.{AreOnce}
use Rattle.blk_layer.specs.Seats.{SubmitterSeat}
use Rattle.blk_layer.specs.Closing.{all_accepted, issued_bios}
use Rattle.blk_schedulers.specs.Settles.{served_bios}

with_one : (seats : List SubmitterSeat) (s : SubmitterSeat) → all_accepted (seats ++ s ∷ []) ≡ all_accepted seats ++ s.accepted
unfolding all_accepted
with_one seats s = flat_map-append (λ (x : SubmitterSeat). x.accepted) seats (s ∷ []) ∙ ap (λ l. flat_map (λ (x : SubmitterSeat). x.accepted) seats ++ l) (append-nil s.accepted)

pub accepted_more : (seats : List SubmitterSeat) (i : ℕ) (s : SubmitterSeat) → i < length seats → s ≡ get_or seats i s
    → length (all_accepted (take (i + 1) seats)) ≡ length (all_accepted (take i seats)) + length s.accepted
accepted_more seats i s low is =
    ap (λ l. length (all_accepted l)) (take_more seats i s low ∙ ap (λ y. take i seats ++ y ∷ []) (sym is)) ∙ ap length (with_one (take i seats) s)
    ∙ length-append (all_accepted (take i seats)) s.accepted

pub none_accepted : length (all_accepted []) ≡ 0
unfolding all_accepted
none_accepted = refl

nothing : {X : Type 0} (xs ys : List X) → length ys ≡ 0 → xs ++ ys ≡ xs
nothing xs [] e = append-nil xs
nothing xs (y ∷ ys) e = absurd (omega (arith, e))

issued_are_served : (events : List Happened) → issued_bios events ≡ served_bios events
unfolding issued_bios
issued_are_served events = refl

-- the bios that were issued are all that a layer has where nothing is left
all_served : (events : List Happened) (left : List Bio) → length left ≡ 0 → issued_bios events ++ left ≡ served_bios events
all_served events left e = nothing (issued_bios events) left e ∙ issued_are_served events

pub served_once : (events : List Happened) (left : List Bio) → length left ≡ 0 → AreOnce (issued_bios events ++ left) → AreOnce (served_bios events)
served_once events left e h = subst AreOnce (all_served events left e) h

pub served_all : (events : List Happened) (left accepted : List Bio) → length left ≡ 0 → IsPermutation accepted (issued_bios events ++ left) → IsPermutation accepted (served_bios events)
served_all events left accepted e h = subst (IsPermutation accepted) (all_served events left e) h
