-- Indexes where a request ends elsewhere.
use Rattle.std.proofs.Common.{◌≡◌, ◌==◌, ◌∙◌, ◌&&◌, ℕ, Bool, true, false, cond, List, set, Some, Ok, Err, Result, inl, inr, sym, ap, subst, refl}
use Rattle.std.specs.List.{slice_get}
use Rattle.std.specs.Prelude.{if◌then◌else◌, None}
use Rattle.std.specs.Ordering.{is_eq}
use Rattle.std.specs.Result.{OnOk}
use Rattle.std.proofs.lemmas.Bool.{ne_eqb}
use Rattle.std.proofs.lemmas.Bool.Decides.{eqb_tells}
use Rattle.blk_capture.specs.Rules.{is_opened, is_inserted, is_in_flight}
use Rattle.blk_capture.specs.Inside.LookupKeys.{Seats, has, seat, is_seat, lookup_cmp, whole_key, edge_key, MovesTo}
use Rattle.blk_capture.specs.Inside.Indexes.{seat_of, AreSeated, AreIndexed, OpenedWhole, OpenedFirst, OpenedEnd, OpenedStart, InsertedWhole, InsertedFirst, InsertedEnd, AtDevice, stands_in, part_key, first_key, keep_first}
use Rattle.blk_capture.specs.declared.index.MergeIndex.{MergeIndex}
use Rattle.blk_capture.specs.declared.index.RequestIndex.{RequestIndex}
use Rattle.blk_capture.specs.declared.lookup.KeyIndex.{KeyIndex}
use Rattle.blk_capture.specs.declared.lookup.LookupKey.{LookupKey}
use Rattle.blk_capture.specs.declared.opened.Opened.{Opened}
use Rattle.blk_capture.specs.declared.opened.Stage.{Stage}
use Rattle.blk_capture.specs.declared.opened.Stage.TheVariants as stage
use Rattle.blk_capture.proofs.Indexed.{changed, unmoved}
use Rattle.blk_capture.proofs.LookupKeys.{one_key}

-- one that stood there, and stands under another key
moved : {X : Type 0} (stands : X → Bool) (key : X → LookupKey) (age : X → ℕ) (xs : List X) (k : ℕ) (x y : X) (old new : Seats) → AreSeated stands key age xs old → slice_get xs k ≡ Some x
    → stands x ≡ true → stands y ≡ true → age x ≡ age y → MovesTo (seat (key x) (age x) k) (seat (key y) (age x) k) old new → AreSeated stands key age (set xs k y) new
moved stands key age xs k x y old new is at so_x so_y aged moves =
    changed stands key age xs k x y old (λ q. cond (is_seat (seat (key x) (age x) k) q) false (old q)) new is at
    (λ q. ap (λ b. cond b (cond (is_seat (seat (key x) (age x) k) q) false (old q)) (old q)) (sym so_x))
    (λ q.
    moves q
    ∙ ap (λ a. cond (is_seat (seat (key y) a k) q) true (cond (is_seat (seat (key x) (age x) k) q) false (old q))) aged
    ∙ ap (λ b. cond b (cond (is_seat (seat (key y) (age y) k) q) true (cond (is_seat (seat (key x) (age x) k) q) false (old q))) (cond (is_seat (seat (key x) (age x) k) q) false (old q))) (sym so_y))

-- two that stand nowhere, and two that stand under one key
nowhere : {X : Type 0} (stands : X → Bool) (key : X → LookupKey) (age : X → ℕ) (place : ℕ) (x y : X) → stands x ≡ false → stands y ≡ false → seat_of stands key age place y ≡ seat_of stands key age place x
nowhere stands key age place x y so_x so_y =
    ap (λ b. if b then Some (seat (key y) (age y) place) else None) so_y ∙ sym (ap (λ b. if b then Some (seat (key x) (age x) place) else None) so_x)

alike : {X : Type 0} (stands : X → Bool) (key : X → LookupKey) (age : X → ℕ) (place : ℕ) (x y : X) → stands x ≡ stands y → key x ≡ key y → age x ≡ age y → seat_of stands key age place y ≡ seat_of stands key age place x
alike stands key age place x y so under aged = sym (
    ap (λ b. if b then Some (seat (key x) (age x) place) else None) so
    ∙ ap (λ u. if stands y then Some (seat u (age x) place) else None) under
    ∙ ap (λ a. if stands y then Some (seat (key y) a place) else None) aged)

not_inserted : (w : Stage) → is_opened w ≡ true → is_inserted w ≡ false
not_inserted stage.Opened e = refl
not_inserted stage.Inserted e = absurd (cc)
not_inserted (stage.InFlight n) e = refl
not_inserted (stage.Completed n) e = refl
not_inserted stage.Absorbed e = refl

not_in_flight : (w : Stage) → is_opened w ≡ true → is_in_flight w ≡ false
not_in_flight stage.Opened e = refl
not_in_flight stage.Inserted e = refl
not_in_flight (stage.InFlight n) e = absurd (cc)
not_in_flight (stage.Completed n) e = refl
not_in_flight stage.Absorbed e = refl

both : (a b : Bool) → (a && b) ≡ true → (a ≡ true) × (b ≡ true)
both true true h = (refl, refl)
both true false h = absurd (cc)
both false b h = absurd (cc)

same_number : (a b : ℕ) → (a == b) ≡ true → a ≡ b
same_number a b e = elim (eqb_tells a b) [
  | inl t ↦ t.1
  | inr t ↦ (let bad : false ≡ true = sym (ne_eqb a b t.1) ∙ e in cc)
]

start_alike : (p q : Opened) → first_key p ≡ first_key q → edge_key p.left p.left.first 0 ≡ edge_key q.left q.left.first 0
start_alike p q e = ap (λ (u : LookupKey). (let v : LookupKey = record { sector = u.sector; write = u.write; pid = 0; end = u.end } in v)) e

moved_end : {A : Type 0} (qs : List Opened) (k : ℕ) (p q : Opened) (old : RequestIndex A) (new : MergeIndex A) → is_opened p.stage ≡ true → is_opened q.stage ≡ true → p.age ≡ q.age → first_key p ≡ first_key q
    → MovesTo (seat (whole_key p.left) p.age k) (seat (whole_key q.left) p.age k) (has old.opened.wholes) (has new.wholes)
    → new.firsts ≡ old.opened.firsts
    → MovesTo (seat (edge_key p.left p.left.end p.pid) p.age k) (seat (edge_key q.left q.left.end q.pid) p.age k) (has old.opened.ends) (has new.ends)
    → AreIndexed qs old → slice_get qs k ≡ Some p → AreIndexed (set qs k q) (record old { opened = new })
moved_end qs k p q old new so_p so_q aged key w f n is at OpenedWhole = moved (stands_in OpenedWhole) (part_key OpenedWhole) (λ x. x.age) qs k p q (has old.opened.wholes) (has new.wholes) (is OpenedWhole) at so_p so_q aged w
moved_end {A} qs k p q old new so_p so_q aged key w f n is at OpenedFirst =
    λ s.
    ap (λ (e : KeyIndex A). has e s) f
    ∙ unmoved (stands_in OpenedFirst) (part_key OpenedFirst) (λ x. x.age) qs k p q (has old.opened.firsts) (is OpenedFirst) at (alike (stands_in OpenedFirst) (part_key OpenedFirst) (λ x. x.age) k p q (so_p ∙ sym so_q) key aged) s
moved_end qs k p q old new so_p so_q aged key w f n is at OpenedEnd = moved (stands_in OpenedEnd) (part_key OpenedEnd) (λ x. x.age) qs k p q (has old.opened.ends) (has new.ends) (is OpenedEnd) at so_p so_q aged n
moved_end qs k p q old new so_p so_q aged key w f n is at OpenedStart =
    unmoved (stands_in OpenedStart) (part_key OpenedStart) (λ x. x.age) qs k p q (has old.starts) (is OpenedStart) at
    (alike (stands_in OpenedStart) (part_key OpenedStart) (λ x. x.age) k p q (so_p ∙ sym so_q) (start_alike p q key) aged)
moved_end qs k p q old new so_p so_q aged key w f n is at InsertedWhole =
    unmoved (stands_in InsertedWhole) (part_key InsertedWhole) (λ x. x.age) qs k p q (has old.inserted.wholes) (is InsertedWhole) at
    (nowhere (stands_in InsertedWhole) (part_key InsertedWhole) (λ x. x.age) k p q (not_inserted p.stage so_p) (not_inserted q.stage so_q))
moved_end qs k p q old new so_p so_q aged key w f n is at InsertedFirst =
    unmoved (stands_in InsertedFirst) (part_key InsertedFirst) (λ x. x.age) qs k p q (has old.inserted.firsts) (is InsertedFirst) at
    (nowhere (stands_in InsertedFirst) (part_key InsertedFirst) (λ x. x.age) k p q (not_inserted p.stage so_p) (not_inserted q.stage so_q))
moved_end qs k p q old new so_p so_q aged key w f n is at InsertedEnd =
    unmoved (stands_in InsertedEnd) (part_key InsertedEnd) (λ x. x.age) qs k p q (has old.inserted.ends) (is InsertedEnd) at
    (nowhere (stands_in InsertedEnd) (part_key InsertedEnd) (λ x. x.age) k p q (not_inserted p.stage so_p) (not_inserted q.stage so_q))
moved_end qs k p q old new so_p so_q aged key w f n is at AtDevice =
    unmoved (stands_in AtDevice) (part_key AtDevice) (λ x. x.age) qs k p q (has old.in_flight) (is AtDevice) at
    (nowhere (stands_in AtDevice) (part_key AtDevice) (λ x. x.age) k p q (not_in_flight p.stage so_p) (not_in_flight q.stage so_q))

pub ends_elsewhere : {A : Type 0} (qs : List Opened) (k : ℕ) (p q : Opened) (old : RequestIndex A) (new : MergeIndex A) → keep_first p q ≡ true
    → MovesTo (seat (whole_key p.left) p.age k) (seat (whole_key q.left) p.age k) (has old.opened.wholes) (has new.wholes)
    → new.firsts ≡ old.opened.firsts
    → MovesTo (seat (edge_key p.left p.left.end p.pid) p.age k) (seat (edge_key q.left q.left.end p.pid) p.age k) (has old.opened.ends) (has new.ends)
    → AreIndexed qs old → slice_get qs k ≡ Some p → AreIndexed (set qs k q) (record old { opened = new })
ends_elsewhere qs k p q old new keeps w f n is at =
    let one = both ((is_opened p.stage && is_opened q.stage) && (p.age == q.age)) (is_eq (lookup_cmp (first_key p) (first_key q))) keeps in
    let two = both (is_opened p.stage && is_opened q.stage) (p.age == q.age) one.0 in
    let three = both (is_opened p.stage) (is_opened q.stage) two.0 in
    let key : first_key p ≡ first_key q = one_key (first_key p) (first_key q) one.1 in
    let pid : p.pid ≡ q.pid = ap (λ (u : LookupKey). u.pid) key in
    moved_end qs k p q old new three.0 three.1 (same_number p.age q.age two.1) key w f
    (subst (λ x. MovesTo (seat (edge_key p.left p.left.end p.pid) p.age k) (seat (edge_key q.left q.left.end x) p.age k) (has old.opened.ends) (has new.ends)) pid n) is at

-- what follows from two facts of a call that went well
pub both_ok : {T E : Type 0} (r : Result T E) (P Q R : Type 0) → (P → Q → R) → OnOk r P → OnOk r Q → OnOk r R
both_ok (Ok x) P Q R h p q = h p q
both_ok (Err e) P Q R h p q = tt
