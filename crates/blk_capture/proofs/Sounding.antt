-- Indexes that stay those of their lists.
use Rattle.std.proofs.Common.{◌≡◌, ◌<◌, ◌^◌, ◌++◌, ◌∙◌, ℕ, Bool, true, false, cond, List, [], ◌∷◌, length, set, Some, inl, inr, sym, ap, subst}
use Rattle.std.specs.List.{slice_get}
use Rattle.std.proofs.lemmas.Bool.Decides.{eqb_tells}
use Rattle.blk_capture.specs.Rules.{is_waiting}
use Rattle.blk_capture.specs.Inside.LookupKeys.{Seats, seat, is_seat, whole_key, PutsIf, TakesIf}
use Rattle.blk_capture.specs.Inside.Indexes.{AreSeated, AreIndexed, Lists, Unlists, part_of, stands_in, part_key}
use Rattle.blk_capture.specs.declared.index.RequestIndex.{RequestIndex}
use Rattle.blk_capture.specs.declared.lookup.LookupKey.{LookupKey}
use Rattle.blk_capture.specs.declared.members.QueuedBio.{QueuedBio}
use Rattle.blk_capture.specs.declared.opened.Opened.{Opened}
use Rattle.blk_capture.proofs.Indexed.{changed, pushed, get_same, get_other, get_pushed, get_but_last}

-- ---- requests
pub replaced : {A : Type 0} (qs : List Opened) (k : ℕ) (old new : Opened) (before middle after : RequestIndex A) → AreIndexed qs before → slice_get qs k ≡ Some old → Unlists k old before middle → Lists k new middle after → AreIndexed (set qs k new) after
replaced qs k old new before middle after is at un li part = changed (stands_in part) (part_key part) (λ q. q.age) qs k old new (part_of part before) (part_of part middle) (part_of part after) (is part) at (un part) (li part)

pub listed : {A : Type 0} (qs : List Opened) (new : Opened) (before after : RequestIndex A) → AreIndexed qs before → Lists (length qs) new before after → AreIndexed (qs ++ new ∷ []) after
listed qs new before after is li part = pushed (stands_in part) (part_key part) (λ q. q.age) qs new (part_of part before) (part_of part after) (is part) (li part)

abbrev pub Aged : List Opened → Type 0
Aged qs = (j : ℕ) (y : Opened) → slice_get qs j ≡ Some y → y.age < 2 ^ 63

some_is : (x y : Opened) → Some x ≡ Some y → x ≡ y
some_is x y e = cc

pub aged_replaced : (qs : List Opened) (k : ℕ) (old new : Opened) → Aged qs → slice_get qs k ≡ Some old → new.age < 2 ^ 63 → Aged (set qs k new)
aged_replaced qs k old new aged at low j y there = elim (eqb_tells j k) [
  | inl a ↦ subst (λ (x : Opened). x.age < 2 ^ 63) (some_is new y (sym (get_same qs k old new at) ∙ ap (λ n. slice_get (set qs k new) n) (sym a.1) ∙ there)) low
  | inr a ↦ aged j y (sym (get_other qs k j new a.1) ∙ there)
]

pub aged_more : (qs : List Opened) (new : Opened) → Aged qs → new.age < 2 ^ 63 → Aged (qs ++ new ∷ [])
aged_more qs new aged low j y there = elim (eqb_tells j (length qs)) [
  | inl a ↦ subst (λ (x : Opened). x.age < 2 ^ 63) (some_is new y (sym (get_pushed qs new) ∙ ap (λ n. slice_get (qs ++ new ∷ []) n) (sym a.1) ∙ there)) low
  | inr a ↦ aged j y (sym (get_but_last qs new j a.1) ∙ there)
]

-- ---- bios
abbrev pub AreWaiting : List QueuedBio → Seats → Type 0
AreWaiting bs seats = AreSeated (λ b. is_waiting b.stage) (λ b. whole_key b.range) (λ b. b.age) bs seats

takes_if : (b : Bool) (s : LookupKey) (key : LookupKey) (a k : ℕ) (old new : Seats) → b ≡ true → key ≡ s → TakesIf true (seat key a k) old new → TakesIf b (seat s a k) old new
takes_if b s key a k old new e f h q = h q ∙ ap (λ c. cond c (cond (is_seat (seat key a k) q) false (old q)) (old q)) (sym e) ∙ ap (λ (u : LookupKey). cond b (cond (is_seat (seat u a k) q) false (old q)) (old q)) f

puts_if : (b : Bool) (s : LookupKey) (key : LookupKey) (a k : ℕ) (old new : Seats) → b ≡ true → key ≡ s → PutsIf true (seat key a k) old new → PutsIf b (seat s a k) old new
puts_if b s key a k old new e f h q = h q ∙ ap (λ c. cond c (cond (is_seat (seat key a k) q) true (old q)) (old q)) (sym e) ∙ ap (λ (u : LookupKey). cond b (cond (is_seat (seat u a k) q) true (old q)) (old q)) f

puts_none : (b : Bool) (s : LookupKey) (a k : ℕ) (old : Seats) → b ≡ false → PutsIf b (seat s a k) old old
puts_none b s a k old e q = ap (λ c. cond c (cond (is_seat (seat s a k) q) true (old q)) (old q)) (sym e)

-- one waits no more
pub bio_left : (bs : List QueuedBio) (k : ℕ) (x y : QueuedBio) (key : LookupKey) (old new : Seats) → AreWaiting bs old → slice_get bs k ≡ Some x → is_waiting x.stage ≡ true → is_waiting y.stage ≡ false → key ≡ whole_key x.range → TakesIf true (seat key x.age k) old new → AreWaiting (set bs k y) new
bio_left bs k x y key old new is at waits gone e takes =
    changed (λ b. is_waiting b.stage) (λ b. whole_key b.range) (λ b. b.age) bs k x y old new new is at
    (takes_if (is_waiting x.stage) (whole_key x.range) key x.age k old new waits e takes) (puts_none (is_waiting y.stage) (whole_key y.range) y.age k new gone)

-- one is changed and waits on
pub bio_changed : (bs : List QueuedBio) (k : ℕ) (x y : QueuedBio) (key key2 : LookupKey) (old middle new : Seats) → AreWaiting bs old → slice_get bs k ≡ Some x → is_waiting x.stage ≡ true → is_waiting y.stage ≡ true → key ≡ whole_key x.range → key2 ≡ whole_key y.range → TakesIf true (seat key x.age k) old middle → PutsIf true (seat key2 y.age k) middle new → AreWaiting (set bs k y) new
bio_changed bs k x y key key2 old middle new is at waits waits2 e f takes puts =
    changed (λ b. is_waiting b.stage) (λ b. whole_key b.range) (λ b. b.age) bs k x y old middle new is at
    (takes_if (is_waiting x.stage) (whole_key x.range) key x.age k old middle waits e takes) (puts_if (is_waiting y.stage) (whole_key y.range) key2 y.age k middle new waits2 f puts)

-- one more
pub bio_more : (bs : List QueuedBio) (y : QueuedBio) (key : LookupKey) (k : ℕ) (old new : Seats) → AreWaiting bs old → k ≡ length bs → is_waiting y.stage ≡ true → key ≡ whole_key y.range → PutsIf true (seat key y.age k) old new → AreWaiting (bs ++ y ∷ []) new
bio_more bs y key k old new is last waits e puts =
    pushed (λ b. is_waiting b.stage) (λ b. whole_key b.range) (λ b. b.age) bs y old new is
    (puts_if (is_waiting y.stage) (whole_key y.range) key y.age (length bs) old new waits e (subst (λ n. PutsIf true (seat key y.age n) old new) last puts))
