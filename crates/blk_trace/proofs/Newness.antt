-- Bios whose ids stand once.
use Rattle.std.proofs.Common.{◌≡◌, ◌<◌, ◌≤◌, ◌+◌, ◌++◌, ◌==◌, ◌↔◌, ℕ, zero, suc, List, [], ◌∷◌, length, take, refl, sym, ◌∙◌, ap, subst, arith, inl, inr, Some, None, Bool, true, false, IsTrue, eqb-true, eq-eqb, append_assoc, append-nil}
use Rattle.std.specs.Prelude.{slice_get, ◌⊎◌, ◌&&◌, ◌||◌, Option, IfSome, IfNone, is_some, not}
use Rattle.std.proofs.lemmas.Bool.{or_cases, and_parts, false_from_ne_true}
use Rattle.std.proofs.lemmas.Option.{slice_get_within}
use Rattle.std.proofs.lemmas.List.Folds.{list_any-append}
use Rattle.std.proofs.lemmas.Map.Keys.{any_passes_from_place}
use Rattle.blk_bio.specs.Bios.{Bio}
use Rattle.blk_bio.specs.declared.bio.BioId.{BioId}
use Rattle.blk_trace.specs.Happened.{Happened}
use Rattle.blk_trace.specs.Events.{entered, bios_of, AreOnce, HasId, IsFirstRepeatedBio}
use Rattle.blk_trace.specs.Traces.{HasBio}
use Rattle.blk_trace.specs.Inside.Kept.{is_bio, has_bio_id}
use Rattle.std.proofs.Common.{get_or}
use Rattle.std.proofs.lemmas.List.{take_more, take_all}
use Rattle.blk_trace.proofs.Places.{of_take}
use Rattle.blk_trace.proofs.Pushing.{entered_more}

pub same_bio : (x y : BioId) → is_bio x y ≡ true → x ≡ y
same_bio x y h =
    let both = and_parts (x.submitter == y.submitter) (x.serial == y.serial) h in
    let s : x.submitter ≡ y.submitter = eqb-true x.submitter y.submitter both.0 in
    let n : x.serial ≡ y.serial = eqb-true x.serial y.serial both.1 in
    ap (λ (k : ℕ). let r : BioId = record { submitter = k; serial = x.serial } in r) s ∙ ap (λ (k : ℕ). let r : BioId = record { submitter = y.submitter; serial = k } in r) n

pub bio_same : (x y : BioId) → x ≡ y → is_bio x y ≡ true
bio_same x y h =
    let s : (x.submitter == y.submitter) ≡ true = eq-eqb x.submitter y.submitter (ap (λ (b : BioId). b.submitter) h) in
    let n : (x.serial == y.serial) ≡ true = eq-eqb x.serial y.serial (ap (λ (b : BioId). b.serial) h) in
    ap (λ b. b && (x.serial == y.serial)) s ∙ ap (λ b. true && b) n

-- a bio at a place is among the bios, and the way back
pub has_at : (bs : List Bio) (k : ℕ) (b : Bio) (id : BioId) → slice_get bs k ≡ Some b → b.id ≡ id → has_bio_id bs id ≡ true
has_at bs k b id h same = any_passes_from_place (λ (x : Bio). is_bio x.id id) bs k b h (bio_same b.id id same)

pub at_has : (bs : List Bio) (id : BioId) → has_bio_id bs id ≡ true → (k : ℕ) × ((b : Bio) × (slice_get bs k ≡ Some b) × (b.id ≡ id))
at_has [] id h = absurd (cc)
at_has (b ∷ bs) id h = elim (or_cases (is_bio b.id id) _ h) [
  | inl p ↦ (0, (b, refl, same_bio b.id id p))
  | inr p ↦ let q = at_has bs id p in (suc q.0, q.1)
]

-- where an element of two lists stands
pub in_either : {X : Type 0} (xs ys : List X) (j : ℕ) (x : X) → slice_get (xs ++ ys) j ≡ Some x → (slice_get xs j ≡ Some x) ⊎ ((k : ℕ) × ((j ≡ length xs + k) × (slice_get ys k ≡ Some x)))
in_either [] ys j x h = inr (j, (omega arith, h))
in_either (z ∷ xs) ys zero x h = inl h
in_either (z ∷ xs) ys (suc j) x h = elim (in_either xs ys j x h) [ inl p ↦ inl p | inr p ↦ inr (p.0, (omega (arith, p.1.0), p.1.1)) ]

pub in_second : {X : Type 0} (xs ys : List X) (k : ℕ) (x : X) → slice_get ys k ≡ Some x → slice_get (xs ++ ys) (length xs + k) ≡ Some x
in_second [] ys k x h = ap (λ n. slice_get ys n) (let e : 0 + k ≡ k = omega arith in e) ∙ h
in_second (z ∷ xs) ys k x h = ap (λ n. slice_get (z ∷ xs ++ ys) n) (let e : suc (length xs) + k ≡ suc (length xs + k) = omega arith in e) ∙ in_second xs ys k x h

pub in_first : {X : Type 0} (xs ys : List X) (k : ℕ) (x : X) → slice_get xs k ≡ Some x → slice_get (xs ++ ys) k ≡ Some x
in_first [] ys k x h = absurd (cc)
in_first (z ∷ xs) ys zero x h = h
in_first (z ∷ xs) ys (suc k) x h = in_first xs ys k x h

-- no bio of the second list has the id of one of the first
abbrev pub AreApart : List Bio → List Bio → Type 0
AreApart xs ys = (k : ℕ) (b : Bio) → slice_get ys k ≡ Some b → has_bio_id xs b.id ≡ false

pub once_both : (xs ys : List Bio) → AreOnce xs → AreOnce ys → AreApart xs ys → AreOnce (xs ++ ys)
once_both xs ys one two apart j k b c h l same =
    elim (in_either xs ys j b h) [
      | inl p ↦ elim (in_either xs ys k c l) [
        | inl q ↦ one j k b c p q same
        | inr q ↦ absurd (let t : has_bio_id xs c.id ≡ true = has_at xs j b c.id p same in let f : has_bio_id xs c.id ≡ false = apart q.0 c q.1.1 in cc)
      ]
      | inr p ↦ elim (in_either xs ys k c l) [
        | inl q ↦ absurd (let t : has_bio_id xs b.id ≡ true = has_at xs k c b.id q (sym same) in let f : has_bio_id xs b.id ≡ false = apart p.0 b p.1.1 in cc)
        | inr q ↦ omega (arith, p.1.0, q.1.0, two p.0 q.0 b c p.1.1 q.1.1 same)
      ]
    ]

pub once_second : (xs ys : List Bio) → AreOnce (xs ++ ys) → AreOnce ys
once_second xs ys h j k b c p q same = omega (arith, h (length xs + j) (length xs + k) b c (in_second xs ys j b p) (in_second xs ys k c q) same)

once_single : (b : Bio) → AreOnce (b ∷ [])
once_single b zero zero x y h l same = refl
once_single b zero (suc k) x y h l same = absurd (cc)
once_single b (suc j) k x y h l same = absurd (cc)

apart_single : (xs : List Bio) (b : Bio) → has_bio_id xs b.id ≡ false → AreApart xs (b ∷ [])
apart_single xs b fresh zero x h = subst (λ (y : Bio). has_bio_id xs y.id ≡ false) (let e : b ≡ x = cc in e) fresh
apart_single xs b fresh (suc k) x h = absurd (cc)

-- one bio more
pub once_push : (xs : List Bio) (b : Bio) → AreOnce xs → has_bio_id xs b.id ≡ false → AreOnce (xs ++ b ∷ [])
once_push xs b one fresh = once_both xs (b ∷ []) one (once_single b) (apart_single xs b fresh)

pub has_bio : (es : List Happened) (id : BioId) (r : Bool) → r ≡ has_bio_id (entered es) id → IsTrue r ↔ HasBio es id
has_bio es id r h = (λ t. at_has (entered es) id (sym h ∙ t), λ p. h ∙ has_at (entered es) p.0 p.1.0 id p.1.1 p.1.2)

-- the ids that are known with one more event
pub ids_more : (es : List Happened) (e : Happened) (id : BioId) → has_bio_id (entered (es ++ e ∷ [])) id ≡ (has_bio_id (entered es) id || has_bio_id (bios_of e) id)
ids_more es e id = ap (λ l. has_bio_id l id) (entered_more es e) ∙ list_any-append (λ (b : Bio). is_bio b.id id) (entered es) (bios_of e)

pub get_at : {X : Type 0} (xs : List X) (i : ℕ) (d : X) → i < length xs → slice_get xs i ≡ Some (get_or xs i d)
get_at [] i d h = absurd (omega arith)
get_at (x ∷ xs) zero d h = refl
get_at (x ∷ xs) (suc i) d h = get_at xs i d (omega arith)

below_take : {X : Type 0} (xs : List X) (i k : ℕ) (x : X) → slice_get (take i xs) k ≡ Some x → k < i
below_take xs zero k x h = absurd (cc)
below_take [] (suc i) k x h = absurd (cc)
below_take (y ∷ xs) (suc i) zero x h = omega arith
below_take (y ∷ xs) (suc i) (suc k) x h = omega (arith, below_take xs i k x h)

-- one more of some bios, whose id stands neither in a list nor earlier among them
pub once_next : (before bs : List Bio) (i : ℕ) (x : Bio) (id : BioId) → i < length bs → x ≡ get_or bs i x → id ≡ x.id → has_bio_id before id ≡ false → has_bio_id (take i bs) id ≡ false → AreOnce (before ++ take i bs) → AreOnce (before ++ take (i + 1) bs)
once_next before bs i x id h is same f g one =
    let next : take (i + 1) bs ≡ take i bs ++ x ∷ [] = take_more bs i x h ∙ ap (λ y. take i bs ++ y ∷ []) (sym is) in
    let none : has_bio_id (before ++ take i bs) id ≡ false = list_any-append (λ (b : Bio). is_bio b.id id) before (take i bs) ∙ ap (λ c. c || has_bio_id (take i bs) id) f ∙ g in
    let P : List Bio → Type 0 = λ l. AreOnce l in
    subst P (append_assoc before (take i bs) (x ∷ []) ∙ ap (λ l. before ++ l) (sym next)) (once_push (before ++ take i bs) x one (subst (λ n. has_bio_id (before ++ take i bs) n ≡ false) same none))

pub once_whole : (before bs : List Bio) (i : ℕ) → length bs ≤ i → AreOnce (before ++ take i bs) → AreOnce (before ++ bs)
once_whole before bs i h one = let P : List Bio → Type 0 = λ l. AreOnce (before ++ l) in subst P (take_all i bs h) one

-- a bio whose id stands in a list or earlier among the bios
pub first_at : (before bs : List Bio) (i : ℕ) (x : Bio) (id : BioId) → i < length bs → x ≡ get_or bs i x → id ≡ x.id → (has_bio_id before id || has_bio_id (take i bs) id) ≡ true → AreOnce (before ++ take i bs) → IsFirstRepeatedBio before bs id
first_at before bs i x id h is same t one = record {
  place = i;
  bio = x;
  stands = get_at bs i x h ∙ ap Some (sym is);
  named = sym same;
  again = at_has (before ++ take i bs) id (list_any-append (λ (b : Bio). is_bio b.id id) before (take i bs) ∙ t);
  first = one;
}

earlier : (before bs : List Bio) (n k : ℕ) (x : Bio) → slice_get (before ++ take n bs) k ≡ Some x → (slice_get (before ++ bs) k ≡ Some x) × (k < length before + n)
earlier before bs n k x h = elim (in_either before (take n bs) k x h) [
  | inl p ↦ (in_first before bs k x p, omega (arith, slice_get_within before k x p))
  | inr p ↦ (ap (λ i. slice_get (before ++ bs) i) p.1.0 ∙ in_second before bs p.0 x (of_take n bs p.0 x p.1.1), omega (arith, p.1.0, below_take bs n p.0 x p.1.1))
]

-- where one is repeated, not all stand once
pub not_once : (before bs : List Bio) (id : BioId) → IsFirstRepeatedBio before bs id → AreOnce (before ++ bs) → ⊥
not_once before bs id r all =
    let q = r.again in
    let there : slice_get (before ++ bs) (length before + r.place) ≡ Some r.bio = in_second before bs r.place r.bio r.stands in
    let here = earlier before bs r.place q.0 q.1.0 q.1.1 in
    absurd (omega (arith, here.1, all q.0 (length before + r.place) q.1.0 r.bio here.0 there (q.1.2 ∙ sym r.named)))

-- none is repeated exactly where all stand once
is_so : (r : Bool) → false ≡ not r → r ≡ true
is_so true h = refl
is_so false h = absurd (cc)

pub new_where_none : (before bs : List Bio) (o : Option BioId) (r : Bool) → is_some o ≡ not r → IfSome o (IsFirstRepeatedBio before bs) → IfNone o (AreOnce (before ++ bs)) → IsTrue r ↔ AreOnce (before ++ bs)
new_where_none before bs None r h some none = (λ _. none, λ _. is_so r h)
new_where_none before bs (Some id) true h some none = absurd (cc)
new_where_none before bs (Some id) false h some none = (λ t. absurd (cc), λ all. absurd (not_once before bs id some all))

-- an id that stands before some bios, or earlier among them
pub seen_before : (before earlier : List Bio) (id : BioId) → HasId before id → (has_bio_id before id || has_bio_id earlier id) ≡ true
seen_before before earlier id h = ap (λ c. c || has_bio_id earlier id) (has_at before h.0 h.1.0 id h.1.1 h.1.2)

or_yes : (b : Bool) → (b || true) ≡ true
or_yes true = refl
or_yes false = refl

pub seen_earlier : (before earlier : List Bio) (id : BioId) → has_bio_id earlier id ≡ true → (has_bio_id before id || has_bio_id earlier id) ≡ true
seen_earlier before earlier id h = ap (λ c. has_bio_id before id || c) h ∙ or_yes (has_bio_id before id)

pub not_before : (before : List Bio) (id : BioId) (r : Bool) → (IsTrue r ↔ HasId before id) → r ≡ false → has_bio_id before id ≡ false
not_before before id r is none = false_from_ne_true _ (λ t. let y : r ≡ true = is.1 (at_has before id t) in absurd (let x : false ≡ true = sym none ∙ y in cc))

pub once_first : (bs : List Bio) → AreOnce bs → AreOnce (bs ++ [])
once_first bs h = let P : List Bio → Type 0 = λ l. AreOnce l in subst P (sym (append-nil bs)) h
