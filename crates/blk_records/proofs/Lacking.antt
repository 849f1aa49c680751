-- A record lacks one thing first, or nothing: which of both is decided.
use Rattle.std.proofs.Common.{◌≡◌, ◌<◌, ◌≤◌, ◌^◌, ◌+◌, ◌-◌, ◌∙◌, ℕ, zero, suc, List, [], ◌∷◌, length, refl, sym, ap, inl, inr, arith, get_or, decimal, true}
use Rattle.std.specs.Prelude.{◌⊎◌}
use Rattle.std.specs.Str.{bytes_eq}
use Rattle.std.specs.Char.{digit_value}
use Rattle.std.specs.Str.Parse.{AllDigits, digits_value}
use Rattle.std.proofs.lemmas.Bool.{cases_Bool}
use Rattle.std.proofs.lemmas.Slice.Eq.{bytes_eq-Decides}
use Rattle.std.proofs.lemmas.Fmt.{digits_value-decimal, decimal_injective}
use Rattle.blk_records.specs.Sources.{Row}
use Rattle.blk_records.specs.Fields.{EachField, IsBlank, IsDirection, IsNumber, IsInRange, IsSized, IsShaped, IsNanoseconds, record_rules, Lacks}
use Rattle.blk_records.specs.Inside.Fields.{IsGood}
use Rattle.blk_bio.specs.declared.bio.Dir.{Dir}
use Rattle.blk_bio.specs.declared.bio.Dir.TheVariants as dir
use Rattle.blk_bio.specs.Letters.{direction_text}
use Rattle.edd_commands.specs.Order.{IsFirstFault}
use Rattle.blk_records.specs.Words.{StartsWith, HasNoWord, WordLacks}
use Rattle.blk_records.specs.declared.fault.TextReason.{TextReason}
use Rattle.blk_records.specs.declared.fault.TextReason.TheVariants as why
use Rattle.blk_records.specs.declared.fields.Slot.{Slot}
use Rattle.blk_records.specs.declared.fields.Slot.TheVariants as slot
use Rattle.blk_records.proofs.Decimals.{own, no_minus}
use Rattle.blk_records.proofs.Lists.{cons_same}

-- decisions

abbrev pub Dec : Type 0 → Type 0
Dec A = A ⊎ ¬ A

pub both : {A B : Type 0} → Dec A → Dec B → Dec (A × B)
both (inl a) (inl b) = inl (a, b)
both (inl a) (inr b) = inr (λ p. b p.1)
both (inr a) d = inr (λ p. a p.0)

pub either : {A B : Type 0} → Dec A → Dec B → Dec (A ⊎ B)
either (inl a) d = inl (inl a)
either (inr a) (inl b) = inl (inr b)
either {A} {B} (inr a) (inr b) = inr none
  where
    none : A ⊎ B → ⊥
    none (inl x) = a x
    none (inr y) = b y

pub same_as : {A B : Type 0} → (A → B) → (B → A) → Dec A → Dec B
same_as f g (inl a) = inl (f a)
same_as f g (inr n) = inr (λ b. n (g b))

pub at_most : (a b : ℕ) → Dec (a ≤ b)
at_most a b = elim (up a b) [
  | inl l ↦ inl l
  | inr m ↦ inr (λ l. omega (arith, l, m))
]
  where
    up : (a b : ℕ) → (a ≤ b) ⊎ (b < a)
    up a b = grind arith

pub same_text : (a b : List ℕ) → Dec (a ≡ b)
same_text a b = elim (cases_Bool (bytes_eq a b)) [
  | inl t ↦ inl ((bytes_eq-Decides a b).0 t)
  | inr f ↦ inr (λ e. (let t : bytes_eq a b ≡ true = (bytes_eq-Decides a b).1 e in cc (t, f)))
]

pub same_row : (a b : Row) → Dec (a ≡ b)
same_row [] [] = inl refl
same_row [] (g ∷ gs) = inr (λ e. (cc e))
same_row (f ∷ fs) [] = inr (λ e. (cc e))
same_row (f ∷ fs) (g ∷ gs) = same_as (λ p. (let x = p.0 in let y = p.1 in cc (x, y))) (λ e. cons_same _ _ _ _ e) (both (same_text f g) (same_row fs gs))

pub same_number : (a b : ℕ) → Dec (a ≡ b)
same_number a b = same_as (λ p. (let l = p.0 in let m = p.1 in omega (arith, l, m))) (λ e. (omega (arith, e), omega (arith, e))) (both (at_most a b) (at_most b a))

-- the number of a field, whatever stands there
pub value : List ℕ → ℕ
value f = digits_value 10 f

pub value_is : (n : ℕ) → n < 2 ^ 64 → value (decimal n) ≡ n
unfolding value
value_is n h = digits_value-decimal own n h

abbrev Spelled : List ℕ → Type 0
Spelled f = (n : ℕ) × (n < 2 ^ 64) × (f ≡ decimal n)

pub number_decided : (f : List ℕ) → Dec (Spelled f)
number_decided f = same_as (λ p. (value f, p.0, p.1)) back (both (at_most_less (value f)) (same_text f (decimal (value f))))
  where
    at_most_less : (n : ℕ) → Dec (n < 2 ^ 64)
    at_most_less n = same_as (λ l. omega (arith, l)) (λ l. omega (arith, l)) (at_most n (2 ^ 64 - 1))

    back : Spelled f → (value f < 2 ^ 64) × (f ≡ decimal (value f))
    back s = let is : value f ≡ s.0 = ap value s.2 ∙ value_is s.0 s.1 in let small = s.1 in (omega (arith, is, small), s.2 ∙ ap decimal (sym is))

digits_decided : (f : List ℕ) → Dec (AllDigits 10 f)
digits_decided [] = inl tt
digits_decided (c ∷ cs) = both (same_as (λ l. omega (arith, l)) (λ l. omega (arith, l)) (at_most (digit_value c) 9)) (digits_decided cs)

nine_decided : (f : List ℕ) → Dec (IsNanoseconds f)
nine_decided f = both (same_number (length f) 9) (digits_decided f)

-- what stands after the first byte
rest_of : List ℕ → List ℕ
rest_of [] = []
rest_of (c ∷ cs) = cs

abbrev Signed : List ℕ → Type 0
Signed f = (n : ℕ) × (n < 2 ^ 64) × IsSized f n

sized_decided : (f : List ℕ) → Dec (Signed f)
unfolding rest_of
sized_decided f = same_as forth back (either (number_decided f) (both (number_decided (rest_of f)) (both (at_most 1 (value (rest_of f))) (same_text f (45 ∷ rest_of f)))))
  where
    forth : Spelled f ⊎ (Spelled (rest_of f) × ((1 ≤ value (rest_of f)) × (f ≡ 45 ∷ rest_of f))) → Signed f
    forth (inl s) = (s.0, s.1, inl s.2)
    forth (inr m) =
        let is : value (rest_of f) ≡ m.0.0 = ap value m.0.2 ∙ value_is m.0.0 m.0.1 in
        let some = m.1.0 in
        (m.0.0, m.0.1, inr (omega (arith, is, some), m.1.1 ∙ ap (λ (t : List ℕ). 45 ∷ t) m.0.2))

    minus : (n : ℕ) → n < 2 ^ 64 → IsSized f n → Spelled f ⊎ (Spelled (rest_of f) × ((1 ≤ value (rest_of f)) × (f ≡ 45 ∷ rest_of f)))
    minus n small (inl e) = inl (n, small, e)
    minus n small (inr m) =
        let rest : rest_of f ≡ decimal n = ap rest_of m.1 in
        let is : value (rest_of f) ≡ n = ap value rest ∙ value_is n small in
        let some = m.0 in
        inr ((n, small, rest), (omega (arith, is, some), m.1 ∙ ap (λ (t : List ℕ). 45 ∷ t) (sym rest)))

    back : Signed f → Spelled f ⊎ (Spelled (rest_of f) × ((1 ≤ value (rest_of f)) × (f ≡ 45 ∷ rest_of f)))
    back s = minus s.0 s.1 s.2

pub sized_once : (f : List ℕ) (n m : ℕ) → n < 2 ^ 64 → m < 2 ^ 64 → IsSized f n → IsSized f m → n ≡ m
sized_once f n m h k (inl a) (inl b) = decimal_injective n m h k (sym a ∙ b)
sized_once f n m h k (inl a) (inr b) = absurd (no_minus n h (decimal m) (sym b.1 ∙ a))
sized_once f n m h k (inr a) (inl b) = absurd (no_minus m k (decimal n) (sym a.1 ∙ b))
sized_once f n m h k (inr a) (inr b) = decimal_injective n m h k (let q : 45 ∷ decimal n ≡ 45 ∷ decimal m = sym a.1 ∙ b.1 in cc q)

-- what a slot wants of a field is decided

blank_decided : (s : Slot) (f : List ℕ) → Dec (IsBlank s f)
blank_decided slot.Blank f = same_text f []
blank_decided s f = inl tt

no_direction : (f : List ℕ) → ¬ (f ≡ direction_text dir.Read) → ¬ (f ≡ direction_text dir.Write) → (d : Dir) → f ≡ direction_text d → ⊥
no_direction f r w dir.Read e = r e
no_direction f r w dir.Write e = w e

direction_decided : (s : Slot) (f : List ℕ) → Dec (IsDirection s f)
direction_decided slot.Direction f = elim (same_text f (direction_text dir.Read)) [
  | inl e ↦ inl (dir.Read, e)
  | inr r ↦ elim (same_text f (direction_text dir.Write)) [
    | inl e ↦ inl (dir.Write, e)
    | inr w ↦ inr (λ d. no_direction f r w d.0 d.1)
  ]
]
direction_decided s f = inl tt

slot_number_decided : (s : Slot) (f : List ℕ) → Dec (IsNumber s f)
slot_number_decided (slot.Number least most) f = number_decided f
slot_number_decided (slot.Lateness most) f = sized_decided f
slot_number_decided slot.Nanoseconds f = nine_decided f
slot_number_decided s f = inl tt

range_decided : (s : Slot) (f : List ℕ) → Dec (IsInRange s f)
range_decided (slot.Number least most) f = elim (number_decided f) [
  | inl n ↦ same_as (λ p m k e. (let same : m ≡ n.0 = decimal_injective m n.0 k n.1 (sym e ∙ n.2) in let low = p.0 in let high = p.1 in (omega (arith, same, low), omega (arith, same, high)))) (λ h. h n.0 n.1 n.2) (both (at_most least n.0) (at_most n.0 most))
  | inr none ↦ inl (λ m k e. absurd (none (m, k, e)))
]
range_decided (slot.Lateness most) f = elim (sized_decided f) [
  | inl n ↦ same_as (λ p m k e. (let same : m ≡ n.0 = sized_once f m n.0 k n.1 e n.2 in omega (arith, same, p))) (λ h. h n.0 n.1 n.2) (at_most n.0 most)
  | inr none ↦ inl (λ m k e. absurd (none (m, k, e)))
]
range_decided s f = inl tt

-- so is what slots want of the fields of a record
each_decided : (P : Slot → List ℕ → Type 0) → ((s : Slot) (f : List ℕ) → Dec (P s f)) → (slots : List Slot) (row : Row) → length row ≡ length slots → Dec (EachField P slots row)
each_decided P d [] row l = inl (λ k h. absurd (omega arith))
each_decided P d (s ∷ ss) [] l = absurd (omega (arith, l))
each_decided P d (s ∷ ss) (f ∷ fs) l = same_as all (λ h. (h 0 (omega arith), λ k b. h (suc k) (omega (arith, b)))) (both (d s f) (each_decided P d ss fs (omega (arith, l))))
  where
    all : P s f × EachField P ss fs → EachField P (s ∷ ss) (f ∷ fs)
    all p zero b = p.0
    all p (suc k) b = p.1 k (omega (arith, b))

-- a field is all that its slot wants
abbrev pub Good : Slot → List ℕ → Type 0
Good = IsGood

-- so is each field of a record
abbrev pub Goods : List Slot → Row → Type 0
Goods [] [] = Unit {0}
Goods [] (f ∷ fs) = ⊥
Goods (s ∷ ss) [] = ⊥
Goods (s ∷ ss) (f ∷ fs) = Good s f × Goods ss fs

pub goods_all : (slots : List Slot) (row : Row) → Goods slots row → IsShaped slots row × EachField IsDirection slots row × EachField IsNumber slots row × EachField IsInRange slots row
goods_all slots row g = ((long slots row g, λ k l. (at slots row g k l).0), λ k l. (at slots row g k l).1, λ k l. (at slots row g k l).2, λ k l. (at slots row g k l).3)
  where
    long : (slots : List Slot) (row : Row) → Goods slots row → length row ≡ length slots
    long [] [] g = refl
    long [] (f ∷ fs) g = absurd g
    long (s ∷ ss) [] g = absurd g
    long (s ∷ ss) (f ∷ fs) g = ap suc (long ss fs g.1)

    at : (slots : List Slot) (row : Row) → Goods slots row → (k : ℕ) → k < length slots → Good (get_or slots k slot.Given) (get_or row k [])
    at [] row g k l = absurd (omega arith)
    at (s ∷ ss) [] g k l = absurd g
    at (s ∷ ss) (f ∷ fs) g zero l = g.0
    at (s ∷ ss) (f ∷ fs) g (suc k) l = at ss fs g.1 k (omega (arith, l))

goods_of : (slots : List Slot) (row : Row) → length row ≡ length slots → EachField IsBlank slots row → EachField IsDirection slots row → EachField IsNumber slots row → EachField IsInRange slots row → Goods slots row
goods_of [] [] l a b c d = tt
goods_of [] (f ∷ fs) l a b c d = absurd (omega (arith, l))
goods_of (s ∷ ss) [] l a b c d = absurd (omega (arith, l))
goods_of (s ∷ ss) (f ∷ fs) l a b c d = (
  (a 0 (omega arith), b 0 (omega arith), c 0 (omega arith), d 0 (omega arith)),
  goods_of ss fs (omega (arith, l)) (λ k h. a (suc k) (omega (arith, h))) (λ k h. b (suc k) (omega (arith, h))) (λ k h. c (suc k) (omega (arith, h))) (λ k h. d (suc k) (omega (arith, h))),
)

-- rules, each with its fault

pub first_once : (rules : List (Type 0 × TextReason)) (w v : TextReason) → IsFirstFault rules w → IsFirstFault rules v → w ≡ v
first_once [] w v a b = absurd a
first_once ((rule, fault) ∷ rules) w v (inl a) (inl b) = a.0 ∙ sym b.0
first_once ((rule, fault) ∷ rules) w v (inl a) (inr b) = absurd (a.1 b.0)
first_once ((rule, fault) ∷ rules) w v (inr a) (inl b) = absurd (b.1 a.0)
first_once ((rule, fault) ∷ rules) w v (inr a) (inr b) = first_once rules w v a.1 b.1

first_decided : {A G : Type 0} {x : TextReason} (rules : List (Type 0 × TextReason)) → Dec A → (A → G ⊎ ((w : TextReason) × IsFirstFault rules w)) → G ⊎ ((w : TextReason) × IsFirstFault ((A, x) ∷ rules) w)
first_decided {A} {G} {x} rules (inr n) later = inr (x, inl (refl, n))
first_decided {A} {G} {x} rules (inl a) later = elim (later a) [
  | inl g ↦ inl g
  | inr f ↦ inr (f.0, inr (a, f.1))
]

-- a record lacks one thing first
pub lacks_once : (slots : List Slot) (row : Row) (w v : TextReason) → Lacks slots row w → Lacks slots row v → w ≡ v
lacks_once slots row = first_once (record_rules slots row)

-- a record whose fields are good lacks nothing
pub goods_lack : (slots : List Slot) (row : Row) (w : TextReason) → Goods slots row → Lacks slots row w → ⊥
goods_lack slots row w g bad = let all = goods_all slots row g in elim bad [
  | inl f ↦ f.1 all.0
  | inr p ↦ elim p.1 [
    | inl f ↦ f.1 all.1
    | inr q ↦ elim q.1 [
      | inl f ↦ f.1 all.2
      | inr r ↦ elim r.1 [
        | inl f ↦ f.1 all.3
        | inr s ↦ s.1
      ]
    ]
  ]
]

-- one of both is so
pub goods_or_lacks : (slots : List Slot) (row : Row) → Goods slots row ⊎ ((w : TextReason) × Lacks slots row w)
goods_or_lacks slots row =
    let ranged : List (Type 0 × TextReason) = (EachField IsInRange slots row, why.Range) ∷ [] in
    let numbered : List (Type 0 × TextReason) = (EachField IsNumber slots row, why.Number) ∷ ranged in
    let directed : List (Type 0 × TextReason) = (EachField IsDirection slots row, why.Word) ∷ numbered in
    first_decided directed shaped (λ s. first_decided numbered (each_decided IsDirection direction_decided slots row s.0) (λ a. first_decided ranged (each_decided IsNumber slot_number_decided slots row s.0)
    (λ b. first_decided [] (each_decided IsInRange range_decided slots row s.0) (λ c. inl (goods_of slots row s.0 s.1 a b c)))))
  where
    shaped : Dec (IsShaped slots row)
    shaped = elim (same_number (length row) (length slots)) [
      | inl l ↦ same_as (λ b. (l, b)) (λ s. s.1) (each_decided IsBlank blank_decided slots row l)
      | inr n ↦ inr (λ s. n s.0)
    ]

-- words

pub no_word_once : (width : ℕ) (row : Row) (w v : TextReason) → HasNoWord width row w → HasNoWord width row v → w ≡ v
no_word_once width row w v (inl a) (inl b) = a.0 ∙ sym b.0
no_word_once width row w v (inl a) (inr b) = absurd (a.1 b.0)
no_word_once width row w v (inr a) (inl b) = absurd (b.1 a.0)
no_word_once width row w v (inr a) (inr b) = a.1 ∙ sym b.1

pub no_word_lacks : (width : ℕ) (row : Row) → (w : TextReason) × HasNoWord width row w
no_word_lacks width row = elim (same_number (length row) width) [
  | inl l ↦ (why.Word, inr (l, refl))
  | inr n ↦ (why.Fields, inl (refl, n))
]

pub word_decided : (word : List ℕ) (row : Row) → Dec (StartsWith word row)
word_decided word [] = inr (λ s. (let e : [] ≡ word ∷ s.0 = s.1 in cc e))
word_decided word (f ∷ fs) = same_as (λ e. (fs, ap (λ (g : List ℕ). g ∷ fs) e)) (λ s. (cons_same _ _ _ _ s.1).0) (same_text f word)

pub starts_same : (a b : List ℕ) (row : Row) → StartsWith a row → StartsWith b row → a ≡ b
starts_same a b row h k = (cons_same _ _ _ _ (sym h.1 ∙ k.1)).0

pub word_once : (word : List ℕ) (slots : List Slot) (row : Row) (w v : TextReason) → WordLacks word slots row w → WordLacks word slots row v → w ≡ v
word_once word slots row w v (inl a) (inl b) = lacks_once (slot.Given ∷ slots) row w v a.1 b.1
word_once word slots row w v (inl a) (inr b) = absurd (b.0 a.0)
word_once word slots row w v (inr a) (inl b) = absurd (a.0 b.0)
word_once word slots row w v (inr a) (inr b) = no_word_once (length slots + 1) row w v a.1 b.1
