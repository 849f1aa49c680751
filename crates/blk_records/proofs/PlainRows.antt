-- Records of plain fields.
use Rattle.std.proofs.Common.{◌≡◌, ◌<◌, ◌≤◌, ◌/◌, ◌%◌, ◌∙◌, ◌==◌, Bool, true, false, not, ◌&&◌, ℕ, zero, suc, List, [], ◌∷◌, ◌++◌, length, refl, ap, append_assoc, arith, decimal, ℤ, pos, negsuc, inl, inr}
use Rattle.std.specs.Prelude.{nat_lt}
use Rattle.std.specs.Fmt.{signed_decimal, digits, digits_onto, digit_glyph}
use Rattle.std.specs.List.{list_any}
use Rattle.std.proofs.lemmas.Bool.{cases_Bool, ne_eqb}
use Rattle.std.proofs.lemmas.List.{append-nil}
use Rattle.csv.specs.Writing.{needs_quotes, needs_byte, default_writer, row_text, fields_text, is_blank}
use Rattle.blk_records.specs.Texts.{rows_text}
use Rattle.blk_records.specs.Sources.{Row}
use Rattle.blk_records.specs.Inside.Cells.{line_of}

-- a byte past the comma needs no quotes
byte_plain : (b : ℕ) → 44 < b → needs_byte default_writer b ≡ false
byte_plain b h =
    let a : (b == 44) ≡ false = ne_eqb b 44 (λ q. omega arith) in
    let q : (b == 34) ≡ false = ne_eqb b 34 (λ q. omega arith) in
    let r : (b == 13) ≡ false = ne_eqb b 13 (λ q. omega arith) in
    let n : (b == 10) ≡ false = ne_eqb b 10 (λ q. omega arith) in
    rw (a, q, r, n) refl

glyph_past : (d : ℕ) → 44 < digit_glyph false d
glyph_past d = elim (cases_Bool (nat_lt d 10)) [
  | inl t ↦ rw t (omega arith)
  | inr f ↦ rw f (omega arith)
]

-- digits need no quotes
onto_plain : (k n : ℕ) (acc : List ℕ) → list_any (needs_byte default_writer) acc ≡ false → list_any (needs_byte default_writer) (digits_onto k 10 false n acc) ≡ false
onto_plain zero n acc h = h
onto_plain (suc k) n acc h =
    let g : needs_byte default_writer (digit_glyph false (n % 10)) ≡ false = byte_plain _ (glyph_past (n % 10)) in
    let more : list_any (needs_byte default_writer) (digit_glyph false (n % 10) ∷ acc) ≡ false = rw g h in
    elim (cases_Bool (n / 10 == 0)) [
      | inl t ↦ rw t more
      | inr f ↦ rw f (onto_plain k (n / 10) (digit_glyph false (n % 10) ∷ acc) more)
    ]

pub decimal_plain : (n : ℕ) → needs_quotes default_writer (decimal n) ≡ false
unfolding digits
decimal_plain n = onto_plain 64 n [] refl

pub signed_plain : (z : ℤ) → needs_quotes default_writer (signed_decimal z) ≡ false
signed_plain (pos n) = decimal_plain n
signed_plain (negsuc n) = rw (byte_plain 45 (omega arith)) (decimal_plain (suc n))

-- no field of a row needs quotes
abbrev pub all_plain : Row → Bool
all_plain [] = true
all_plain (f ∷ fs) = not (needs_quotes default_writer f) && all_plain fs

first_plain : (a b : Bool) → (not a && b) ≡ true → a ≡ false
first_plain true b h = cc h
first_plain false b h = refl

others_plain : (a b : Bool) → (not a && b) ≡ true → b ≡ true
others_plain true b h = cc h
others_plain false b h = h

-- the text of a plain row
tail_is : (f : List ℕ) (fs : Row) → all_plain fs ≡ true → (f ++ fields_text default_writer fs) ++ (10 ∷ []) ≡ line_of (f ∷ fs)
unfolding fields_text line_of
tail_is f [] h = rw (append-nil f) refl
tail_is f (g ∷ fs) h =
    let p = first_plain _ (all_plain fs) h in
    rw p (append_assoc f (44 ∷ (g ++ fields_text default_writer fs)) (10 ∷ []) ∙ ap (λ (t : List ℕ). f ++ 44 ∷ t) (tail_is g fs (others_plain _ _ h)))

plain_row : (f g : List ℕ) (fs : Row) → all_plain (f ∷ g ∷ fs) ≡ true → row_text default_writer (f ∷ g ∷ fs) ≡ line_of (f ∷ g ∷ fs)
unfolding is_blank
plain_row f g fs h = rw (first_plain _ (all_plain (g ∷ fs)) h) (tail_is f (g ∷ fs) (others_plain _ _ h))

-- the text of one plain row of two fields or more
pub line_is : (row : Row) → 2 ≤ length row → all_plain row ≡ true → rows_text (row ∷ []) ≡ line_of row
unfolding rows_text
line_is [] l h = absurd (omega arith)
line_is (f ∷ []) l h = absurd (omega (arith, l))
line_is (f ∷ g ∷ fs) l h = append-nil _ ∙ plain_row f g fs h
