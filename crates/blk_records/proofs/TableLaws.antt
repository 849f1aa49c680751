-- The laws of a record by its table.
use Rattle.std.proofs.Common.{◌≡◌, ◌-◌, ◌+◌, ◌<◌, ◌≤◌, ◌^◌, ◌∙◌, ℕ, ℤ, pos, negsuc, suc, List, [], ◌∷◌, length, get_or, refl, sym, ap, inl, inr, arith, decimal}
use Rattle.std.specs.Prelude.{◌⊎◌}
use Rattle.std.specs.Fmt.{signed_decimal}
use Rattle.std.specs.Int.Signed.{mag}
use Rattle.std.proofs.lemmas.Fmt.{decimal_injective, signed_decimal_injective}
use Rattle.blk_bio.specs.declared.bio.Dir.{Dir}
use Rattle.blk_bio.specs.declared.bio.Dir.TheVariants as dir
use Rattle.blk_records.specs.Sources.{Row}
use Rattle.blk_bio.specs.Letters.{direction_text}
use Rattle.blk_records.specs.Fields.{Lacks, FieldSpells, FieldsSpell, IsSized}
use Rattle.blk_records.specs.Words.{StartsWith, NextStarts, HasNoWord, WordLacks}
use Rattle.blk_records.specs.Reads.{IsRowOf}
use Rattle.blk_records.specs.declared.fields.Slot.TheVariants as slot
use Rattle.blk_records.specs.declared.fault.TextReason.{TextReason}
use Rattle.blk_records.proofs.Lists.{cons_same}
use Rattle.blk_records.proofs.Lacking.{Good, Goods, sized_once, lacks_once, goods_lack, goods_or_lacks, no_word_once, no_word_lacks, word_decided, starts_same, word_once}
use Rattle.text_grammar.specs.Parts.{Part, NextWrong}
use Rattle.text_grammar.specs.Laws.{Tells}
use Rattle.text_grammar.specs.Inside.Laws.{TellsRecord}
use Rattle.text_grammar.proofs.Then.{record_tells, by_word_tells}
use Rattle.blk_records.specs.Tables.{Cell, Blank, Direction, Number, Signed, Text, Nanoseconds, cell_slot, field_of, row_by, slots_by, FitsCell, FitsCells, IsUpTo, table_record, word_record, kinds_record}

-- what a field tells of a value
abbrev pub Told : {V : Type 0} → Cell V → Type 0
Told Blank = Unit {0}
Told (Direction f) = Dir
Told (Number least most f) = ℕ
Told (Signed most f) = ℤ
Told (Text f) = List ℕ
Told (Nanoseconds f) = List ℕ

abbrev pub told : {V : Type 0} → V → (c : Cell V) → Told c
told v Blank = tt
told v (Direction f) = f v
told v (Number least most f) = f v
told v (Signed most f) = f v
told v (Text f) = f v
told v (Nanoseconds f) = f v

-- and what all fields do
abbrev pub AllTold : {V : Type 0} → List (Cell V) → Type 0
AllTold [] = Unit {0}
AllTold (c ∷ cs) = Told c × AllTold cs

abbrev pub all_told : {V : Type 0} → (cells : List (Cell V)) → V → AllTold cells
all_told [] v = tt
all_told (c ∷ cs) v = (told v c, all_told cs v)

-- a greatest number fits its width
abbrev IsSizedCell : {V : Type 0} → Cell V → Type 0
IsSizedCell Blank = Unit {0}
IsSizedCell (Direction f) = Unit {0}
IsSizedCell (Number least most f) = most < 2 ^ 64
IsSizedCell (Signed most f) = most < 2 ^ 63
IsSizedCell (Text f) = Unit {0}
IsSizedCell (Nanoseconds f) = Unit {0}

abbrev pub Sized : {V : Type 0} → List (Cell V) → Type 0
Sized [] = Unit {0}
Sized (c ∷ cs) = IsSizedCell c × Sized cs

-- a table whose numbers fit their width, and whose fields tell the value
pub record IsTable {V : Type 0} (cells : List (Cell V)) (Fits : V → Type 0) : Type 0 where
  pub sized : Sized cells
  pub within : (v : V) → Fits v → FitsCells cells v
  pub made : AllTold cells → V
  pub back : (v : V) → Fits v → made (all_told cells v) ≡ v
  pub forth : (x : AllTold cells) → all_told cells (made x) ≡ x
  pub fits : (x : AllTold cells) → FitsCells cells (made x) → Fits (made x)

-- one field

number_good : (least most n : ℕ) → n < 2 ^ 64 → least ≤ n → n ≤ most → Good (slot.Number least most) (decimal n)
number_good least most n h a b = (tt, tt, (n, h, refl), λ m k e. (let same : n ≡ m = decimal_injective n m h k e in (omega arith, omega arith)))

late_good : (most n : ℕ) (f : List ℕ) → n < 2 ^ 64 → n ≤ most → IsSized f n → Good (slot.Lateness most) f
late_good most n f h b s = (tt, tt, (n, h, s), λ m k e. (let same : m ≡ n = sized_once f m n k h e s in omega arith))

late_field : (most : ℕ) (z : ℤ) → IsUpTo most z → most < 2 ^ 63 → Good (slot.Lateness most) (signed_decimal z)
late_field most (pos n) h l = late_good most n (decimal n) (omega (arith, h, l)) h (inl refl)
late_field most (negsuc n) h l = late_good most (suc n) (45 ∷ decimal (suc n)) (omega (arith, h, l)) h (inr (omega arith, refl))

cell_good : {V : Type 0} (c : Cell V) (v : V) → IsSizedCell c → FitsCell v c → Good (cell_slot c) (field_of v c)
cell_good Blank v s f = (refl, tt, tt, tt)
cell_good (Direction d) v s f = (tt, (d v, refl), tt, tt)
cell_good (Number least most n) v s f = let high = f.1 in number_good least most (n v) (omega (arith, high, s)) f.0 f.1
cell_good (Signed most z) v s f = late_field most (z v) f s
cell_good (Text t) v s f = (tt, tt, tt, tt)
cell_good (Nanoseconds t) v s f = (tt, tt, f, tt)

one_direction : (d e : Dir) → direction_text d ≡ direction_text e → d ≡ e
one_direction dir.Read dir.Read e = refl
one_direction dir.Read dir.Write e = absurd (let bad : 82 ≡ 87 = (cons_same _ _ _ _ e).0 in omega (arith, bad))
one_direction dir.Write dir.Read e = absurd (let bad : 87 ≡ 82 = (cons_same _ _ _ _ e).0 in omega (arith, bad))
one_direction dir.Write dir.Write e = refl

up_to : (most : ℕ) (z : ℤ) → IsUpTo most z → mag z ≤ most
up_to most (pos n) h = h
up_to most (negsuc n) h = omega (arith, h)

cell_same : {V : Type 0} (c : Cell V) (v u : V) → IsSizedCell c → FitsCell v c → FitsCell u c → field_of v c ≡ field_of u c → told v c ≡ told u c
cell_same Blank v u s f g e = refl
cell_same (Direction d) v u s f g e = one_direction (d v) (d u) e
cell_same (Number least most n) v u s f g e = let high = f.1 in let other = g.1 in decimal_injective (n v) (n u) (omega (arith, high, s)) (omega (arith, other, s)) e
cell_same (Signed most z) v u s f g e =
    let high = up_to most (z v) f in
    let other = up_to most (z u) g in
    signed_decimal_injective (z v) (z u) (omega (arith, high, s)) (omega (arith, other, s)) e
cell_same (Text t) v u s f g e = e
cell_same (Nanoseconds t) v u s f g e = e

-- what a good field tells
abbrev CellTold : {V : Type 0} → Cell V → List ℕ → Type 0
CellTold {V} c f = (x : Told c) × ((v : V) → told v c ≡ x → (f ≡ field_of v c) × FitsCell v c)

late_told : {V : Type 0} (most : ℕ) (z : V → ℤ) (f : List ℕ) (n : ℕ) → n ≤ most → IsSized f n → CellTold (Signed most z) f
late_told most z f n l (inl e) = (pos n, λ v k. (e ∙ ap signed_decimal (sym k), rw k l))
late_told most z f n l (inr m) =
    let some = m.0 in
    let up : n ≡ suc (n - 1) = omega (arith, some) in
    (negsuc (n - 1), λ v k. (m.1 ∙ ap (λ (j : ℕ). 45 ∷ decimal j) up ∙ ap signed_decimal (sym k), rw k (omega (arith, l, some))))

cell_told : {V : Type 0} (c : Cell V) (f : List ℕ) → Good (cell_slot c) f → CellTold c f
cell_told Blank f g = (tt, λ v k. (g.0, tt))
cell_told (Direction d) f g = (g.1.0, λ v k. (g.1.1 ∙ ap direction_text (sym k), tt))
cell_told (Number least most n) f g = (g.2.0, λ v k. (g.2.2 ∙ ap decimal (sym k), rw k (g.3 g.2.0 g.2.1 g.2.2)))
cell_told (Signed most z) f g = late_told most z f g.2.0 (g.3 g.2.0 g.2.1 g.2.2) g.2.2
cell_told (Text t) f g = (f, λ v k. (sym k, tt))
cell_told (Nanoseconds t) f g = (f, λ v k. (sym k, rw k g.2))

-- all fields

pub goods_by : {V : Type 0} (cells : List (Cell V)) (v : V) → Sized cells → FitsCells cells v → Goods (slots_by cells) (row_by cells v)
goods_by [] v s f = tt
goods_by (c ∷ cs) v s f = (cell_good c v s.0 f.0, goods_by cs v s.1 f.1)

same_by : {V : Type 0} (cells : List (Cell V)) (v u : V) → Sized cells → FitsCells cells v → FitsCells cells u → row_by cells v ≡ row_by cells u → all_told cells v ≡ all_told cells u
same_by [] v u s f g e = refl
same_by (c ∷ cs) v u s f g e =
    let first = cell_same c v u s.0 f.0 g.0 (cons_same _ _ _ _ e).0 in
    let others = same_by cs v u s.1 f.1 g.1 (cons_same _ _ _ _ e).1 in
    λ i. (first i, others i)

told_by : {V : Type 0} (cells : List (Cell V)) (row : Row) → Goods (slots_by cells) row → (x : AllTold cells) × ((v : V) → all_told cells v ≡ x → (row ≡ row_by cells v) × FitsCells cells v)
told_by [] [] g = (tt, λ v k. (refl, tt))
told_by [] (f ∷ fs) g = absurd g
told_by (c ∷ cs) [] g = absurd g
told_by (c ∷ cs) (f ∷ fs) g =
    let first = cell_told c f g.0 in
    let others = told_by cs fs g.1 in (
      (first.0, others.0),
      λ v k. (
          let a = first.1 v (ap (λ t. t.0) k) in
          let b = others.1 v (ap (λ t. t.1) k) in
          let x = a.0 in
          let y = b.0 in
          (cc (x, y), (a.1, b.1))
          ),
    )

-- a record that spells a value by its table, or lacks something
pub by_table : {V : Type 0} (cells : List (Cell V)) (Fits : V → Type 0) → IsTable cells Fits → (row : Row) → Goods (slots_by cells) row → (v : V) × Fits v × (row ≡ row_by cells v)
by_table cells Fits t row g =
    let x = told_by cells row g in
    let r = x.1 (t.made x.0) (t.forth x.0) in
    (t.made x.0, t.fits x.0 r.1, r.0)

pub one_by : {V : Type 0} (cells : List (Cell V)) (Fits : V → Type 0) → IsTable cells Fits → (v u : V) → Fits v → Fits u → row_by cells v ≡ row_by cells u → v ≡ u
one_by cells Fits t v u f g e = sym (t.back v f) ∙ ap t.made (same_by cells v u t.sized (t.within v f) (t.within u g) e) ∙ t.back u g

pub table_tells : {V : Type 0} {cells : List (Cell V)} {Fits : V → Type 0} → IsTable cells Fits → TellsRecord (row_by cells) Fits (Lacks (slots_by cells))
table_tells {V} {cells} {Fits} t = record {
  once = one_by cells Fits t;
  apart = λ v w f bad. goods_lack (slots_by cells) (row_by cells v) w (goods_by cells v t.sized (t.within v f)) bad;
  first = lacks_once (slots_by cells);
  decided = λ row. elim (goods_or_lacks (slots_by cells) row) [
    | inl g ↦ inl (by_table cells Fits t row g)
    | inr w ↦ inr w
  ];
}

-- words

pub first_is : (cells : Row) (a : List ℕ) → StartsWith a cells → get_or cells 0 [] ≡ a
first_is cells a h = rw h.1 refl

pub begins : (cells : Row) (word : List ℕ) → 0 < length word → get_or cells 0 [] ≡ word → StartsWith word cells
begins [] word l h = absurd (let none : 0 ≡ length word = ap length h in omega (arith, none, l))
begins (f ∷ more) word l h = (more, ap (λ (g : List ℕ). g ∷ more) h)

pub given_goods : {V : Type 0} (f : List ℕ) (cells : List (Cell V)) (v : V) → Sized cells → FitsCells cells v → Goods (slot.Given ∷ slots_by cells) (f ∷ row_by cells v)
given_goods f cells v s k = ((tt, tt, tt, tt), goods_by cells v s k)

pub word_tells : {V : Type 0} (word : List ℕ) {cells : List (Cell V)} {Fits : V → Type 0} → IsTable cells Fits → TellsRecord (λ v. word ∷ row_by cells v) Fits (WordLacks word (slots_by cells))
word_tells {V} word {cells} {Fits} t = record {
  once = λ v u f g e. one_by cells Fits t v u f g (cons_same _ _ _ _ e).1;
  apart = apart;
  first = word_once word (slots_by cells);
  decided = decided;
}
  where
    apart : (v : V) (w : TextReason) → Fits v → WordLacks word (slots_by cells) (word ∷ row_by cells v) w → ⊥
    apart v w f (inl bad) = goods_lack (slot.Given ∷ slots_by cells) (word ∷ row_by cells v) w (given_goods word cells v t.sized (t.within v f)) bad.1
    apart v w f (inr bad) = bad.0 (row_by cells v, refl)

    starts : (row : Row) → StartsWith word row → Goods (slot.Given ∷ slots_by cells) row ⊎ ((w : TextReason) × Lacks (slot.Given ∷ slots_by cells) row w)
        → ((v : V) × Fits v × (row ≡ word ∷ row_by cells v)) ⊎ ((w : TextReason) × WordLacks word (slots_by cells) row w)
    starts row s (inr bad) = inr (bad.0, inl (s, bad.1))
    starts [] s (inl g) = absurd g
    starts (f ∷ fs) s (inl g) =
        let v = by_table cells Fits t fs g.1 in
        let first = (cons_same _ _ _ _ s.1).0 in
        let others = v.2 in
        inl (v.0, v.1, cc (first, others))

    decided : (row : Row) → ((v : V) × Fits v × (row ≡ word ∷ row_by cells v)) ⊎ ((w : TextReason) × WordLacks word (slots_by cells) row w)
    decided row = elim (word_decided word row) [
      | inl s ↦ starts row s (goods_or_lacks (slot.Given ∷ slots_by cells) row)
      | inr n ↦ (let w = no_word_lacks (length (slots_by cells) + 1) row in inr (w.0, inr (n, w.1)))
    ]

-- kinds

abbrev Kinds : {K : Type 0} → (V : K → Type 0) → (K → Type 0) → ((k : K) → List (Cell (V k))) → Type 0
Kinds {K} V Stands cells = (k : K) → Stands k → IsTable (cells k) (FitsCells (cells k))

-- a record that stands in the form
standing_tells : {V A : Type 0} {row_of : V → Row} {Fits : V → Type 0} {Bad : Row → TextReason → Type 0} → A → TellsRecord row_of Fits Bad → TellsRecord row_of (λ v. A × Fits v) Bad
standing_tells a t = record {
  once = λ v u f g e. t.once v u f.1 g.1 e;
  apart = λ v w f bad. t.apart v w f.1 bad;
  first = t.first;
  decided = λ row. elim (t.decided row) [
    | inl h ↦ inl (h.0, (a, h.1), h.2)
    | inr w ↦ inr w
  ];
}

pub next_starts : (word : List ℕ) (row : Row) (rows others : List Row) → rows ≡ (word ∷ row) ∷ others → NextStarts word rows
next_starts word row [] others e = absurd (cc e)
next_starts word row (r ∷ rs) others e = (row, (cons_same _ _ _ _ e).0)

pub next_same : (a b : List ℕ) (rows : List Row) → NextStarts a rows → NextStarts b rows → a ≡ b
next_same a b [] h k = absurd h
next_same a b (row ∷ rows) h k = starts_same a b row h k

pub next_once : (gone : TextReason) (width : ℕ) (rows : List Row) (w x : TextReason) → NextWrong gone (HasNoWord width) rows w → NextWrong gone (HasNoWord width) rows x → w ≡ x
next_once gone width [] w x a b = a ∙ sym b
next_once gone width (row ∷ rows) w x a b = no_word_once width row w x a b

-- a record of a kind
abbrev kind_record : {V : Type 0} → Type 0 → TextReason → List ℕ → List (Cell V) → Part Row TextReason V
kind_record Stands gone word cells = word_record gone word cells (λ v. Stands × FitsCells cells v)

pub kinds_tell : {K : Type 0} (V : K → Type 0) (gone : TextReason) (width : ℕ) (Stands : K → Type 0) (word_of : K → List ℕ) (cells : (k : K) → List (Cell (V k))) → ((j k : K) → Stands j → Stands k → word_of j ≡ word_of k → j ≡ k)
    → ((f : List ℕ) → ((k : K) × Stands k × (f ≡ word_of k)) ⊎ ((k : K) → Stands k → ¬ (f ≡ word_of k)))
    → Kinds V Stands cells → Tells (kinds_record V gone width Stands word_of cells)
kinds_tell {K} V gone width Stands word_of cells one pick tables =
    by_word_tells V (λ k rows. Stands k × NextStarts (word_of k) rows) (λ k. kind_record (Stands k) gone (word_of k) (cells k)) (NextWrong gone (HasNoWord width))
    (λ k rows s. (record_tells gone (standing_tells s.0 (word_tells (word_of k) (tables k s.0)))).told rows)
    (λ j k rows s t. one j k s.0 t.0 (next_same (word_of j) (word_of k) rows s.1 t.1)) (λ k rows v a h. (h.fits.0, next_starts (word_of k) (row_by (cells k) v) rows a h.made)) (next_once gone width) find
  where
    find : (rows : List Row) → ((k : K) × (Stands k × NextStarts (word_of k) rows)) ⊎ (((k : K) → ¬ (Stands k × NextStarts (word_of k) rows)) × ((w : TextReason) × NextWrong gone (HasNoWord width) rows w))
    find [] = inr ((λ k s. s.1), (gone, refl))
    find ([] ∷ rows) = inr ((λ k s. (let e : [] ≡ word_of k ∷ s.1.0 = s.1.1 in cc e)), no_word_lacks width [])
    find ((f ∷ fs) ∷ rows) = elim (pick f) [
      | inl k ↦ inl (k.0, (k.1, (fs, ap (λ (g : List ℕ). g ∷ fs) k.2)))
      | inr n ↦ inr ((λ k s. n k s.0 (cons_same _ _ _ _ s.1.1).0), no_word_lacks width (f ∷ fs))
    ]

-- what was read of a record

-- a value has this in a field, which spells this number
abbrev pub IsByCell : {V : Type 0} → Cell V → V → List ℕ → ℕ → Type 0
IsByCell Blank v f m = Unit {0}
IsByCell (Direction d) v f m = m ∷ [] ≡ direction_text (d v)
IsByCell (Number least most n) v f m = n v ≡ m
IsByCell (Signed most z) v f m = (f ≡ signed_decimal (z v)) × IsUpTo most (z v)
IsByCell (Text t) v f m = f ≡ t v
IsByCell (Nanoseconds t) v f m = f ≡ t v

-- and these by place
abbrev pub IsBy : {V : Type 0} → List (Cell V) → V → (ℕ → List ℕ) → (ℕ → ℕ) → Type 0
IsBy [] v field number = Unit {0}
IsBy (c ∷ cs) v field number = IsByCell c v (field 0) (number 0) × IsBy cs v (λ k. field (suc k)) (λ k. number (suc k))

cell_by : {V : Type 0} (c : Cell V) (v : V) (f : List ℕ) (m : ℕ) → FieldSpells (cell_slot c) f m → IsByCell c v f m → (f ≡ field_of v c) × FitsCell v c
cell_by Blank v f m s b = (s.0, tt)
cell_by (Direction d) v f m s b = (s.2 ∙ b, tt)
cell_by (Number least most n) v f m s b = (s.2 ∙ ap decimal (sym b), rw b s.3)
cell_by (Signed most z) v f m s b = b
cell_by (Text t) v f m s b = (b, tt)
cell_by (Nanoseconds t) v f m s b = (b, rw b at s.2.0)

-- a record whose fields spell the numbers of a value is its record
pub fields_by : {V : Type 0} (cells : List (Cell V)) (v : V) (row : Row) (number : ℕ → ℕ) → length row ≡ length (slots_by cells)
    → ((k : ℕ) → k < length (slots_by cells) → FieldSpells (get_or (slots_by cells) k slot.Given) (get_or row k []) (number k)) → IsBy cells v (λ k. get_or row k []) number → (row ≡ row_by cells v) × FitsCells cells v
fields_by [] v [] number l s b = (refl, tt)
fields_by [] v (f ∷ fs) number l s b = absurd (omega (arith, l))
fields_by (c ∷ cs) v [] number l s b = absurd (omega (arith, l))
fields_by (c ∷ cs) v (f ∷ fs) number l s b =
    let first = cell_by c v f (number 0) (s 0 (omega arith)) b.0 in
    let others = fields_by cs v fs (λ k. number (suc k)) (omega (arith, l)) (λ k h. s (suc k) (omega (arith, h))) b.1 in
    let x = first.0 in
    let y = others.0 in
    (cc (x, y), (first.1, others.1))

pub table_line : {V : Type 0} (gone : TextReason) (cells : List (Cell V)) (Fits : V → Type 0) (v : V) (row : Row) (ns : List ℕ) → FieldsSpell (slots_by cells) row ns → IsBy cells v (λ k. get_or row k []) (λ k. get_or ns k 0)
    → (FitsCells cells v → Fits v) → IsRowOf (table_record gone cells Fits) row v
table_line gone cells Fits v row ns s b f =
    let r = fields_by cells v row (λ k. get_or ns k 0) s.0 s.1 b in
    λ rest. record { fits = f r.1; made = ap (λ (x : Row). x ∷ rest) r.0; follows = tt }

-- what comes after some fields that were looked at before
given_by : {V : Type 0} (cells : List (Cell V)) (v : V) (row : Row) (ns : List ℕ) → FieldsSpell (slot.Given ∷ slots_by cells) row ns → IsBy cells v (λ k. get_or row (suc k) []) (λ k. get_or ns (suc k) 0) → (word : List ℕ) → StartsWith word row
    → (row ≡ word ∷ row_by cells v) × FitsCells cells v
given_by cells v [] ns s b word t = absurd (let long = s.0 in omega (arith, long))
given_by cells v (f ∷ fs) ns s b word t =
    let long = s.0 in
    let r = fields_by cells v fs (λ k. get_or ns (suc k) 0) (omega (arith, long)) (λ k h. s.1 (suc k) (omega (arith, h))) b in
    let first = (cons_same _ _ _ _ t.1).0 in
    let others = r.0 in
    (cc (first, others), r.1)

pub word_line : {V : Type 0} (gone : TextReason) (word : List ℕ) (cells : List (Cell V)) (Fits : V → Type 0) (v : V) (row : Row) (ns : List ℕ) → StartsWith word row → FieldsSpell (slot.Given ∷ slots_by cells) row ns
    → IsBy cells v (λ k. get_or row (suc k) []) (λ k. get_or ns (suc k) 0) → (FitsCells cells v → Fits v) → IsRowOf (word_record gone word cells Fits) row v
word_line gone word cells Fits v row ns t s b f =
    let r = given_by cells v row ns s b word t in
    λ rest. record { fits = f r.1; made = ap (λ (x : Row). x ∷ rest) r.0; follows = tt }
