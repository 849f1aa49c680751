-- The laws of a record by the row of its kind.
use Rattle.std.proofs.Common.{◌≡◌, ◌<◌, ◌^◌, ◌∙◌, ℕ, zero, suc, Bool, true, false, List, [], ◌∷◌, length, get_or, refl, sym, ap, subst, inl, inr}
use Rattle.std.specs.Prelude.{◌⊎◌, if◌then◌else◌}
use Rattle.std.specs.Str.{bytes_eq}
use Rattle.std.proofs.lemmas.Bool.{cases_Bool}
use Rattle.std.proofs.lemmas.Slice.Eq.{bytes_eq-Decides}
use Rattle.blk_bio.specs.declared.bio.Dir.{Dir}
use Rattle.blk_bio.specs.declared.bio.Dir.TheVariants as dir
use Rattle.blk_records.specs.Sources.{Row}
use Rattle.blk_records.specs.Fields.{Lacks, FieldsSpell}
use Rattle.blk_records.specs.Words.{StartsWith, HasNoWord}
use Rattle.blk_records.specs.Reads.{IsRowOf, IsWrongRecord}
use Rattle.blk_records.specs.Tables.{FitsCells, slots_by}
use Rattle.blk_records.specs.declared.fault.TextReason.{TextReason}
use Rattle.blk_records.specs.declared.fields.Slot.{Slot}
use Rattle.blk_records.specs.declared.fields.Slot.TheVariants as slot
use Rattle.blk_records.proofs.Lacking.{Dec, both, at_most, same_text}
use Rattle.blk_records.proofs.TableLaws.{AllTold, all_told, Sized, IsTable, IsBy, first_is, begins, word_line, kinds_tell}
use Rattle.blk_records.specs.Kinds.{KindRow, StandsFrom, Told, cells_of, RowSaid, HasRow, RowStandsIn, said_record}
use Rattle.text_grammar.specs.Laws.{Tells}

-- a greatest number fits its width
abbrev pub SizedSlots : List Slot → Type 0
SizedSlots [] = Unit {0}
SizedSlots (slot.Given ∷ ss) = SizedSlots ss
SizedSlots (slot.Blank ∷ ss) = SizedSlots ss
SizedSlots (slot.Direction ∷ ss) = SizedSlots ss
SizedSlots (slot.Number least most ∷ ss) = (most < 2 ^ 64) × SizedSlots ss
SizedSlots (slot.Lateness most ∷ ss) = (most < 2 ^ 63) × SizedSlots ss
SizedSlots (slot.Text ∷ ss) = SizedSlots ss
SizedSlots (slot.Nanoseconds ∷ ss) = SizedSlots ss

sized : {V : Type 0} (ss : List Slot) (told : V → Told ss) → SizedSlots ss → Sized (cells_of ss told)
sized [] told z = tt
sized (slot.Given ∷ ss) told z = sized ss told z
sized (slot.Blank ∷ ss) told z = (tt, sized ss told z)
sized (slot.Direction ∷ ss) told z = (tt, sized ss (λ v. (told v).1) z)
sized (slot.Number least most ∷ ss) told z = (z.0, sized ss (λ v. (told v).1) z.1)
sized (slot.Lateness most ∷ ss) told z = (z.0, sized ss (λ v. (told v).1) z.1)
sized (slot.Text ∷ ss) told z = (tt, sized ss (λ v. (told v).1) z)
sized (slot.Nanoseconds ∷ ss) told z = (tt, sized ss (λ v. (told v).1) z)

untold : {V : Type 0} (ss : List Slot) (told : V → Told ss) → AllTold (cells_of ss told) → Told ss
untold [] told x = tt
untold (slot.Given ∷ ss) told x = untold ss told x
untold (slot.Blank ∷ ss) told x = untold ss told x.1
untold (slot.Direction ∷ ss) told x = (x.0, untold ss (λ v. (told v).1) x.1)
untold (slot.Number least most ∷ ss) told x = (x.0, untold ss (λ v. (told v).1) x.1)
untold (slot.Lateness most ∷ ss) told x = (x.0, untold ss (λ v. (told v).1) x.1)
untold (slot.Text ∷ ss) told x = (x.0, untold ss (λ v. (told v).1) x.1)
untold (slot.Nanoseconds ∷ ss) told x = (x.0, untold ss (λ v. (told v).1) x.1)

told_back : {V : Type 0} (ss : List Slot) (told : V → Told ss) (v : V) → untold ss told (all_told (cells_of ss told) v) ≡ told v
unfolding untold
told_back [] told v = refl
told_back (slot.Given ∷ ss) told v = told_back ss told v
told_back (slot.Blank ∷ ss) told v = told_back ss told v
told_back (slot.Direction ∷ ss) told v = let others = told_back ss (λ v. (told v).1) v in λ i. ((told v).0, others i)
told_back (slot.Number least most ∷ ss) told v = let others = told_back ss (λ v. (told v).1) v in λ i. ((told v).0, others i)
told_back (slot.Lateness most ∷ ss) told v = let others = told_back ss (λ v. (told v).1) v in λ i. ((told v).0, others i)
told_back (slot.Text ∷ ss) told v = let others = told_back ss (λ v. (told v).1) v in λ i. ((told v).0, others i)
told_back (slot.Nanoseconds ∷ ss) told v = let others = told_back ss (λ v. (told v).1) v in λ i. ((told v).0, others i)

told_forth : {V : Type 0} (ss : List Slot) (told : V → Told ss) (x : AllTold (cells_of ss told)) (v : V) → told v ≡ untold ss told x → all_told (cells_of ss told) v ≡ x
unfolding untold
told_forth [] told x v e = refl
told_forth (slot.Given ∷ ss) told x v e = told_forth ss told x v e
told_forth (slot.Blank ∷ ss) told x v e = let others = told_forth ss told x.1 v e in λ i. (tt, others i)
told_forth (slot.Direction ∷ ss) told x v e = let others = told_forth ss (λ v. (told v).1) x.1 v (ap (λ t. t.1) e) in λ i. ((e i).0, others i)
told_forth (slot.Number least most ∷ ss) told x v e = let others = told_forth ss (λ v. (told v).1) x.1 v (ap (λ t. t.1) e) in λ i. ((e i).0, others i)
told_forth (slot.Lateness most ∷ ss) told x v e = let others = told_forth ss (λ v. (told v).1) x.1 v (ap (λ t. t.1) e) in λ i. ((e i).0, others i)
told_forth (slot.Text ∷ ss) told x v e = let others = told_forth ss (λ v. (told v).1) x.1 v (ap (λ t. t.1) e) in λ i. ((e i).0, others i)
told_forth (slot.Nanoseconds ∷ ss) told x v e = let others = told_forth ss (λ v. (told v).1) x.1 v (ap (λ t. t.1) e) in λ i. ((e i).0, others i)

-- the table of what the fields of a row tell
pub row_table : (ss : List Slot) → SizedSlots ss → IsTable (cells_of ss (λ s. s)) (FitsCells (cells_of ss (λ s. s)))
row_table ss z = record {
  sized = sized ss (λ s. s) z;
  within = λ v f. f;
  made = untold ss (λ s. s);
  back = λ v f. told_back ss (λ s. s) v;
  forth = λ x. told_forth ss (λ s. s) x (untold ss (λ s. s) x) refl;
  fits = λ x f. f;
}

-- tables of rows

-- each row of a table has this
abbrev pub EachRow : (KindRow → Type 0) → List KindRow → Type 0
EachRow P [] = Unit {0}
EachRow P (r ∷ rows) = P r × EachRow P rows

pub row_in : (P : KindRow → Type 0) (table : List KindRow) (k : KindRow) → EachRow P table → HasRow table k → P k
row_in P [] k all h = absurd h
row_in P (r ∷ rows) k all (inl e) = subst P (sym e) all.0
row_in P (r ∷ rows) k all (inr h) = row_in P rows k all.1 h

-- no row has this word
abbrev Lacked : List ℕ → List KindRow → Type 0
Lacked word = EachRow (λ r. ¬ (word ≡ r.word))

-- a row whose word is not empty and comes first, and is not asked for again
pub record IsWordRow (r : KindRow) : Type 0 where
  pub long : 0 < length r.word
  pub slots : r.slots ≡ slot.Given ∷ slots_by (cells_of r.slots (λ v. v))

abbrev pub AreApart : List KindRow → Type 0
AreApart [] = Unit {0}
AreApart (r ∷ rows) = Lacked r.word rows × AreApart rows

-- whether the words of a table are apart, and so they are
abbrev is_lacked : List ℕ → List KindRow → Bool
is_lacked word [] = true
is_lacked word (r ∷ rows) = if bytes_eq word r.word then false else is_lacked word rows

abbrev pub are_apart : List KindRow → Bool
are_apart [] = true
are_apart (r ∷ rows) = if is_lacked r.word rows then are_apart rows else false

lacked : (word : List ℕ) (rows : List KindRow) → is_lacked word rows ≡ true → Lacked word rows
lacked word [] e = tt
lacked word (r ∷ rows) e = elim (cases_Bool (bytes_eq word r.word)) [
  | inl t ↦ absurd (let bad : false ≡ true = rw t at e in cc bad)
  | inr f ↦ (
    (λ same. (let t : bytes_eq word r.word ≡ true = (bytes_eq-Decides word r.word).1 same in cc (t, f))),
    lacked word rows (rw f at e),
  )
]

pub apart : (table : List KindRow) → are_apart table ≡ true → AreApart table
apart [] e = tt
apart (r ∷ rows) e = elim (cases_Bool (is_lacked r.word rows)) [
  | inl t ↦ (lacked r.word rows t, apart rows (rw t at e))
  | inr f ↦ absurd (let bad : false ≡ true = rw f at e in cc bad)
]

-- a table by which records can be told: the numbers of its rows fit their width, and no two have one word
pub record IsKinds (table : List KindRow) : Type 0 where
  pub sized : EachRow (λ r. SizedSlots r.slots) table
  pub words : AreApart table

one_word : (table : List KindRow) (j k : KindRow) → AreApart table → HasRow table j → HasRow table k → j.word ≡ k.word → j ≡ k
one_word [] j k a h i e = absurd h
one_word (r ∷ rows) j k a (inl h) (inl i) e = h ∙ sym i
one_word (r ∷ rows) j k a (inl h) (inr i) e = absurd (row_in (λ s. ¬ (r.word ≡ s.word)) rows k a.0 i (ap (λ (z : KindRow). z.word) (sym h) ∙ e))
one_word (r ∷ rows) j k a (inr h) (inl i) e = absurd (row_in (λ s. ¬ (r.word ≡ s.word)) rows j a.0 h (ap (λ (z : KindRow). z.word) (sym i) ∙ sym e))
one_word (r ∷ rows) j k a (inr h) (inr i) e = one_word rows j k a.1 h i e

stands_decided : (since version : ℕ) → Dec (StandsFrom since version)
stands_decided zero version = at_most 0 version
stands_decided (suc zero) version = inl tt
stands_decided (suc (suc n)) version = at_most (suc (suc n)) version

picked : (table : List KindRow) (version : ℕ) (f : List ℕ) → ((k : KindRow) × RowStandsIn table version k × (f ≡ k.word)) ⊎ ((k : KindRow) → RowStandsIn table version k → ¬ (f ≡ k.word))
picked [] version f = inr (λ k s e. s.0)
picked (r ∷ rows) version f = elim (both (stands_decided r.since version) (same_text f r.word)) [
  | inl h ↦ inl (r, (inl refl, h.0), h.1)
  | inr n ↦ elim (picked rows version f) [
    | inl p ↦ inl (p.0, (inr p.1.0, p.1.1), p.2)
    | inr m ↦ inr (λ k s. none n m k s.0 s.1)
  ]
]
  where
    none : ¬ (StandsFrom r.since version × (f ≡ r.word)) → ((k : KindRow) → RowStandsIn rows version k → ¬ (f ≡ k.word)) → (k : KindRow) → HasRow (r ∷ rows) k → StandsFrom k.since version → ¬ (f ≡ k.word)
    none n m k (inl h) s e = n (subst (λ (z : KindRow). StandsFrom z.since version × (f ≡ z.word)) h (s, e))
    none n m k (inr h) s e = m k (h, s) e

pub said_tells : (gone : TextReason) (width : ℕ) (table : List KindRow) (version : ℕ) → IsKinds table → Tells (said_record gone width table version)
said_tells gone width table version t = kinds_tell (λ (k : KindRow). Told k.slots) gone width (RowStandsIn table version) (λ (k : KindRow). k.word) (λ (k : KindRow). cells_of k.slots (λ v. v))
    (λ j k s z e. one_word table j k t.words s.0 z.0 e) (picked table version) (λ k s. row_table k.slots (row_in (λ r. SizedSlots r.slots) table k t.sized s.0))

-- what was read of a record whose first field is asked for the word of a row

-- a field is the word of a row that stands in a version
abbrev pub IsWordOf : ℕ → List ℕ → KindRow → Type 0
IsWordOf version f k = StandsFrom k.since version × (f ≡ k.word)

starts : (k : KindRow) (cells : Row) (f : List ℕ) → IsWordRow k → f ≡ get_or cells 0 [] → f ≡ k.word → StartsWith k.word cells
starts k cells f t at e = begins cells k.word t.long (sym at ∙ e)

pub said_line : (gone : TextReason) (width : ℕ) (table : List KindRow) (version : ℕ) (s : RowSaid) (cells : Row) (f ns : List ℕ) → EachRow IsWordRow table → HasRow table s.0 → f ≡ get_or cells 0 [] → (true ≡ true → IsWordOf version f s.0)
    → FieldsSpell s.0.slots cells ns → IsBy (cells_of s.0.slots (λ v. v)) s.1 (λ i. get_or cells (suc i) []) (λ i. get_or ns (suc i) 0) → IsRowOf (said_record gone width table version) cells s
said_line gone width table version s cells f ns t h at is spelled b =
    let of = is refl in
    let r = row_in IsWordRow table s.0 t h in
    let line = word_line gone s.0.word (cells_of s.0.slots (λ v. v)) (λ v. RowStandsIn table version s.0 × FitsCells (cells_of s.0.slots (λ v. v)) v) s.1 cells ns (starts s.0 cells f r at of.1)
    (subst (λ ss. FieldsSpell ss cells ns) r.slots spelled) b (λ x. ((h, of.0), x)) in
    λ rest. record { fits = (line rest).fits; made = (line rest).made; follows = tt }

pub said_lacks : (gone : TextReason) (width : ℕ) (table : List KindRow) (version : ℕ) (k : KindRow) (cells : Row) (f : List ℕ) (w : TextReason) → EachRow IsWordRow table → HasRow table k → f ≡ get_or cells 0 [] → (true ≡ true → IsWordOf version f k)
    → Lacks k.slots cells w → IsWrongRecord (said_record gone width table version) cells w
said_lacks gone width table version k cells f w t h at is l =
    let of = is refl in
    let r = row_in IsWordRow table k t h in
    let begun = starts k cells f r at of.1 in
    λ rest. inl (k, ((h, of.0), begun), (refl, inl (begun, subst (λ ss. Lacks ss cells w) r.slots l)))

pub said_nowhere : (gone : TextReason) (width : ℕ) (table : List KindRow) (version : ℕ) (cells : Row) (f : List ℕ) (w : TextReason) → f ≡ get_or cells 0 [] → EachRow (λ r. ¬ IsWordOf version f r) table → HasNoWord width cells w
    → IsWrongRecord (said_record gone width table version) cells w
said_nowhere gone width table version cells f w at n h =
    λ rest. inr (refl, (λ k s. row_in (λ r. ¬ IsWordOf version f r) table k n s.0.0 (s.0.1, at ∙ first_is cells k.word s.1)), h)

pub said_gone : (gone : TextReason) (width : ℕ) (table : List KindRow) (version : ℕ) → (said_record gone width table version).Wrong [] 1 gone
said_gone gone width table version = inr (refl, (λ k s. s.1), refl)

-- a direction as a number
abbrev way : Dir → ℕ
way dir.Read = 0
way dir.Write = 1

abbrev pub way_of : ℕ → Dir
way_of zero = dir.Read
way_of (suc n) = dir.Write

pub way_back : (d : Dir) → way_of (way d) ≡ d
way_back dir.Read = refl
way_back dir.Write = refl

-- the numbers that a record says, by which its value is made again
abbrev pub numbers_said : (ss : List Slot) → Told ss → List ℕ
numbers_said [] v = []
numbers_said (slot.Given ∷ ss) v = numbers_said ss v
numbers_said (slot.Blank ∷ ss) v = numbers_said ss v
numbers_said (slot.Direction ∷ ss) v = way v.0 ∷ numbers_said ss v.1
numbers_said (slot.Number least most ∷ ss) v = v.0 ∷ numbers_said ss v.1
numbers_said (slot.Lateness most ∷ ss) v = numbers_said ss v.1
numbers_said (slot.Text ∷ ss) v = numbers_said ss v.1
numbers_said (slot.Nanoseconds ∷ ss) v = numbers_said ss v.1
