-- Items that have one record each and don't depend on those before them.
use Rattle.std.proofs.Common.{◌≡◌, ℕ, List, [], ◌∷◌, ◌++◌, length, map, refl, ap, arith, Option, Bool}
use Rattle.std.specs.Prelude.{All}
use Rattle.std.proofs.lemmas.List.{length-append}
use Rattle.blk_records.specs.Sources.{Row}
use Rattle.blk_records.specs.Reads.{with_next, size_of, items_of, repeated, beyond_of, IsOne, IsStopped, Fails, Halts}
use Rattle.blk_records.specs.Titles.{IsVersion}
use Rattle.blk_records.specs.declared.fault.TextReason.{TextReason}
use Rattle.text_grammar.specs.Parts.{Part, record_of, all_rows, AllFit}
use Rattle.text_grammar.specs.declared.Repeats.{Repeats}
use Rattle.text_grammar.specs.Laws.{Tells}
use Rattle.text_grammar.specs.Inside.Laws.{TellsRecord, IsItem}
use Rattle.text_grammar.proofs.Then.{record_tells}
use Rattle.text_grammar.proofs.Many.{many_tells, ended_tells}
use Rattle.blk_records.proofs.Reading.{lines_halt, many_halt}
use Rattle.blk_records.proofs.Lists.{head_of, tail_of, all_cons}

pub rows_map : {V : Type 0} (p : Part Row TextReason V) (row_of : V → Row) → ((v : V) → p.rows_of v ≡ row_of v ∷ []) → (s vs : List V) → all_rows (λ _. p) with_next s vs ≡ map row_of vs
rows_map p row_of h s [] = refl
rows_map p row_of h s (v ∷ vs) = rw (h v) (ap (λ t. row_of v ∷ t) (rows_map p row_of h (s ++ v ∷ []) vs))

rows_long : {V : Type 0} (p : Part Row TextReason V) → IsOne p → (s vs : List V) → length (all_rows (λ _. p) with_next s vs) ≡ length vs
rows_long p o s [] = refl
rows_long p o s (v ∷ vs) = let r = rows_long p o (s ++ v ∷ []) vs in omega (arith, r, o.one v, length-append (p.rows_of v) (all_rows (λ _. p) with_next (s ++ v ∷ []) vs))

pub size_is : {V : Type 0} (p : Part Row TextReason V) → IsOne p → (vs : List V) → size_of (λ _. p) vs ≡ length vs
size_is p o vs = rows_long p o [] vs

pub fit_all : {V : Type 0} (p : Part Row TextReason V) (s vs : List V) → AllFit (λ _. p) with_next s vs → All p.Fits vs
fit_all p s [] f = λ k d l. absurd (omega arith)
fit_all p s (v ∷ vs) f = all_cons p.Fits v vs f.0 (fit_all p (s ++ v ∷ []) vs f.1)

pub all_fit : {V : Type 0} (p : Part Row TextReason V) (s vs : List V) → All p.Fits vs → AllFit (λ _. p) with_next s vs
all_fit p s [] f = tt
all_fit p s (v ∷ vs) f = (head_of p.Fits v vs f, all_fit p (s ++ v ∷ []) vs (tail_of p.Fits v vs f))

-- a part of one record is an item
pub one_item : {V : Type 0} {p : Part Row TextReason V} → IsOne p → IsItem p
one_item {V} {p} o = record { tells = o.tells; plain = o.plain; some = λ v fit e. (let none : length (p.rows_of v) ≡ 0 = ap length e in omega (arith, none, o.one v)) }

pub each_tells : {V : Type 0} {p : Part Row TextReason V} → IsOne p → (x : Repeats) → Tells (items_of x (λ _. p))
each_tells o x = ended_tells x (beyond_of x) with_next (λ s. one_item o) (λ s. o.tells) []

pub repeated_tells : {V : Type 0} {p : Part Row TextReason V} → IsOne p → (x : Repeats) → Tells (repeated x (λ _. p))
repeated_tells o x = many_tells x with_next (λ s. one_item o) []

pub repeated_halts : {V : Type 0} (failed : Bool) (p : Part Row TextReason V) → IsOne p → (x : Repeats) (left : Option (List Row)) (start at last : ℕ) (w : TextReason) → IsStopped x (λ _. p) left start 0 at last
    → Fails failed (repeated x (λ _. p)) left start at w → Halts failed (repeated x (λ _. p)) left start at w
repeated_halts failed p o x left start at last w = many_halt failed (λ _. p) x left start at last w (λ s. one_item o)

pub each_halts : {V : Type 0} (failed : Bool) (p : Part Row TextReason V) → IsOne p → (x : Repeats) (left : Option (List Row)) (start at last : ℕ) (w : TextReason) → IsStopped x (λ _. p) left start 0 at last
    → Fails failed (items_of x (λ _. p)) left start at w → Halts failed (items_of x (λ _. p)) left start at w
each_halts failed p o x left start at last w = lines_halt failed (λ _. p) x left start at last w (λ s. one_item o)

-- a kind of record is a part of one
pub one_record : {V : Type 0} {row_of : V → Row} {Fits : V → Type 0} {Lacks : Row → TextReason → Type 0} (gone : TextReason) → TellsRecord row_of Fits Lacks → IsOne (record_of row_of Fits gone Lacks)
one_record gone t = record { tells = record_tells gone t; plain = λ v rest fit. tt; one = λ v. refl }

pub one_version : (version : ℕ) → IsVersion 1 version → version ≡ 1
one_version version h = let high = h.1 in let low = h.0 in omega (arith, low, high)
