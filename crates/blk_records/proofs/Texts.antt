-- What is written for rows reads back as them.
use Rattle.std.proofs.Common.{◌≡◌, ◌+◌, ◌<◌, ◌∙◌, ℕ, zero, suc, List, [], ◌∷◌, ◌++◌, length, map, refl, sym, ap, arith, append-nil}
use Rattle.std.specs.Prelude.{if◌then◌else◌}
use Rattle.std.proofs.lemmas.List.{length-append, map-append}
use Rattle.csv.specs.Machine.{next_record}
use Rattle.csv.specs.Reading.{default_config, records, records_from, strip_bom}
use Rattle.csv.specs.Writing.{default_writer, row_text, row_body, read_back, is_blank}
use Rattle.csv.proofs.RoundTrip.{read-write}
use Rattle.csv.specs.declared.parser.State.TheVariants as st
use Rattle.blk_records.specs.Sources.{Row}
use Rattle.blk_records.specs.Reads.{with_next}
use Rattle.blk_records.specs.declared.fault.TextReason.{TextReason}
use Rattle.text_grammar.specs.Parts.{Part, Spells, all_rows}
use Rattle.blk_records.specs.Texts.{rows_text}

row_long : (row : Row) (tail : List ℕ) → length tail < length (row_text default_writer row ++ tail)
row_long row tail = omega (arith, length-append (row_text default_writer row) tail, length-append (row_body default_writer row) (tail_of row), length-append (blank_of row) (10 ∷ []))
  where
    blank_of : Row → List ℕ
    blank_of row = if is_blank default_writer row then 34 ∷ 34 ∷ [] else []

    tail_of : Row → List ℕ
    tail_of row = blank_of row ++ 10 ∷ []

-- records that were written read back, with more turns than bytes
all_back : (n : ℕ) (rows : List Row) → length (rows_text rows) < n → records_from default_config n st.StartRecord (rows_text rows) ≡ map read_back rows
unfolding records_from rows_text next_record
all_back zero rows h = absurd (omega arith)
all_back (suc n) [] h = refl
all_back (suc n) (row ∷ rows) h =
    rw (read-write row (rows_text rows)) (ap (λ (t : List Row). read_back row ∷ t) (all_back n rows (omega (arith, h, row_long row (rows_text rows)))))

-- no mark stands before a text that begins with a b
no_mark : (rest : List ℕ) → strip_bom (98 ∷ rest) ≡ 98 ∷ rest
unfolding strip_bom
no_mark [] = refl
no_mark (c ∷ []) = refl
no_mark (c ∷ d ∷ rest) = refl

-- the text begins with a b, and each record has a field
pub text_back : (rows : List Row) (rest : List ℕ) → rows_text rows ≡ 98 ∷ rest → map read_back rows ≡ rows
    → records default_config (strip_bom (rows_text rows)) ≡ rows
text_back rows rest b same =
    let plain : strip_bom (rows_text rows) ≡ rows_text rows = rw b (no_mark rest) in
    rw plain (all_back (length (rows_text rows) + 1) rows (omega arith)) ∙ same

-- so do those of items
pub items_back : {V : Type 0} (p : Part Row TextReason V) → ((v : V) → map read_back (p.rows_of v) ≡ p.rows_of v) → (s vs : List V) → map read_back (all_rows (λ _. p) with_next s vs) ≡ all_rows (λ _. p) with_next s vs
items_back p h s [] = refl
items_back p h s (v ∷ vs) = rw (map-append read_back (p.rows_of v) (all_rows (λ _. p) with_next (s ++ v ∷ []) vs), h v, items_back p h (s ++ v ∷ []) vs) refl

pub parts_back : {V : Type 0} (p : Part Row TextReason V) → ((v : V) → map read_back (p.rows_of v) ≡ p.rows_of v) → (vs : List V) → map read_back (all_rows (λ _. p) with_next [] vs ++ []) ≡ all_rows (λ _. p) with_next [] vs ++ []
parts_back p h vs = rw (append-nil (all_rows (λ _. p) with_next [] vs)) (items_back p h [] vs)

-- the records of a value begin with its own
pub begins_itself : {V : Type 0} (p : Part Row TextReason V) (v : V) → p.Fits v → p.Follows v [] → Spells p (p.rows_of v) v
begins_itself p v f g = record { fits = f; made = sym (append-nil (p.rows_of v)); follows = g }
