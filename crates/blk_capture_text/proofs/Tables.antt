-- A table that is told a part after the other.
use Rattle.std.proofs.Common.{◌≡◌, ◌∙◌, ◌+◌, ◌-◌, ◌++◌, ◌∷◌, [], ℕ, zero, suc, List, sym, ap, refl, arith, map, take, drop, true, false, append_assoc}
use Rattle.std.proofs.lemmas.List.{append-nil, map-append}
use Rattle.std.proofs.lemmas.Grind.{flat_map-append}
use Rattle.std.specs.List.{flat_map}
use Rattle.answer.specs.Lines.{answer_lines, column_heads, row_text}
use Rattle.answer.specs.Parts.{record_columns}
use Rattle.answer.specs.declared.cells.Column.{Column}
use Rattle.blk_capture.specs.declared.table.RequestRow.{RequestRow}
use Rattle.blk_capture_text.specs.TableText.{table_names, table_row, table_parts}

pub more_rows : (xs ys : List RequestRow) → answer_lines (table_parts true xs) ++ answer_lines (table_parts false ys) ≡ answer_lines (table_parts true (xs ++ ys))
more_rows xs ys =
    let columns : List Column = record_columns table_names in
    let head = column_heads true columns in
    let before = flat_map (row_text columns) (map table_row xs) in
    let after = flat_map (row_text columns) (map table_row ys) in
    ap (λ l. l ++ (after ++ [])) (append-nil (head ++ before))
    ∙ ap (λ l. (head ++ before) ++ l) (append-nil after)
    ∙ append_assoc head before after
    ∙ ap (λ l. head ++ l) (sym (ap (flat_map (row_text columns)) (map-append table_row xs ys) ∙ flat_map-append (row_text columns) (map table_row xs) (map table_row ys)))
    ∙ sym (append-nil (head ++ flat_map (row_text columns) (map table_row (xs ++ ys))))

-- the first elements, and so many more
none_left : {X : Type 0} (m : ℕ) → ◌≡◌ {A = List X} (take m []) []
none_left zero = refl
none_left (suc m) = refl

taken_first : {X : Type 0} (xs : List X) (n m : ℕ) → take n xs ++ take m (drop n xs) ≡ take (n + m) xs
taken_first xs zero m = ap (λ k. take k xs) (let e : m ≡ 0 + m = omega arith in e)
taken_first [] (suc n) m = none_left m ∙ sym (none_left (suc n + m))
taken_first (x ∷ xs) (suc n) m = ap (λ l. x ∷ l) (taken_first xs n m) ∙ ap (λ k. take k (x ∷ xs)) (let e : suc (n + m) ≡ suc n + m = omega arith in e)

pub taken_more : {X : Type 0} (xs : List X) (n m : ℕ) → take n xs ++ take ((n + m) - n) (drop n xs) ≡ take (n + m) xs
taken_more xs n m = ap (λ k. take n xs ++ take k (drop n xs)) (let e : (n + m) - n ≡ m = omega arith in e) ∙ taken_first xs n m
