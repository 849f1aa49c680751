-- The rows of a table, one after the other.
use Rattle.std.proofs.Common.{◌≡◌, ◌<◌, ◌≤◌, ◌+◌, ◌++◌, ◌∷◌, [], ℕ, List, length, map, take, suc, get_or, sym, subst, ap, ◌∙◌, arith}
use Rattle.std.specs.Prelude.{zip}
use Rattle.std.specs.Borrow.{Bor}
use Rattle.std.proofs.lemmas.List.{get_or-map, length-map, map-append, take_all}
use Rattle.std.proofs.lemmas.Slice.Zip.{get_or-zip, length-zip}
use Rattle.std.proofs.Math.Seq.{take-suc}
use Rattle.answer.specs.declared.value.Value.{Value}
use Rattle.blk_report.specs.declared.figures.Report.{Report}
use Rattle.blk_report.specs.Table.{names_of, table_row}

abbrev row_of : List ℕ × Report → List Value
row_of p = table_row p.0 p.1

-- one row more
pub one_more : (names : List (Bor (List ℕ))) (reports : List Report) (n : ℕ) (d : Bor (List ℕ)) (e : Report) → length names ≡ length reports → n < length reports
    → map (λ p. table_row p.0 p.1) (take n (zip (names_of names) reports)) ++ table_row (get_or names n d).now (get_or reports n e) ∷ [] ≡ map (λ p. table_row p.0 p.1) (take (n + 1) (zip (names_of names) reports))
one_more names reports n d e long within =
    let rows = zip (names_of names) reports in
    let other : List ℕ × Report = (d.now, e) in
    let named : n < length names = subst (λ k. n < k) (sym long) within in
    let mapped : length (names_of names) ≡ length names = length-map names (λ name. name.now) in
    let named_too : n < length (names_of names) = subst (λ k. n < k) (sym mapped) named in
    let inside : n < length rows = let l = length-zip (names_of names) reports in omega (arith, l, named_too, within) in
    let row : get_or rows n other ≡ ((get_or names n d).now, get_or reports n e) =
    get_or-zip (names_of names) reports n other named_too within ∙ ap (λ name. (name, get_or reports n e)) (get_or-map (λ name. name.now) names n d d.now named) in
    let step : map row_of (take (suc n) rows) ≡ map row_of (take n rows) ++ table_row (get_or names n d).now (get_or reports n e) ∷ [] =
    ap (map row_of) (take-suc rows n other inside) ∙ map-append row_of (take n rows) (get_or rows n other ∷ [])
    ∙ ap (λ p. map row_of (take n rows) ++ row_of p ∷ []) row in
    let same : suc n ≡ n + 1 = omega arith in
    subst (λ k. map row_of (take n rows) ++ table_row (get_or names n d).now (get_or reports n e) ∷ [] ≡ map row_of (take k rows)) same (sym step)

-- all of them
pub all_rows : (names : List (Bor (List ℕ))) (reports : List Report) (n : ℕ) → length names ≡ length reports → length reports ≤ n → take n (zip (names_of names) reports) ≡ zip (names_of names) reports
all_rows names reports n long beyond =
    let rows = zip (names_of names) reports in
    let mapped : length (names_of names) ≡ length names = length-map names (λ name. name.now) in
    let within : length rows ≤ n = let l = length-zip (names_of names) reports in omega (arith, l, mapped, long, beyond) in
    take_all n rows within
