use Rattle.std.proofs.Common.{rules, ◌≡◌, ◌≤◌, ◌∙◌, length, arith, [], get_or, sym, decimal}
use Rattle.std.proofs.lemmas.Fmt.{decimal_injective}
use Rattle.csv.specs.Records.{fields_of}
use Rattle.blk_records.proofs.FieldLemmas.{titled, not_titled}
use Rattle.blk_records.proofs.titles.version_of.Goals as goal

pub returns-then-version-lt1 : goal.returns-then-version-lt1
returns-then-version-lt1 c = λ v h t. (
    let second : get_or (fields_of c.args.row.now) 1 [] ≡ decimal c.in-Some.version = search rules in
    let other = (not_titled c.args.name.now (decimal v) (fields_of c.args.row.now) t).2 in
    let low = h.0 in
    let high = h.1 in
    let same = decimal_injective v c.in-Some.version (omega (arith, high)) (omega arith) (sym other ∙ second) in
    omega (arith, same, low)
    )

pub returns-then-latest-version : goal.returns-then-latest-version
returns-then-latest-version c = λ v h t. (
    let second : get_or (fields_of c.args.row.now) 1 [] ≡ decimal c.in-Some.version = search rules in
    let other = (not_titled c.args.name.now (decimal v) (fields_of c.args.row.now) t).2 in
    let high = h.1 in
    let same = decimal_injective v c.in-Some.version (omega (arith, high)) (omega arith) (sym other ∙ second) in
    omega (arith, same, high)
    )

pub returns : goal.returns
returns c =
    let two : 2 ≤ length (fields_of c.args.row.now) = omega (arith, c.len.ensures, c.if-len-lt2.false) in
    let first : get_or (fields_of c.args.row.now) 0 [] ≡ c.args.name.now = search rules in
    let second : get_or (fields_of c.args.row.now) 1 [] ≡ decimal c.in-Some.version = search rules in
    ((omega arith, omega arith), titled c.args.name.now (decimal c.in-Some.version) (fields_of c.args.row.now) two first second)
