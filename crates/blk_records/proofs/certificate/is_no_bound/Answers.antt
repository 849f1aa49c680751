use Rattle.std.proofs.Common.{rules, ◌≡◌, length, get_or, codes, [], refl}
use Rattle.csv.specs.Records.{fields_of}
use Rattle.blk_records.proofs.FieldLemmas.{four}
use Rattle.blk_records.proofs.certificate.is_no_bound.Goals as goal

pub returns : goal.returns
returns c =
    let zero : c.args.count ≡ 0 = search rules in
    let count : length (fields_of c.args.row.now) ≡ 4 = search rules in
    let first : get_or (fields_of c.args.row.now) 0 [] ≡ codes "bound" = search rules in
    let one : get_or (fields_of c.args.row.now) 1 [] ≡ codes "none" = search rules in
    let two : get_or (fields_of c.args.row.now) 2 [] ≡ codes "none" = search rules in (
      λ t. (let three : get_or (fields_of c.args.row.now) 3 [] ≡ codes "none" = search rules in (zero, four (fields_of c.args.row.now) _ _ _ _ count first one two three)),
      λ e. (let three : get_or (fields_of c.args.row.now) 3 [] ≡ codes "none" = rw e.1 refl in search rules),
    )
