use Rattle.std.proofs.Common.{rules, refl, inl, codes}
use Rattle.csv.specs.Records.{fields_of}
use Rattle.blk_records.specs.Words.{StartsWith}
use Rattle.blk_text.proofs.setup.setup_at.Goals as goal

pub returns-in-Err-clause-err : goal.returns-in-Err-clause-err
returns-in-Err-clause-err c =
    let starts : StartsWith (codes "setup") (fields_of c.args.row.now) = search rules in
    λ rest. (refl, inl (starts, c.in-Err.ensures.err))
