use Rattle.std.proofs.Common.{rules, ◌≡◌, get_or, []}
use Rattle.csv.specs.Records.{fields_of}
use Rattle.blk_records.proofs.TableLaws.{first_is, begins}
use Rattle.blk_records.proofs.fields.begins_with.Goals as goal

pub returns : goal.returns
returns c = (
  λ t. (let first : get_or (fields_of c.args.row.now) 0 [] ≡ c.args.word.now = search rules in begins (fields_of c.args.row.now) c.args.word.now c.requires first),
  λ t. (let first : get_or (fields_of c.args.row.now) 0 [] ≡ c.args.word.now = first_is (fields_of c.args.row.now) c.args.word.now t in search rules),
)
