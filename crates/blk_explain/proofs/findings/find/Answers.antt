use Rattle.std.proofs.Common.{rules, ◌≡◌}
use Rattle.blk_explain.specs.Forms.{form_name}
use Rattle.blk_explain.specs.Findings.{rows_of, name_in}
use Rattle.blk_explain.proofs.Found.{ok_map, found_as}
use Rattle.blk_explain.proofs.findings.find.Goals as goal

pub returns-in-Some : goal.returns-in-Some
returns-in-Some c =
    let named : name_in (rows_of c.args.bytes.now) ≡ form_name c.in-Some.form = search rules in
    ok_map _ _ c.find_as.result (found_as c.in-Some.form (rows_of c.args.bytes.now) named) c.find_as.ensures
