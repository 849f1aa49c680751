use Rattle.std.proofs.Common.{rules, ◌≡◌, w64, of_z, to_z}
use Rattle.std.proofs.lemmas.Int.{to_z-of_z}
use Rattle.blk_records.specs.Certificate.{claimed}
use Rattle.blk_cli.proofs.Claims.{verdict_is}
use Rattle.blk_cli.proofs.checking.verdict.Goals as goal

pub returns-in-Some-Some : goal.returns-in-Some-Some
returns-in-Some-Some c =
    let back : to_z w64 (of_z w64 c.in-Some-Some.lateness) ≡ c.in-Some-Some.lateness = search (rules, to_z-of_z) in
    verdict_is c.bound_answer.result (claimed c.args.certificate.now) c.in-Some-Some.lateness (to_z w64 (of_z w64 c.in-Some-Some.lateness)) _ c.args.crowding c.in-Some-Some.crowding
    c.in-Some-Some.is-0 c.in-Some-Some.is-1 back c.requires c.bound_answer.ensures
