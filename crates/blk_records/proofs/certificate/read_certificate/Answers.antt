use Rattle.std.proofs.Common.{arith, get_or}
use Rattle.blk_records.specs.Certificate.{claimed, claim_form}
use Rattle.blk_records.proofs.ClaimLaws.{claim_whole, title_halts, title_told, body_halts}
use Rattle.blk_records.proofs.Reading.{halts_err, halts_reached}
use Rattle.blk_records.proofs.certificate.read_certificate.Goals as goal

pub returns-in-Ok-read_claim_body-clause-ok : goal.returns-in-Ok-read_claim_body-clause-ok
returns-in-Ok-read_claim_body-clause-ok g c =
    let title = c.in-Ok.title in
    let told = c.in-Ok-read_claim_body.ensures.told in
    claim_whole c.args.records.now.left c.read_title.new.records.left title.0 (get_or title.1 2 0) (get_or title.1 3 0) (claimed c.in-Ok-read_claim_body.certificate) (title_told _ _ c.in-Ok.title c.in-Ok.ensures.ok).0 (title_told _ _ c.in-Ok.title c.in-Ok.ensures.ok).1.0
    c.in-Ok-read_claim_body.ensures.ok told.0 told.1 c.in-Ok-read_claim_body.ensures.in_range.one_each

pub returns-in-Err-clause-err : goal.returns-in-Err-clause-err
returns-in-Err-clause-err g c = halts_err _ claim_form _ _ _ (title_halts _ _ _ _ (omega (arith, c.requires, c.read_title.ensures.at, c.in-Err.ensures.last)) c.in-Err.ensures.err)

pub returns-in-Err-clause-reached : goal.returns-in-Err-clause-reached
returns-in-Err-clause-reached g c = halts_reached _ claim_form _ _ _ (title_halts _ _ _ _ (omega (arith, c.requires, c.read_title.ensures.at, c.in-Err.ensures.last)) c.in-Err.ensures.err)

pub returns-in-Err-read_claim_body-clause-err : goal.returns-in-Err-read_claim_body-clause-err
returns-in-Err-read_claim_body-clause-err g c = halts_err _ claim_form _ _ _ (body_halts _ _ _ (c.in-Ok.title.0, (get_or c.in-Ok.title.1 2 0, get_or c.in-Ok.title.1 3 0)) _ _ (title_told _ _ c.in-Ok.title c.in-Ok.ensures.ok).0 c.in-Err-read_claim_body.ensures.err)

pub returns-in-Err-read_claim_body-clause-reached : goal.returns-in-Err-read_claim_body-clause-reached
returns-in-Err-read_claim_body-clause-reached g c = halts_reached _ claim_form _ _ _ (body_halts _ _ _ (c.in-Ok.title.0, (get_or c.in-Ok.title.1 2 0, get_or c.in-Ok.title.1 3 0)) _ _ (title_told _ _ c.in-Ok.title c.in-Ok.ensures.ok).0 c.in-Err-read_claim_body.ensures.err)
