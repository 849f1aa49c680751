use Rattle.blk_records.specs.Proof.{proof_form}
use Rattle.blk_records.proofs.ProofLaws.{title_halts, lateness_halts, on_time_halts}
use Rattle.blk_records.proofs.Reading.{halts_err, halts_reached}
use Rattle.blk_records.proofs.proof.read_proof.Goals as goal

pub returns-in-Err-clause-err : goal.returns-in-Err-clause-err
returns-in-Err-clause-err g c = halts_err _ proof_form _ _ _ (title_halts _ _ _ _ _ c.requires c.in-Err.ensures.err)

pub returns-in-Err-clause-reached : goal.returns-in-Err-clause-reached
returns-in-Err-clause-reached g c = halts_reached _ proof_form _ _ _ (title_halts _ _ _ _ _ c.requires c.in-Err.ensures.err)

pub returns-in-Err-read_claim_body-clause-err : goal.returns-in-Err-read_claim_body-clause-err
returns-in-Err-read_claim_body-clause-err g c = halts_err _ proof_form _ _ _ (lateness_halts _ _ _ c.in-Ok.title.0 c.in-Ok.title.1 _ _ c.in-Lateness.is c.in-Ok.ensures.ok c.in-Err-read_claim_body.ensures.err)

pub returns-in-Err-read_claim_body-clause-reached : goal.returns-in-Err-read_claim_body-clause-reached
returns-in-Err-read_claim_body-clause-reached g c = halts_reached _ proof_form _ _ _ (lateness_halts _ _ _ c.in-Ok.title.0 c.in-Ok.title.1 _ _ c.in-Lateness.is c.in-Ok.ensures.ok c.in-Err-read_claim_body.ensures.err)

pub returns-in-Err-read_on_time_body-clause-err : goal.returns-in-Err-read_on_time_body-clause-err
returns-in-Err-read_on_time_body-clause-err g c = halts_err _ proof_form _ _ _ (on_time_halts _ _ _ c.in-Ok.title.0 c.in-Ok.title.1 _ _ c.in-OnTime.is c.in-Ok.ensures.ok c.in-Err-read_on_time_body.ensures.err)

pub returns-in-Err-read_on_time_body-clause-reached : goal.returns-in-Err-read_on_time_body-clause-reached
returns-in-Err-read_on_time_body-clause-reached g c = halts_reached _ proof_form _ _ _ (on_time_halts _ _ _ c.in-Ok.title.0 c.in-Ok.title.1 _ _ c.in-OnTime.is c.in-Ok.ensures.ok c.in-Err-read_on_time_body.ensures.err)
