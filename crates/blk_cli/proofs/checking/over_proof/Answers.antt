use Rattle.std.proofs.Common.{inl}
use Rattle.blk_records.specs.Proof.{SpellsProof, ProofFault, proof_claimed}
use Rattle.blk_cli.specs.Certificates.{IsCheckText, IsBad}
use Rattle.blk_cli.proofs.OfRead.{told, refused}
use Rattle.blk_cli.proofs.checking.over_proof.Goals as goal

pub returns-in-Err-clause-fails : goal.returns-in-Err-clause-fails
returns-in-Err-clause-fails g c = inl c.in-Err.ensures.err

pub returns-clause-text : goal.returns-clause-text
returns-clause-text g c = told SpellsProof (IsCheckText c.args.form) c.args.records.now.left (proof_claimed c.in-Ok.proof) (λ text. text.items) _ c.in-Ok.ensures.ok c.checked.ensures.good

pub returns-clause-fails : goal.returns-clause-fails
returns-clause-fails g c = refused SpellsProof ProofFault IsBad c.args.records.now.left _ (proof_claimed c.in-Ok.proof) _ c.in-Ok.ensures.ok c.checked.ensures.bad
