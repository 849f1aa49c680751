use Rattle.text_grammar.proofs.Then.{first}
use Rattle.blk_records.specs.declared.proof.ProofKind.TheVariants as kind
use Rattle.blk_records.proofs.ProofLaws.{of_wrong, wrong_of, neither_wrong, claim_named, on_time_named, spelled_once, spelled_or_wrong, spelled_apart, proof_tells}
use Rattle.blk_records.proofs.laws.certificates_of_both_forms.Goals as goal

pub returns-clause-lateness : goal.returns-clause-lateness
returns-clause-lateness c = λ rows at w s. (of_wrong kind.Lateness rows at w s, wrong_of kind.Lateness rows at w s)

pub returns-clause-on_time : goal.returns-clause-on_time
returns-clause-on_time c = λ rows at w s. (of_wrong kind.OnTime rows at w s, wrong_of kind.OnTime rows at w s)

pub returns-clause-neither : goal.returns-clause-neither
returns-clause-neither c = neither_wrong

pub returns-clause-spelled_lateness : goal.returns-clause-spelled_lateness
returns-clause-spelled_lateness c = claim_named

pub returns-clause-spelled_on_time : goal.returns-clause-spelled_on_time
returns-clause-spelled_on_time c = on_time_named

pub returns-clause-once : goal.returns-clause-once
returns-clause-once c = spelled_once

pub returns-clause-decided : goal.returns-clause-decided
returns-clause-decided c = spelled_or_wrong

pub returns-clause-apart : goal.returns-clause-apart
returns-clause-apart c = spelled_apart

pub returns-clause-first : goal.returns-clause-first
returns-clause-first c = first proof_tells
