-- The title of a certificate of either form, as it is read ahead.
use Rattle.std.specs.Prelude.{ℕ}
use Rattle.blk_records.specs.Sources.{Row}
use Rattle.blk_records.specs.Certificate.{certificate_title_part}
use Rattle.blk_records.specs.OnTime.{on_time_title}
use Rattle.blk_records.specs.declared.proof.ProofKind.{ProofKind}
use Rattle.blk_records.specs.declared.proof.ProofKind.TheVariants as kind
use Rattle.blk_records.specs.declared.fault.TextReason.{TextReason}
use Rattle.text_grammar.specs.Parts.{Part, by_word}
use Rattle.blk_records.specs.Proof.{StartsAs, IsProofNameFault}

-- the title of a kind
abbrev pub kind_title : ProofKind → Part Row TextReason (ℕ × (ℕ × ℕ))
kind_title kind.Lateness = certificate_title_part
kind_title kind.OnTime = on_time_title

-- that of either
abbrev pub proof_title : Part Row TextReason (ProofKind × (ℕ × (ℕ × ℕ)))
proof_title = by_word (λ _. ℕ × (ℕ × ℕ)) StartsAs kind_title IsProofNameFault
