-- A certificate of either form, told by its title.
use Rattle.std.specs.Prelude.{◌≡◌, ◌+◌, ℕ, List, length}
use Rattle.edd_commands.specs.declared.Command.{Command}
use Rattle.edd_check.specs.declared.Window.{Window}
use Rattle.std.specs.Prelude.{ℤ, Option}
use Rattle.blk_records.specs.Sources.{Row}
use Rattle.blk_records.specs.Words.{NextStarts}
use Rattle.blk_records.specs.Certificate.{Claim, IsClaim, SpellsClaim, claimed, claim_form}
use Rattle.blk_records.specs.OnTime.{OnTimeClaim, IsOnTimeClaim, SpellsOnTime, on_time_claimed, on_time_form}
use Rattle.blk_records.specs.declared.certificate.TheConstants.{CERTIFICATE}
use Rattle.blk_records.specs.declared.on_time.TheConstants.{ON_TIME}
use Rattle.blk_records.specs.declared.proof.Proof.{Proof}
use Rattle.blk_records.specs.declared.proof.Proof.TheVariants as proof
use Rattle.blk_records.specs.declared.proof.ProofKind.{ProofKind}
use Rattle.blk_records.specs.declared.proof.ProofKind.TheVariants as kind
use Rattle.blk_records.specs.declared.fault.TextReason.{TextReason}
use Rattle.blk_records.specs.declared.fault.TextReason.TheVariants as why
use Rattle.text_grammar.specs.Parts.{Part, by_word}

-- the claim of either
pub data ProofClaim : Type 0 where
  OfLateness : Claim → ProofClaim
  OfOnTime : OnTimeClaim → ProofClaim

-- what it claims
abbrev pub proof_claimed : Proof → ProofClaim
proof_claimed (proof.Lateness c) = OfLateness (claimed c)
proof_claimed (proof.OnTime c) = OfOnTime (on_time_claimed c)

-- its numbers lie in their ranges
abbrev pub IsProofClaim : ProofClaim → Type 0
IsProofClaim (OfLateness c) = IsClaim c
IsProofClaim (OfOnTime c) = IsOnTimeClaim c

-- how many records it has
abbrev pub proof_size : ProofClaim → ℕ
proof_size (OfLateness c) = length c.commands + 2
proof_size (OfOnTime c) = length c.cover + length c.commands + 2

-- the name in the title of each kind
abbrev pub proof_name : ProofKind → List ℕ
proof_name kind.Lateness = CERTIFICATE.word
proof_name kind.OnTime = ON_TIME.word

-- what the records of each kind tell
abbrev pub Shown : ProofKind → Type 0
Shown kind.Lateness = (ℕ × (ℕ × ℕ)) × (Option (ℤ × Window) × List (Command × ℕ))
Shown kind.OnTime = (ℕ × (ℕ × ℕ)) × ((ℕ × ℕ) × (List Window × List (Command × ℕ)))

-- the form of each kind
abbrev pub form_of : (k : ProofKind) → Part Row TextReason (Shown k)
form_of kind.Lateness = claim_form
form_of kind.OnTime = on_time_form

-- the records begin with the name of this kind
abbrev pub StartsAs : ProofKind → List Row → Type 0
StartsAs k = NextStarts (proof_name k)

-- what is wrong with a first record of another name, or where there is none
abbrev pub IsProofNameFault : List Row → TextReason → Type 0
IsProofNameFault rows w = w ≡ why.Title

-- either form
abbrev pub proof_form : Part Row TextReason ((k : ProofKind) × Shown k)
proof_form = by_word Shown StartsAs form_of IsProofNameFault

-- the records spell this certificate
abbrev pub SpellsProof : List Row → ProofClaim → Type 0
SpellsProof rows (OfLateness c) = SpellsClaim rows c
SpellsProof rows (OfOnTime c) = SpellsOnTime rows c

-- the first fault of a certificate of either form
abbrev pub ProofFault : List Row → ℕ → TextReason → Type 0
ProofFault = proof_form.Wrong

-- the faults of records that begin with this name are these
abbrev pub FaultsAs : List ℕ → (List Row → ℕ → TextReason → Type 0) → Type 0
FaultsAs name Fault = (rows : List Row) → (at : ℕ) → (w : TextReason) → NextStarts name rows → (ProofFault rows at w → Fault rows at w) × (Fault rows at w → ProofFault rows at w)
