-- Certificates: what one proves, what is written of a list, and the line on one that was checked.
use Rattle.std.specs.Prelude.{◌≡◌, ◌↔◌, ◌*◌, ◌++◌, ◌∷◌, ⊤, ℕ, ℤ, pos, ◌+ℤ◌, List, [], length, Option, None, Some, Err, IfSome, codes}
use Rattle.answer.specs.declared.names.TheConstants as names
use Rattle.answer.specs.declared.value.Value.TheVariants.{Count, Signed, Nothing}
use Rattle.answer.specs.declared.cells.Cell.{Cell}
use Rattle.answer.specs.declared.cells.Layout.TheVariants.{Plain, NextName, WordsName, Words}
use Rattle.answer.specs.declared.answer.Part.{Part}
use Rattle.answer.specs.declared.answer.Part.TheVariants.{Line}
use Rattle.answer.specs.Parts.{cell}
use Rattle.edd_commands.specs.declared.Command.{Command}
use Rattle.edd_check.specs.declared.CheckFault.{CheckFault}
use Rattle.edd_check.specs.declared.on_time.OnTimeFault.{OnTimeFault}
use Rattle.edd_check.specs.declared.Window.{Window}
use Rattle.edd_commands.specs.Capacity.{fixed}
use Rattle.edd_check.specs.Check.{IsAnswer}
use Rattle.edd_check.specs.CheckOnTime.{IsOnTimeAnswer}
use Rattle.edd_check.specs.OnTime.{carried_by, outside_of}
use Rattle.edd_commands.specs.Schedule.{IsLegal, IsGreatestLateness, IsLeastLateness}
use Rattle.edd_check.specs.Window.{IsCrowded, load_of, rounds_between}
use Rattle.edd_oracle.specs.Input.{IsRefusal}
use Rattle.edd_oracle.specs.OnTime.{IsMostAnswer}
use Rattle.blk_records.specs.Sources.{Row}
use Rattle.blk_records.specs.Texts.{rows_text}
use Rattle.blk_records.specs.Commands.{SpellsCommands}
use Rattle.blk_records.specs.Certificate.{Claim, claim_rows, SpellsClaim}
use Rattle.blk_records.specs.OnTime.{OnTimeClaim, on_time_rows, SpellsOnTime}
use Rattle.blk_records.specs.Proof.{ProofClaim, OfLateness, OfOnTime}
use Rattle.blk_schedulers.specs.declared.form.Form.{Form}
use Rattle.blk_cli.specs.Forms.{written_in}
use Rattle.blk_cli.specs.declared.failure.Failure.{Failure}
use Rattle.blk_cli.specs.declared.failure.Failure.TheVariants as failure
use Rattle.blk_args.specs.declared.inputs.Solving.{Solving}
use Rattle.blk_args.specs.declared.inputs.Solving.TheVariants as solving

-- the schedule is legal, its greatest lateness is the one stated, the window is crowded at it, and it is least
pub record IsProof (commands : List Command) (depth : ℕ) (rounds : List ℕ) (late : ℤ) (window : Window) : Type 0 where
  pub legal : IsLegal commands rounds (fixed depth)
  pub greatest : IsGreatestLateness commands rounds late
  pub crowded : IsCrowded commands (fixed depth) late window
  pub least : IsLeastLateness commands (fixed depth) late

-- a certificate without a bound exactly where it has no commands, that proves its lateness least where it has some
pub record IsProved (claim : Claim) : Type 0 where
  pub no_bound : (claim.bound ≡ None) ↔ (claim.commands ≡ [])
  pub proves : IfSome claim.bound (λ b. IsProof claim.commands claim.depth claim.rounds b.0 b.1)

-- the schedule is legal and has the number stated on time, the windows are disjoint, and their bound is that number, so that no legal
-- schedule has more on time
abbrev pub IsOnTimeProved : OnTimeClaim → Type 0
IsOnTimeProved claim = IsMostAnswer claim.commands (fixed claim.depth) claim.rounds claim.on_time claim.cover

-- the records spell a command list: its depth and its commands
abbrev pub SpellsList : List Row → ℕ × List Command → Type 0
SpellsList rows list = SpellsCommands rows list.0 list.1

-- what `oracle` writes: the text that spells a certificate of the list's depth and commands that is proved; and with `--met`
pub record IsLeastText (list : ℕ × List Command) (text : List ℕ) : Type 0 where
  pub claim : Claim
  pub same_depth : claim.depth ≡ list.0
  pub same_commands : claim.commands ≡ list.1
  pub proved : IsProved claim
  pub spelled : SpellsClaim (claim_rows claim) claim
  pub is_text : text ≡ rows_text (claim_rows claim)

pub record IsMostText (list : ℕ × List Command) (text : List ℕ) : Type 0 where
  pub claim : OnTimeClaim
  pub same_depth : claim.depth ≡ list.0
  pub same_commands : claim.commands ≡ list.1
  pub proved : IsOnTimeProved claim
  pub spelled : SpellsOnTime (on_time_rows claim) claim
  pub is_text : text ≡ rows_text (on_time_rows claim)

abbrev pub IsSolved : Solving → ℕ × List Command → List ℕ → Type 0
IsSolved solving.Least list text = IsLeastText list text
IsSolved solving.Most list text = IsMostText list text

-- why a list is not solved
abbrev pub IsOracleFailure : ℕ × List Command → Failure → Type 0
IsOracleFailure list (failure.Solve f) = IsRefusal list.1 f
IsOracleFailure list failure.Memory = ⊤
IsOracleFailure list f = ⊥

-- what is said on one line
abbrev pub sentence_parts : List Cell → List ℕ → List Part
sentence_parts cells end = Line (record { cells = cells; end = end }) ∷ []

-- what is said of a certificate: how late it is, and what its window holds and carries; nothing of one without commands
abbrev pub bound_parts : ℤ → ℕ → ℕ → List Part
bound_parts late load carries =
    sentence_parts (cell (WordsName (codes "ok ")) names.LATENESS.now (Signed late) ∷ cell NextName names.LOAD.now (Count load) ∷ cell NextName names.CARRIES.now (Count carries) ∷ []) (10 ∷ [])

abbrev pub no_commands_parts : List Part
no_commands_parts =
    sentence_parts (cell (Words (codes "ok ")) names.LATENESS.now (Nothing (codes "no commands")) ∷ cell Plain names.LOAD.now (Nothing []) ∷ cell Plain names.CARRIES.now (Nothing []) ∷ []) (10 ∷ [])

abbrev pub verdict_parts : Claim → Option (ℤ × Window) → List Part
verdict_parts claim None = no_commands_parts
verdict_parts claim (Some b) = bound_parts b.0 (load_of claim.commands b.1) (claim.depth * rounds_between b.1.from (pos b.1.due +ℤ b.0))

-- the check refuses the certificate that was read, which has a bound
abbrev pub IsRefusedBound : Claim → CheckFault → Option (ℤ × Window) → Type 0
IsRefusedBound claim f b = (late : ℤ) × (window : Window) × (b ≡ Some (late, window))
    × IsAnswer claim.commands (fixed claim.depth) late claim.rounds window (Err f)

-- what is said of one of what is on time: how many commands are and how many there are, how many windows, what these carry, and how many
-- commands that can be on time lie in none
abbrev pub on_time_verdict_parts : OnTimeClaim → List Part
on_time_verdict_parts claim =
    sentence_parts (cell (WordsName (codes "ok ")) names.MET.now (Count claim.on_time) ∷ cell NextName names.OF.now (Count (length claim.commands))
    ∷ cell NextName names.WINDOWS.now (Count (length claim.cover)) ∷ cell NextName names.CARRY.now (Count (carried_by (fixed claim.depth) claim.cover))
    ∷ cell (Words (codes " and ")) names.OUTSIDE.now (Count (outside_of claim.commands claim.cover)) ∷ []) (codes " outside" ++ 10 ∷ [])

-- the check refuses one of what is on time
abbrev pub IsRefusedOnTime : OnTimeClaim → OnTimeFault → Type 0
IsRefusedOnTime claim f = IsOnTimeAnswer claim.commands (fixed claim.depth) claim.rounds claim.on_time claim.cover (Err f)

-- what `check` writes in a form, of a certificate of either kind, which is proved
abbrev pub IsCheckText : Form → ProofClaim → List ℕ → Type 0
IsCheckText f (OfLateness claim) text = IsProved claim × (text ≡ written_in f (verdict_parts claim claim.bound))
IsCheckText f (OfOnTime claim) text = IsOnTimeProved claim × (text ≡ written_in f (on_time_verdict_parts claim))

-- why a certificate is not proved
abbrev pub IsClaimFailure : Claim → Failure → Type 0
IsClaimFailure claim (failure.Check f) = IsRefusedBound claim f claim.bound
IsClaimFailure claim failure.Memory = ⊤
IsClaimFailure claim f = ⊥

abbrev pub IsOnTimeUnproved : OnTimeClaim → Failure → Type 0
IsOnTimeUnproved claim (failure.OnTime f) = IsRefusedOnTime claim f
IsOnTimeUnproved claim failure.Memory = ⊤
IsOnTimeUnproved claim f = ⊥

abbrev pub IsBad : ProofClaim → Failure → Type 0
IsBad (OfLateness claim) f = IsClaimFailure claim f
IsBad (OfOnTime claim) f = IsOnTimeUnproved claim f
