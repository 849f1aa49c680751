-- A writer that knows whether it has failed, and what a text does to it.
use Rattle.std.specs.Prelude.{◌≡◌, ℕ, Bool, true, List, Option, Result, MatchResult}
use Rattle.std.specs.Io.KnownBytes.{Appends}
use Rattle.text_output.specs.declared.mark.Mark.{Mark}
use Rattle.text_output.specs.declared.output.Output.{Output}
use Rattle.text_output.specs.Parts.{AppendsLess}

-- what a writer holds, where that is known, and whether it has failed
pub record Stream : Type 0 where
  pub held : Option (List ℕ)
  pub failed : Bool

abbrev pub is_set : Mark → Bool
is_set mark = mark.failed

abbrev pub stream_of : {W : Type 0} → (W → Option (List ℕ)) → Output W → Stream
stream_of contents output = record { held = contents output.writer; failed = is_set output.mark }

-- the writer took the whole of a text, and has failed no more than before
abbrev pub IsWritten : List ℕ → Stream → Stream → Type 0
IsWritten text old new = Appends old.held new.held text × (new.failed ≡ old.failed)

-- the writer failed before it took the whole: it took a prefix of the text, and nothing else
abbrev pub IsCut : List ℕ → Stream → Stream → Type 0
IsCut text old new = AppendsLess old.held new.held text × (new.failed ≡ true)

-- what a call that writes a text answers
abbrev pub Writes : {E : Type 0} → List ℕ → Stream → Stream → Result (Unit {0}) E → Type 0
Writes text old new r = MatchResult r (λ _. IsWritten text old new) (λ _. IsCut text old new)
