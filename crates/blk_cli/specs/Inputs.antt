-- A text that is read, what is made of its value, and why it isn't.
use Rattle.std.specs.Prelude.{◌≡◌, ◌⊎◌, ℕ, Bool, List, Option, IfSome}
use Rattle.blk_records.specs.declared.fault.TextReason.{TextReason}
use Rattle.blk_records.specs.Reads.{IsOutside}
use Rattle.blk_records.specs.Sources.{Row}
use Rattle.blk_cli.specs.declared.failure.Failure.{Failure}
use Rattle.blk_cli.specs.declared.failure.Failure.TheVariants as failure

-- a value was read, which the records of the input spell where these are known, and of it this holds
abbrev pub Of : {V A : Type 0} → (List Row → V → Type 0) → (V → A → Type 0) → Option (List Row) → A → Type 0
Of {V = V} Spells Is input a = (v : V) × IfSome input (λ rows. Spells rows v) × Is v a

-- the text is refused for its first fault, or its reader failed, or memory ran out
abbrev pub IsTextFault : (List Row → ℕ → TextReason → Type 0) → Option (List Row) → Bool → Failure → Type 0
IsTextFault Wrong input failed (failure.Text f) = IfSome input (λ rows. IsOutside failed f.why ⊎ Wrong rows f.at f.why)
IsTextFault Wrong input failed f = ⊥

-- why a job over a text fails: for its text, or for the value that was read; `failed` says whether its reader did
abbrev pub FailsOver : {V : Type 0} → (List Row → V → Type 0) → (List Row → ℕ → TextReason → Type 0) → (V → Failure → Type 0) → Option (List Row) → Bool → Failure → Type 0
FailsOver Spells Wrong Refused input failed f = IsTextFault Wrong input failed f ⊎ Of Spells Refused input f

-- memory ran out, which may come in place of anything that is made
abbrev pub IsMemory : {V : Type 0} → V → Failure → Type 0
IsMemory v f = f ≡ failure.Memory
