-- A certificate: a title, a bound, and a record for each command with its round.
use Rattle.std.specs.Prelude.{◌≡◌, ◌≤◌, ◌<◌, ◌-◌, ℕ, ℤ, zero, suc, pos, negsuc, List, [], ◌∷◌, length, codes, All, Option, Some, None}
use Rattle.std.specs.List.{zip}
use Rattle.edd_commands.specs.declared.TheConstants.{MAX_COMMANDS, MAX_ROUNDS}
use Rattle.edd_commands.specs.declared.steps.TheConstants.{MAX_DEPTH}
use Rattle.edd_commands.specs.declared.Command.{Command}
use Rattle.edd_check.specs.declared.Window.{Window}
use Rattle.blk_records.specs.Sources.{Row}
use Rattle.blk_records.specs.Commands.{IsCommandInRange}
use Rattle.blk_records.specs.Reads.{items_of}
use Rattle.blk_records.specs.Tables.{Cell, Number, Signed, FitsCells, cells_by, table_record, word_record}
use Rattle.blk_records.specs.Titles.{counted_title}
use Rattle.blk_records.specs.Words.{NextStarts, HasNoWord}
use Rattle.blk_records.specs.declared.certificate.Certificate.{Certificate}
use Rattle.blk_records.specs.declared.certificate.TheConstants.{BOUND, CERTIFICATE, SERVED}
use Rattle.blk_records.specs.declared.fault.TextReason.{TextReason}
use Rattle.blk_records.specs.declared.fault.TextReason.TheVariants as why
use Rattle.text_grammar.specs.declared.Repeats.TheVariants as repeats
use Rattle.text_grammar.specs.Parts.{Part, NextWrong, record_of, then, seen_as, by_word, Spells}

-- a certificate: the depth, the commands and their rounds by place, and a lateness with its window
pub record Claim : Type 0 where
  pub depth : ℕ
  pub commands : List Command
  pub rounds : List ℕ
  pub bound : Option (ℤ × Window)

-- what a certificate claims
abbrev pub claimed : Certificate → Claim
claimed c = record { depth = c.depth; commands = c.commands.items; rounds = c.rounds.items; bound = c.bound }

-- the rounds of a window: none where there are no commands
abbrev pub first_round : ℕ → ℕ
first_round zero = 1
first_round (suc count) = 0

abbrev pub last_round : ℕ → ℕ
last_round zero = 0
last_round (suc count) = MAX_ROUNDS - 1

-- bound, lateness, window's from, window's due
abbrev pub bound_cells : ℕ → List (Cell (ℤ × Window))
bound_cells count = Signed (MAX_ROUNDS - 1) (λ b. b.0) ∷ Number (first_round count) (last_round count) (λ b. b.1.from) ∷ Number (first_round count) (last_round count) (λ b. b.1.due) ∷ []

-- no bound
abbrev pub no_bound_row : Row
no_bound_row = BOUND.word ∷ codes "none" ∷ codes "none" ∷ codes "none" ∷ []

-- each command: id, release, due, round
abbrev pub served_cells : List (Cell (Command × ℕ))
served_cells = cells_by SERVED ((λ s. s.0.id) ∷ (λ s. s.0.release) ∷ (λ s. s.0.due) ∷ (λ s. s.1) ∷ [])

-- the numbers of a command and its round lie in their ranges
abbrev pub IsServed : Command × ℕ → Type 0
IsServed s = IsCommandInRange s.0 × (s.1 < MAX_ROUNDS)

-- a lateness is above -2^41 and below 2^41
abbrev pub IsLateness : ℤ → Type 0
IsLateness (pos n) = n < MAX_ROUNDS
IsLateness (negsuc n) = suc n < MAX_ROUNDS

-- a bound stands exactly beside commands, and its numbers lie in their ranges
abbrev pub IsBound : ℕ → Option (ℤ × Window) → Type 0
IsBound count None = count ≡ 0
IsBound count (Some b) = (0 < count) × IsLateness b.0 × (b.1.from < MAX_ROUNDS) × (b.1.due < MAX_ROUNDS)

-- a round for each command, and each number in its range
pub record IsClaim (c : Claim) : Type 0 where
  pub depth : (1 ≤ c.depth) × (c.depth ≤ MAX_DEPTH)
  pub few : length c.commands ≤ MAX_COMMANDS
  pub one_each : length c.rounds ≡ length c.commands
  pub bound : IsBound (length c.commands) c.bound
  pub commands : All IsCommandInRange c.commands
  pub rounds : All (λ x. x < MAX_ROUNDS) c.rounds

-- the kinds of a bound
pub data Bounded : Type 0 where
  NoBound : Bounded
  SomeBound : Bounded

-- what a record of each kind says
abbrev pub BoundSaid : Bounded → Type 0
BoundSaid NoBound = Unit {0}
BoundSaid SomeBound = ℤ × Window

-- that there is no bound is said by a whole record, which stands only beside no commands
abbrev pub SaysNone : ℕ → List Row → Type 0
SaysNone count rows = (count ≡ 0) × ((more : List Row) × (rows ≡ no_bound_row ∷ more))

abbrev pub TellsBound : ℕ → Bounded → List Row → Type 0
TellsBound count NoBound rows = SaysNone count rows
TellsBound count SomeBound rows = NextStarts BOUND.word rows × ¬ SaysNone count rows

-- the record of each kind
abbrev pub bound_kind : ℕ → (k : Bounded) → Part Row TextReason (BoundSaid k)
bound_kind count NoBound = record_of (λ _. no_bound_row) (λ _. count ≡ 0) why.Word (λ _ _. ⊥)
bound_kind count SomeBound = word_record why.Word BOUND.word (bound_cells count) (FitsCells (bound_cells count))

-- the kind of a bound
abbrev pub kind_of : Option (ℤ × Window) → (k : Bounded) × BoundSaid k
kind_of None = (NoBound, tt)
kind_of (Some b) = (SomeBound, b)

abbrev pub certificate_title_part : Part Row TextReason (ℕ × (ℕ × ℕ))
certificate_title_part = counted_title CERTIFICATE

-- the bound beside this number of commands
abbrev pub bound : ℕ → Part Row TextReason (Option (ℤ × Window))
bound count = seen_as kind_of (by_word BoundSaid (TellsBound count) (bound_kind count) (NextWrong why.Word (HasNoWord 4)))

abbrev pub served_record : Part Row TextReason (Command × ℕ)
served_record = table_record why.Count served_cells IsServed

-- a bound and this number of commands
abbrev pub claim_body : ℕ → Part Row TextReason (Option (ℤ × Window) × List (Command × ℕ))
claim_body count = then (bound count) (λ b. items_of (repeats.Exactly count) (λ _. served_record))

-- a title with the depth and the number of commands, a bound, and exactly that many commands with their rounds
abbrev pub claim_form : Part Row TextReason ((ℕ × (ℕ × ℕ)) × (Option (ℤ × Window) × List (Command × ℕ)))
claim_form = then certificate_title_part (λ t. claim_body t.1.1)

-- what the records of a certificate tell after the title
abbrev pub claim_told : Claim → Option (ℤ × Window) × List (Command × ℕ)
claim_told c = (c.bound, zip c.commands c.rounds)

-- and with it
abbrev pub claim_value : Claim → (ℕ × (ℕ × ℕ)) × (Option (ℤ × Window) × List (Command × ℕ))
claim_value c = ((CERTIFICATE.latest, (c.depth, length c.commands)), claim_told c)

-- the records of a certificate
abbrev pub claim_rows : Claim → List Row
claim_rows c = claim_form.rows_of (claim_value c)

-- the records spell this certificate
abbrev pub SpellsClaim : List Row → Claim → Type 0
SpellsClaim rows c = (length c.rounds ≡ length c.commands) × Spells claim_form rows (claim_value c)

-- the first fault of a certificate
abbrev pub ClaimFault : List Row → ℕ → TextReason → Type 0
ClaimFault = claim_form.Wrong
