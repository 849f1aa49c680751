-- A certificate of the greatest number of commands that are on time: a title, how many are on time, a record for each window, and a
-- record for each command with its round.
use Rattle.std.specs.Prelude.{◌≡◌, ◌≤◌, ◌<◌, ℕ, List, [], ◌∷◌, length, All}
use Rattle.std.specs.List.{zip}
use Rattle.edd_commands.specs.declared.TheConstants.{MAX_COMMANDS, MAX_ROUNDS}
use Rattle.edd_commands.specs.declared.steps.TheConstants.{MAX_DEPTH}
use Rattle.edd_commands.specs.declared.Command.{Command}
use Rattle.edd_check.specs.declared.Window.{Window}
use Rattle.edd_check.specs.Window.{WindowInRange}
use Rattle.blk_records.specs.Sources.{Row}
use Rattle.blk_records.specs.Commands.{IsCommandInRange}
use Rattle.blk_records.specs.Certificate.{served_record}
use Rattle.blk_records.specs.Reads.{items_of, repeated}
use Rattle.blk_records.specs.Tables.{Cell, cells_by, word_record}
use Rattle.blk_records.specs.Texts.{rows_text}
use Rattle.blk_records.specs.Titles.{counted_title}
use Rattle.blk_records.specs.declared.on_time.OnTimeCertificate.{OnTimeCertificate}
use Rattle.blk_records.specs.declared.on_time.TheConstants.{NUMBERS, ON_TIME, WINDOW}
use Rattle.blk_records.specs.declared.fault.TextReason.{TextReason}
use Rattle.blk_records.specs.declared.fault.TextReason.TheVariants as why
use Rattle.text_grammar.specs.declared.Repeats.TheVariants as repeats
use Rattle.text_grammar.specs.Parts.{Part, then, Spells}

-- such a certificate: the depth, the commands and their rounds by place, how many are on time, and the windows
pub record OnTimeClaim : Type 0 where
  pub depth : ℕ
  pub commands : List Command
  pub rounds : List ℕ
  pub on_time : ℕ
  pub cover : List Window

-- what it claims
abbrev pub on_time_claimed : OnTimeCertificate → OnTimeClaim
on_time_claimed c = record { depth = c.depth; commands = c.commands.items; rounds = c.rounds.items; on_time = c.on_time; cover = c.cover.items }

-- on time, number of commands on time, number of windows, empty
abbrev pub on_time_cells : List (Cell (ℕ × ℕ))
on_time_cells = cells_by NUMBERS.slots ((λ n. n.0) ∷ (λ n. n.1) ∷ [])

-- window, from, until, empty
abbrev pub window_cells : List (Cell Window)
window_cells = cells_by WINDOW.slots ((λ w. w.from) ∷ (λ w. w.due) ∷ [])

-- a number of commands on time and a number of windows
abbrev pub AreFew : ℕ × ℕ → Type 0
AreFew n = (n.0 ≤ MAX_COMMANDS) × (n.1 ≤ MAX_COMMANDS)

-- a round for each command, and each number in its range; whether the windows are a cover is not looked at
pub record IsOnTimeClaim (c : OnTimeClaim) : Type 0 where
  pub depth : (1 ≤ c.depth) × (c.depth ≤ MAX_DEPTH)
  pub few : length c.commands ≤ MAX_COMMANDS
  pub one_each : length c.rounds ≡ length c.commands
  pub numbers : AreFew (c.on_time, length c.cover)
  pub cover : All WindowInRange c.cover
  pub commands : All IsCommandInRange c.commands
  pub rounds : All (λ x. x < MAX_ROUNDS) c.rounds

abbrev pub on_time_title : Part Row TextReason (ℕ × (ℕ × ℕ))
on_time_title = counted_title ON_TIME

abbrev pub on_time_numbers : Part Row TextReason (ℕ × ℕ)
on_time_numbers = word_record why.Word NUMBERS.word on_time_cells AreFew

abbrev pub window : Part Row TextReason Window
window = word_record why.Count WINDOW.word window_cells WindowInRange

-- this number of windows
abbrev pub windows : ℕ → Part Row TextReason (List Window)
windows count = repeated (repeats.Exactly count) (λ _. window)

-- this number of windows and then this number of commands
abbrev pub cover_body : ℕ → ℕ → Part Row TextReason (List Window × List (Command × ℕ))
cover_body most count = then (windows most) (λ _. items_of (repeats.Exactly count) (λ _. served_record))

-- how many are on time and how many windows there are, the windows, and the commands
abbrev pub on_time_body : ℕ → Part Row TextReason ((ℕ × ℕ) × (List Window × List (Command × ℕ)))
on_time_body count = then on_time_numbers (λ n. cover_body n.1 count)

-- a title with the depth and the number of commands, and what comes after it
abbrev pub on_time_form : Part Row TextReason ((ℕ × (ℕ × ℕ)) × ((ℕ × ℕ) × (List Window × List (Command × ℕ))))
on_time_form = then on_time_title (λ t. on_time_body t.1.1)

-- what the records of such a certificate tell after the title
abbrev pub on_time_told : OnTimeClaim → (ℕ × ℕ) × (List Window × List (Command × ℕ))
on_time_told c = ((c.on_time, length c.cover), (c.cover, zip c.commands c.rounds))

-- and with it
abbrev pub on_time_value : OnTimeClaim → (ℕ × (ℕ × ℕ)) × ((ℕ × ℕ) × (List Window × List (Command × ℕ)))
on_time_value c = ((ON_TIME.latest, (c.depth, length c.commands)), on_time_told c)

-- the records of such a certificate
abbrev pub on_time_rows : OnTimeClaim → List Row
on_time_rows c = on_time_form.rows_of (on_time_value c)

-- and their text
abbrev pub text_of : OnTimeClaim → List ℕ
text_of c = rows_text (on_time_rows c)

-- the records spell this one
abbrev pub SpellsOnTime : List Row → OnTimeClaim → Type 0
SpellsOnTime rows c = (length c.rounds ≡ length c.commands) × Spells on_time_form rows (on_time_value c)

-- the first fault of such a certificate
abbrev pub OnTimeClaimFault : List Row → ℕ → TextReason → Type 0
OnTimeClaimFault = on_time_form.Wrong
