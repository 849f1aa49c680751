-- A command list: a title, and a record for each command.
use Rattle.std.specs.Prelude.{◌≡◌, ◌⊎◌, ◌≤◌, ◌<◌, ◌^◌, ℕ, List, [], ◌∷◌, length, All}
use Rattle.edd_commands.specs.declared.TheConstants.{MAX_COMMANDS, MAX_ROUNDS, MAX_RELEASES}
use Rattle.edd_commands.specs.declared.steps.TheConstants.{MAX_DEPTH}
use Rattle.edd_commands.specs.declared.Command.{Command}
use Rattle.csv.specs.Reading.{default_config, records, strip_bom}
use Rattle.blk_records.specs.Sources.{Row}
use Rattle.blk_records.specs.Texts.{rows_text}
use Rattle.blk_records.specs.Reads.{items_of}
use Rattle.blk_records.specs.Tables.{Cell, cells_by, table_record}
use Rattle.blk_records.specs.Titles.{title_record}
use Rattle.blk_records.specs.declared.commands.TheConstants.{COMMAND, COMMANDS}
use Rattle.blk_records.specs.declared.fault.TextReason.{TextReason}
use Rattle.blk_records.specs.declared.fault.TextReason.TheVariants as why
use Rattle.text_grammar.specs.declared.Repeats.TheVariants as repeats
use Rattle.text_grammar.specs.Parts.{Part, then, Spells}

-- title: blk-commands, version, depth
abbrev pub depth_number : List (ℕ → ℕ)
depth_number = (λ depth. depth) ∷ []

-- each command: id, release, due
abbrev pub command_cells : List (Cell Command)
command_cells = cells_by COMMAND ((λ c. c.id) ∷ (λ c. c.release) ∷ (λ c. c.due) ∷ [])

-- a depth of a command list
abbrev pub IsDepth : ℕ → Type 0
IsDepth depth = (1 ≤ depth) × (depth ≤ MAX_DEPTH)

-- the numbers of a command lie in their ranges
abbrev pub IsCommandInRange : Command → Type 0
IsCommandInRange c = (c.id < 2 ^ 64) × (c.release < MAX_RELEASES) × (c.due < MAX_ROUNDS)

abbrev pub commands_title_part : Part Row TextReason (ℕ × ℕ)
commands_title_part = title_record COMMANDS depth_number (λ _. IsDepth)

abbrev pub command : Part Row TextReason Command
command = table_record why.Count command_cells IsCommandInRange

-- a title with the depth, and commands, at most `MAX_COMMANDS`
abbrev pub command_list : Part Row TextReason ((ℕ × ℕ) × List Command)
command_list = then commands_title_part (λ t. items_of (repeats.AtMost MAX_COMMANDS) (λ _. command))

-- a depth and commands that a command list can spell
abbrev pub AreCommands : ℕ → List Command → Type 0
AreCommands depth commands = (1 ≤ depth) × (depth ≤ MAX_DEPTH) × (length commands ≤ MAX_COMMANDS) × All IsCommandInRange commands

-- the records of a depth and a list of commands
abbrev pub commands_rows : ℕ → List Command → List Row
commands_rows depth commands = command_list.rows_of ((COMMANDS.latest, depth), commands)

-- the records spell this depth and these commands
abbrev pub SpellsCommands : List Row → ℕ → List Command → Type 0
SpellsCommands rows depth commands = Spells command_list rows ((COMMANDS.latest, depth), commands)

-- the first fault of a command list
abbrev pub CommandsFault : List Row → ℕ → TextReason → Type 0
CommandsFault = command_list.Wrong

-- the records spell one depth and one list at most
abbrev pub OneList : List Row → Type 0
OneList rows = (depth other : ℕ) → (commands others : List Command) → SpellsCommands rows depth commands → SpellsCommands rows other others → (depth ≡ other) × (commands ≡ others)

-- the text of a depth and commands reads back as records that spell them
abbrev pub ListReadsBack : ℕ → List Command → Type 0
ListReadsBack depth commands = AreCommands depth commands → SpellsCommands (records default_config (strip_bom (rows_text (commands_rows depth commands)))) depth commands

-- the records spell a depth and a list or have a fault
abbrev pub ListOrFault : List Row → Type 0
ListOrFault rows = ((depth : ℕ) × (commands : List Command) × SpellsCommands rows depth commands) ⊎ ((at : ℕ) × (w : TextReason) × CommandsFault rows at w)

-- and never both
abbrev pub NeverListAndFault : List Row → Type 0
NeverListAndFault rows = (depth : ℕ) → (commands : List Command) → (at : ℕ) → (w : TextReason) → SpellsCommands rows depth commands → CommandsFault rows at w → ⊥
