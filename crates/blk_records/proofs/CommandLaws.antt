-- The laws of command lists.
use Rattle.std.proofs.Common.{◌≡◌, ◌∙◌, ℕ, List, [], ◌∷◌, map, Option, Some, None, refl, ap, subst, inl, inr, arith, append-nil, get_or}
use Rattle.std.specs.Prelude.{IfSome, ◌⊎◌, Bool}
use Rattle.csv.specs.Reading.{default_config, records, strip_bom}
use Rattle.csv.specs.Writing.{read_back}
use Rattle.edd_commands.specs.declared.Command.{Command}
use Rattle.blk_records.specs.Sources.{Row}
use Rattle.blk_records.specs.Texts.{rows_text}
use Rattle.blk_records.specs.Reads.{Reads, Halts, IsOne, items_of}
use Rattle.blk_records.specs.Tables.{FitsCells, row_by}
use Rattle.blk_records.specs.Titles.{IsVersion, title_by, TakesTitle, StopsAtTitle}
use Rattle.blk_records.specs.declared.commands.TheConstants.{COMMANDS}
use Rattle.blk_records.specs.Commands.{depth_number, IsDepth, commands_title_part, command_cells, command, command_list, IsCommandInRange, SpellsCommands, CommandsFault, AreCommands, commands_rows}
use Rattle.blk_records.specs.declared.fault.TextReason.{TextReason}
use Rattle.blk_records.specs.declared.fault.TextReason.TheVariants as why
use Rattle.text_grammar.specs.declared.Repeats.TheVariants as repeats
use Rattle.text_grammar.specs.Parts.{Begins, Spells}
use Rattle.text_grammar.specs.Laws.{Tells}
use Rattle.text_grammar.proofs.Then.{once, decided, then_tells}
use Rattle.blk_records.proofs.TableLaws.{IsTable, table_tells}
use Rattle.blk_records.proofs.TitleLaws.{IsTitleTable, title_tells, title_reads, title_stops}
use Rattle.blk_records.proofs.Each.{rows_map, all_fit, each_tells, one_record, one_version}
use Rattle.blk_records.proofs.Reading.{then_reads, first_halts, second_halts}
use Rattle.blk_records.proofs.Texts.{text_back, parts_back, begins_itself}
use Rattle.edd_commands.specs.declared.TheConstants.{MAX_COMMANDS}

title : IsTitleTable COMMANDS depth_number (λ _. IsDepth)
title = record {
  latest = omega arith;
  slots = λ v. refl;
  table = λ v. record { sized = (omega arith, tt); within = λ v f. (f, tt); made = λ x. x.0; back = λ v f. refl; forth = λ x. refl; fits = λ x f. f.0 };
  fits = λ v depth f. f.0;
}

pub command_fits : (c : Command) → FitsCells command_cells c → IsCommandInRange c
command_fits c f = let id = f.0.1 in let release = f.1.0.1 in let due = f.1.1.0.1 in (omega (arith, id), omega (arith, release), omega (arith, due))

command_table : IsTable command_cells IsCommandInRange
command_table = record {
  sized = (omega arith, (omega arith, (omega arith, tt)));
  within = λ c f. (let id = f.0 in let release = f.1 in let due = f.2 in ((omega arith, omega (arith, id)), ((omega arith, omega (arith, release)), ((omega arith, omega (arith, due)), tt))));
  made = λ x. record { id = x.0; release = x.1.0; due = x.1.1.0 };
  back = λ c f. refl;
  forth = λ x. refl;
  fits = λ x f. command_fits _ f;
}

commands_tell : Tells commands_title_part
commands_tell = title_tells title

pub command_one : IsOne command
command_one = one_record why.Count (table_tells command_table)

pub list_tells : Tells command_list
list_tells = then_tells commands_tell (λ t fit. each_tells command_one (repeats.AtMost MAX_COMMANDS))

-- records that were taken for a title and commands spell them
list_spelled : (rows : List Row) (version depth : ℕ) (commands : List Command) → IsVersion 1 version → Spells command_list rows ((version, depth), commands) → SpellsCommands rows depth commands
list_spelled rows version depth commands v h = let one = one_version version v in subst (λ v. Spells command_list rows v) (λ i. ((one i, depth), commands)) h

pub spelled_or_wrong : (rows : List Row) → ((depth : ℕ) × (commands : List Command) × SpellsCommands rows depth commands) ⊎ ((at : ℕ) × (w : TextReason) × CommandsFault rows at w)
spelled_or_wrong rows = elim (decided list_tells rows) [
  | inl h ↦ inl (h.0.0.1, h.0.1, list_spelled rows h.0.0.0 h.0.0.1 h.0.1 h.2.fits.0.0 (rw h.2.follows.1.1 at h.2))
  | inr f ↦ inr f
]

-- the records of a depth and commands, one by one
pub rows_are : (depth : ℕ) (commands : List Command) → commands_rows depth commands ≡ title_by COMMANDS depth_number (COMMANDS.latest, depth) ∷ map (row_by command_cells) commands
rows_are depth commands = ap (λ (t : List Row). title_by COMMANDS depth_number (COMMANDS.latest, depth) ∷ t) (append-nil _ ∙ rows_map command (row_by command_cells) (λ v. refl) [] commands)

-- the records of a depth and commands spell them
pub rows_spell : (depth : ℕ) (commands : List Command) → AreCommands depth commands → SpellsCommands (commands_rows depth commands) depth commands
rows_spell depth commands h = begins_itself command_list ((COMMANDS.latest, depth), commands) (((omega arith, omega arith), (h.0, h.1)), ((all_fit command [] commands h.3, h.2), tt)) (tt, (inr refl, refl))

pub read_back_is : (depth : ℕ) (commands : List Command) → AreCommands depth commands
    → SpellsCommands (records default_config (strip_bom (rows_text (commands_rows depth commands)))) depth commands
unfolding rows_text
read_back_is depth commands h =
    let back : map read_back (commands_rows depth commands) ≡ commands_rows depth commands = ap (λ (t : List Row). title_by COMMANDS depth_number (COMMANDS.latest, depth) ∷ t) (parts_back command (λ c. refl) commands) in
    rw (text_back (commands_rows depth commands) _ refl back) (rows_spell depth commands h)

pub spelled_once : (rows : List Row) (depth other : ℕ) (commands others : List Command) → SpellsCommands rows depth commands → SpellsCommands rows other others → (depth ≡ other) × (commands ≡ others)
spelled_once rows depth other commands others s t =
    let e = (once list_tells rows ((COMMANDS.latest, depth), commands) ((COMMANDS.latest, other), others) [] [] s t).0 in
    (λ i. (e i).0.1, λ i. (e i).1)

-- reading

pub list_read : (left mid : Option (List Row)) (version depth : ℕ) (commands : List Command) → Reads commands_title_part left mid (version, depth) → IsVersion 1 version
    → IfSome mid (λ rows. Begins (items_of (repeats.AtMost MAX_COMMANDS) (λ _. command)) rows commands []) → IfSome left (λ rows. SpellsCommands rows depth commands)
list_read None mid version depth commands h v k = tt
list_read (Some rows) mid version depth commands h v k =
    list_spelled rows version depth commands v (then_reads commands_title_part (λ t. items_of (repeats.AtMost MAX_COMMANDS) (λ _. command)) (Some rows) mid (version, depth) commands h k)

-- where reading halts

-- the title that a record tells by its number
pub title_told : (left mid : Option (List Row)) (t : ℕ × List ℕ) → TakesTitle COMMANDS left mid t.0 t.1 → Reads commands_title_part left mid (t.0, get_or t.1 2 0) × (IsVersion COMMANDS.latest t.0 × IsDepth (get_or t.1 2 0))
title_told left mid t h = title_reads COMMANDS depth_number (λ _. IsDepth) title left mid t.0 (get_or t.1 2 0) t.1 h (refl, tt)

pub title_halts : (failed : Bool) (left : Option (List Row)) (at : ℕ) (w : TextReason) → at ≡ 1 → StopsAtTitle COMMANDS failed left w → Halts failed command_list left 0 at w
title_halts failed left at w e h =
    first_halts failed commands_title_part (λ t. items_of (repeats.AtMost MAX_COMMANDS) (λ _. command)) left 0 at w (λ t fit. each_tells command_one (repeats.AtMost MAX_COMMANDS))
    (title_stops COMMANDS depth_number (λ _. IsDepth) title failed left 0 at w (omega (arith, e)) h)

pub list_halts : (failed : Bool) (left mid : Option (List Row)) (t : ℕ × ℕ) (middle at : ℕ) (w : TextReason) → middle ≡ 1 → Reads commands_title_part left mid t → Halts failed (items_of (repeats.AtMost MAX_COMMANDS) (λ _. command)) mid middle at w
    → Halts failed command_list left 0 at w
list_halts failed left mid t middle at w e r h = second_halts failed commands_title_part (λ t. items_of (repeats.AtMost MAX_COMMANDS) (λ _. command)) left mid t 0 middle at w commands_tell r (omega (arith, e)) h
