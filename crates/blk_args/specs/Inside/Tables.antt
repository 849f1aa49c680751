-- Subcommands and options by the rows of the program's table.
use Rattle.std.specs.Prelude.{◌∷◌, [], List, Option, None, Some, find, map, option_map}
use Rattle.std.specs.List.{flat_map}
use Rattle.std.specs.Str.{bytes_eq}
use Rattle.clap.specs.Words.{Text}
use Rattle.std.specs.Borrow.{Bor}
use Rattle.blk_schedulers.specs.Options.{OptionOf, option_of, flags, tuning, listing}
use Rattle.blk_schedulers.specs.Plans.{text_options}
use Rattle.blk_args.specs.declared.table.JobKind.{JobKind}
use Rattle.blk_args.specs.declared.table.OptionGroup.{OptionGroup}
use Rattle.blk_args.specs.declared.table.OptionGroup.TheVariants as group
use Rattle.blk_args.specs.declared.table.CommandRow.{CommandRow}
use Rattle.blk_args.specs.declared.takers.Taker.{Taker}
use Rattle.blk_args.specs.CommandLine.{Subcommand, taking}
use Rattle.blk_args.specs.Takers.{name_with}

-- the options of a part
abbrev pub options_in : OptionGroup → List OptionOf
options_in (group.Own row) = option_of row ∷ []
options_in group.Flags = flags
options_in group.Settings = tuning
options_in group.Lists = listing
options_in group.Texts = text_options

-- the subcommand of a row
abbrev pub subcommand_of : CommandRow → Subcommand
subcommand_of row = taking row.name.now (flat_map options_in row.options.now) row.makes row.place

abbrev pub subcommands_of : List CommandRow → List Subcommand
subcommands_of = map subcommand_of

-- what the subcommand of a name makes of its options
abbrev pub makes_among : Text → List Subcommand → Option JobKind
makes_among name subcommands = option_map (λ s. s.makes) (find (λ s. bytes_eq name s.name) subcommands)

-- how a subcommand that takes a text is named, by its name and the flag, if there is one
abbrev pub with_flag : Text → Option (Bor Text) → Text
with_flag name None = name
with_flag name (Some flag) = name_with flag.now name

abbrev pub called : Taker → Text
called t = with_flag t.name.now t.flag
