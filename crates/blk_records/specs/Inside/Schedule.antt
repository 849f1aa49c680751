-- The commands of a schedule while they are read.
use Rattle.std.specs.Prelude.{◌≡◌, ◌<◌, ◌++◌, ◌∷◌, ℕ, List, [], true, length, slice_index_or}
use Rattle.std.specs.Bool.{MatchBool}
use Rattle.std.specs.Ordering.{nat_cmp}
use Rattle.std.specs.BTreeSet.{BTreeSet, contains}
use Rattle.edd_commands.specs.declared.Command.{Command}
use Rattle.blk_records.specs.Sources.{Row}
use Rattle.blk_records.specs.Reads.{with_next}
use Rattle.blk_records.specs.declared.schedule.ServedCommands.{ServedCommands}
use Rattle.blk_records.specs.declared.fault.TextReason.{TextReason}
use Rattle.blk_records.specs.declared.fault.TextReason.TheVariants as why
use Rattle.text_grammar.specs.Parts.{AllFit, over}
use Rattle.blk_records.specs.Schedule.{IsNew, new_record}

-- the ids rise from command to command
abbrev pub DoRise : List (Command × ℕ) → Type 0
DoRise served = (j k : ℕ) (d : Command × ℕ) → j < k → k < length served → (slice_index_or served j d).0.id < (slice_index_or served k d).0.id

-- the ids in a set are those of the commands
pub record AreIds (served : List (Command × ℕ)) (ids : BTreeSet ℕ) : Type 0 where
  pub held : (j : ℕ) (d : Command × ℕ) → j < length served → contains nat_cmp ids (slice_index_or served j d).0.id ≡ true
  pub named : (id : ℕ) → contains nat_cmp ids id ≡ true → (j : ℕ) × (j < length served) × ((d : Command × ℕ) → (slice_index_or served j d).0.id ≡ id)

-- the ids of the commands rise, or they are in the set
abbrev pub HasIds : ServedCommands → Type 0
HasIds k = MatchBool k.rise (DoRise k.served.items) (AreIds k.served.items k.ids)

-- each command fits after those before it
abbrev pub AreFit : List (Command × ℕ) → Type 0
AreFit served = AllFit new_record with_next [] served

-- a command was added to those before it, none of which has its id
abbrev pub IsAdded : ServedCommands → ServedCommands → Command × ℕ → Type 0
IsAdded old new served = HasIds new × (new.served.items ≡ old.served.items ++ served ∷ []) × IsNew old.served.items served

-- what is wrong with a record after all commands
abbrev pub IsPastCommands : List (Command × ℕ) → Row → TextReason → Type 0
IsPastCommands before row w = (rest : List Row) → (over why.Count (new_record before)).Wrong (row ∷ rest) 1 w
