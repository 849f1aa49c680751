-- The fields of records, by the names in their rows, and what may stand in them.
use Rattle.std.specs.Prelude.{ℕ, get_or}
use Rattle.blk_records.specs.Kinds.{KindRow}
use Rattle.blk_records.specs.declared.fields.Slot.{Slot}
use Rattle.blk_records.specs.declared.fields.Slot.TheVariants as slot
use Rattle.blk_records.specs.declared.names.FieldName.{FieldName}
use Rattle.blk_records.specs.declared.names.FieldName.TheVariants as name
use Rattle.blk_explain.specs.declared.fields.Want.{Want}
use Rattle.blk_explain.specs.declared.fields.Want.TheVariants as want

-- what may stand in the field at a place of a kind of record, anything past the last; and what it is named, an unused one past the last
abbrev pub slot_at : KindRow → ℕ → Slot
slot_at k place = get_or k.slots place slot.Given

abbrev pub name_at : KindRow → ℕ → FieldName
name_at k place = get_or k.names place name.Unused

-- what may stand in a field of a name
abbrev pub want_of : FieldName → Want
want_of name.Unused = want.Row
want_of name.Word = want.Row
want_of name.Title = want.Row
want_of name.Version = want.Row
want_of name.Room = want.Row
want_of name.Commands = want.Row
want_of name.Id = want.Row
want_of name.Release = want.Row
want_of name.Due = want.Row
want_of name.Round = want.Row
want_of name.Bound = want.Row
want_of name.Lateness = want.Bound
want_of name.From = want.Row
want_of name.Until = want.Row
want_of name.BoundFrom = want.Bound
want_of name.BoundUntil = want.Bound
want_of name.OnTime = want.Row
want_of name.CommandsOnTime = want.Row
want_of name.Windows = want.Row
want_of name.Seconds = want.Row
want_of name.Nanoseconds = want.Row
want_of name.Processor = want.Row
want_of name.Action = want.Row
want_of name.Process = want.Row
want_of name.Rwbs = want.Row
want_of name.First = want.Row
want_of name.Sectors = want.Row
want_of name.Tags = want.Tags
want_of name.Queues = want.Row
want_of name.SoftDepth = want.Row
want_of name.Submitters = want.Submitters
want_of name.Events = want.Row
want_of name.Setup = want.Row
want_of name.ReadExpire = want.Row
want_of name.WriteExpire = want.Row
want_of name.MaxSectors = want.Row
want_of name.MaxSegments = want.Row
want_of name.Step = want.Row
want_of name.Event = want.Row
want_of name.Submitter = want.Submitter
want_of name.Serial = want.Row
want_of name.Direction = want.Row
want_of name.Queue = want.Queue
want_of name.Tag = want.Row
want_of name.Depth = want.Row
want_of name.Rounds = want.Row
want_of name.Bios = want.Row
