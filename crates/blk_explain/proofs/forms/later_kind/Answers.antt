use Rattle.std.proofs.Common.{[], ◌∷◌}
use Rattle.blk_records.specs.Kinds.{row}
use Rattle.blk_text.specs.EventKinds.{event_table}
use Rattle.blk_text.specs.declared.bios.TheConstants.{BIO}
use Rattle.blk_explain.proofs.Worded.{worded_either}
use Rattle.blk_explain.proofs.forms.later_kind.Goals as goal

pub returns-in-Windows : goal.returns-in-Windows
returns-in-Windows c = rw c.in-Windows.is (rw c.any.ensures at c.kind_named.ensures)

pub returns-in-Events : goal.returns-in-Events
returns-in-Events c =
    rw c.in-Events.is (
    worded_either event_table (row BIO ∷ []) c.args.other c.kind_named-otherwise.result c.kind_named-in-Events.result c.args.word.now
    (rw c.any-in-Events.ensures at c.kind_named-otherwise.ensures) (rw c.event_kinds.ensures at c.kind_named-in-Events.ensures)
    )
