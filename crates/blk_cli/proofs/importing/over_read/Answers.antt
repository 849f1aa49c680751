use Rattle.std.proofs.Common.{◌∙◌, ap, inl, inr}
use Rattle.blk_capture_text.specs.Counts.{records_counted}
use Rattle.blk_cli.specs.Said.{said_of}
use Rattle.blk_cli.proofs.importing.over_read.Goals as goal

pub returns-in-Err-clause-fails : goal.returns-in-Err-clause-fails
returns-in-Err-clause-fails g c = inl (rw c.as_slice.ensures.value at c.in-Err.ensures.fails)

pub returns-in-Ok-with_source-clause-answers : goal.returns-in-Ok-with_source-clause-answers
returns-in-Ok-with_source-clause-answers g c = record {
  base = said_of c.in-Ok.answer;
  imported = rw c.as_slice.ensures.value at c.in-Ok.ensures.answers;
  said = c.in-Ok-with_source.ensures.ok c.args.read.now.records.items (c.of-counts.ensures ∙ ap records_counted c.as_slice-2.ensures.value);
}
