use Rattle.blk_records.proofs.Rows.{no_bound_is}
use Rattle.text_output.specs.Drafts.{draft_text}
use Rattle.blk_records.proofs.certificate.push_bound.Goals as goal

pub returns-in-None : goal.returns-in-None
returns-in-None c = record { text = rw (c.in-None.is, ← no_bound_is (draft_text c.args.draft.now)) c.push.ensures }
