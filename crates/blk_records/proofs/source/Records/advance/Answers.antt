use Rattle.std.proofs.Common.{◌∙◌, inl, inr, sym, ap, subst}
use Rattle.blk_records.specs.Watching.{left_in, input_left}
use Rattle.blk_records.specs.Inside.Sources.{IsOpen, IsPlainReader}
use Rattle.blk_records.proofs.Steps.{takes_read, takes_failed}
use Rattle.blk_records.proofs.source.Records.advance.Goals as goal

pub returns-in-Ok-clause-takes : goal.returns-in-Ok-clause-takes
returns-in-Ok-clause-takes g c =
    let plain : IsPlainReader c.in-Rows.rdr = subst IsOpen c.in-Rows.is c.open.ensures.open in
    let were = sym c.open.ensures.left ∙ ap (input_left g.R.Read.remaining) c.in-Rows.is in
    rw (← c.self.view_is, were) (elim plain [
      | inl failed ↦ takes_failed (left_in g.R.Read.remaining) c.in-Rows.rdr _ _ _ failed
      | inr usual ↦ takes_read (left_in g.R.Read.remaining) c.in-Rows.rdr c.read_byte_record.new.self _ _ usual.1 (c.in-Ok.ensures.reads usual.0 usual.2)
    ])
