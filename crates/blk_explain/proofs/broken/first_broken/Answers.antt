use Rattle.csv.specs.Records.{fields_of}
use Rattle.blk_explain.specs.Broken.{IsKeptAt}
use Rattle.blk_explain.proofs.Taking.{one_more}
use Rattle.blk_explain.proofs.broken.first_broken.Goals as goal

pub loop-place-preserved : goal.loop-place-preserved
loop-place-preserved c =
    one_more (IsKeptAt (fields_of c.args.title.now) c.args.kind c.args.why (fields_of c.args.row.now)) c.loop-place.place c.loop-place.invariant c.in-None.ensures
