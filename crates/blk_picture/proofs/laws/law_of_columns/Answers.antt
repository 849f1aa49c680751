use Rattle.blk_picture.proofs.Adding.{reads_sum, writes_sum, lates_sum, backs_sum, issued_sum, room_sum}
use Rattle.blk_picture.proofs.Fitting.{column_fits, idle_sum}
use Rattle.blk_picture.proofs.laws.law_of_columns.Goals as goal

pub returns : goal.returns
returns c =
    record {
      reads = reads_sum;
      writes = writes_sum;
      lates = lates_sum;
      backs = backs_sum;
      all = issued_sum;
      rooms = room_sum;
      fits = λ setup events legal scale shows. column_fits setup events scale legal shows;
      idle = λ setup events legal scale shows. idle_sum setup events scale legal shows;
    }
