use Rattle.std.proofs.Common.{◌/◌, ◌∙◌, ℕ, length, nat_lt, ap}
use Rattle.blk_capture_text.proofs.Doubting.{records_known, still_known}
use Rattle.blk_capture_text.proofs.counts.RecordCounts.is_still.Goals as goal

pub returns : goal.returns
returns c = λ rs e.
    ap (λ (n : ℕ). nat_lt (n / 2) c.args.self.now.still) (records_known c.args.self.now rs e) ∙ ap (λ (n : ℕ). nat_lt (length rs / 2) n) (still_known c.args.self.now rs e)
