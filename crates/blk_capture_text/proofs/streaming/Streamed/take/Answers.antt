use Rattle.std.proofs.Common.{◌∙◌, ◌++◌, ◌∷◌, [], ap, sym, arith}
use Rattle.blk_capture.specs.declared.record.Record.{Record}
use Rattle.blk_capture_text.specs.Counts.{no_records, counted_with}
use Rattle.blk_capture_text.proofs.Counting.{counts_next}
use Rattle.blk_capture_text.proofs.Doubting.{counted_more}
use Rattle.blk_capture_text.proofs.Following.{first_next, known_each, follows_last}
use Rattle.blk_capture_text.proofs.streaming.Streamed.take.Goals as goal

pub returns-clause-streamed : goal.returns-clause-streamed
returns-clause-streamed c = λ records had.
    let r : Record = c.args.next.now in
    let each = known_each records had.fates c.args.self.now.running had.taken in
    record {
      fates = had.fates ++ c.in_ok-fate.fate ∷ [];
      taken = c.in_ok-fate.ensures.taken records had.fates had.taken;
      unused = c.count.ensures ∙ counts_next had.fates c.in_ok-fate.fate c.args.self.now.unused (omega (arith, each, c.requires.few)) had.unused;
      counts = c.with-self.ensures.value ∙ ap (λ k. counted_with k r) had.counts ∙ sym (counted_more no_records records r);
      first = c.first_of-self.ensures ∙ first_next records r _ _ (c.requires.steady.each ∙ had.taken.run.counted) had.first;
      next = follows_last records r _ c.in_ok-fate.ensures.now;
    }
