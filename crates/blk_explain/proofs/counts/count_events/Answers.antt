use Rattle.std.proofs.Common.{◌≡◌, ◌≤◌, ◌+◌, ◌-◌, ◌∙◌, [], Bool, rules, true, false, cond, count_by, get_or, ap, sym, arith, ℕ, refl}
use Rattle.std.proofs.lemmas.List.{take_all}
use Rattle.std.proofs.lemmas.List.Sums.{sum_by_more}
use Rattle.csv.specs.Records.{fields_of}
use Rattle.blk_records.specs.Sources.{Row, TakesRecord}
use Rattle.std.specs.Prelude.{not}
use Rattle.blk_explain.specs.Counts.{is_of_bio, is_no_bio}
use Rattle.blk_explain.specs.Findings.{rows_of}
use Rattle.blk_explain.proofs.Taking.{takes_next, takes_row, takes_last}
use Rattle.blk_explain.proofs.counts.count_events.Goals as goal

-- one more or none is one or none added, which is one at most
one_or_none : (b : Bool) (n : ℕ) → cond b n (n + 1) ≡ n + cond (not b) 1 0
one_or_none true n = omega arith
one_or_none false n = refl

one_at_most : (b : Bool) → cond b 1 0 ≤ 1
one_at_most true = omega arith
one_at_most false = omega arith

pub returns-in-Ok-false : goal.returns-in-Ok-false
returns-in-Ok-false c =
    let taken : TakesRecord c.loop.records.left c.advance.new.self.left c.advance.new.self.fields false = search rules in
    let past = takes_last (rows_of c.args.bytes.now) c.loop.counter _ _ _ c.loop.invariant.left taken in
    c.saturating_sub.ensures ∙ ap (λ n. n - 2) (c.loop.invariant.counted ∙ ap (count_by is_no_bio) (take_all c.loop.counter (rows_of c.args.bytes.now) past))

pub loop-preserved : goal.loop-preserved
loop-preserved c =
    let taken : TakesRecord c.loop.records.left c.advance.new.self.left c.advance.new.self.fields true = search rules in
    let next = takes_row (rows_of c.args.bytes.now) c.loop.counter _ _ _ c.loop.invariant.left taken in
    let read : fields_of c.row.result.now ≡ c.advance.new.self.fields = search rules in
    let more = c.with_row-others.ensures ∙ one_or_none (is_of_bio (fields_of c.row.result.now)) c.loop.others in
    let one = one_at_most (is_no_bio (fields_of c.row.result.now)) in
    let before = c.loop.invariant.most in record {
      left = takes_next (rows_of c.args.bytes.now) c.loop.counter _ _ _ c.loop.invariant.left taken;
      at = omega arith;
      counted = more
          ∙ ap (λ (r : Row). c.loop.others + cond (is_no_bio r) 1 0) (read ∙ next.0)
          ∙ ap (λ n. n + cond (is_no_bio (get_or (rows_of c.args.bytes.now) c.loop.counter [])) 1 0) c.loop.invariant.counted
          ∙ sym (sum_by_more (λ y. cond (is_no_bio y) 1 0) (rows_of c.args.bytes.now) c.loop.counter [] next.1);
      most = omega (arith, more, one, before);
    }
