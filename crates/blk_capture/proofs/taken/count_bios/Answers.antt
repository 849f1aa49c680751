use Rattle.std.proofs.Common.{◌<◌, ◌+◌, ◌∙◌, ℕ, List, length, count_by, sym, ap, arith}
use Rattle.std.specs.Option.{option_and_then}
use Rattle.std.proofs.lemmas.List.{take_all}
use Rattle.std.proofs.lemmas.List.Sums.{count_by_more_yes, count_by_more_no}
use Rattle.blk_capture.specs.Settled.{place_in_end}
use Rattle.blk_capture.specs.Inside.Partly.{goes_with, is_counted_in}
use Rattle.blk_capture.specs.declared.members.QueuedBio.{QueuedBio}
use Rattle.blk_capture.proofs.taken.count_bios.Goals as goal
use Rattle.blk_capture.proofs.taken.count_bios.Goals.{then-goes_with, else-goes_with}

pub overflow_add-count : goal.overflow_add-count
overflow_add-count c = let few = c.loop-bio.invariant.few in omega (arith, few)

pub loop-bio-preserved : goal.loop-bio-preserved
loop-bio-preserved c =
    let n : ℕ = c.loop-bio.bio-index in
    let from : ℕ = c.args.part.from in
    let count : ℕ = c.args.part.count in
    let bios : List QueuedBio = c.args.queued.now in
    let here : n < length bios = c.loop-bio-test.true in
    let few = c.loop-bio.invariant.few in
    elim c.if-goes_with.branch [
      | then-goes_with w ↦ record {
        few = let is = w.count-is in omega (arith, few, is);
        are = λ o m laid.
            w.count-is
            ∙ ap (λ k. k + 1) (c.loop-bio.invariant.are o m laid)
            ∙ sym (count_by_more_yes (is_counted_in from count o m) bios n _ here (sym (c.goes_with.ensures o m laid ∙ ap (λ r. goes_with from count (option_and_then (place_in_end o m) r)) c.request.ensures) ∙ w.if-goes_with.true));
      }
      | else-goes_with w ↦ record {
        few = let is = w.count-is in omega (arith, few, is);
        are = λ o m laid.
            w.count-is
            ∙ c.loop-bio.invariant.are o m laid
            ∙ sym (count_by_more_no (is_counted_in from count o m) bios n _ here (sym (c.goes_with.ensures o m laid ∙ ap (λ r. goes_with from count (option_and_then (place_in_end o m) r)) c.request.ensures) ∙ w.if-goes_with.false));
      }
    ]

pub returns : goal.returns
returns c = λ o m laid. c.loop-bio.invariant.are o m laid ∙ ap (count_by (is_counted_in c.args.part.from c.args.part.count o m)) (take_all c.loop-bio.bio-index c.args.queued.now c.loop-bio-test.false)
