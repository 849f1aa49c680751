use Rattle.std.proofs.Common.{◌<◌, ◌+◌, ◌∙◌, ℕ, List, length, count_by, sym, ap, arith}
use Rattle.std.proofs.lemmas.List.{take_all}
use Rattle.std.proofs.lemmas.List.Sums.{count_by_more_yes, count_by_more_no}
use Rattle.blk_capture.specs.Fates.{is_taken}
use Rattle.blk_capture.specs.Inside.Partly.{fate_with}
use Rattle.blk_capture.specs.declared.matching.Role.{Role}
use Rattle.blk_capture.proofs.taken.count_records.Goals as goal
use Rattle.blk_capture.proofs.taken.count_records.Goals.{then-is_of_part, else-is_of_part}

pub overflow_add-count : goal.overflow_add-count
overflow_add-count c = let few = c.loop-role.invariant.few in omega (arith, few)

pub loop-role-preserved : goal.loop-role-preserved
loop-role-preserved c =
    let n : ℕ = c.loop-role.role-index in
    let from : ℕ = c.args.part.from in
    let count : ℕ = c.args.part.count in
    let roles : List Role = c.args.roles.now in
    let here : n < length roles = c.loop-role-test.true in
    let few = c.loop-role.invariant.few in
    elim c.if-is_of_part.branch [
      | then-is_of_part w ↦ record {
        few = let is = w.count-is in omega (arith, few, is);
        are = λ o m laid same.
            w.count-is
            ∙ ap (λ k. k + 1) (c.loop-role.invariant.are o m laid same)
            ∙ sym (count_by_more_yes (λ r. is_taken (fate_with from count o m r)) roles n _ here (sym (c.is_of_part.ensures o m laid same) ∙ w.if-is_of_part.true));
      }
      | else-is_of_part w ↦ record {
        few = let is = w.count-is in omega (arith, few, is);
        are = λ o m laid same.
            w.count-is
            ∙ c.loop-role.invariant.are o m laid same
            ∙ sym (count_by_more_no (λ r. is_taken (fate_with from count o m r)) roles n _ here (sym (c.is_of_part.ensures o m laid same) ∙ w.if-is_of_part.false));
      }
    ]

pub returns : goal.returns
returns c = λ o m laid same. c.loop-role.invariant.are o m laid same ∙ ap (count_by (λ r. is_taken (fate_with c.args.part.from c.args.part.count o m r))) (take_all c.loop-role.role-index c.args.roles.now c.loop-role-test.false)
