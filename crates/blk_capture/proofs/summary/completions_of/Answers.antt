use Rattle.std.proofs.Common.{◌≡◌, ◌++◌, ◌∙◌, ℕ, List, length, take, drop, count_by, nat_le, ap, arith}
use Rattle.std.proofs.Math.Seq.{take-append_seam}
use Rattle.blk_capture.proofs.summary.completions_of.Goals as goal

pub returns-clause-counted : goal.returns-clause-counted
returns-clause-counted g c t =
    let new : List ℕ = c.put_in_order.new.times in
    let rest : List ℕ = drop (length new) c.in_ok-times.times.items in
    let n : c.in_ok-times.times.len ≡ length new = omega (arith, c.put_in_order.ensures.len, c.as_mut_slice.ensures.len) in
    ap (λ (l : List ℕ). count_by (λ x. nat_le x t) l) (ap (λ k. take k (new ++ rest)) n ∙ take-append_seam new rest) ∙ c.put_in_order.ensures.counted t
