use Rattle.std.proofs.Common.{◌≡◌, ◌<◌, ◌+◌, ◌∙◌, ℕ, Bool, true, false, List, length, get_or, is_some, Option, None, sym, ap, arith, rules}
use Rattle.std.proofs.lemmas.List.Sums.{count_by_more_yes, count_by_more_no}
use Rattle.std.proofs.lemmas.Option.{slice_get-get_or}
use Rattle.blk_capture.specs.Settled.{is_absorbed}
use Rattle.blk_capture.specs.declared.opened.Opened.{Opened}
use Rattle.blk_capture.proofs.requests.count_others.Goals as goal
use Rattle.blk_capture.proofs.requests.count_others.Goals.{then-is_absorbed, else-is_absorbed+then-is_none, else-is_absorbed+else-is_none}

abbrev gone : Opened → Bool
gone q = is_absorbed q.stage

pub loop-place-preserved : goal.loop-place-preserved
loop-place-preserved c =
    let n : ℕ = c.loop-place.place in
    let requests : List Opened = c.args.requests.now in
    let places : List (Option ℕ) = c.args.places.now in
    let here : n < length requests = c.loop-place-test.true in
    let here2 : n < length places = omega (arith, here, c.requires.each) in
    let sum = c.loop-place.invariant.sum in
    let absorbed = c.loop-place.invariant.absorbed in
    elim c.if-is_absorbed.branch [
      | then-is_absorbed w ↦
          let so = sym c.is_absorbed.ensures ∙ w.if-is_absorbed.true in
          let one = count_by_more_yes gone requests n _ here so in
          let none : get_or places n None ≡ None = c.requires.apart n _ (slice_get-get_or requests n _ here) so in
          let same = count_by_more_no is_some places n None here2 (ap is_some none) in
          record { sum = omega (arith, same, sum, w.absorbed-is, w.left_out-is); absorbed = w.absorbed-is ∙ ap (λ k. k + 1) absorbed ∙ sym one }
      | else-is_absorbed+then-is_none w ↦
          let zero_more = count_by_more_no gone requests n _ here (sym c.is_absorbed.ensures ∙ w.if-is_absorbed.false) in
          let none : is_some (get_or places n None) ≡ false = search rules in
          let same = count_by_more_no is_some places n None here2 none in
          record { sum = omega (arith, same, sum, w.absorbed-is, w.left_out-is); absorbed = w.absorbed-is ∙ absorbed ∙ sym zero_more }
      | else-is_absorbed+else-is_none w ↦
          let zero_more = count_by_more_no gone requests n _ here (sym c.is_absorbed.ensures ∙ w.if-is_absorbed.false) in
          let some : is_some (get_or places n None) ≡ true = search rules in
          let same = count_by_more_yes is_some places n None here2 some in
          record { sum = omega (arith, same, sum, w.absorbed-is, w.left_out-is); absorbed = w.absorbed-is ∙ absorbed ∙ sym zero_more }
    ]
