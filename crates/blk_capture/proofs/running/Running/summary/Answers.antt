use Rattle.std.proofs.Common.{◌∙◌, ℕ, List, map, count_by, sym, ap, arith}
use Rattle.std.proofs.lemmas.List.{length-map}
use Rattle.blk_capture.specs.Fates.{is_taken}
use Rattle.blk_capture.specs.Parting.{part}
use Rattle.blk_capture.specs.Rules.{Known}
use Rattle.blk_capture.specs.Running.{run_options}
use Rattle.blk_capture.specs.Settled.{all_taken}
use Rattle.blk_capture.specs.Inside.Matchings.{all_known}
use Rattle.blk_capture.specs.Inside.Partly.{plain, part_taken, all_before, all_in_part, fate_with}
use Rattle.blk_capture.specs.declared.requests.CapturedRequest.{CapturedRequest}
use Rattle.blk_capture.specs.declared.requests.Options.{Options}
use Rattle.blk_capture.proofs.Figured.{figures_of_counted}
use Rattle.blk_capture.proofs.Whole.{part_few, part_in_order, summed}
use Rattle.blk_capture.proofs.running.Running.summary.Goals as goal

pub summary-requires : goal.summary-requires
summary-requires g c =
    let o : Options = run_options c.args.self in
    let m : Known = all_known c.args.self.matching in
    let qs : List CapturedRequest = part_taken c.args.begin c.args.first o m in
    let sum = c.in_ok-taken.ensures.left.sum in
    let steady = c.requires.ready.few in (
      map plain qs,
      c.in_ok-figures.ensures m (sym c.as_slice-2.ensures.value) (sym c.as_slice-3.ensures.value) c.in_ok-taken.ensures.whole.whole.timed,
      omega (arith, length-map qs plain, part_few c.args.begin c.args.first (all_taken o m), sum, steady, c.requires.few),
    )

pub returns : goal.returns
returns g c = λ records before had.
    let o : Options = run_options c.args.self in
    let m : Known = all_known c.args.self.matching in
    let begin : ℕ = c.args.begin in
    let first : ℕ = c.args.first in
    let whole = c.in_ok-taken.ensures.whole in
    summed c.args.self records had.roles before begin first _ had.run had.so_far_are whole c.in_ok-taken.ensures.left
    (λ qs bs fs same timed bios merges.
    c.summary.ensures records (part begin first qs) bs fs
    (figures_of_counted begin first qs (all_taken o m) c.in_ok-figures.figures same (c.in_ok-figures.ensures m (sym c.as_slice-2.ensures.value) (sym c.as_slice-3.ensures.value) whole.whole.timed))
    (part_in_order begin first qs timed)
    had.run.counted
    (c.in_ok-taken.ensures.bios ∙ bios)
    (c.in_ok-taken.ensures.merges ∙ ap (count_by (λ p. is_taken (fate_with (all_before begin o m) (all_in_part begin first o m) o m p))) c.as_slice.ensures.value ∙ merges))
