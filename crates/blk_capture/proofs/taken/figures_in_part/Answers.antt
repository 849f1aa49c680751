use Rattle.std.proofs.Common.{◌≡◌, ◌<◌, ◌≤◌, ◌+◌, ℕ, List, length, map, sym, ap, subst, arith}
use Rattle.std.proofs.lemmas.List.{length-map, take_all}
use Rattle.blk_capture.specs.Parting.{part}
use Rattle.blk_capture.specs.Settled.{taken_from}
use Rattle.blk_capture.specs.Inside.Figures.{AreFiguresOf}
use Rattle.blk_capture.specs.Inside.Partly.{plain}
use Rattle.blk_capture.specs.declared.clock.Dispatch.{Dispatch}
use Rattle.blk_capture.specs.declared.figures.Figures.{Figures}
use Rattle.blk_capture.specs.declared.requests.CapturedRequest.{CapturedRequest}
use Rattle.blk_capture.specs.declared.requests.Options.{Options}
use Rattle.blk_capture.proofs.Partly.{part_upto, added_next, same_next, next_early, next_full}
use Rattle.blk_capture.proofs.Placing.{sent_there}
use Rattle.blk_capture.proofs.taken.figures_in_part.Goals as goal
use Rattle.blk_capture.proofs.taken.figures_in_part.Goals.{then-dispatch-begin+then-count-first+in_ok-add_taken, else-dispatch-begin, else-dispatch-begin-via-then-dispatch-begin+else-count-first, else-dispatch-begin-via-else-dispatch-begin}

pub loop-number-preserved : goal.loop-number-preserved
loop-number-preserved g c = λ m same sent timed.
    let n : ℕ = c.loop-number.number in
    let ds : List Dispatch = c.args.dispatches.now in
    let o : Options = c.args.options.now in
    let begin : ℕ = c.args.begin in
    let first : ℕ = c.args.first in
    let here : n < length ds = c.loop-number-test.true in
    let old = c.loop-number.invariant m same sent timed in
    let known : List CapturedRequest = part_upto begin first o m n in
    let each : length (map plain known) ≡ length known = length-map known plain in
    elim c.if-dispatch-begin.branch [
      | then-dispatch-begin+then-count-first+in_ok-add_taken w ↦
          (let count = w.count.ensures (map plain known) old in
          subst (λ (f : Figures _). AreFiguresOf (map plain (part_upto begin first o m (n + 1))) f) (sym w.figures-is)
          (added_next begin first o m n _ w.add_taken.new.figures (sent_there ds m.dispatches n _ (sym sent) here) w.if-dispatch-begin.true (let full = w.if-count-first.true in omega (arith, full, count, each)) (w.in_ok-add_taken.ensures m known same old)))
      | else-dispatch-begin w ↦
          subst (λ (f : Figures _). AreFiguresOf (map plain (part_upto begin first o m (n + 1))) f) (sym w.figures-is)
          (elim w.else-dispatch-begin.branch [
            | else-dispatch-begin-via-then-dispatch-begin+else-count-first v ↦
                (let count = v.count.ensures (map plain known) old in
                same_next begin first o m n c.loop-number.figures (next_full begin first o m n _ (sent_there ds m.dispatches n _ (sym sent) here) v.if-dispatch-begin.true (let full = v.if-count-first.false in omega (arith, full, count, each))) old)
            | else-dispatch-begin-via-else-dispatch-begin v ↦
                same_next begin first o m n c.loop-number.figures (next_early begin first o m n _ timed (sent_there ds m.dispatches n _ (sym sent) here) v.if-dispatch-begin.false) old
          ])
    ]

pub returns : goal.returns
returns g c = λ m same sent timed.
    let all : length m.dispatches ≤ c.loop-number.number = (let long = ap length sent in let past = c.loop-number-test.false in omega (arith, long, past)) in
    subst (λ (ds : List Dispatch). AreFiguresOf (map plain (part c.args.begin c.args.first (taken_from c.args.options.now m ds))) c.loop-number.figures) (take_all c.loop-number.number m.dispatches all) (c.loop-number.invariant m same sent timed)
