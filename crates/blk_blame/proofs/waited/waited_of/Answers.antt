use Rattle.std.proofs.Common.{◌≡◌, ◌≤◌, ◌<◌, ◌+◌, ◌-◌, ◌∙◌, ℕ, List, length, drop, get_or, count_by, sym, ap, arith}
use Rattle.std.specs.Prelude.{min, None}
use Rattle.blk_bio.specs.declared.bio.Dir.TheVariants.{Read}
use Rattle.std.specs.List.{range_with_len}
use Rattle.std.proofs.Math.Seq.{drop-length}
use Rattle.std.proofs.lemmas.List.{get_or_default}
use Rattle.std.proofs.lemmas.List.FromFn.{length-range_with_len}
use Rattle.std.proofs.lemmas.List.Sums.{count_by-le-length}
use Rattle.blk_capture.specs.declared.requests.CapturedRequest.{CapturedRequest}
use Rattle.blk_capture.specs.Requests.{AreTimed}
use Rattle.blk_blame.specs.Waited.{some_waits, last_dispatch}
use Rattle.blk_blame.proofs.Waiting.{first_of, none_waits, none_first, waited_step, all_of}
use Rattle.blk_blame.proofs.waited.waited_of.Goals as goal

pub loop-place-init : goal.loop-place-init
loop-place-init c =
    let qs : List CapturedRequest = c.args.requests.now in
    let top : ℕ = c.last_dispatch-last.result in
    record {
      so_far = sym (ap (λ l. count_by (some_waits l) (range_with_len 0 top)) (drop-length qs) ∙ none_waits 0 top);
      came_in = sym (ap (λ l. first_of l top) (drop-length qs) ∙ none_first top);
    }

abbrev nobody : CapturedRequest
nobody = record { dir = Read; first = 0; sectors = 0; bios = 0; bio = 0; pid = 0; cpu = 0; queued = 0; got = 0; inserted = None; merged = None; entry = 0; released = 0; earlier = None; deadline = 0; dispatched = 0; completed = None }

-- what holds of a request more
more : (qs : List CapturedRequest) (place top waited first until adds : ℕ) → AreTimed qs → 0 < place → place ≤ length qs → top ≡ last_dispatch qs
    → waited ≡ count_by (some_waits (drop place qs)) (range_with_len 0 top) → first ≡ first_of (drop place qs) top
    → until ≡ min (get_or qs (place - 1) nobody).dispatched first → adds ≡ until - (get_or qs (place - 1) nobody).entry
    → (waited + adds ≡ count_by (some_waits (drop (place - 1) qs)) (range_with_len 0 top)) × (min (get_or qs (place - 1) nobody).entry first ≡ first_of (drop (place - 1) qs) top)
more qs place top waited first until adds timed some low is_top so_far came_in is_until is_adds =
    let q : CapturedRequest = get_or qs (place - 1) nobody in
    let next : (place - 1) + 1 ≡ place = omega (arith, some) in
    let here : place - 1 < length qs = omega (arith, some, low) in
    let step = waited_step qs (place - 1) place top waited first q timed next here (get_or_default qs (place - 1) nobody q here) is_top so_far came_in in
    (ap (λ n. waited + n) (is_adds ∙ ap (λ n. n - q.entry) is_until) ∙ step.0, step.1)

pub overflow_add-waited : goal.overflow_add-waited
overflow_add-waited c =
    let qs : List CapturedRequest = c.args.requests.now in
    let top : ℕ = c.last_dispatch-last.result in
    let known = more qs c.loop-place.place top c.loop-place.waited c.loop-place.first c.min.result c.saturating_sub-waited.result c.requires c.loop-place-test.true c.loop-place.auto.place c.last_dispatch-last.ensures c.loop-place.invariant.so_far c.loop-place.invariant.came_in c.min.ensures c.saturating_sub-waited.ensures in
    omega (arith, known.0, count_by-le-length (some_waits (drop (c.loop-place.place - 1) qs)) (range_with_len 0 top), length-range_with_len 0 top, c.last_dispatch-last.type_inv)

pub loop-place-preserved : goal.loop-place-preserved
loop-place-preserved c =
    let known = more c.args.requests.now c.loop-place.place c.last_dispatch-last.result c.loop-place.waited c.loop-place.first c.min.result c.saturating_sub-waited.result c.requires c.loop-place-test.true c.loop-place.auto.place c.last_dispatch-last.ensures c.loop-place.invariant.so_far c.loop-place.invariant.came_in c.min.ensures c.saturating_sub-waited.ensures in
    record { so_far = known.0; came_in = c.min-first.ensures ∙ known.1 }

pub returns : goal.returns
returns c = all_of c.args.requests.now c.loop-place.waited c.loop-place.place c.last_dispatch-last.result (omega (arith, c.loop-place-test.false)) c.last_dispatch-last.ensures c.loop-place.invariant.so_far
