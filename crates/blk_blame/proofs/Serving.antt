-- Requests by the clock stand in the order of their dispatches, whenever they are due.
use Rattle.std.proofs.Common.{◌≡◌, ◌≤◌, ◌<◌, ℕ, List, map, length, get_or, ap, arith}
use Rattle.std.proofs.lemmas.List.{get_or-map, length-map}
use Rattle.blk_capture.specs.Counting.{AreServed}
use Rattle.blk_capture.specs.Requests.{AreTimed}
use Rattle.blk_capture.specs.declared.counting.TimedRequest.{TimedRequest}
use Rattle.blk_capture.specs.declared.requests.CapturedRequest.{CapturedRequest}
use Rattle.blk_blame.specs.Tightest.{timed_after}
use Rattle.blk_blame.specs.declared.tightest.OnTimeTarget.{OnTimeTarget}
use Rattle.blk_blame.proofs.Glue.{nobody}

pub served_after : (aim : OnTimeTarget) (own : ℕ) (requests : List CapturedRequest) → AreTimed requests → AreServed (map (timed_after aim own) requests)
served_after aim own requests timed =
    let n : length (map (timed_after aim own) requests) ≡ length requests = length-map requests (timed_after aim own) in
    record {
      rising =
          λ i j d low h.
          let some : j < length requests = omega (arith, h, n) in
          let at_i = ap (λ (s : TimedRequest). s.dispatch) (get_or-map (timed_after aim own) requests i nobody d (omega (arith, low, some))) in
          let at_j = ap (λ (s : TimedRequest). s.dispatch) (get_or-map (timed_after aim own) requests j nobody d some) in
          let up : (get_or requests i nobody).dispatched ≤ (get_or requests j nobody).dispatched = timed.rising i j nobody low some in
          omega (arith, at_i, at_j, up);
      released =
          λ i d h.
          let some : i < length requests = omega (arith, h, n) in
          let came = ap (λ (s : TimedRequest). s.release) (get_or-map (timed_after aim own) requests i nobody d some) in
          let went = ap (λ (s : TimedRequest). s.dispatch) (get_or-map (timed_after aim own) requests i nobody d some) in
          let after : (get_or requests i nobody).released ≤ (get_or requests i nobody).dispatched = timed.came_in i nobody some in
          omega (arith, came, went, after);
    }
