use Rattle.std.proofs.Common.{◌≡◌, ◌<◌, ◌≤◌, ◌+◌, ℕ, true, false, [], ◌∷◌, drop, All, Some, List, length, get_or, set, arith, subst, sym, ap, ◌∙◌, inl, inr}
use Rattle.std.specs.BinaryHeap.{heap_items, heap_len}
use Rattle.std.specs.declared.cmp.Reverse.{Reverse}
use Rattle.std.proofs.lemmas.List.{get_or_read}
use Rattle.std.proofs.lemmas.List.Elements.{All-head}
use Rattle.std.proofs.lemmas.List.Sorted.{All-permutation}
use Rattle.edd_commands.specs.declared.Command.{Command}
use Rattle.edd_commands.specs.Capacity.{depth_at}
use Rattle.edd_commands.proofs.InForce.{depth_bounds}
use Rattle.edd_oracle.specs.declared.queue.Arrival.{Arrival}
use Rattle.edd_oracle.specs.declared.queue.Released.{Released}
use Rattle.edd_oracle.specs.Inside.Leave.{IsFirstReleased, unplaced_at}
use Rattle.edd_oracle.specs.Inside.Queue.{IsArrival, IsReleasedBy, held_of, arrivals_of}
use Rattle.edd_oracle.proofs.Partial.{IsPartial, IsReady, start_partial, ready_jumped, ready_next, ready_still, put_partial, left_partial}
use Rattle.edd_oracle.proofs.Turn.{IsHeld, IsTurn, held_at_start, first_of_arrivals, held_taken_in, popped_earliest, held_popped, held_passed, gone_at_end, empty_heap}
use Rattle.edd_oracle.proofs.queue.leave.Given.{Over}
use Rattle.edd_oracle.proofs.queue.leave.Goals as goal
use Rattle.edd_oracle.proofs.queue.leave.Goals.{then-is_empty+then-index-round, else-is_empty+then-used-depth, else-is_empty+else-used-depth, then-next-len, else-next-len+then-not-is_empty}

pub places-init : goal.places-init
places-init g c =
    record {
      so_far = start_partial c.args.passes c.args.commands.now c.args.rounds.now.items c.args.capacity.now c.args.start c.requires.begun;
      held = held_at_start c.args.passes c.args.commands.now c.args.rounds.now.items c.in_ok-arrivals.arrivals.items (heap_items c.new-waiting.result) c.args.start c.requires.begun.one_each
          (λ k h. subst (λ xs. arrivals_of c.in_ok-arrivals.arrivals.items k ≡ unplaced_at xs k) c.as_slice.ensures.value (c.in_ok-arrivals.ensures.once k h)) c.new-waiting.ensures.items;
      ordered = c.new-waiting.ensures.heap_order;
      depth = c.at-depth.ensures.value;
    }

-- the round goes on or is a later one, with its depth, and has a place left
ready : (g : Over) (c : goal.After-row_known-1 g) → IsReady c.args.passes c.args.commands.now c.args.rounds.now.items c.places.rounds.items c.args.capacity.now c.args.start c.if-is_empty.round c.if-is_empty.used × (c.places.round ≤ c.if-is_empty.round) × (c.if-is_empty.depth ≡ depth_at c.args.capacity.now c.if-is_empty.round)
ready g c =
    let some : (x : ℕ) → 0 < depth_at c.args.capacity.now x = λ x. (depth_bounds c.args.capacity.now x c.at-depth.ensures.steps).0 in
    let arrivals : List Arrival = c.in_ok-arrivals.arrivals.items in
    elim c.if-is_empty.branch [
      | then-is_empty+then-index-round w ↦
          let none : Arrival = record { release = 0; place = 0 } in
          let a : Arrival = get_or arrivals c.places.next none in
          let empty : heap_items c.places.waiting ≡ [] = empty_heap (heap_items c.places.waiting) (heap_len c.places.waiting) _ c.is_empty-in-places.ensures w.if-is_empty.true c.places.waiting.data.ok.0 in
          let within : c.places.next < length arrivals =
          elim c.if-next-len.branch [
            | then-next-len v ↦ omega (arith, c.in_ok-arrivals.arrivals.ok.0)
            | else-next-len+then-not-is_empty v ↦
                let clash : true ≡ false = sym w.if-is_empty.true ∙ c.is_empty-in-places.ensures ∙ sym v.is_empty.ensures ∙ v.if-not-is_empty.true in
                absurd (cc)
          ] in
          let is : IsArrival c.args.commands.now a = c.in_ok-arrivals.ensures.placed c.places.next none within in
          let first : IsFirstReleased c.args.passes c.args.commands.now c.places.rounds.items c.places.round a.place =
          first_of_arrivals c.args.passes c.args.commands.now c.places.rounds.items arrivals c.places.next c.places.round (heap_items c.places.waiting) none c.places.invariant.held c.in_ok-arrivals.ensures.placed c.in_ok-arrivals.ensures.rising empty within in
          let read : w.index.result.now ≡ a = get_or_read arrivals c.places.next w.index.result.now within w.index.ensures none in
          let read' : w.index-then-index-round.result.now ≡ a = get_or_read arrivals c.places.next w.index-then-index-round.result.now within w.index-then-index-round.ensures none in
          let up : c.places.round < a.release = subst (λ (b : Arrival). c.places.round < b.release) read w.if-index-round.true in
          let d : Command = record { id = 0; release = 0; due = 0 } in
          let is_round : c.if-is_empty.round ≡ a.release = w.round-is ∙ ap (λ (b : Arrival). b.release) read' in (
            ready_jumped c.args.passes c.args.commands.now c.args.rounds.now.items c.places.rounds.items c.args.capacity.now c.args.start c.places.round c.places.used a.place c.if-is_empty.round c.if-is_empty.used d c.places.invariant.so_far some c.requires.in_range first (omega (arith, is.is_release d)) (is_round ∙ is.is_release d) w.used-is,
            omega arith,
            w.depth-is ∙ w.at-depth-then-index-round.ensures.value ∙ ap (λ x. depth_at c.args.capacity.now x) (sym w.round-is),
          )
      | else-is_empty+then-used-depth w ↦ (
        ready_next c.args.passes c.args.commands.now c.args.rounds.now.items c.places.rounds.items c.args.capacity.now c.args.start c.places.round c.places.used c.if-is_empty.round c.if-is_empty.used c.places.invariant.so_far some (omega (arith, c.places.invariant.depth)) w.round-is w.used-is,
        omega (arith, w.round-is),
        w.depth-is ∙ w.at-depth-then-used-depth.ensures.value ∙ ap (λ x. depth_at c.args.capacity.now x) (sym w.round-is),
      )
      | else-is_empty+else-used-depth w ↦ (
        ready_still c.args.passes c.args.commands.now c.args.rounds.now.items c.places.rounds.items c.args.capacity.now c.args.start c.places.round c.places.used c.if-is_empty.round c.if-is_empty.used c.places.invariant.so_far (λ full. absurd (omega (arith, c.places.invariant.depth))) w.round-is w.used-is,
        omega (arith, w.round-is),
        w.depth-is ∙ c.places.invariant.depth ∙ ap (λ x. depth_at c.args.capacity.now x) (sym w.round-is),
      )
    ]

turn : (g : Over) (c : goal.After-row_known-1 g) → IsTurn c.args.passes c.args.commands.now c.places.rounds.items c.in_ok-arrivals.arrivals.items c.in_ok-next.next c.if-is_empty.round (heap_items c.release.new.waiting)
turn g c =
    subst (λ xs. IsTurn c.args.passes c.args.commands.now c.places.rounds.items xs c.in_ok-next.next c.if-is_empty.round (heap_items c.release.new.waiting)) c.as_slice-in-places.ensures.value record {
      held = subst (λ xs. IsHeld c.args.passes c.args.commands.now c.places.rounds.items xs c.in_ok-next.next c.if-is_empty.round (heap_items c.release.new.waiting)) (sym c.as_slice-in-places.ensures.value)
          (held_taken_in c.args.passes c.args.commands.now c.places.rounds.items c.in_ok-arrivals.arrivals.items c.places.next c.in_ok-next.next c.places.round c.if-is_empty.round (heap_items c.places.waiting) (heap_items c.release.new.waiting) c.places.invariant.held (ready g c).1
          (subst (λ (xs : List Arrival). c.in_ok-next.next ≤ length xs) c.as_slice-in-places.ensures.value c.in_ok-next.ensures.within)
          (subst (λ (xs : List Arrival). (k : ℕ) → held_of (heap_items c.release.new.waiting) k + arrivals_of (drop c.in_ok-next.next xs) k ≡ held_of (heap_items c.places.waiting) k + arrivals_of (drop c.places.next xs) k) c.as_slice-in-places.ensures.value c.in_ok-next.ensures.kept)
          c.in_ok-next.ensures.released);
      placed = subst (λ xs. All (IsArrival c.args.commands.now) xs) (sym c.as_slice-in-places.ensures.value) c.in_ok-arrivals.ensures.placed;
      rest = c.in_ok-next.ensures.rest;
    }

pub places-preserved : goal.places-preserved
places-preserved g c =
    let w : Reverse Released = c.in-Some.field-0 in
    let now = turn g c in
    let at = ready g c in
    let heap' : List (Reverse Released) = heap_items c.release.new.waiting in
    let popped = c.in-Some.ensures.heap_order c.in_ok-next.ensures.ordered in
    let is : IsReleasedBy c.args.commands.now c.if-is_empty.round w = All-head (IsReleasedBy c.args.commands.now c.if-is_empty.round) w (heap_items c.pop.new.self) (All-permutation (IsReleasedBy c.args.commands.now c.if-is_empty.round) heap' (w ∷ heap_items c.pop.new.self) c.in-Some.ensures.permutation now.held.released) in
    elim c.take.ensures [
      | inl given ↦
          let so_far : IsPartial c.args.passes c.args.commands.now c.args.rounds.now.items (set c.places.rounds.items w.0.place (Some c.if-is_empty.round)) c.args.capacity.now c.args.start c.if-is_empty.round (c.if-is_empty.used + 1) =
          put_partial c.args.passes c.args.commands.now c.args.rounds.now.items c.places.rounds.items c.args.capacity.now c.args.start c.if-is_empty.round c.if-is_empty.used w.0.place at.0.so_far at.0.fits
          (popped_earliest c.args.passes c.args.commands.now c.places.rounds.items c.in_ok-arrivals.arrivals.items c.in_ok-next.next c.if-is_empty.round heap' (heap_items c.pop.new.self) w now c.in-Some.ensures.permutation popped.1)
          (λ d late. omega (arith, given.1 late, is.is_due d)) in
          let held = held_popped c.args.passes c.args.commands.now c.places.rounds.items c.in_ok-arrivals.arrivals.items c.in_ok-next.next c.if-is_empty.round heap' (heap_items c.pop.new.self) w now.held c.in-Some.ensures.permutation in
          record {
            so_far = subst (λ n. IsPartial c.args.passes c.args.commands.now c.args.rounds.now.items c.take.new.rounds.items c.args.capacity.now c.args.start c.if-is_empty.round (c.if-is_empty.used + n)) (sym given.0)
                (subst (λ xs. IsPartial c.args.passes c.args.commands.now c.args.rounds.now.items xs c.args.capacity.now c.args.start c.if-is_empty.round (c.if-is_empty.used + 1)) (sym given.2) so_far);
            held = subst (λ xs. IsHeld c.args.passes c.args.commands.now xs c.in_ok-arrivals.arrivals.items c.in_ok-next.next c.if-is_empty.round (heap_items c.pop.new.self)) (sym given.2) held;
            ordered = popped.0;
            depth = at.2;
          }
      | inr over ↦
          let held = held_passed c.args.passes c.args.commands.now c.places.rounds.items c.in_ok-arrivals.arrivals.items c.in_ok-next.next c.if-is_empty.round heap' (heap_items c.pop.new.self) w now.held c.in-Some.ensures.permutation over.1 over.2 in
          let same : c.if-is_empty.used ≡ c.if-is_empty.used + c.take.result = omega (arith, over.0) in
          record {
            so_far = subst (λ n. IsPartial c.args.passes c.args.commands.now c.args.rounds.now.items c.take.new.rounds.items c.args.capacity.now c.args.start c.if-is_empty.round n) same
                (subst (λ xs. IsPartial c.args.passes c.args.commands.now c.args.rounds.now.items xs c.args.capacity.now c.args.start c.if-is_empty.round c.if-is_empty.used) (sym over.3) at.0.so_far);
            held = subst (λ xs. IsHeld c.args.passes c.args.commands.now xs c.in_ok-arrivals.arrivals.items c.in_ok-next.next c.if-is_empty.round (heap_items c.pop.new.self)) (sym over.3) held;
            ordered = popped.0;
            depth = at.2;
          }
    ]

pub returns : goal.returns
returns g c =
    left_partial c.args.passes c.args.commands.now c.args.rounds.now.items c.places.rounds.items c.args.capacity.now c.args.start c.places.round c.places.used c.places.invariant.so_far
    (gone_at_end c.args.passes c.args.commands.now c.places.rounds.items c.in_ok-arrivals.arrivals.items c.places.next c.places.round (heap_items c.places.waiting) c.places.invariant.held (omega (arith, c.in_ok-arrivals.arrivals.ok.0))
    (empty_heap (heap_items c.places.waiting) (heap_len c.places.waiting) _ c.is_empty.ensures c.if-not-is_empty.false c.places.waiting.data.ok.0))
    (λ x. (depth_bounds c.args.capacity.now x c.at-depth.ensures.steps).0)
