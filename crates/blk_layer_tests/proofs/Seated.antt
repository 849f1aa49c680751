-- The seats of a new layer.
use Rattle.std.proofs.Common.{◌≡◌, ◌∙◌, ◌<◌, ℕ, List, All, map, refl, sym, ap, subst, length, slice_index_or, arith}
use Rattle.std.proofs.lemmas.List.Elements.{All-map}
use Rattle.std.proofs.lemmas.Option.{get_or_from_slice_get}
use Rattle.blk_layer.specs.Closing.{AreBack}
use Rattle.blk_layer.specs.Seats.{WorkerSeat, SubmitterSeat, LayerShape, IsNewLayer, new_worker, new_submitter}

-- the workers' tags are the layer's
pub all_of : (layer : LayerShape) (queues : List ℕ) (workers : List WorkerSeat) → workers ≡ map (new_worker layer.tag_set) queues → All (λ w. w.tag_set ≡ layer.tag_set) workers
all_of layer queues workers e = subst (All (λ (w : WorkerSeat). w.tag_set ≡ layer.tag_set)) (sym e) (All-map (λ (w : WorkerSeat). w.tag_set ≡ layer.tag_set) (new_worker layer.tag_set) queues (λ k d less. refl))

-- the submitters' software queues are the layer's
pub all_numbers : (depth : ℕ) (map_in queues : List ℕ) (layer : LayerShape) (submitters : List SubmitterSeat) (workers : List WorkerSeat) → IsNewLayer depth map_in queues layer submitters workers
    → All (λ s. s.number < length layer.map) submitters
all_numbers depth map_in queues layer submitters workers h k d less =
    let in_map : k < length map_in = omega (arith, h.submitter_count, less) in
    let found : slice_index_or submitters k d ≡ new_submitter k = get_or_from_slice_get submitters k (new_submitter k) d (h.each_submitter k in_map) in
    let wide : k < length layer.map = subst (λ (xs : List ℕ). k < length xs) (sym h.map_is) in_map in
    subst (λ (s : SubmitterSeat). s.number < length layer.map) (sym found) wide

-- the same of slices of them
pub submitters_in : (depth : ℕ) (map_in queues : List ℕ) (layer : LayerShape) (submitters seats : List SubmitterSeat) (workers : List WorkerSeat) → IsNewLayer depth map_in queues layer submitters workers
    → seats ≡ submitters → All (λ s. s.number < length layer.map) seats
submitters_in depth map_in queues layer submitters seats workers h same =
    subst (All (λ (s : SubmitterSeat). s.number < length layer.map)) (sym same) (all_numbers depth map_in queues layer submitters workers h)

pub workers_in : (depth : ℕ) (map_in queues : List ℕ) (layer : LayerShape) (submitters : List SubmitterSeat) (workers seats : List WorkerSeat) → IsNewLayer depth map_in queues layer submitters workers
    → seats ≡ workers → All (λ w. w.tag_set ≡ layer.tag_set) seats
workers_in depth map_in queues layer submitters workers seats h same = all_of layer queues seats (same ∙ h.each_worker)

-- the workers that come back from two closes that were refused, with the layer of the second
pub workers_back : {F G : Type 0} (layer back again : LayerShape) (queues : List ℕ) (workers seats : List WorkerSeat) (given first second : List SubmitterSeat) (few left : List WorkerSeat)
    → workers ≡ map (new_worker layer.tag_set) queues → F × AreBack layer given few back first left → G × AreBack back first workers again second seats → All (λ w. w.tag_set ≡ again.tag_set) seats
workers_back layer back again queues workers seats given first second few left made once twice =
    subst (λ (l : LayerShape). All (λ (w : WorkerSeat). w.tag_set ≡ l.tag_set) seats) (sym (twice.1.same_layer ∙ once.1.same_layer)) (all_of layer queues seats (twice.1.same_workers ∙ made))
