-- The seats of a new layer.
use Rattle.std.proofs.Common.{◌≡◌, ◌∙◌, ◌<◌, ℕ, List, sym, subst, ap, length, slice_index_or, arith}
use Rattle.std.specs.Prelude.{All}
use Rattle.std.proofs.lemmas.List.Elements.{All-map}
use Rattle.std.proofs.lemmas.Option.{get_or_from_slice_get}
use Rattle.blk_layer.specs.Seats.{WorkerSeat, SubmitterSeat, LayerShape, IsNewLayer, new_worker, new_submitter}

-- the workers' tags are the layer's
pub all_workers : (depth : ℕ) (map_in queues : List ℕ) (layer shown : LayerShape) (submitters : List SubmitterSeat) (workers seats : List WorkerSeat) → IsNewLayer depth map_in queues layer submitters workers
    → seats ≡ workers → shown ≡ layer → All (λ w. w.tag_set ≡ shown.tag_set) seats
all_workers depth map_in queues layer shown submitters workers seats h same is =
    subst (All (λ (w : WorkerSeat). w.tag_set ≡ shown.tag_set)) (sym (same ∙ h.each_worker))
    (All-map (λ (w : WorkerSeat). w.tag_set ≡ shown.tag_set) (new_worker layer.tag_set) queues (λ k d less. ap (λ (l : LayerShape). l.tag_set) (sym is)))

-- the submitters' software queues are the layer's
pub all_submitters : (depth : ℕ) (map_in queues : List ℕ) (layer shown : LayerShape) (submitters seats : List SubmitterSeat) (workers : List WorkerSeat) → IsNewLayer depth map_in queues layer submitters workers
    → seats ≡ submitters → shown ≡ layer → All (λ s. s.number < length shown.map) seats
all_submitters depth map_in queues layer shown submitters seats workers h same is k d less =
    let here : k < length submitters = subst (λ (xs : List SubmitterSeat). k < length xs) same less in
    let in_map : k < length map_in = omega (arith, h.submitter_count, here) in
    let found : slice_index_or submitters k d ≡ new_submitter k = get_or_from_slice_get submitters k (new_submitter k) d (h.each_submitter k in_map) in
    let seat : slice_index_or seats k d ≡ new_submitter k = ap (λ (xs : List SubmitterSeat). slice_index_or xs k d) same ∙ found in
    let wide : k < length shown.map = subst (λ (xs : List ℕ). k < length xs) (sym (ap (λ (l : LayerShape). l.map) is ∙ h.map_is)) in_map in
    subst (λ (s : SubmitterSeat). s.number < length shown.map) (sym seat) wide
