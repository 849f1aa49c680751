-- The queues of a load: a map that serves each hardware queue, and a layer that can be made.
use Rattle.std.proofs.Common.{ℕ, ◌≡◌, ◌∙◌, ◌<◌, ◌≤◌, ◌%◌, ◌≢◌, sym, ap, refl, subst, arith, inl, inr, List, Option, Some, length, min, slice_index_or}
use native.Mathlib.Nat as nat
use Rattle.std.specs.Prelude.{All, slice_get}
use Rattle.std.proofs.Math.Nat.{min-le_left}
use Rattle.std.proofs.lemmas.Nat.{mod_below}
use Rattle.std.proofs.lemmas.Option.{slice_get_within, get_or_from_slice_get}
use Rattle.blk_queues.specs.Maps.{IsHwCount, IsMapFault}
use Rattle.blk_queues.specs.declared.hardware.MapFault.{MapFault}
use Rattle.blk_queues.specs.declared.hardware.MapFault.TheVariants.{Empty, TooMany, Unserved}
use Rattle.blk_layer.specs.Seats.{CanMake, IsLayerFault}
use Rattle.blk_layer.specs.declared.layer.LayerFault.{LayerFault}
use Rattle.blk_layer.specs.declared.layer.LayerFault.TheVariants as layer
use Rattle.blk_schedulers.specs.Numbers.{IsLoad}
use Rattle.blk_schedulers.specs.declared.numbers.Load.{Load}
use Rattle.blk_load.specs.Inside.Loads.{AreInTurn}
use Rattle.blk_load.specs.Inside.Faults.{load_told}
use Rattle.blk_load.specs.declared.fault.LoadFault.{LoadFault}
use Rattle.blk_load.specs.declared.fault.LoadFault.TheVariants as fault
use Rattle.blk_layer.specs.declared.closing.CloseFault.TheVariants as close
use Rattle.blk_layer.specs.declared.serving.WorkFault.TheVariants as work
use Rattle.blk_layer.specs.declared.submitting.FlushReason.TheVariants as flush
use Rattle.edd_commands.specs.declared.faults.Told.{Told}
use Rattle.blk_schedulers.specs.Faults.{IsLoadFault, load_faults}

-- the queues in turn name just the numbers below
pub counts : (count below : ℕ) (all : List ℕ) → AreInTurn count below all → 1 ≤ below → below ≤ count → IsHwCount all below
counts count below all t some few hw = (
  λ h.
      let low : h.0 < count = omega (arith, h.1, t.as_many) in
      let at : slice_index_or all h.0 hw ≡ h.0 % below = get_or_from_slice_get all h.0 (h.0 % below) hw (t.each h.0 low) in
      omega (arith, h.2, at, mod_below h.0 below some),
  λ low.
      let here : hw < count = omega (arith, low, few) in
      (hw, omega (arith, here, t.as_many), get_or_from_slice_get all hw hw hw (t.each hw here ∙ ap Some (nat.mod-eq_of_lt low))),
)

pub no_map_fault : (count below : ℕ) (all : List ℕ) → AreInTurn count below all → All (λ n. n < below) all → 1 ≤ below → below ≤ count → below ≤ 16 → count ≤ 64 → (f : MapFault) → IsMapFault all f → ⊥
no_map_fault count below all t within some few low most Empty b = omega (arith, ap length b, t.as_many, some, few)
no_map_fault count below all t within some few low most TooMany b = elim b.1 [
  | inl x ↦ omega (arith, x, t.as_many, most)
  | inr any ↦ omega (arith, within any.0 any.1 any.2, any.3, any.4, low)
]
no_map_fault count below all t within some few low most (Unserved hw) b =
    let any = b.1.1.below in
    b.1.1.unserved ((counts count below all t some few hw).1 (omega (arith, within any.0 any.1 any.2, any.3, any.4)))

-- over such a map, and workers for the queues in turn, a layer can be made
pub can_make : (l : Load) (map queues : List ℕ) → IsLoad l → IsHwCount map (min l.submitters l.workers) → AreInTurn l.workers (min l.submitters l.workers) queues
    → All (λ n. n < min l.submitters l.workers) queues → CanMake (min l.submitters l.workers) map 64 queues
can_make l map queues is count t within = record {
  named = count;
  some_depth = omega arith;
  few_depth = omega arith;
  some_workers = omega (arith, t.as_many, is.some_workers);
  few_workers = omega (arith, t.as_many, is.few_workers);
  in_range = within;
}

-- for as many hardware queues as the fewer of both
pub can_make_of : (l : Load) (hw below : ℕ) (map queues : List ℕ) → hw ≡ min l.submitters l.workers → below ≡ min l.submitters l.workers → IsLoad l → IsHwCount map (min l.submitters l.workers)
    → AreInTurn l.workers below queues → All (λ n. n < below) queues → CanMake hw map 64 queues
can_make_of l hw below map queues e f is count t within =
    let turn : AreInTurn l.workers (min l.submitters l.workers) queues = subst (λ (b : ℕ). AreInTurn l.workers b queues) f t in
    let low : All (λ n. n < min l.submitters l.workers) queues = subst (λ (b : ℕ). All (λ n. n < b) queues) f within in
    subst (λ (h : ℕ). CanMake h map 64 queues) (sym e) (can_make l map queues is count turn low)

-- the fewer are no more than the submitters
pub few_below : (below a b : ℕ) → below ≡ min a b → below ≤ a
few_below below a b e = omega (arith, e, min-le_left a b)

-- the map over queues in turn names just the numbers below
pub map_counts : (count below fewer : ℕ) (all m : List ℕ) → AreInTurn count below all → 1 ≤ below → below ≤ count → below ≡ fewer → m ≡ all → IsHwCount m fewer
map_counts count below fewer all m t some few e is =
    subst (λ (n : ℕ). IsHwCount m n) e (subst (λ (x : List ℕ). IsHwCount x below) (sym is) (counts count below all t some few))

pub no_layer_fault : (hw : ℕ) (map : List ℕ) (depth : ℕ) (queues : List ℕ) (f : LayerFault) → CanMake hw map depth queues → IsLayerFault hw map depth queues f → f ≡ layer.Memory
no_layer_fault hw map depth queues layer.Queues can b = absurd (b can.named)
no_layer_fault hw map depth queues layer.SoftDepth can b = absurd (elim b.1 [ inl x ↦ omega (arith, x, can.some_depth) | inr x ↦ omega (arith, x, can.few_depth) ])
no_layer_fault hw map depth queues layer.Workers can b = absurd (elim b.1.1 [ inl x ↦ omega (arith, x, can.some_workers) | inr x ↦ omega (arith, x, can.few_workers) ])
no_layer_fault hw map depth queues (layer.WorkerQueue w) can b =
    let o = b.1.1.1 in
    let within : slice_index_or queues w o.queue < hw = can.in_range w o.queue (slice_get_within queues w o.queue o.stands) in
    let at : slice_index_or queues w o.queue ≡ o.queue = get_or_from_slice_get queues w o.queue o.queue o.stands in
    absurd (omega (arith, within, at, o.outside))
no_layer_fault hw map depth queues layer.Memory can b = refl

-- what is told of a load is one of what may be
listed : (f : LoadFault) → (place : ℕ) × (slice_get load_faults place ≡ Some (load_told f))
listed fault.Memory = (0, refl)
listed (fault.Work work.TraceFull) = (1, refl)
listed (fault.Work work.Memory) = (0, refl)
listed (fault.Work (work.Repeated id)) = (2, refl)
listed (fault.Flush (flush.Foreign id)) = (7, refl)
listed (fault.Flush (flush.Repeated id)) = (2, refl)
listed (fault.Flush flush.SoftFull) = (8, refl)
listed (fault.Flush flush.Memory) = (0, refl)
listed fault.Stalled = (3, refl)
listed (fault.Close close.SeatMissing) = (4, refl)
listed (fault.Close close.Memory) = (0, refl)
listed fault.Differs = (5, refl)
listed fault.Unserved = (6, refl)

pub is_told : (f : LoadFault) (t : Told) → t.name.now ≡ (load_told f).0 → t.beside ≡ (load_told f).1 → IsLoadFault t
is_told f t name beside = let one = listed f in (one.0, one.1 ∙ ap Some (rw (name, beside) refl))
