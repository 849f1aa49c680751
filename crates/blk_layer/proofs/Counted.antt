-- How many hardware queues a map names.
use Rattle.std.proofs.Common.{◌≡◌, ◌<◌, ℕ, List, arith, subst}
use Rattle.blk_queues.specs.Maps.{IsHwCount}
use Rattle.blk_layer.specs.declared.layer.LayerFault.{LayerFault}
use Rattle.blk_layer.specs.Seats.{CanMake, IsLayerFault}

-- a map has one such number
pub one_count : (map : List ℕ) (m n : ℕ) → IsHwCount map m → IsHwCount map n → m ≡ n
one_count map m n p q =
    let below : m < n → ⊥ = λ less. omega (arith, (p m).0 ((q m).1 less)) in
    let above : n < m → ⊥ = λ less. omega (arith, (q n).0 ((p n).1 less)) in
    omega (arith, below, above)

-- the same fault of equal numbers
pub fault_same : (hw other : ℕ) (map : List ℕ) (depth : ℕ) (queues more : List ℕ) (why : LayerFault) → hw ≡ other → queues ≡ more → IsLayerFault hw map depth queues why → IsLayerFault other map depth more why
fault_same hw other map depth queues more why e f is = subst (λ h. IsLayerFault h map depth more why) e (subst (λ q. IsLayerFault hw map depth q why) f is)

pub can_same : (hw other : ℕ) (map : List ℕ) (depth : ℕ) (queues more : List ℕ) → hw ≡ other → queues ≡ more → CanMake hw map depth queues → CanMake other map depth more
can_same hw other map depth queues more e f can = subst (λ h. CanMake h map depth more) e (subst (λ q. CanMake hw map depth q) f can)
