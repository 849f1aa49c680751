-- Plugs and software queues as the steps leave them.
use Rattle.std.proofs.Common.{arith, ◌≡◌, ◌≢◌, ◌+◌, ◌≤◌, ◌∙◌, ◌++◌, ◌∷◌, ℕ, List, [], Some, length, ap, inl, inr, set, length-append}
use Rattle.std.specs.Prelude.{slice_get, IsPermutation}
use Rattle.std.proofs.lemmas.Bool.{eqb-true}
use Rattle.std.proofs.lemmas.List.{length_push}
use Rattle.std.proofs.lemmas.List.Sorted.{length_permutation}
use Rattle.blk_bio.specs.Bios.{Bio}
use Rattle.blk_queues.specs.Plugs.{Plug}
use Rattle.blk_queues.specs.Queues.{Queue}
use Rattle.blk_sim.specs.Moves.{bios_in}
use Rattle.blk_sim.specs.Simulated.{HaveCome}
use Rattle.blk_sim.proofs.Picking.{set_cases}

-- the bios of the queue and the plug together stay as many
pub counted_more : (n n' m : ℕ) (p p' : Plug) (r : List Bio) → n' ≡ n + length r → p.requests ≡ r ∷ p'.requests → n + length (bios_in p.requests) ≡ m → n' + length (bios_in p'.requests) ≡ m
counted_more n n' m p p' r more first counted =
    let k : length (bios_in p.requests) ≡ length r + length (bios_in p'.requests) = ap (λ l. length (bios_in l)) first ∙ length-append r (bios_in p'.requests) in
    omega (arith, k, more, counted)

-- a software queue that was not full has room for one more request
pub put_room : (q q' : Queue) (r : List Bio) → q' ≡ record q { requests = q.requests ++ r ∷ []; bios_in = q.bios_in + length r } → length q.requests ≢ q.depth → length q.requests ≤ q.depth → length q'.requests ≤ q'.depth
put_room q q' r e ne le =
    let n : length q'.requests ≡ length q.requests + 1 = ap (λ (x : Queue). length x.requests) e ∙ length_push q.requests r in
    let d : q'.depth ≡ q.depth = ap (λ (x : Queue). x.depth) e in
    let other : length q.requests ≢ q.depth = ne in
    omega (arith, n, d, le, other)

-- how many bios the submitters sent
pub come_more : (m n : ℕ) (plugs : List Plug) (queues : List Queue) → m ≤ n → HaveCome m plugs queues → HaveCome n plugs queues
come_more m n plugs queues le h s p q a b = let k : q.bios_in + length (bios_in p.requests) ≤ m = h s p q a b in omega (arith, le, k)

pub come_added : (n : ℕ) (plugs : List Plug) (queues : List Queue) (k : ℕ) (old new : Plug) (b : Bio) → slice_get plugs k ≡ Some old → IsPermutation (b ∷ bios_in old.requests) (bios_in new.requests) → HaveCome n plugs queues → HaveCome (n + 1) (set plugs k new) queues
come_added n plugs queues k old new b at more h s p q here there = elim (set_cases plugs k s new p here) [
  | inl a ↦
      let count : length (bios_in new.requests) ≡ length (b ∷ bios_in old.requests) = length_permutation (b ∷ bios_in old.requests) (bios_in new.requests) more in
      let same : length (bios_in p.requests) ≡ length (bios_in new.requests) = ap (λ (x : Plug). length (bios_in x.requests)) a.1 in
      let was : q.bios_in + length (bios_in old.requests) ≤ n = h s old q (ap (slice_get plugs) (eqb-true s k a.0) ∙ at) there in
      omega (arith, count, same, was)
  | inr a ↦ let was : q.bios_in + length (bios_in p.requests) ≤ n = h s p q a.1 there in omega (arith, was)
]

pub come_flushed : (n : ℕ) (plugs : List Plug) (queues : List Queue) (k : ℕ) (p p' : Plug) (q q' : Queue) → slice_get plugs k ≡ Some p → slice_get queues k ≡ Some q → p'.requests ≡ [] → q'.bios_in ≡ q.bios_in + length (bios_in p.requests) → HaveCome n plugs queues → HaveCome n (set plugs k p') (set queues k q')
come_flushed n plugs queues k p p' q q' at at2 none counted h s x y here there = elim (set_cases plugs k s p' x here) [
  | inl a ↦ elim (set_cases queues k s q' y there) [
    | inl b ↦
        let empty : length (bios_in x.requests) ≡ length (bios_in []) = ap (λ (z : Plug). length (bios_in z.requests)) a.1 ∙ ap (λ l. length (bios_in l)) none in
        let same : y.bios_in ≡ q'.bios_in = ap (λ (z : Queue). z.bios_in) b.1 in
        let was : q.bios_in + length (bios_in p.requests) ≤ n = h k p q at at2 in
        omega (arith, empty, same, counted, was)
    | inr b ↦ absurd (cc (a.0, b.0))
  ]
  | inr a ↦ elim (set_cases queues k s q' y there) [
    | inl b ↦ absurd (cc (a.0, b.0))
    | inr b ↦ h s x y a.1 b.1
  ]
]
