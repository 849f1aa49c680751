-- What is left of a queue that gave or took a request.
use Rattle.std.proofs.Common.{◌≡◌, ℕ, ◌+◌, ◌-◌, ◌≤◌, ◌<◌, ◌^◌, List, [], ◌∷◌, ◌++◌, length, drop, Some, slice_get, sum_by, arith, ap, subst, sym, ◌∙◌, length-append}
use Rattle.std.specs.Prelude.{All}
use Rattle.std.proofs.lemmas.List.Elements.{All-drop, All-push}
use Rattle.std.proofs.lemmas.List.Sums.{sum_by-cons, sum_by_push}
use Rattle.circular_buffer.specs.Buffer.{keep_last}
use Rattle.blk_bio.specs.Bios.{Bio}
use Rattle.blk_bio.specs.Requests.{IsWithin}
use Rattle.blk_queues.specs.Queues.{Queue, IsQueue}
use Rattle.blk_bio.specs.declared.limits.TheConstants.{MAX_SOFT_DEPTH}

-- a list is its first element and the others
pub front_is : {X : Type 0} → (xs : List X) (x : X) → Some x ≡ slice_get xs 0 → xs ≡ x ∷ drop 1 xs
front_is [] x h = cc
front_is (y ∷ ys) x h = cc

-- one more element than fewer than n is kept by the last n
pub keep_all : {X : Type 0} → (xs : List X) (x : X) (n : ℕ) → length xs < n → keep_last n (xs ++ x ∷ []) ≡ xs ++ x ∷ []
keep_all xs x n room =
    let none : length (xs ++ x ∷ []) - n ≡ 0 = omega (arith, length-append xs (x ∷ [])) in
    ap (λ k. drop k (xs ++ x ∷ [])) none

-- the first request is taken out, and its bios are counted out
pub taken_kept : (queue : Queue) (first bios : List Bio) (requests : List (List Bio)) (depth : ℕ) → IsQueue queue → Some first ≡ slice_get queue.requests 0 → requests ≡ drop 1 queue.requests → depth ≡ queue.depth → bios ≡ first → IsQueue record { depth = depth; limits = queue.limits; requests = requests; bios_in = queue.bios_in; bios_out = queue.bios_out + length bios }
taken_kept queue first bios requests depth is found rest same count =
    let whole : queue.requests ≡ first ∷ requests = front_is queue.requests first found ∙ ap (λ r. first ∷ r) (sym rest) in
    let sums : sum_by length queue.requests ≡ length first + sum_by length requests = ap (sum_by length) whole ∙ sum_by-cons length first requests in
    let lengths : length queue.requests ≡ length (first ∷ requests) = ap length whole in
    let one : length bios ≡ length first = ap length count in
    record {
      some_depth = subst (λ n. 1 ≤ n) (sym same) is.some_depth;
      few_depth = subst (λ n. n ≤ MAX_SOFT_DEPTH) (sym same) is.few_depth;
      room = omega (arith, is.room);
      within = subst (All (IsWithin queue.limits)) (sym rest) (All-drop (IsWithin queue.limits) 1 queue.requests is.within);
      held = omega (arith, is.held);
      few_bios = is.few_bios;
    }

-- a request is put at the back, and its bios are counted in
pub put_kept : (queue : Queue) (request bios : List Bio) (requests : List (List Bio)) (depth : ℕ) → IsQueue queue → IsWithin queue.limits request → length queue.requests < queue.depth → queue.bios_in + length bios ≤ 2 ^ 40 → requests ≡ queue.requests ++ request ∷ [] → depth ≡ queue.depth → bios ≡ request → IsQueue record { depth = depth; limits = queue.limits; requests = requests; bios_in = queue.bios_in + length bios; bios_out = queue.bios_out }
put_kept queue request bios requests depth is within room few added same count =
    let sums : sum_by length requests ≡ sum_by length queue.requests + length request = ap (sum_by length) added ∙ sum_by_push length queue.requests request in
    let lengths : length requests ≡ length queue.requests + 1 = ap length added ∙ length-append queue.requests (request ∷ []) in
    let one : length bios ≡ length request = ap length count in
    record {
      some_depth = subst (λ n. 1 ≤ n) (sym same) is.some_depth;
      few_depth = subst (λ n. n ≤ MAX_SOFT_DEPTH) (sym same) is.few_depth;
      room = omega arith;
      within = subst (All (IsWithin queue.limits)) (sym added) (All-push (IsWithin queue.limits) queue.requests request is.within within);
      held = omega (arith, is.held);
      few_bios = few;
    }
