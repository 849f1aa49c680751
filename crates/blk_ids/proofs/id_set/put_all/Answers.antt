use Rattle.std.proofs.Common.{◌≡◌, ◌||◌, ◌∙◌, ℕ, zero, suc, Bool, true, false, List, [], ◌∷◌, take, ap, refl}
use Rattle.std.specs.List.{list_any}
use Rattle.blk_ids.specs.IdSet.{in_lists, is_pair}
use Rattle.blk_ids.proofs.id_set.put_all.Goals as goal

nothing_more : (b c : Bool) → (b || false) || c ≡ b || c
nothing_more true c = refl
nothing_more false c = refl

-- some of the first ids are some of them all
some_first : {X : Type 0} (p : X → Bool) (i : ℕ) (xs : List X) (b : Bool) → (b || list_any p (take i xs)) || list_any p xs ≡ b || list_any p xs
some_first p zero xs b = nothing_more b (list_any p xs)
some_first p (suc i) [] b = nothing_more b false
some_first p (suc i) (x ∷ xs) true = refl
some_first p (suc i) (x ∷ xs) false = elim (p x) as (λ c. (c || list_any p (take i xs)) || (c || list_any p xs) ≡ c || list_any p xs) [
  | true ↦ refl
  | false ↦ some_first p i xs false
]

pub returns-in_err-put-clause-same : goal.returns-in_err-put-clause-same
returns-in_err-put-clause-same g c = λ s n.
    let late : List (ℕ × ℕ) = c.args.late.now in
    ap (λ b. b || list_any (λ p. is_pair p s n) late) (c.in_err-put.ensures.same s n ∙ c.loop-id.invariant s n)
    ∙ some_first (λ p. is_pair p s n) c.loop-id.id-index late (in_lists c.args.lists.now.items s n)
