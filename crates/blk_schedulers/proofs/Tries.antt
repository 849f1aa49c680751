-- Schedulers that are listed, name by name.
use Rattle.std.proofs.Common.{◌≡◌, ◌∙◌, ◌∷◌, ◌+◌, ◌++◌, ◌<◌, [], drop, get_or, ℕ, List, Option, Some, length, sym, ap, arith}
use Rattle.std.proofs.lemmas.List.{at_drop_all, at_drop_more}
use Rattle.std.specs.Prelude.{Bool, fold, option_and_then}
use Rattle.std.specs.List.{range_with_len}
use Rattle.std.proofs.lemmas.List.{map-id}
use Rattle.std.proofs.lemmas.List.Sums.{fold-append}
use Rattle.std.proofs.lemmas.List.FromFn.{map-range_with_len_more}
use Rattle.blk_schedulers.specs.Lists.{with_name, with_names}

-- schedulers of names that come
pub takes_name : (t : List Bool) (texts : List (List ℕ)) (k : ℕ) (text : List ℕ) (o : Option (List Bool)) → (k < length texts) × (text ≡ get_or texts k text) → o ≡ with_name t text
    → with_names t (drop k texts) ≡ option_and_then (λ s. with_names s (drop (k + 1) texts)) o
takes_name t texts k text o h e =
    at_drop_more (with_names t) texts k text h.0 ∙ ap (λ (x : List ℕ). with_names t (x ∷ drop (k + 1) texts)) (sym h.1) ∙ ap (option_and_then (λ s. with_names s (drop (k + 1) texts))) (sym e)

pub all_named : (t : List Bool) (texts : List (List ℕ)) (k : ℕ) → k ≡ length texts → with_names t (drop k texts) ≡ Some t
all_named t texts k e = at_drop_all (with_names t) texts k (omega (arith, e))

-- a fold over one place more
pub fold_places : {B : Type 0} (f : B → ℕ → B) (a : B) (n : ℕ) → fold f a (range_with_len 0 (n + 1)) ≡ f (fold f a (range_with_len 0 n)) n
fold_places f a n =
    let more : range_with_len 0 (n + 1) ≡ range_with_len 0 n ++ n ∷ [] = sym (map-id (range_with_len 0 (n + 1))) ∙ map-range_with_len_more (λ x. x) 0 n n (omega arith) ∙ ap (λ xs. xs ++ n ∷ []) (map-id (range_with_len 0 n)) in
    ap (fold f a) more ∙ fold-append f a (range_with_len 0 n) (n ∷ [])
