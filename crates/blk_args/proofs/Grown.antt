-- A command that grows by each item of a list.
use Rattle.std.proofs.Common.{◌≡◌, ◌∙◌, ◌<◌, ◌+◌, ℕ, List, [], ◌∷◌, ap, sym, get_or, length, map, take}
use Rattle.std.proofs.lemmas.List.{flat_map_more, map_more, take_more}
use Rattle.std.proofs.lemmas.List.Sums.{fold-append}
use Rattle.std.specs.List.{flat_map}
use Rattle.std.specs.Prelude.{fold}

-- by one step for an item, and by the steps of its part
pub one_more : {A B X : Type 0} (f : B → A → B) (g : X → A) (a b c : B) (xs : List X) (i : ℕ) (d : X) → i < length xs → b ≡ fold f a (map g (take i xs)) → c ≡ f b (g (get_or xs i d)) → c ≡ fold f a (map g (take (i + 1) xs))
one_more f g a b c xs i d lt was is =
    is ∙ ap (λ y. f y (g (get_or xs i d))) was ∙ sym (ap (fold f a) (map_more g xs i d lt) ∙ fold-append f a (map g (take i xs)) (g (get_or xs i d) ∷ []))

pub part_more : {A B X : Type 0} (f : B → A → B) (h : X → List A) (a b c : B) (xs : List X) (i : ℕ) (d : X) → i < length xs → b ≡ fold f a (flat_map h (take i xs)) → c ≡ fold f b (h (get_or xs i d))
    → c ≡ fold f a (flat_map h (take (i + 1) xs))
part_more f h a b c xs i d lt was is =
    is ∙ ap (λ y. fold f y (h (get_or xs i d))) was ∙ sym (fold-append f a (flat_map h (take i xs)) (h (get_or xs i d)))
    ∙ ap (fold f a) (flat_map_more h [] (take i xs) (get_or xs i d) ∙ ap (flat_map h) (sym (take_more xs i d lt)))
