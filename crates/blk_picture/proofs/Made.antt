-- Lists of what is made of numbers.
use Rattle.std.proofs.Common.{◌≡◌, ◌<◌, ◌+◌, ◌++◌, ◌∙◌, ℕ, zero, suc, List, [], ◌∷◌, refl, ap, arith}
use Rattle.blk_picture.specs.Made.{made}

pub made_none : {X : Type 0} (f : ℕ → X) (items : List X) → items ≡ [] → items ≡ made f 0
unfolding made
made_none f items h = h

pub made_push : {X : Type 0} (f : ℕ → X) (n : ℕ) (items new : List X) (x : X) → items ≡ made f n → new ≡ items ++ x ∷ [] → x ≡ f n → new ≡ made f (n + 1)
unfolding made
made_push f n items new x h e is =
    let on : suc n ≡ n + 1 = omega arith in
    e ∙ ap (λ l. l ++ x ∷ []) h ∙ ap (λ y. made f n ++ y ∷ []) is ∙ ap (made f) on

pub made_same : {X : Type 0} (f g : ℕ → X) (n : ℕ) → ((k : ℕ) → k < n → f k ≡ g k) → made f n ≡ made g n
unfolding made
made_same f g zero h = refl
made_same f g (suc n) h =
    ap (λ l. l ++ f n ∷ []) (made_same f g n (λ k l. h k (omega arith))) ∙ ap (λ x. made g n ++ x ∷ []) (h n (omega arith))
