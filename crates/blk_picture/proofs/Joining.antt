-- What several traces share.
use Rattle.std.proofs.Common.{◌≡◌, ◌<◌, ◌+◌, ◌++◌, ◌∙◌, ℕ, List, [], ◌∷◌, length, map, get_or, take, refl, sym, ap}
use Rattle.std.specs.Prelude.{max}
use Rattle.std.proofs.lemmas.List.{take_more, map_push}
use Rattle.std.proofs.lemmas.List.Sums.{fold_push}
use Rattle.blk_trace.specs.Traces.{Traced}
use Rattle.blk_trace.specs.Meaning.{greatest}
use Rattle.blk_picture.specs.Pictures.{rounds_shown, most_rounds, most_deep}

greatest_push : (xs : List ℕ) (x : ℕ) → greatest (xs ++ x ∷ []) ≡ max (greatest xs) x
greatest_push xs x = fold_push max 0 xs x

pub rounds_more : (traces : List Traced) (i : ℕ) (t : Traced) → i < length traces → t ≡ get_or traces i t → most_rounds (take (i + 1) traces) ≡ max (most_rounds (take i traces)) (rounds_shown t)
unfolding most_rounds
rounds_more traces i t l is =
    ap (λ xs. greatest (map rounds_shown xs)) (take_more traces i t l ∙ ap (λ x. take i traces ++ x ∷ []) (sym is))
    ∙ ap greatest (map_push rounds_shown (take i traces) t)
    ∙ greatest_push (map rounds_shown (take i traces)) (rounds_shown t)

pub deep_more : (traces : List Traced) (i : ℕ) (t : Traced) → i < length traces → t ≡ get_or traces i t → most_deep (take (i + 1) traces) ≡ max (most_deep (take i traces)) t.setup.depth
unfolding most_deep
deep_more traces i t l is =
    ap (λ xs. greatest (map (λ (x : Traced). x.setup.depth) xs)) (take_more traces i t l ∙ ap (λ x. take i traces ++ x ∷ []) (sym is))
    ∙ ap greatest (map_push (λ (x : Traced). x.setup.depth) (take i traces) t)
    ∙ greatest_push (map (λ (x : Traced). x.setup.depth) (take i traces)) t.setup.depth

pub none_most : (traces : List Traced) → 0 ≡ most_rounds (take 0 traces)
unfolding most_rounds
none_most traces = refl

pub none_deep : (traces : List Traced) → 0 ≡ most_deep (take 0 traces)
unfolding most_deep
none_deep traces = refl
