-- Lists that are checked off.
use Rattle.std.proofs.Common.{◌≡◌, ◌∙◌, ◌+◌, ◌<◌, ℕ, zero, suc, sym, ap, subst, arith, List, [], ◌∷◌, ◌++◌, length, take, drop, get_or, set, IsPermutation, append_assoc}
use Rattle.std.proofs.lemmas.List.{take_more, take_all, take-append-le, append-nil}
use Rattle.std.proofs.lemmas.Grind.{flat_map-append}
use Rattle.std.proofs.lemmas.List.Sorted.{IsPermutation-refl, IsPermutation-trans, IsPermutation-append_right, IsPermutation-middle}
use Rattle.blk_layer.specs.Inside.Closing.{all_left}

-- one of the lists without its first element
pub one_off : {X : Type 0} (lists : List (List X)) (k : ℕ) (own rest : List X) (x : X) → k < length lists → get_or lists k own ≡ x ∷ rest → IsPermutation (all_left lists) (x ∷ all_left (set lists k rest))
one_off [] k own rest x low at = absurd (omega (arith, low))
one_off (l ∷ ls) zero own rest x low at = subst (λ y. IsPermutation (y ++ all_left ls) (x ∷ (rest ++ all_left ls))) (sym at) (IsPermutation-refl (x ∷ (rest ++ all_left ls)))
one_off (l ∷ ls) (suc k) own rest x low at =
    let others : List _ = all_left (set ls k rest) in
    IsPermutation-trans (l ++ all_left ls) (l ++ x ∷ others) (x ∷ (l ++ others)) (IsPermutation-append_right l (all_left ls) (x ∷ others) (one_off ls k own rest x (omega (arith, low)) at)) (IsPermutation-middle l x others)

-- one more element is checked off, and one more of the list
pub off_next : {X : Type 0} (all before left rest : List X) (x : X) → IsPermutation all (before ++ left) → IsPermutation left (x ∷ rest) → IsPermutation all ((before ++ x ∷ []) ++ rest)
off_next all before left rest x were off =
    subst (IsPermutation all) (sym (append_assoc before (x ∷ []) rest)) (IsPermutation-trans all (before ++ left) (before ++ x ∷ rest) were (IsPermutation-append_right before left (x ∷ rest) off))

pub off_more : {X : Type 0} (all list left rest : List X) (i : ℕ) (x : X) → i < length list → x ≡ get_or list i x → IsPermutation all (take i list ++ left) → IsPermutation left (x ∷ rest) → IsPermutation all (take (i + 1) list ++ rest)
off_more all list left rest i x low is before off =
    let more : take (i + 1) list ≡ take i list ++ x ∷ [] = take_more list i x low ∙ ap (λ y. take i list ++ y ∷ []) (sym is) in
    subst (λ l. IsPermutation all (l ++ rest)) (sym more) (off_next all (take i list) left rest x before off)

-- one more list of which nothing is left
pub over_more : {X : Type 0} (lists : List (List X)) (i : ℕ) (own : List X) → i < length lists → own ≡ get_or lists i own → own ≡ [] → all_left (take i lists) ≡ [] → all_left (take (i + 1) lists) ≡ []
over_more lists i own low is none before =
    ap all_left (take_more lists i own low ∙ ap (λ y. take i lists ++ y ∷ []) (sym is)) ∙ flat_map-append (λ l. l) (take i lists) (own ∷ [])
    ∙ ap (λ l. l ++ (own ++ [])) before ∙ append-nil own ∙ none

-- what a borrowed slice leaves of its list
pub put_back : {X : Type 0} (new old : List X) (n : ℕ) → n ≡ length old → length new ≡ length old → take n (new ++ drop (length new) old) ≡ new
put_back new old n all same = take-append-le n new (drop (length new) old) (omega (arith, all, same)) ∙ take_all n new (omega (arith, all, same))

-- the elements of lists, with one list more
pub lists_more : {X : Type 0} (lists : List (List X)) (own : List X) → all_left (lists ++ own ∷ []) ≡ all_left lists ++ own
lists_more lists own = flat_map-append (λ l. l) lists (own ∷ []) ∙ ap (λ l. all_left lists ++ l) (append-nil own)
