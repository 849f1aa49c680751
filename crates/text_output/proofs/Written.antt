-- What a writer took of a text.
use Rattle.std.proofs.Common.{◌≡◌, ◌∙◌, ◌<◌, ◌+◌, ◌==◌, false, Bor, flat_map, get_or, ℕ, List, [], ◌∷◌, ◌++◌, length, take, drop, sym, ap, subst, arith, append_assoc, append-nil, take-append-drop, Option}
use Rattle.std.proofs.Math.Seq.{take-append_seam}
use Rattle.std.proofs.lemmas.List.{length-append, length-drop, drop_more}
use Rattle.std.proofs.lemmas.List.Concat.{flat_map-append}
use Rattle.std.proofs.KnownBytes.{Appends-trans}
use Rattle.std.specs.Io.KnownBytes.{Appends}
use Rattle.text_output.specs.Parts.{AppendsLess}

-- the rest is what comes first of it and what is left then
pub split_at : (all done rest : List ℕ) (n : ℕ) → all ≡ done ++ rest → all ≡ (done ++ take n rest) ++ drop n rest
split_at all done rest n e = e ∙ ap (λ l. done ++ l) (sym (take-append-drop n rest)) ∙ sym (append_assoc done (take n rest) (drop n rest))

-- a list that is not empty has something
pub some_left : (rest : List ℕ) → (length rest == 0) ≡ false → 0 < length rest
some_left [] e = absurd (cc e)
some_left (x ∷ rest) e = omega arith

-- what was taken is a first part, and something is left
pub less_taken : (a b : Option (List ℕ)) (all done rest : List ℕ) → all ≡ done ++ rest → 0 < length rest → Appends a b done → AppendsLess a b all
less_taken a b all done rest e more p =
    (length done, omega (arith, ap length e, length-append done rest, more), subst (Appends a b) (sym (ap (take (length done)) e ∙ take-append_seam done rest)) p)

-- nothing of what was left was taken
pub none_more : (a b c : Option (List ℕ)) (done rest : List ℕ) (n : ℕ) → n ≡ 0 → Appends a b done → Appends b c (take n rest) → Appends a c done
none_more a b c done rest n none p q = subst (Appends a c) (append-nil done) (Appends-trans a b c done [] p (subst (λ k. Appends b c (take k rest)) none q))

-- the parts before were taken, and a first part of this one that is not the whole
pub cut_after : (a b c : Option (List ℕ)) (all done piece rest : List ℕ) → all ≡ done ++ (piece ++ rest) → Appends a b done → AppendsLess b c piece → AppendsLess a c all
cut_after a b c all done piece rest e p (n, less, q) =
    let some : 0 < length (drop n piece ++ rest) = omega (arith, length-append (drop n piece) rest, length-drop n piece, less) in
    let parted : piece ++ rest ≡ take n piece ++ (drop n piece ++ rest) = ap (λ l. l ++ rest) (sym (take-append-drop n piece)) ∙ append_assoc (take n piece) (drop n piece) rest in
    let split : all ≡ (done ++ take n piece) ++ (drop n piece ++ rest) = e ∙ ap (λ l. done ++ l) parted ∙ sym (append_assoc done (take n piece) (drop n piece ++ rest)) in
    less_taken a c all (done ++ take n piece) (drop n piece ++ rest) split some (Appends-trans a b c done (take n piece) p q)

-- what the parts of a text are, the one at a place in their midst
pub parts_at : (parts : List (Bor (List ℕ))) (i : ℕ) (d : Bor (List ℕ)) → i < length parts
    → flat_map (λ part. part.now) parts ≡ flat_map (λ part. part.now) (take i parts) ++ ((get_or parts i d).now ++ flat_map (λ part. part.now) (drop (i + 1) parts))
parts_at parts i d h =
    let whole : parts ≡ take i parts ++ get_or parts i d ∷ drop (i + 1) parts = sym (take-append-drop i parts) ∙ ap (λ rest. take i parts ++ rest) (drop_more parts i d h) in
    ap (λ (all : List (Bor (List ℕ))). flat_map (λ part. part.now) all) whole ∙ flat_map-append (λ (part : Bor (List ℕ)). part.now) (take i parts) (get_or parts i d ∷ drop (i + 1) parts)
