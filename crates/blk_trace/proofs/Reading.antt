-- Traces made of whole lists.
use Rattle.std.proofs.Common.{◌≡◌, ◌++◌, ℕ, zero, suc, List, [], ◌∷◌, length, take, refl, sym, ◌∙◌, ap, subst, arith, append_assoc, append-nil, Some}
use Rattle.std.specs.Prelude.{slice_get}
use Rattle.std.proofs.lemmas.List.{take-append-le, take_all}
use Rattle.blk_trace.specs.Happened.{Happened}
use Rattle.blk_bio.specs.declared.rule.TraceRule.{TraceRule}
use Rattle.blk_trace.specs.Setups.{Setup}
use Rattle.blk_trace.specs.Legal.{IsLegalTrace}
use Rattle.blk_trace.specs.Rules.{IsFirstBroken}
use Rattle.blk_trace.proofs.Pushing.{shorter_legal, obeys}
use Rattle.blk_trace.proofs.Ids.{unsnoc}

-- the first part of a legal list is legal
pub prefix_legal : (setup : Setup) (n : ℕ) (xs ys : List Happened) → length ys ≡ n → IsLegalTrace setup (xs ++ ys) → IsLegalTrace setup xs
prefix_legal setup zero xs [] h new = rw append-nil at new
prefix_legal setup zero xs (y ∷ ys) h new = absurd (omega arith)
prefix_legal setup (suc n) xs ys h new =
    let u = unsnoc ys n h in
    let split : xs ++ ys ≡ (xs ++ u.0) ++ u.1.0 ∷ [] = ap (λ l. xs ++ l) u.1.1 ∙ sym (append_assoc xs u.0 (u.1.0 ∷ [])) in
    let P : List Happened → Type 0 = λ l. IsLegalTrace setup l in
    prefix_legal setup n xs u.0 u.1.2 (shorter_legal setup (xs ++ u.0) u.1.0 (subst P split new))

at_length : {X : Type 0} (xs : List X) (y : X) (ys : List X) → slice_get (xs ++ y ∷ ys) (length xs) ≡ Some y
at_length [] y ys = refl
at_length (x ∷ xs) y ys = at_length xs y ys

-- what the first refused event of a list says of it
pub refused_at : (setup own : Setup) (all known read rest : List Happened) (e : Happened) (n : ℕ) (rule : TraceRule)
    → own ≡ setup → known ≡ read → IsLegalTrace setup read → all ≡ read ++ e ∷ rest → n ≡ length known → IsFirstBroken own known e rule
    → IsLegalTrace setup (take n all) × ((x : Happened) × (slice_get all n ≡ Some x) × IsFirstBroken setup (take n all) x rule)
refused_at setup own all known read rest e n rule hs hk legal ha hn broken =
    let count : n ≡ length read = hn ∙ ap length hk in
    let front : take n all ≡ read = ap (λ l. take n l) ha ∙ take-append-le n read (e ∷ rest) (omega arith) ∙ take_all n read (omega arith) in
    let found : slice_get all n ≡ Some e = ap (λ l. slice_get l n) ha ∙ ap (λ k. slice_get (read ++ e ∷ rest) k) count ∙ at_length read e rest in
    let P : List Happened → Type 0 = λ l. IsLegalTrace setup l in
    let Q : List Happened → Type 0 = λ l. IsFirstBroken setup l e rule in
    let R : Setup → Type 0 = λ s. IsFirstBroken s known e rule in
    (subst P (sym front) legal, (e, found, subst Q (hk ∙ sym front) (subst R hs broken)))

-- a list in which an event is refused isn't legal
pub not_legal : (setup own : Setup) (all known read rest : List Happened) (e : Happened) (rule : TraceRule)
    → own ≡ setup → known ≡ read → all ≡ read ++ e ∷ rest → IsFirstBroken own known e rule → IsLegalTrace setup all → ⊥
not_legal setup own all known read rest e rule hs hk ha broken legal =
    let P : List Happened → Type 0 = λ l. IsLegalTrace setup l in
    let Q : List Happened → Type 0 = λ l. IsFirstBroken setup l e rule in
    let R : Setup → Type 0 = λ s. IsFirstBroken s known e rule in
    let regroup : all ≡ (read ++ e ∷ []) ++ rest = ha ∙ sym (append_assoc read (e ∷ []) rest) in
    let front : IsLegalTrace setup (read ++ e ∷ []) = prefix_legal setup (length rest) (read ++ e ∷ []) rest refl (subst P regroup legal) in
    let here : IsFirstBroken setup read e rule = subst Q hk (subst R hs broken) in
    here.broken (obeys setup read e front rule)
