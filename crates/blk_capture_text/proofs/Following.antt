-- One record more of a capture that is put in numbers as it is read, and all of them.
use Rattle.std.proofs.Common.{◌≡◌, ◌≢◌, ◌+◌, ◌∙◌, ◌++◌, ◌∷◌, ◌==◌, ℕ, cond, Bool, List, [], length, map, get_or, Option, None, Some, refl, sym, ap, arith, append_assoc}
use Rattle.std.proofs.lemmas.Bool.{ne_eqb}
use Rattle.std.proofs.lemmas.List.{length-map, length_push}
use Rattle.blk_capture.specs.Parting.{fate_in, fate_at, place_in}
use Rattle.blk_capture.specs.Running.{fate_so_far, so_far, HasTaken, run_count}
use Rattle.blk_capture.specs.declared.fates.Fate.{Fate}
use Rattle.blk_capture.specs.declared.fates.Fate.TheVariants as fate
use Rattle.blk_capture.specs.declared.record.Record.{Record}
use Rattle.blk_capture.specs.declared.running.Running.{Running}
use Rattle.blk_capture_text.specs.Imports.{first_time}
use Rattle.blk_capture_text.specs.Streaming.{MayFollow}
use Rattle.blk_capture_text.specs.SummaryText.{counts_of}
use Rattle.blk_capture_text.specs.declared.numbers.UnusedCounts.{UnusedCounts}
use Rattle.blk_capture_text.proofs.Counting.{counts_so_far}

pub first_next : (records : List Record) (r : Record) (n first : ℕ) → n ≡ length records → first ≡ first_time records → cond (n == 0) r.time first ≡ first_time (records ++ r ∷ [])
first_next [] r n first e f = ap (λ (k : ℕ). cond (k == 0) r.time first) e
first_next (x ∷ xs) r n first e f =
    let other : n ≢ 0 = λ z. (let bad : ⊥ = omega (arith, e, z) in bad) in
    ap (λ (b : Bool). cond b r.time first) (ne_eqb n 0 other) ∙ f

-- as many are known as were taken in
pub known_each : {A : Type 0} (records : List Record) (fates : List Fate) (r : Running A) → HasTaken records fates r → length fates ≡ run_count r
known_each records fates r h = ap length h.so_far_are ∙ length-map h.roles fate_so_far ∙ h.run.each ∙ sym h.run.counted

seam : (xs : List Record) (y : Record) (ys : List Record) (d : Record) → get_or (xs ++ y ∷ ys) (length xs) d ≡ y
seam [] y ys d = refl
seam (x ∷ xs) y ys d = seam xs y ys d

-- the next one is no earlier than the last
pub follows_last : (records : List Record) (r : Record) (time : ℕ) → time ≡ r.time → MayFollow (records ++ r ∷ []) time
follows_last records r time e q order =
    let long : length ((records ++ r ∷ []) ++ q ∷ []) ≡ length records + 2 = (let a = length_push (records ++ r ∷ []) q in let b = length_push records r in omega (arith, a, b)) in
    let here : get_or ((records ++ r ∷ []) ++ q ∷ []) (length records) r ≡ r = ap (λ (xs : List Record). get_or xs (length records) r) (append_assoc records (r ∷ []) (q ∷ [])) ∙ seam records r (q ∷ []) r in
    let next : get_or ((records ++ r ∷ []) ++ q ∷ []) (length records + 1) r ≡ q = ap (λ n. get_or ((records ++ r ∷ []) ++ q ∷ []) n r) (sym (length_push records r)) ∙ seam (records ++ r ∷ []) q [] r in
    let up = order (length records) r (omega (arith, long)) in
    let first = ap (λ (x : Record). x.time) here in
    let second = ap (λ (x : Record). x.time) next in
    omega (arith, e, up, first, second)

left_placed : (x : Option ℕ) → so_far (fate_at x) ≡ fate.LeftOut
left_placed None = refl
left_placed (Some k) = refl

known_in : (from n : ℕ) (f : Fate) → so_far (fate_in from n f) ≡ so_far f
known_in from n (fate.Taken k) = left_placed (place_in from n (Some k))
known_in from n fate.LeftOut = refl
known_in from n fate.Unmatched = refl
known_in from n (fate.PassedOver kind) = refl

all_known_in : (from n : ℕ) (fates : List Fate) → map so_far (map (fate_in from n) fates) ≡ map so_far fates
all_known_in from n [] = refl
all_known_in from n (f ∷ fates) = ap (λ (g : Fate). g ∷ map so_far (map (fate_in from n) fates)) (known_in from n f) ∙ ap (λ (gs : List Fate). so_far f ∷ gs) (all_known_in from n fates)

-- what was counted at once is what is counted of the part in the end
pub counted_in : (from n : ℕ) (fates before : List Fate) (u : UnusedCounts) → map so_far fates ≡ before → u ≡ counts_of before → u ≡ counts_of (map (fate_in from n) fates)
counted_in from n fates before u known e = e ∙ ap counts_of (sym known) ∙ ap counts_of (sym (all_known_in from n fates)) ∙ counts_so_far (map (fate_in from n) fates)
