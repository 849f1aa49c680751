-- How many commands were issued in the current round, counted from the end back.
use Rattle.std.proofs.Common.{◌≡◌, ◌∙◌, ◌+◌, ◌-◌, ◌<◌, ℕ, ap, sym, refl, arith, true, false, List, [], ◌∷◌, ◌++◌, take, length, get_or}
use Rattle.std.proofs.lemmas.List.{take_more}
use Rattle.std.proofs.lemmas.List.Sums.{fold-append}
use Rattle.blk_trace.specs.Happened.{Happened}
use Rattle.blk_trace.specs.Kinds.{is_tick, is_issue}
use Rattle.blk_core.specs.Tries.{issued_now, issued_after}

one_more : (es : List Happened) (e : Happened) → issued_now (es ++ e ∷ []) ≡ issued_after (issued_now es) e
unfolding issued_now
one_more es e = fold-append issued_after 0 es (e ∷ [])

-- one event more counts
pub back_one : (xs : List Happened) (m : ℕ) (d : Happened) → m < length xs
    → issued_now (take (m + 1) xs) ≡ issued_after (issued_now (take m xs)) (get_or xs m d)
back_one xs m d less =
    ap issued_now (take_more xs m d less) ∙ one_more (take m xs) (get_or xs m d)

after_tick : (n : ℕ) (e : Happened) → is_tick e ≡ true → issued_after n e ≡ 0
after_tick n e t = rw t refl

after_issue : (n : ℕ) (e : Happened) → is_tick e ≡ false → is_issue e ≡ true → issued_after n e ≡ n + 1
after_issue n e t i = rw (t, i) refl

after_other : (n : ℕ) (e : Happened) → is_tick e ≡ false → is_issue e ≡ false → issued_after n e ≡ n
after_other n e t i = rw (t, i) refl

-- what was counted so far, from the end back
abbrev pub Counts : List Happened → ℕ → ℕ → Type 0
Counts xs i count = (m : ℕ) → m + i ≡ length xs → issued_now xs ≡ count + issued_now (take m xs)

-- a Tick is where the round began
pub at_tick : (xs : List Happened) (i count : ℕ) (e : Happened) → i < length xs → e ≡ get_or xs (length xs - 1 - i) e → is_tick e ≡ true → Counts xs i count
    → count ≡ issued_now xs
at_tick xs i count e less is tick counts =
    let m : ℕ = length xs - 1 - i in
    let whole : issued_now xs ≡ count + issued_now (take (m + 1) xs) = counts (m + 1) (omega arith) in
    let before : ℕ = issued_now (take m xs) in
    let one : issued_now (take (m + 1) xs) ≡ issued_after before (get_or xs m e) = back_one xs m e (omega arith) in
    let none : issued_after before (get_or xs m e) ≡ 0 = ap (issued_after before) (sym is) ∙ after_tick before e tick in
    omega (arith, whole, one, none)

place_is : (xs : List Happened) (i m : ℕ) (e : Happened) → m + (i + 1) ≡ length xs → e ≡ get_or xs (length xs - 1 - i) e → e ≡ get_or xs m e
place_is xs i m e sum is = let place : length xs - 1 - i ≡ m = omega arith in is ∙ ap (λ k. get_or xs k e) place

-- an Issue counts, and no other event does
pub at_issue : (xs : List Happened) (i count : ℕ) (e : Happened) → i < length xs → e ≡ get_or xs (length xs - 1 - i) e → is_tick e ≡ false → is_issue e ≡ true → Counts xs i count
    → Counts xs (i + 1) (count + 1)
at_issue xs i count e less is tick issue counts m sum =
    let whole : issued_now xs ≡ count + issued_now (take (m + 1) xs) = counts (m + 1) (omega arith) in
    let before : ℕ = issued_now (take m xs) in
    let one : issued_now (take (m + 1) xs) ≡ issued_after before (get_or xs m e) = back_one xs m e (omega arith) in
    let more : issued_after before (get_or xs m e) ≡ before + 1 = ap (issued_after before) (sym (place_is xs i m e sum is)) ∙ after_issue before e tick issue in
    omega (arith, whole, one, more)

pub at_other : (xs : List Happened) (i count : ℕ) (e : Happened) → i < length xs → e ≡ get_or xs (length xs - 1 - i) e → is_tick e ≡ false → is_issue e ≡ false → Counts xs i count
    → Counts xs (i + 1) count
at_other xs i count e less is tick issue counts m sum =
    let whole : issued_now xs ≡ count + issued_now (take (m + 1) xs) = counts (m + 1) (omega arith) in
    let before : ℕ = issued_now (take m xs) in
    let one : issued_now (take (m + 1) xs) ≡ issued_after before (get_or xs m e) = back_one xs m e (omega arith) in
    let same : issued_after before (get_or xs m e) ≡ before = ap (issued_after before) (sym (place_is xs i m e sum is)) ∙ after_other before e tick issue in
    omega (arith, whole, one, same)

-- all events were looked at
none_yet : issued_now [] ≡ 0
unfolding issued_now
none_yet = refl

pub at_end : (xs : List Happened) (i count : ℕ) → i ≡ length xs → Counts xs i count → count ≡ issued_now xs
at_end xs i count all counts = omega (arith, counts 0 (omega arith), none_yet)
