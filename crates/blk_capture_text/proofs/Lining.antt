-- A text that is read part by part.
use Rattle.std.proofs.Common.{ℕ, zero, suc, add-one, ◌≡◌, ◌+◌, ◌-◌, ◌<◌, ◌≤◌, ◌∙◌, ◌++◌, ◌==◌, ◌&&◌, Bool, true, false, cond, not, List, [], ◌∷◌, length, get_or, take, refl, sym, ap, subst, arith, inl, inr, append_assoc, append-nil, length-append, Option, None, Some}
use Rattle.std.specs.List.{onto_first, list_any}
use Rattle.std.specs.Prelude.{if◌then◌else◌, IfSome, nat_le}
use Rattle.std.specs.Io.KnownBytes.{Consumes, IsAtEnd}
use Rattle.std.proofs.lemmas.Bool.Decides.{nat_tests}
use Rattle.std.proofs.lemmas.List.{get_or-append-add, get_or-take, length-take, take-append-le}
use Rattle.std.proofs.Math.Seq.{take-append-add, take-suc}
use Rattle.std.proofs.lemmas.List.Sums.{sum_by-cons}
use Rattle.std.proofs.lemmas.List.Sorted.{IsNonDecreasingBy-from_sort, length_permutation}
use Rattle.std.proofs.lemmas.List.Splits.{slice_split-cons_yes, slice_split-cons_no}
use Rattle.blk_capture.specs.Requests.{AreInOrder}
use Rattle.blk_capture.specs.declared.record.Record.{Record}
use Rattle.blk_recorders.specs.Detected.{first_form}
use Rattle.blk_recorders.specs.Steps.{lines_of, EndsLine, HasWholeLines, is_unordered, AreByTime, AreOrdered}
use Rattle.blk_recorders.specs.declared.detect.CaptureForm.{CaptureForm}
use Rattle.blk_recorders.specs.declared.detect.CaptureForm.TheVariants as form
use Rattle.blk_recorders.specs.declared.detect.TheConstants.{FIRST_LINES}
use Rattle.blk_recorders.specs.declared.recorder.Recorder.{Recorder}
use Rattle.blk_recorders.specs.declared.recorder.Recorder.TheVariants.{Blkparse, Ftrace, Perf, Bpftrace}
use Rattle.blk_capture_text.specs.Source.{has_nul, is_text, form_or_told, form_taken}
use Rattle.blk_capture_text.specs.Inside.Along.{count_feeds, tells_form}
use Rattle.blk_capture_text.specs.declared.source.TheConstants.{FIRST_BYTES}

by_bool : {T : Type 0} (b : Bool) → (b ≡ true → T) → (b ≡ false → T) → T
by_bool true so not_so = so refl
by_bool false so not_so = not_so refl

-- ---- ends of lines
pub none_ends : EndsLine []
none_ends k e = absurd (omega (arith, e))

-- behind anything
pub ends_behind : (past text : List ℕ) → 0 < length text → EndsLine text → EndsLine (past ++ text)
ends_behind past text some ends k e =
    let long = length-append past text in
    let at : k ≡ length past + (k - length past) = omega (arith, e, some, long) in
    ap (λ (n : ℕ). get_or (past ++ text) n 0 == 10) at ∙ ap (λ (c : ℕ). c == 10) (get_or-append-add past text (k - length past) 0) ∙ ends (k - length past) (omega (arith, e, some, long))

-- and what stands behind something
pub ends_part : (past text : List ℕ) → EndsLine (past ++ text) → EndsLine text
ends_part past text ends k e =
    ap (λ (c : ℕ). c == 10) (sym (get_or-append-add past text k 0)) ∙ ends (length past + k) (let long = length-append past text in omega (arith, e, long))

pub whole_part : (past text rest : List ℕ) → HasWholeLines (past ++ text) rest → HasWholeLines text rest
whole_part past text rest (inl none) = inl none
whole_part past text rest (inr ends) = inr (ends_part past text ends)

-- ---- records in order
pub ordered_on : (f : Recorder) (given at steps : List Record) → (is_unordered f ≡ true → given ≡ []) → AreOrdered f at steps → AreOrdered f (given ++ at) (given ++ steps)
ordered_on Blkparse given at steps none o = ap (λ (rs : List Record). given ++ rs) o
ordered_on Ftrace given at steps none o = ap (λ (rs : List Record). given ++ rs) o
ordered_on Perf given at steps none o = ap (λ (rs : List Record). given ++ rs) o
ordered_on Bpftrace given at steps none o = subst (λ (rs : List Record). AreByTime (rs ++ at) (rs ++ steps)) (sym (none refl)) o

sorted_rise : (told records : List Record) → AreByTime told records → AreInOrder records (length records)
sorted_rise told records o = λ k d l. IsNonDecreasingBy-from_sort (λ (r : Record). r.time) records o.sorted k (k + 1) d (omega arith) l

pub rise_on : (f : Recorder) (given at steps : List Record) → (is_unordered f ≡ true → given ≡ []) → (is_unordered f ≡ false → AreInOrder (given ++ at) (length (given ++ at))) → AreOrdered f at steps
    → AreInOrder (given ++ steps) (length (given ++ steps))
rise_on Blkparse given at steps none up o = subst (λ (rs : List Record). AreInOrder (given ++ rs) (length (given ++ rs))) (sym o) (up refl)
rise_on Ftrace given at steps none up o = subst (λ (rs : List Record). AreInOrder (given ++ rs) (length (given ++ rs))) (sym o) (up refl)
rise_on Perf given at steps none up o = subst (λ (rs : List Record). AreInOrder (given ++ rs) (length (given ++ rs))) (sym o) (up refl)
rise_on Bpftrace given at steps none up o = subst (λ (rs : List Record). AreInOrder (rs ++ steps) (length (rs ++ steps))) (sym (none refl)) (sorted_rise at steps o)

pub as_many : (f : Recorder) (at steps : List Record) → AreOrdered f at steps → length steps ≡ length at
as_many Blkparse at steps o = ap length o
as_many Ftrace at steps o = ap length o
as_many Perf at steps o = ap length o
as_many Bpftrace at steps o = length_permutation at steps o.same

-- the records up to one that goes on from those before
pub in_order_upto : (records : List Record) (n : ℕ) → AreInOrder records (length records) → AreInOrder (take n records) (length (take n records))
in_order_upto records n up k d l =
    let long = length-take n records in
    let low : k + 1 < n = omega (arith, l, long) in
    let all : k + 1 < length records = omega (arith, l, long) in
    let here = ap (λ (r : Record). r.time) (get_or-take n records k d (omega (arith, low))) in
    let next = ap (λ (r : Record). r.time) (get_or-take n records (k + 1) d low) in
    let rises = up k d all in
    omega (arith, here, next, rises)

one_behind : (records : List Record) (i : ℕ) (d : Record) → i < length records → take (i + 1) records ≡ take i records ++ get_or records i d ∷ []
one_behind records i d l = ap (λ (n : ℕ). take n records) (add-one i) ∙ take-suc records i d l

pub next_behind : (past records : List Record) (i : ℕ) (d : Record) → AreInOrder (past ++ records) (length (past ++ records)) → i < length records
    → AreInOrder ((past ++ take i records) ++ get_or records i d ∷ []) (length ((past ++ take i records) ++ get_or records i d ∷ []))
next_behind past records i d up l =
    let same : take (length past + (i + 1)) (past ++ records) ≡ (past ++ take i records) ++ get_or records i d ∷ [] =
    take-append-add past records (i + 1) ∙ ap (λ (rs : List Record). past ++ rs) (one_behind records i d l) ∙ sym (append_assoc past (take i records) (get_or records i d ∷ [])) in
    subst (λ (rs : List Record). AreInOrder rs (length rs)) same (in_order_upto (past ++ records) (length past + (i + 1)) up)

pub taken_next : (past records : List Record) (i : ℕ) (d : Record) → i < length records → (past ++ take i records) ++ get_or records i d ∷ [] ≡ past ++ take (i + 1) records
taken_next past records i d l = append_assoc past (take i records) (get_or records i d ∷ []) ∙ ap (λ (rs : List Record). past ++ rs) (sym (one_behind records i d l))

-- ---- the first lines
taken_onto : (n : ℕ) (x : ℕ) (ls : List (List ℕ)) → take (suc n) (onto_first x ls) ≡ onto_first x (take (suc n) ls)
taken_onto zero x [] = refl
taken_onto (suc n) x [] = refl
taken_onto n x (l ∷ ls) = refl

feeds_first : (x : ℕ) (text : List ℕ) → count_feeds (x ∷ text) ≡ cond (x == 10) 1 0 + count_feeds text
feeds_first x text = sum_by-cons (λ y. cond (y == 10) 1 0) x text

fewer_feeds : (n x : ℕ) (text : List ℕ) → suc n ≤ count_feeds (x ∷ text) → (x == 10) ≡ true → n ≤ count_feeds text
fewer_feeds n x text l e =
    let least : n + 1 ≤ count_feeds (x ∷ text) = subst (λ (m : ℕ). m ≤ count_feeds (x ∷ text)) (sym (add-one n)) l in
    let one : count_feeds (x ∷ text) ≡ 1 + count_feeds text = feeds_first x text ∙ ap (λ (b : Bool). cond b 1 0 + count_feeds text) e in
    omega (arith, least, one)

same_feeds : (n x : ℕ) (text : List ℕ) → suc n ≤ count_feeds (x ∷ text) → (x == 10) ≡ false → suc n ≤ count_feeds text
same_feeds n x text l e = subst (λ (m : ℕ). suc n ≤ m) (feeds_first x text ∙ ap (λ (b : Bool). cond b 1 0 + count_feeds text) e ∙ zero-add (count_feeds text)) l
  where
    zero-add : (m : ℕ) → 0 + m ≡ m
    zero-add m = omega arith

none_fed : (n : ℕ) → suc n ≤ count_feeds [] → ⊥
none_fed n l = let least : n + 1 ≤ 0 = subst (λ (m : ℕ). m ≤ 0) (sym (add-one n)) l in omega (arith, least)

pub first_lines : (n : ℕ) (text rest : List ℕ) → n ≤ count_feeds text → take n (lines_of (text ++ rest)) ≡ take n (lines_of text)
first_lines zero text rest l = refl
first_lines (suc n) [] rest l = absurd (none_fed n l)
first_lines (suc n) (x ∷ text) rest l = by_bool (x == 10)
    (λ a. ap (take (suc n)) (slice_split-cons_yes (λ c. c == 10) x (text ++ rest) a)
    ∙ ap (λ (ls : List (List ℕ)). [] ∷ ls) (first_lines n text rest (fewer_feeds n x text l a))
    ∙ sym (ap (take (suc n)) (slice_split-cons_yes (λ c. c == 10) x text a)))
    (λ b. ap (take (suc n)) (slice_split-cons_no (λ c. c == 10) x (text ++ rest) b)
    ∙ taken_onto n x (lines_of (text ++ rest))
    ∙ ap (onto_first x) (first_lines (suc n) text rest (same_feeds n x text l b))
    ∙ sym (taken_onto n x (lines_of text))
    ∙ sym (ap (take (suc n)) (slice_split-cons_no (λ c. c == 10) x text b)))

both_true : (a b : Bool) → a && b ≡ true → (a ≡ true) × (b ≡ true)
both_true true true e = (refl, refl)
both_true true false e = absurd (cc e)
both_true false b e = absurd (cc e)

-- enough of the first bytes tell the form of all
form_same : (asked : Option CaptureForm) (text rest : List ℕ) → FIRST_LINES ≤ count_feeds text → form_or_told asked (text ++ rest) ≡ form_or_told asked text
form_same None text rest l = ap first_form (first_lines FIRST_LINES text rest l)
form_same (Some f) text rest l = refl

text_same : (text rest : List ℕ) → FIRST_BYTES ≤ length text → is_text (text ++ rest) ≡ is_text text
text_same text rest l =
    let long = length-append text rest in
    let some : (length (text ++ rest) == 0) ≡ false = grind (arith, nat_tests, long) in
    let same : (length text == 0) ≡ false = grind (arith, nat_tests) in
    ap (λ (b : Bool). if b then false else not (has_nul (text ++ rest))) some
    ∙ ap (λ (bytes : List ℕ). not (list_any (λ c. c == 0) bytes)) (take-append-le FIRST_BYTES text rest l)
    ∙ sym (ap (λ (b : Bool). if b then false else not (has_nul text)) same)

pub form_told_first : (asked : Option CaptureForm) (text rest : List ℕ) → tells_form (count_feeds text) text ≡ true → form_taken asked (text ++ rest) ≡ form_taken asked text
form_told_first asked text rest e =
    let both = both_true (nat_le FIRST_LINES (count_feeds text)) (nat_le FIRST_BYTES (length text)) e in
    let lines : FIRST_LINES ≤ count_feeds text = (let a = both.0 in grind (arith, nat_tests, a)) in
    let bytes : FIRST_BYTES ≤ length text = (let b = both.1 in grind (arith, nat_tests, b)) in
    ap (λ (b : Bool). if b then form_or_told asked (text ++ rest) else form.Records) (text_same text rest bytes)
    ∙ ap (λ (f : CaptureForm). if is_text text then f else form.Records) (form_same asked text rest lines)

-- ---- bytes that were consumed
pub consumed_none : (left : Option (List ℕ)) → Consumes left left []
consumed_none None = tt
consumed_none (Some xs) = refl

pub consumed_on : (a b c : Option (List ℕ)) (xs ys : List ℕ) → Consumes a b xs → Consumes b c ys → Consumes a c (xs ++ ys)
consumed_on None b c xs ys p q = tt
consumed_on (Some before) None c xs ys p q = absurd p
consumed_on (Some before) (Some between) None xs ys p q = absurd q
consumed_on (Some before) (Some between) (Some after) xs ys p q = p ∙ ap (λ (zs : List ℕ). xs ++ zs) q ∙ sym (append_assoc xs ys after)

-- all of them, where nothing is left
pub consumed_all : (a b : Option (List ℕ)) (xs : List ℕ) → Consumes a b xs → IsAtEnd b → IfSome a (λ known. xs ≡ known)
consumed_all None b xs p end = tt
consumed_all (Some before) None xs p end = absurd p
consumed_all (Some before) (Some between) xs p end = sym (p ∙ ap (λ (zs : List ℕ). xs ++ zs) end ∙ append-nil xs)

-- those that were and those that are left
abbrev pub left_of : Option (List ℕ) → List ℕ
left_of None = []
left_of (Some xs) = xs

pub consumed_and_left : (a b : Option (List ℕ)) (xs : List ℕ) → Consumes a b xs → IfSome a (λ known. xs ++ left_of b ≡ known)
consumed_and_left None b xs p = tt
consumed_and_left (Some before) None xs p = absurd p
consumed_and_left (Some before) (Some between) xs p = sym p
