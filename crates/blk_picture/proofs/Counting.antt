-- Counts and sums over rounds.
use Rattle.std.proofs.Common.{◌≡◌, ◌≢◌, ◌<◌, ◌≤◌, ◌+◌, ◌-◌, ◌++◌, ◌==◌, ◌∙◌, ℕ, zero, suc, List, [], ◌∷◌, length, refl, sym, ap, arith, inl, inr, cond, true, false, get_or, take, drop, eqb-true, eq-eqb, ne_eqb, append_assoc, append-nil}
use Rattle.std.specs.Prelude.{count_by, nat_lt, min, max, ◌/◌}
use Rattle.std.specs.Prelude.{◌⊎◌}
use Rattle.std.proofs.lemmas.Bool.{cases_Bool, eqb-false, lt-ltb, le-ltb, ltb-true, ltb-false}
use Rattle.std.proofs.lemmas.List.{take_more, take_min, drop_all, length-take}
use Rattle.std.proofs.lemmas.List.Elements.{filter_map-append}
use Rattle.std.proofs.lemmas.List.Sums.{count_by_more_yes, count_by_more_no, count_by-le-length, fold_push}
use Rattle.blk_trace.proofs.Counting.{one_if, count-cons}
use Rattle.edd_commands.specs.declared.steps.Step.{Step}
use Rattle.edd_commands.specs.Capacity.{carried}
use Rattle.std.specs.Prelude.{Option, Some, None}
use Rattle.std.specs.List.{cons_option, filter_map}
use Rattle.blk_bio.specs.declared.bio.Dir.{Dir}
use Rattle.blk_bio.specs.declared.bio.Dir.TheVariants.{Read, Write}
use Rattle.blk_trace.specs.Setups.{Setup}
use Rattle.blk_trace.specs.Depths.{capacity_of}
use Rattle.blk_report.specs.declared.serving.Service.{Service}
use Rattle.blk_picture.specs.declared.scale.Scale.{Scale}
use Rattle.blk_picture.specs.declared.columns.IssueKind.{IssueKind}
use Rattle.blk_picture.specs.declared.columns.IssueKind.TheVariants.{Reads, Writes, Lates, Backs, GoneReads, GoneWrites}
use Rattle.blk_picture.specs.Boxes.{boxes_of}
use Rattle.blk_trace.specs.Happened.{Happened}
use Rattle.blk_trace.specs.Events.{round_of}
use Rattle.blk_trace.specs.Meaning.{greatest, timed}
use Rattle.blk_trace.proofs.More.{timed_part}
use Rattle.blk_picture.specs.Columns.{in_column, round_in, rounds_in, column_of, entry_in, entered_in, before, waits_of, peaks_of, rooms_of}
use Rattle.blk_picture.specs.Inside.Counted.{column_with}

-- no round stands in a column
pub none_in : (per c : ℕ) (rounds : List ℕ) → in_column per c (take 0 rounds) ≡ 0
unfolding in_column
none_in per c rounds = refl

-- counts are no more than there are rounds
pub in_few : (per c : ℕ) (rounds : List ℕ) → in_column per c rounds ≤ length rounds
unfolding in_column
in_few per c rounds = count_by-le-length (λ r. (r / per) == c) rounds

-- the next round stands in the column
pub in_yes : (per c i : ℕ) (rounds : List ℕ) → i < length rounds → get_or rounds i 0 / per ≡ c → in_column per c (take (i + 1) rounds) ≡ in_column per c (take i rounds) + 1
unfolding in_column
in_yes per c i rounds l e = count_by_more_yes (λ r. (r / per) == c) rounds i 0 l (eq-eqb (get_or rounds i 0 / per) c e)

-- or in another
pub in_no : (per c i : ℕ) (rounds : List ℕ) → i < length rounds → get_or rounds i 0 / per ≢ c → in_column per c (take (i + 1) rounds) ≡ in_column per c (take i rounds)
unfolding in_column
in_no per c i rounds l e = count_by_more_no (λ r. (r / per) == c) rounds i 0 l (ne_eqb (get_or rounds i 0 / per) c e)

-- before a round
pub before_none : (rounds : List ℕ) → before rounds 0 ≡ 0
unfolding before
before_none [] = refl
before_none (x ∷ xs) =
    let no : nat_lt x 0 ≡ false = le-ltb x 0 (omega arith) in
    count-cons (λ y. nat_lt y 0) x xs ∙ ap (λ b. one_if b + count_by (λ y. nat_lt y 0) xs) no ∙ omega (arith, before_none xs)

pub before_few : (rounds : List ℕ) (r : ℕ) → before rounds r ≤ length rounds
unfolding before
before_few rounds r = count_by-le-length (λ x. nat_lt x r) rounds

one_more : (x r : ℕ) → one_if (nat_lt x (r + 1)) ≡ one_if (nat_lt x r) + one_if ((x / 1) == r)
one_more x r = by (cases_Bool (nat_lt x r)) (cases_Bool ((x / 1) == r))
  where
    whole : x / 1 ≡ x
    whole = omega arith

    by : (nat_lt x r ≡ true) ⊎ (nat_lt x r ≡ false) → (((x / 1) == r) ≡ true) ⊎ (((x / 1) == r) ≡ false) → one_if (nat_lt x (r + 1)) ≡ one_if (nat_lt x r) + one_if ((x / 1) == r)
    by (inl a) (inl b) = absurd (omega (arith, ltb-true x r a, eqb-true (x / 1) r b, whole))
    by (inl a) (inr b) = ap one_if (lt-ltb x (r + 1) (omega (arith, ltb-true x r a))) ∙ sym (ap (λ p. one_if p + one_if ((x / 1) == r)) a ∙ ap (λ p. 1 + one_if p) b)
    by (inr a) (inl b) = ap one_if (lt-ltb x (r + 1) (omega (arith, eqb-true (x / 1) r b, whole))) ∙ sym (ap (λ p. one_if p + one_if ((x / 1) == r)) a ∙ ap (λ p. 0 + one_if p) b)
    by (inr a) (inr b) = ap one_if (le-ltb x (r + 1) (omega (arith, ltb-false x r a, eqb-false (x / 1) r b, whole))) ∙ sym (ap (λ p. one_if p + one_if ((x / 1) == r)) a ∙ ap (λ p. 0 + one_if p) b)

pub before_more : (rounds : List ℕ) (r : ℕ) → before rounds (r + 1) ≡ before rounds r + in_column 1 r rounds
unfolding before in_column
before_more [] r = refl
before_more (x ∷ xs) r =
    omega (arith, count-cons (λ y. nat_lt y (r + 1)) x xs, count-cons (λ y. nat_lt y r) x xs, count-cons (λ y. (y / 1) == r) x xs, one_more x r, before_more xs r)

pub waits_push : (entered gone : List ℕ) (r w : ℕ) (items new : List ℕ) → items ≡ waits_of entered gone r → new ≡ items ++ w ∷ [] → w ≡ before entered (r + 1) - before gone (r + 1) → new ≡ waits_of entered gone (r + 1)
unfolding waits_of
waits_push entered gone r w items new h e is =
    let on : suc r ≡ r + 1 = omega arith in
    e ∙ ap (λ l. l ++ w ∷ []) h ∙ ap (λ x. waits_of entered gone r ++ x ∷ []) is ∙ ap (waits_of entered gone) on

-- the greatest
pub greatest_more : (xs : List ℕ) (i : ℕ) → i < length xs → greatest (take (i + 1) xs) ≡ max (greatest (take i xs)) (get_or xs i 0)
greatest_more xs i l = ap greatest (take_more xs i 0 l) ∙ fold_push max 0 (take i xs) (get_or xs i 0)

-- what is left of n, one fewer
pub peaks_step : (per n : ℕ) (xs : List ℕ) → 0 < n → peaks_of per n xs ≡ greatest (take per xs) ∷ peaks_of per (n - 1) (drop per xs)
unfolding peaks_of
peaks_step per zero xs h = absurd (omega arith)
peaks_step per (suc n) xs h = let on : suc n - 1 ≡ n = omega arith in ap (λ m. greatest (take per xs) ∷ peaks_of per m (drop per xs)) (sym on)

pub peaks_end : (per n : ℕ) (xs : List ℕ) → n ≡ 0 → peaks_of per n xs ≡ []
unfolding peaks_of
peaks_end per n xs h = ap (λ m. peaks_of per m xs) h

pub peaks_length : (per n : ℕ) (xs : List ℕ) → length (peaks_of per n xs) ≡ n
unfolding peaks_of
peaks_length per zero xs = refl
peaks_length per (suc n) xs = ap suc (peaks_length per n (drop per xs))

pub drop_least : (per : ℕ) (xs : List ℕ) → drop (min per (length xs)) xs ≡ drop per xs
drop_least per [] = drop_all (min per 0) [] (omega arith) ∙ sym (drop_all per [] (omega arith))
drop_least zero (x ∷ xs) = ap (λ n. drop n (x ∷ xs)) (let z : min 0 (suc (length xs)) ≡ 0 = omega arith in z)
drop_least (suc per) (x ∷ xs) = ap (λ n. drop n (x ∷ xs)) (let z : min (suc per) (suc (length xs)) ≡ suc (min per (length xs)) = omega arith in z) ∙ drop_least per xs

pub rooms_step : (steps : List Step) (per rounds start n : ℕ) → 0 < n → rooms_of steps per rounds start n ≡ carried steps start (min (start + per) rounds - start) ∷ rooms_of steps per rounds (min (start + per) rounds) (n - 1)
unfolding rooms_of
rooms_step steps per rounds start zero h = absurd (omega arith)
rooms_step steps per rounds start (suc n) h = let on : suc n - 1 ≡ n = omega arith in ap (λ m. carried steps start (min (start + per) rounds - start) ∷ rooms_of steps per rounds (min (start + per) rounds) m) (sym on)

pub rooms_end : (steps : List Step) (per rounds start n : ℕ) → n ≡ 0 → rooms_of steps per rounds start n ≡ []
unfolding rooms_of
rooms_end steps per rounds start n h = ap (rooms_of steps per rounds start) h

pub rooms_length : (steps : List Step) (per rounds start n : ℕ) → length (rooms_of steps per rounds start n) ≡ n
unfolding rooms_of
rooms_length steps per rounds start zero = refl
rooms_length steps per rounds start (suc n) = ap suc (rooms_length steps per rounds (min (start + per) rounds) n)

-- a list and what is left, one more on
pub moved : (items new rest whole more : List ℕ) (x : ℕ) → items ++ rest ≡ whole → rest ≡ x ∷ more → new ≡ items ++ x ∷ [] → new ++ more ≡ whole
moved items new rest whole more x h is e = ap (λ l. l ++ more) e ∙ append_assoc items (x ∷ []) more ∙ ap (λ l. items ++ l) (sym is) ∙ h

pub waits_none : (entered gone : List ℕ) → waits_of entered gone 0 ≡ []
unfolding waits_of
waits_none entered gone = refl

pub peaks_next : (per n i : ℕ) (rest some more items new whole : List ℕ) (x : ℕ) → i < n → some ≡ take (min per (length rest)) rest → more ≡ drop (min per (length rest)) rest → x ≡ greatest some → new ≡ items ++ x ∷ [] → items ++ peaks_of per (n - i) rest ≡ whole → new ++ peaks_of per (n - (i + 1)) more ≡ whole
peaks_next per n i rest some more items new whole x l front back is e h =
    let left : n - i - 1 ≡ n - (i + 1) = omega arith in
    let now : greatest (take per rest) ≡ x = ap greatest (sym (take_min per rest) ∙ sym front) ∙ sym is in
    let on : drop per rest ≡ more = sym (drop_least per rest) ∙ sym back in
    moved items new (peaks_of per (n - i) rest) whole (peaks_of per (n - (i + 1)) more) x h
    (peaks_step per (n - i) rest (omega arith)
    ∙ ap (λ y. y ∷ peaks_of per (n - i - 1) (drop per rest)) now
    ∙ ap (λ m. x ∷ peaks_of per m (drop per rest)) left
    ∙ ap (λ z. x ∷ peaks_of per (n - (i + 1)) z) on)
    e

pub peaks_done : (per n i : ℕ) (rest items whole : List ℕ) → n ≤ i → items ++ peaks_of per (n - i) rest ≡ whole → items ≡ whole
peaks_done per n i rest items whole l h =
    sym (append-nil items) ∙ ap (λ z. items ++ z) (sym (peaks_end per (n - i) rest (omega arith))) ∙ h

pub rooms_next : (steps : List Step) (per rounds start n i stop : ℕ) (items new whole : List ℕ) (x : ℕ) → i < n → stop ≡ min (start + per) rounds → x ≡ carried steps start (stop - start) → new ≡ items ++ x ∷ [] → items ++ rooms_of steps per rounds start (n - i) ≡ whole → new ++ rooms_of steps per rounds stop (n - (i + 1)) ≡ whole
rooms_next steps per rounds start n i stop items new whole x l at is e h =
    let left : n - i - 1 ≡ n - (i + 1) = omega arith in
    moved items new (rooms_of steps per rounds start (n - i)) whole (rooms_of steps per rounds stop (n - (i + 1))) x h
    (rooms_step steps per rounds start (n - i) (omega arith)
    ∙ ap (λ m. carried steps start (min (start + per) rounds - start) ∷ rooms_of steps per rounds (min (start + per) rounds) m) left
    ∙ ap (λ s. carried steps start (s - start) ∷ rooms_of steps per rounds s (n - (i + 1))) (sym at)
    ∙ ap (λ y. y ∷ rooms_of steps per rounds stop (n - (i + 1))) (sym is))
    e

pub rooms_done : (steps : List Step) (per rounds start n i : ℕ) (items whole : List ℕ) → n ≤ i → items ++ rooms_of steps per rounds start (n - i) ≡ whole → items ≡ whole
rooms_done steps per rounds start n i items whole l h =
    sym (append-nil items) ∙ ap (λ z. items ++ z) (sym (rooms_end steps per rounds start (n - i) (omega arith))) ∙ h

-- one more round in its column
pub in_more : (per c i : ℕ) (rounds : List ℕ) → i < length rounds → in_column per c (take (i + 1) rounds) ≡ cond ((get_or rounds i 0 / per) == c) (in_column per c (take i rounds) + 1) (in_column per c (take i rounds))
in_more per c i rounds l =
    elim (cases_Bool ((get_or rounds i 0 / per) == c)) [
      | inl t ↦ in_yes per c i rounds l (eqb-true (get_or rounds i 0 / per) c t) ∙ sym (ap (λ b. cond b (in_column per c (take i rounds) + 1) (in_column per c (take i rounds))) t)
      | inr f ↦ in_no per c i rounds l (eqb-false (get_or rounds i 0 / per) c f) ∙ sym (ap (λ b. cond b (in_column per c (take i rounds) + 1) (in_column per c (take i rounds))) f)
    ]

pub in_small : (per c i : ℕ) (rounds : List ℕ) → in_column per c (take i rounds) ≤ length rounds
in_small per c i rounds = omega (arith, in_few per c (take i rounds), length-take i rounds)

-- the rounds in which requests enter
pub entered_none : (dir : Dir) → entered_in dir [] ≡ []
unfolding entered_in timed
entered_none dir = refl

pub entered_more : (dir : Dir) (es : List Happened) (e : Happened) (r : ℕ) (items : List ℕ) (o : Option ℕ) (all : List Happened) → r ≡ round_of es → items ≡ entered_in dir es → o ≡ entry_in dir (r, e) → all ≡ es ++ e ∷ [] → items ++ cons_option o [] ≡ entered_in dir all
unfolding entered_in
entered_more dir es e r items o all h is one up =
    ap (λ l. l ++ cons_option o []) is
    ∙ ap (λ x. filter_map (entry_in dir) (timed 0 es) ++ cons_option x []) (one ∙ ap (λ n. entry_in dir (n, e)) h)
    ∙ sym (timed_part (entry_in dir) es e)
    ∙ ap (λ l. filter_map (entry_in dir) (timed 0 l)) (sym up)

pub some_few : (o : Option ℕ) → length (cons_option o []) ≤ 1
some_few None = omega arith
some_few (Some x) = omega arith

-- the numbers of a column
pub column_is : (setup : Setup) (events : List Happened) (scale : Scale) (n : ℕ) (boxes : List Service) (reads writes lates backs rooms rw ww : List ℕ)
    → boxes ≡ boxes_of setup events
    → get_or reads n 0 ≡ in_column scale.per n (rounds_in Reads boxes)
    → get_or writes n 0 ≡ in_column scale.per n (rounds_in Writes boxes)
    → get_or lates n 0 ≡ in_column scale.per n (rounds_in Lates boxes)
    → get_or backs n 0 ≡ in_column scale.per n (rounds_in Backs boxes)
    → rooms ≡ rooms_of (capacity_of setup events) scale.per scale.rounds 0 scale.columns
    → rw ≡ peaks_of scale.per scale.columns (waits_of (entered_in Read events) (rounds_in GoneReads boxes) scale.rounds)
    → ww ≡ peaks_of scale.per scale.columns (waits_of (entered_in Write events) (rounds_in GoneWrites boxes) scale.rounds)
    → column_with (get_or reads n 0) (get_or writes n 0) (get_or lates n 0) (get_or backs n 0) (get_or rooms n 0) (get_or rw n 0) (get_or ww n 0) ≡ column_of setup events scale n
unfolding column_of
column_is setup events scale n boxes reads writes lates backs rooms rw ww b h1 h2 h3 h4 h5 h6 h7 =
    let r : ℕ → IssueKind → ℕ = λ m kind. in_column scale.per m (rounds_in kind boxes) in
    ap (λ x. column_with x (get_or writes n 0) (get_or lates n 0) (get_or backs n 0) (get_or rooms n 0) (get_or rw n 0) (get_or ww n 0)) h1
    ∙ ap (λ x. column_with (r n Reads) x (get_or lates n 0) (get_or backs n 0) (get_or rooms n 0) (get_or rw n 0) (get_or ww n 0)) h2
    ∙ ap (λ x. column_with (r n Reads) (r n Writes) x (get_or backs n 0) (get_or rooms n 0) (get_or rw n 0) (get_or ww n 0)) h3
    ∙ ap (λ x. column_with (r n Reads) (r n Writes) (r n Lates) x (get_or rooms n 0) (get_or rw n 0) (get_or ww n 0)) h4
    ∙ ap (λ l. column_with (r n Reads) (r n Writes) (r n Lates) (r n Backs) (get_or l n 0) (get_or rw n 0) (get_or ww n 0)) h5
    ∙ ap (λ l. column_with (r n Reads) (r n Writes) (r n Lates) (r n Backs) (get_or (rooms_of (capacity_of setup events) scale.per scale.rounds 0 scale.columns) n 0) (get_or l n 0) (get_or ww n 0)) h6
    ∙ ap (λ l. column_with (r n Reads) (r n Writes) (r n Lates) (r n Backs) (get_or (rooms_of (capacity_of setup events) scale.per scale.rounds 0 scale.columns) n 0) (get_or (peaks_of scale.per scale.columns (waits_of (entered_in Read events) (rounds_in GoneReads boxes) scale.rounds)) n 0) (get_or l n 0)) h7
    ∙ ap (λ (bs : List Service). column_with (in_column scale.per n (rounds_in Reads bs)) (in_column scale.per n (rounds_in Writes bs)) (in_column scale.per n (rounds_in Lates bs)) (in_column scale.per n (rounds_in Backs bs)) (get_or (rooms_of (capacity_of setup events) scale.per scale.rounds 0 scale.columns) n 0) (get_or (peaks_of scale.per scale.columns (waits_of (entered_in Read events) (rounds_in GoneReads bs) scale.rounds)) n 0) (get_or (peaks_of scale.per scale.columns (waits_of (entered_in Write events) (rounds_in GoneWrites bs) scale.rounds)) n 0)) b

-- the rounds of those of a kind
pub rounds_none : (kind : IssueKind) (boxes : List Service) → rounds_in kind (take 0 boxes) ≡ []
unfolding rounds_in
rounds_none kind boxes = refl

pub rounds_push : (kind : IssueKind) (boxes : List Service) (i : ℕ) (d : Service) (items new : List ℕ) (o : Option ℕ) → i < length boxes → items ≡ rounds_in kind (take i boxes) → o ≡ round_in kind (get_or boxes i d) → new ≡ items ++ cons_option o [] → new ≡ rounds_in kind (take (i + 1) boxes)
unfolding rounds_in
rounds_push kind boxes i d items new o l h one e =
    e
    ∙ ap (λ x. x ++ cons_option o []) h
    ∙ ap (λ x. filter_map (round_in kind) (take i boxes) ++ cons_option x []) one
    ∙ sym (ap (filter_map (round_in kind)) (take_more boxes i d l) ∙ filter_map-append (round_in kind) (take i boxes) (get_or boxes i d ∷ []))
