-- The laws of items that are repeated.
use Rattle.std.proofs.Common.{◌≡◌, ◌+◌, ◌≤◌, ◌<◌, ◌∙◌, ℕ, zero, suc, List, [], ◌∷◌, ◌++◌, length, refl, sym, ap, subst, inl, inr, arith, append_assoc, append-nil}
use Rattle.std.specs.Prelude.{◌⊎◌, Ok, Err}
use Rattle.std.proofs.lemmas.List.{length-append}
use Rattle.text_grammar.specs.declared.Repeats.{Repeats}
use Rattle.text_grammar.specs.declared.Repeats.TheVariants as repeats
use Rattle.text_grammar.specs.Parts.{Part, Begins, Took, IsTaken, place_of, GetsTo, after, all_rows, AllFit, IsCount, Stops, GoesOn, GoodBefore, most_of, many, then, over, ended}
use Rattle.text_grammar.specs.Laws.{IsNear, Told, Tells, IsPlain}
use Rattle.text_grammar.specs.Inside.Laws.{IsItem}
use Rattle.text_grammar.proofs.Then.{then_told, then_tells, over_tells, seen_tells, at_first, seen_reached, reached_first, reached_second, after_all_reached}

-- when the items stop

stop_or_go : {R : Type 0} (x : Repeats) (c : ℕ) (rest : List R) → Stops x c rest → GoesOn x c rest → ⊥
stop_or_go (repeats.AtMost n) c rest (inl a) g = let is = g.0 in omega (arith, a, is)
stop_or_go (repeats.AtMost n) c rest (inr a) g = g.1 a
stop_or_go (repeats.Exactly n) c rest a g = omega (arith, a, g)

-- where as many may come, or they go on after as many, they go on before another with a record
still : {R : Type 0} (x : Repeats) (c d : ℕ) (first others : List R) → ¬ (first ≡ []) → IsCount x d → c < d → GoesOn x c (first ++ others)
still x c d [] others some i l = absurd (some refl)
still (repeats.AtMost n) c d (row ∷ first) others some i l = (omega (arith, i, l), λ e. (cc e))
still (repeats.Exactly n) c d (row ∷ first) others some i l = omega (arith, i, l)

went : {R : Type 0} (x : Repeats) (c d : ℕ) (first others more : List R) → ¬ (first ≡ []) → GoesOn x d more → c ≤ d → GoesOn x c (first ++ others)
went x c d [] others more some g l = absurd (some refl)
went (repeats.AtMost n) c d (row ∷ first) others more some g l = (let is = g.0 in omega (arith, is, l), λ e. (cc e))
went (repeats.Exactly n) c d (row ∷ first) others more some g l = omega (arith, g, l)

-- the same way to repeat, this number of times
of : Repeats → ℕ → Repeats
of (repeats.AtMost n) m = repeats.AtMost m
of (repeats.Exactly n) m = repeats.Exactly m

-- as many, fewer by one
fewer : (x : Repeats) (n c : ℕ) → IsCount (of x (suc n)) (suc c) → IsCount (of x n) c
unfolding of
fewer (repeats.AtMost m) n c i = omega (arith, i)
fewer (repeats.Exactly m) n c i = omega (arith, i)

more : (x : Repeats) (n c : ℕ) → IsCount (of x n) c → IsCount (of x (suc n)) (suc c)
unfolding of
more (repeats.AtMost m) n c i = omega (arith, i)
more (repeats.Exactly m) n c i = omega (arith, i)

stops_fewer : {R : Type 0} (x : Repeats) (n c : ℕ) (rest : List R) → Stops (of x (suc n)) (suc c) rest → Stops (of x n) c rest
unfolding of
stops_fewer (repeats.AtMost m) n c rest (inl e) = inl (omega (arith, e))
stops_fewer (repeats.AtMost m) n c rest (inr e) = inr e
stops_fewer (repeats.Exactly m) n c rest e = omega (arith, e)

stops_more : {R : Type 0} (x : Repeats) (n c : ℕ) (rest : List R) → Stops (of x n) c rest → Stops (of x (suc n)) (suc c) rest
unfolding of
stops_more (repeats.AtMost m) n c rest (inl e) = inl (omega (arith, e))
stops_more (repeats.AtMost m) n c rest (inr e) = inr e
stops_more (repeats.Exactly m) n c rest e = omega (arith, e)

goes_fewer : {R : Type 0} (x : Repeats) (n c : ℕ) (rest : List R) → GoesOn (of x (suc n)) (suc c) rest → GoesOn (of x n) c rest
unfolding of
goes_fewer (repeats.AtMost m) n c rest g = (let l = g.0 in omega (arith, l), g.1)
goes_fewer (repeats.Exactly m) n c rest g = omega (arith, g)

goes_more : {R : Type 0} (x : Repeats) (n c : ℕ) (rest : List R) → GoesOn (of x n) c rest → GoesOn (of x (suc n)) (suc c) rest
unfolding of
goes_more (repeats.AtMost m) n c rest g = (let l = g.0 in omega (arith, l), g.1)
goes_more (repeats.Exactly m) n c rest g = omega (arith, g)

-- none may come, or none has to, or they go on
over_at : {R : Type 0} (x : Repeats) (rows : List R) → IsCount (of x 0) 0 × Stops (of x 0) 0 rows
unfolding of
over_at (repeats.AtMost m) rows = (omega arith, inl refl)
over_at (repeats.Exactly m) rows = (refl, refl)

over_or_on : {R : Type 0} (x : Repeats) (n : ℕ) (rows : List R) → (IsCount (of x (suc n)) 0 × Stops (of x (suc n)) 0 rows) ⊎ GoesOn (of x (suc n)) 0 rows
unfolding of
over_or_on (repeats.AtMost m) n [] = inl (omega arith, inr refl)
over_or_on (repeats.AtMost m) n (row ∷ rows) = inr (omega arith, λ e. (cc e))
over_or_on (repeats.Exactly m) n rows = inr (omega arith)

-- the records of items are those of the first one and then of the others

-- the items are over: they are none
none_told : {R E S V : Type 0} (x : Repeats) (q : S → Part R E V) (next : S → V → S) → ((s : S) → IsItem (q s)) → (s : S) (rows : List R) → IsCount x 0 → Stops x 0 rows → Told (many x q next s) rows
none_told {R} {E} {S} {V} x q next items s rows count stops = (Ok ([], rows), record { fits = (tt, count); made = refl; follows = stops }, tt, only)
  where
    goes : (vs : List V) (rest : List R) → AllFit q next s vs → rows ≡ all_rows q next s vs ++ rest → GoesOn x (length vs) rest → GoesOn x 0 rows
    goes [] rest fit made on = rw made on
    goes (v ∷ vs) rest fit made on = rw (made, append_assoc ((q s).rows_of v) (all_rows q next (next s v) vs) rest) (went x 0 (suc (length vs)) ((q s).rows_of v) (all_rows q next (next s v) vs ++ rest) rest ((items s).some v fit.0) on (omega arith))

    only_none : (vs : List V) (rest : List R) → AllFit q next s vs → IsCount x (length vs) → rows ≡ all_rows q next s vs ++ rest → ([] ≡ vs) × (rows ≡ rest)
    only_none [] rest fit i made = (refl, made)
    only_none (v ∷ vs) rest fit i made =
        let on = still x 0 (suc (length vs)) ((q s).rows_of v) (all_rows q next (next s v) vs ++ rest) ((items s).some v fit.0) i (omega arith) in
        absurd (stop_or_go x 0 rows stops (rw (made, append_assoc ((q s).rows_of v) (all_rows q next (next s v) vs) rest) on))

    only : (t : Took R E (List V)) → IsTaken (many x q next s) rows t → Ok ([], rows) ≡ t
    only (Ok t) h = let e = only_none t.0 t.1 h.fits.0 h.fits.1 h.made in λ i. Ok (e.0 i, e.1 i)
    only (Err f) h = absurd (stop_or_go x 0 rows stops (goes h.0 h.1 h.3 h.4 h.5))

-- they go on: one and then the others
abbrev Others : {R E S V : Type 0} → (S → Part R E V) → (S → V → S) → S → Repeats → Part R E (V × List V)
Others q next s x = then (q s) (λ v. many x q next (next s v))

abbrev item_as : {R E V : Type 0} → Took R E (V × List V) → Took R E (List V)
item_as (Ok t) = Ok (t.0.0 ∷ t.0.1, t.1)
item_as (Err f) = Err f

item_near : {R E V : Type 0} (rows : List R) (t : Took R E (V × List V)) → IsNear rows t → IsNear rows (item_as t)
item_near rows (Ok t) n = n
item_near rows (Err f) n = n

item_taken : {R E S V : Type 0} (x : Repeats) (n : ℕ) (q : S → Part R E V) (next : S → V → S) (s : S) (rows : List R) → GoesOn (of x (suc n)) 0 rows → (t : Took R E (V × List V)) → IsTaken (Others q next s (of x n)) rows t
    → IsTaken (many (of x (suc n)) q next s) rows (item_as t)
item_taken x n q next s rows on (Ok t) h =
    record { fits = ((h.fits.0, h.fits.1.0), more x n (length t.0.1) h.fits.1.1); made = h.made; follows = stops_more x n (length t.0.1) t.1 h.follows.1 }
item_taken x n q next s rows on (Err f) (inl h) = ([], rows, f.0, tt, refl, on, omega arith, h)
item_taken x n q next s rows on (Err f) (inr h) =
    let v = h.0 in
    let b = h.3 in
    let is = h.4 in
    let w = h.5 in
    let inner = w.6 in (
      v ∷ w.0,
      w.1,
      w.2,
      (b.fits, w.3),
      b.made ∙ ap (λ z. (q s).rows_of v ++ z) w.4 ∙ sym (append_assoc ((q s).rows_of v) (all_rows q next (next s v) w.0) w.1),
      goes_more x n (length w.0) w.1 w.5,
      omega (arith, is, inner, length-append ((q s).rows_of v) (all_rows q next (next s v) w.0)),
      w.7,
    )

item_of : {R E S V : Type 0} (x : Repeats) (n : ℕ) (q : S → Part R E V) (next : S → V → S) → ((s : S) → IsItem (q s)) → (s : S) (rows : List R) → GoesOn (of x (suc n)) 0 rows → (t : Took R E (List V))
    → IsTaken (many (of x (suc n)) q next s) rows t → (u : Took R E (V × List V)) × IsTaken (Others q next s (of x n)) rows u × (item_as u ≡ t)
item_of {R} {E} {S} {V} x n q next items s rows on (Ok t) h = value t.0 t.1 h.fits h.made h.follows
  where
    value : (vs : List V) (rest : List R) → AllFit q next s vs × IsCount (of x (suc n)) (length vs) → rows ≡ all_rows q next s vs ++ rest → Stops (of x (suc n)) (length vs) rest
        → (u : Took R E (V × List V)) × IsTaken (Others q next s (of x n)) rows u × (item_as u ≡ Ok (vs, rest))
    value [] rest fits made stops = absurd (stop_or_go (of x (suc n)) 0 rest stops (rw made at on))
    value (v ∷ vs) rest fits made stops = (
      Ok ((v, vs), rest),
      record { fits = (fits.0.0, (fits.0.1, fewer x n (length vs) fits.1)); made = made; follows = ((items s).plain v (all_rows q next (next s v) vs ++ rest) fits.0.0, stops_fewer x n (length vs) rest stops) },
      refl,
    )
item_of {R} {E} {S} {V} x n q next items s rows on (Err f) h = fault h.0 h.1 h.2 h.3 h.4 h.5 h.6 h.7
  where
    fault : (vs : List V) (rest : List R) (j : ℕ) → AllFit q next s vs → rows ≡ all_rows q next s vs ++ rest → GoesOn (of x (suc n)) (length vs) rest → f.0 ≡ length (all_rows q next s vs) + j
        → (q (after next s vs)).Wrong rest j f.1 → (u : Took R E (V × List V)) × IsTaken (Others q next s (of x n)) rows u × (item_as u ≡ Err f)
    fault [] rest j fit made goes is bad = let at : f.0 ≡ j = omega (arith, is) in (Err f, inl (rw (at, made) bad), refl)
    fault (v ∷ vs) rest j fit made goes is bad =
        let others : List R = all_rows q next (next s v) vs in
        let at : f.0 ≡ length ((q s).rows_of v) + (length others + j) = omega (arith, is, length-append ((q s).rows_of v) others) in
        let mid : List R = others ++ rest in
        let begun : Begins (q s) rows v mid = record { fits = fit.0; made = made ∙ append_assoc ((q s).rows_of v) others rest; follows = (items s).plain v mid fit.0 } in
        (Err f, inr (v, mid, length others + j, begun, at, (vs, rest, j, fit.1, refl, goes_fewer x n (length vs) rest goes, refl, bad)), refl)

many_told : {R E S V : Type 0} (x : Repeats) (q : S → Part R E V) (next : S → V → S) → ((s : S) → IsItem (q s)) → (n : ℕ) (s : S) (rows : List R) → Told (many (of x n) q next s) rows
many_told x q next items zero s rows = let o = over_at x rows in none_told (of x 0) q next items s rows o.0 o.1
many_told {R} {E} {S} {V} x q next items (suc n) s rows = go (over_or_on x n rows) (then_told (q s) (λ v. many (of x n) q next (next s v)) rows ((items s).tells.told rows) (λ v fit mid. many_told x q next items n (next s v) mid))
  where
    go : (IsCount (of x (suc n)) 0 × Stops (of x (suc n)) 0 rows) ⊎ GoesOn (of x (suc n)) 0 rows → Told (Others q next s (of x n)) rows → Told (many (of x (suc n)) q next s) rows
    go (inl o) t = none_told (of x (suc n)) q next items s rows o.0 o.1
    go (inr on) t = (
      item_as t.0,
      item_taken x n q next s rows on t.0 t.1,
      item_near rows t.0 t.2,
      λ u h. (let r = item_of x n q next items s rows on u h in ap item_as (t.3 r.0 r.1) ∙ r.2),
    )

pub many_tells : {R E S V : Type 0} (x : Repeats) {q : S → Part R E V} (next : S → V → S) → ((s : S) → IsItem (q s)) → (s : S) → Tells (many x q next s)
unfolding of
many_tells (repeats.AtMost n) {q} next items s = record { told = many_told (repeats.AtMost 0) q next items n s }
many_tells (repeats.Exactly n) {q} next items s = record { told = many_told (repeats.Exactly 0) q next items n s }

pub many_plain : {R E S V : Type 0} (n : ℕ) (q : S → Part R E V) (next : S → V → S) (s : S) → IsPlain (many (repeats.Exactly n) q next s)
many_plain n q next s v rest fit = fit.1

-- one item more

pub all_more : {R E S V : Type 0} (q : S → Part R E V) (next : S → V → S) (s : S) (vs : List V) (v : V) (a : List R) (rows rest : List R)
    → rows ≡ all_rows q next s vs ++ rest → rest ≡ (q (after next s vs)).rows_of v ++ a → rows ≡ all_rows q next s (vs ++ v ∷ []) ++ a
all_more q next s [] v a rows rest e f = e ∙ f ∙ ap (λ z. z ++ a) (sym (append-nil ((q s).rows_of v)))
all_more q next s (u ∷ vs) v a rows rest e f =
    let r = all_more q next (next s u) vs v a (all_rows q next (next s u) vs ++ rest) rest refl f in
    e ∙ append_assoc ((q s).rows_of u) (all_rows q next (next s u) vs) rest ∙ ap (λ z. (q s).rows_of u ++ z) r ∙ sym (append_assoc ((q s).rows_of u) (all_rows q next (next s u) (vs ++ v ∷ [])) a)

pub fit_more : {R E S V : Type 0} (q : S → Part R E V) (next : S → V → S) (s : S) (vs : List V) (v : V) → AllFit q next s vs → (q (after next s vs)).Fits v → AllFit q next s (vs ++ v ∷ [])
fit_more q next s [] v f g = (g, tt)
fit_more q next s (u ∷ vs) v f g = (f.0, fit_more q next (next s u) vs v f.1 g)

-- what is reached in an item after good ones is reached

item_reached : {R E S V : Type 0} (x : Repeats) (n : ℕ) (q : S → Part R E V) (next : S → V → S) → ((s : S) → IsItem (q s)) → (s : S) (rows : List R) (at : ℕ) → GoesOn (of x (suc n)) 0 rows → GetsTo (Others q next s (of x n)) rows at
    → GetsTo (many (of x (suc n)) q next s) rows at
item_reached {R} {E} {S} {V} x n q next items s rows at on r = record {
  far = r.far;
  good = λ t h. (let u = item_of x n q next items s rows on t h in subst (λ (z : Took R E (List V)). at ≤ place_of (many (of x (suc n)) q next s) z) u.2 (same u.0 (r.good u.0 u.1)));
}
  where
    same : (u : Took R E (V × List V)) → at ≤ place_of (Others q next s (of x n)) u → at ≤ place_of (many (of x (suc n)) q next s) (item_as u)
    same (Ok t) l = l
    same (Err f) l = l

reached_of : {R E S V : Type 0} (x : Repeats) (q : S → Part R E V) (next : S → V → S) → ((s : S) → IsItem (q s)) → (n : ℕ) (s : S) (rows rest : List R) (vs : List V) → AllFit q next s vs → rows ≡ all_rows q next s vs ++ rest
    → GoesOn (of x n) (length vs) rest → GetsTo (many (of x n) q next s) rows (length (all_rows q next s vs) + 1)
unfolding of
reached_of x q next items zero s rows rest vs fit made on = absurd (none x on)
  where
    none : (x : Repeats) → GoesOn (of x 0) (length vs) rest → ⊥
    none (repeats.AtMost m) g = let l = g.0 in omega (arith, l)
    none (repeats.Exactly m) g = omega (arith, g)
reached_of x q next items (suc n) s rows rest [] fit made on =
    item_reached x n q next items s rows 1 (rw made on) (reached_first (q s) (λ v. many (of x n) q next (next s v)) (λ v f. record { told = many_told x q next items n (next s v) }) rows 1 (at_first (q s) (items s).tells rows))
reached_of {R} {E} {S} {V} x q next items (suc n) s rows rest (v ∷ vs) fit made on =
    let others : List R = all_rows q next (next s v) vs in
    let is : rows ≡ (q s).rows_of v ++ (others ++ rest) = made ∙ append_assoc ((q s).rows_of v) others rest in
    let begun : Begins (q s) rows v (others ++ rest) = record { fits = fit.0; made = is; follows = (items s).plain v (others ++ rest) fit.0 } in
    let inner = reached_of x q next items n (next s v) (others ++ rest) rest vs fit.1 refl (goes_fewer x n (length vs) rest on) in
    let place : length ((q s).rows_of v ++ others) + 1 ≡ length ((q s).rows_of v) + (length others + 1) = omega (arith, length-append ((q s).rows_of v) others) in
    rw place (item_reached x n q next items s rows (length ((q s).rows_of v) + (length others + 1))
    (rw is (went (of x (suc n)) 0 (suc (length vs)) ((q s).rows_of v) (others ++ rest) rest ((items s).some v fit.0) on (omega arith)))
    (reached_second (q s) (λ u. many (of x n) q next (next s u)) (items s).tells rows (others ++ rest) v (length others + 1) begun inner))

reached_on : {R E S V : Type 0} (x : Repeats) (q : S → Part R E V) (next : S → V → S) → ((s : S) → IsItem (q s)) → (s : S) (rows rest : List R) (vs : List V) → AllFit q next s vs → rows ≡ all_rows q next s vs ++ rest
    → GoesOn x (length vs) rest → GetsTo (many x q next s) rows (length (all_rows q next s vs) + 1)
unfolding of
reached_on (repeats.AtMost n) q next items s = reached_of (repeats.AtMost 0) q next items n s
reached_on (repeats.Exactly n) q next items s = reached_of (repeats.Exactly 0) q next items n s

-- items and then the end

pub ended_tells : {R E S V W : Type 0} (x : Repeats) (why : E) {q : S → Part R E V} {past : S → Part R E W} (next : S → V → S) → ((s : S) → IsItem (q s)) → ((s : S) → Tells (past s)) → (s : S) → Tells (ended x why q past next s)
ended_tells x why {q} {past} next items u s =
    seen_tells (λ vs. (vs, tt)) (λ u z e. (let r : u ≡ z = ap (λ y. y.0) e in r)) (λ v fit. (v.0, refl)) (then_tells {q = λ vs. over why (past (after next s vs))} (many_tells x next items s) (λ vs fit. over_tells why (u (after next s vs))))

less : (a b : ℕ) → a ≤ b → (a < b) ⊎ (a ≡ b)
less a b h = grind arith

-- after no more than the most items they are over or go on
stop_or_on : {R : Type 0} (x : Repeats) (c : ℕ) (rest : List R) → c ≤ most_of x → (IsCount x c × Stops x c rest) ⊎ GoesOn x c rest
stop_or_on (repeats.AtMost n) c [] l = inl (l, inr refl)
stop_or_on (repeats.AtMost n) c (row ∷ rest) l = elim (less c n l) [
  | inl k ↦ inr (k, λ e. (cc e))
  | inr e ↦ inl (l, inl e)
]
stop_or_on (repeats.Exactly n) c rest l = elim (less c n l) [
  | inl k ↦ inr k
  | inr e ↦ inl (e, e)
]

-- the record at which an item begins after good ones is reached
pub ended_reached : {R E S V W : Type 0} (x : Repeats) (why : E) (q : S → Part R E V) (past : S → Part R E W) (next : S → V → S) → ((s : S) → IsItem (q s)) → ((s : S) → Tells (past s)) → (s : S)
    → (rows : List R) (at : ℕ) → GoodBefore x q next s rows at → GetsTo (ended x why q past next s) rows at
ended_reached {R} {E} {S} {V} x why q past next items u s rows at b = rw b.5 (elim (stop_or_on x (length b.0) b.1 b.4) [
  | inl o ↦ seen_reached (λ vs. (vs, tt)) _ rows _ (reached_second (many x q next s) (λ vs. over why (past (after next s vs))) (many_tells x next items s) rows b.1 b.0 1
      (record { fits = (b.2, o.0); made = b.3; follows = o.1 }) (at_first _ (over_tells why (u (after next s b.0))) b.1))
  | inr on ↦ seen_reached (λ vs. (vs, tt)) _ rows _ (reached_first (many x q next s) (λ vs. over why (past (after next s vs))) (λ vs fit. over_tells why (u (after next s vs))) rows _
      (reached_on x q next items s rows b.1 b.0 b.2 b.3 on))
])

-- the same of items that something else may follow
pub many_reached : {R E S V : Type 0} (x : Repeats) (q : S → Part R E V) (next : S → V → S) → ((s : S) → IsItem (q s)) → (s : S) (rows : List R) (at : ℕ) → GoodBefore x q next s rows at → GetsTo (many x q next s) rows at
many_reached x q next items s rows at b = rw b.5 (elim (stop_or_on x (length b.0) b.1 b.4) [
  | inl o ↦ after_all_reached (many x q next s) (many_tells x next items s) rows b.0 b.1 (record { fits = (b.2, o.0); made = b.3; follows = o.1 })
  | inr on ↦ reached_on x q next items s rows b.1 b.0 b.2 b.3 on
])
