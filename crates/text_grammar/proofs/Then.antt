-- The laws of one record, of two parts in turn, and of the smaller pieces.
use Rattle.std.proofs.Common.{◌≡◌, ◌+◌, ◌≤◌, ◌∙◌, ℕ, List, [], ◌∷◌, ◌++◌, length, refl, sym, ap, inl, inr, arith, append_assoc, subst}
use Rattle.std.specs.Prelude.{◌⊎◌, Ok, Err}
use mathlib.Core.Path.{path_j}
use Rattle.std.proofs.lemmas.List.{length-append}
use Rattle.text_grammar.specs.Parts.{Part, Begins, Took, IsTaken, place_of, GetsTo, NextWrong, record_of, then, over, seen_as, tested, by_word}
use Rattle.text_grammar.specs.Laws.{IsNear, Told, Tells, IsPlain}
use Rattle.text_grammar.specs.Inside.Laws.{TellsRecord, Either}

-- what holds of each part that is a function

ok_same : {R E V : Type 0} {v u : V} {a b : List R} (t : Took R E V) → t ≡ Ok (v, a) → t ≡ Ok (u, b) → (v ≡ u) × (a ≡ b)
ok_same {R} {E} {V} {v} {u} {a} {b} t e f =
    let one : V × List R = (v, a) in
    let other : V × List R = (u, b) in
    let one_of : Took R E V = Ok one in
    let other_of : Took R E V = Ok other in
    let same : one_of ≡ other_of = sym e ∙ f in
    let both : one ≡ other = cc same in
    (λ i. (both i).0, λ i. (both i).1)

same_value : {R E V : Type 0} {p : Part R E V} {rows a b : List R} {v u : V} → Told p rows → Begins p rows v a → Begins p rows u b → (v ≡ u) × (a ≡ b)
same_value {a = a} {b = b} {v = v} {u = u} t h k = ok_same t.0 (t.3 (Ok (v, a)) h) (t.3 (Ok (u, b)) k)

never_both : {R E V : Type 0} (p : Part R E V) (rows a : List R) (v : V) (k : ℕ) (w : E) → Told p rows → Begins p rows v a → p.Wrong rows k w → ⊥
never_both p rows a v k w t h f = let clash = sym (t.3 (Ok (v, a)) h) ∙ t.3 (Err (k, w)) f in cc clash

pub once : {R E V : Type 0} {p : Part R E V} → Tells p → (rows : List R) (v u : V) (a b : List R) → Begins p rows v a → Begins p rows u b → (v ≡ u) × (a ≡ b)
once t rows v u a b h k = same_value (t.told rows) h k

pub apart : {R E V : Type 0} {p : Part R E V} → Tells p → (rows : List R) (v : V) (a : List R) (k : ℕ) (w : E) → Begins p rows v a → p.Wrong rows k w → ⊥
apart {p = p} t rows v a k w h f = never_both p rows a v k w (t.told rows) h f

pub first : {R E V : Type 0} {p : Part R E V} → Tells p → (rows : List R) (k j : ℕ) (w x : E) → p.Wrong rows k w → p.Wrong rows j x → (k ≡ j) × (w ≡ x)
first {R} {E} {V} t rows k j w x f g =
    let one : ℕ × E = (k, w) in
    let other : ℕ × E = (j, x) in
    let one_of : Took R E V = Err one in
    let other_of : Took R E V = Err other in
    let same : one_of ≡ other_of = sym ((t.told rows).3 one_of f) ∙ (t.told rows).3 other_of g in
    let both : one ≡ other = cc same in
    (λ i. (both i).0, λ i. (both i).1)

pub near : {R E V : Type 0} {p : Part R E V} → Tells p → (rows : List R) (k : ℕ) (w : E) → p.Wrong rows k w → (1 ≤ k) × (k ≤ length rows + 1)
near {R} {E} {V} t rows k w f = let told = t.told rows in subst (λ (u : Took R E V). IsNear rows u) (told.3 (Err (k, w)) f) told.2

pub decided : {R E V : Type 0} {p : Part R E V} → Tells p → (rows : List R) → Either p rows
decided {R} {E} {V} {p} t rows = one_of (t.told rows).0 (t.told rows).1
  where
    one_of : (u : Took R E V) → IsTaken p rows u → Either p rows
    one_of (Ok x) h = inl (x.0, x.1, h)
    one_of (Err f) h = inr (f.0, f.1, h)

-- one record

next_first : {R E V : Type 0} (row_of : V → R) (Fits : V → Type 0) (gone : E) (Lacks : R → E → Type 0) → TellsRecord row_of Fits Lacks → (rows : List R) (w x : E)
    → NextWrong gone Lacks rows w → NextWrong gone Lacks rows x → w ≡ x
next_first row_of Fits gone Lacks t [] w x a b = a ∙ sym b
next_first row_of Fits gone Lacks t (row ∷ rows) w x a b = t.first row w x a b

cons_same : {A : Type 0} (x y : A) (xs ys : List A) → x ∷ xs ≡ y ∷ ys → (x ≡ y) × (xs ≡ ys)
cons_same x y xs ys e = (cc e, cc e)

pub record_tells : {R E V : Type 0} {row_of : V → R} {Fits : V → Type 0} {Lacks : R → E → Type 0} (gone : E) → TellsRecord row_of Fits Lacks → Tells (record_of row_of Fits gone Lacks)
record_tells {R} {E} {V} {row_of} {Fits} {Lacks} gone t = record { told = told }
  where
    lacks : (rows : List R) (w : E) → NextWrong gone Lacks rows w → ((v : V) → Fits v → (rest : List R) → rows ≡ row_of v ∷ rest → ⊥) → Told (record_of row_of Fits gone Lacks) rows
    lacks rows w bad none = (Err (1, w), (refl, bad), (omega arith, omega arith), only)
      where
        only : (u : Took R E V) → IsTaken (record_of row_of Fits gone Lacks) rows u → Err (1, w) ≡ u
        only (Ok x) h = absurd (none x.0 h.fits x.1 h.made)
        only (Err f) h = let at = sym h.0 in let why = next_first row_of Fits gone Lacks t rows w f.1 bad h.1 in λ i. Err (at i, why i)

    spells : (v : V) (row : R) (rows : List R) → Fits v → row ≡ row_of v → Told (record_of row_of Fits gone Lacks) (row ∷ rows)
    spells v row rows fit is = (Ok (v, rows), record { fits = fit; made = ap (λ (r : R). r ∷ rows) is; follows = tt }, tt, only)
      where
        only : (u : Took R E V) → IsTaken (record_of row_of Fits gone Lacks) (row ∷ rows) u → Ok (v, rows) ≡ u
        only (Ok x) h =
            let e = cons_same _ _ _ _ h.made in
            let value = t.once v x.0 fit h.fits (sym is ∙ e.0) in
            λ i. Ok (value i, e.1 i)
        only (Err f) h = absurd (t.apart v f.1 fit (subst (λ (r : R). Lacks r f.1) is h.1))

    told : (rows : List R) → Told (record_of row_of Fits gone Lacks) rows
    told [] = lacks [] gone refl (λ v fit rest e. (cc e))
    told (row ∷ rows) = elim (t.decided row) [
      | inl h ↦ spells h.0 row rows h.1 h.2
      | inr f ↦ lacks (row ∷ rows) f.0 f.1 (λ v fit rest e. t.apart v f.0 fit (subst (λ (r : R). Lacks r f.0) (cons_same _ _ _ _ e).0 f.1))
    ]

-- a part, and then one that depends on the first one's value

head_begins : {R E V W : Type 0} (p : Part R E V) (q : V → Part R E W) (rows : List R) (v : V × W) (rest : List R) → Begins (then p q) rows v rest → Begins p rows v.0 ((q v.0).rows_of v.1 ++ rest)
head_begins p q rows v rest h = record {
  fits = h.fits.0;
  made = h.made ∙ append_assoc (p.rows_of v.0) ((q v.0).rows_of v.1) rest;
  follows = h.follows.0;
}

pub both_begin : {R E V W : Type 0} (p : Part R E V) (q : V → Part R E W) (rows mid : List R) (v : V) (w : W) (rest : List R)
    → Begins p rows v mid → Begins (q v) mid w rest → Begins (then p q) rows (v, w) rest
both_begin p q rows mid v w rest h k = record {
  fits = (h.fits, k.fits);
  made = h.made ∙ ap (λ t. p.rows_of v ++ t) k.made ∙ sym (append_assoc (p.rows_of v) ((q v).rows_of w) rest);
  follows = (rw k.made at h.follows, k.follows);
}

-- what the second part is taken as, behind n records of a value of the first
abbrev behind : {R E V W : Type 0} → ℕ → V → Took R E W → Took R E (V × W)
behind n v (Ok t) = Ok ((v, t.0), t.1)
behind n v (Err f) = Err (n + f.0, f.1)

-- where the first part is taken as a value, both are taken as what the second one is, and as nothing else

second_taken : {R E V W : Type 0} (p : Part R E V) (q : V → Part R E W) (rows mid : List R) (v : V) → Begins p rows v mid → (t : Took R E W) → IsTaken (q v) mid t → IsTaken (then p q) rows (behind (length (p.rows_of v)) v t)
second_taken p q rows mid v h (Ok t) k = both_begin p q rows mid v t.0 t.1 h k
second_taken p q rows mid v h (Err f) k = inr (v, mid, f.0, h, refl, k)

second_near : {R E V W : Type 0} (p : Part R E V) (rows mid : List R) (v : V) → Begins p rows v mid → (t : Took R E W) → IsNear mid t → IsNear rows (behind (length (p.rows_of v)) v t)
second_near p rows mid v h (Ok t) n = tt
second_near p rows mid v h (Err f) n =
    let low = n.0 in
    let high = n.1 in
    let all : length rows ≡ length (p.rows_of v ++ mid) = ap length h.made in
    (omega (arith, low), omega (arith, high, all, length-append (p.rows_of v) mid))

second_of : {R E V W : Type 0} (p : Part R E V) (q : V → Part R E W) (rows mid : List R) (v : V) → Told p rows → Begins p rows v mid → (t : Took R E (V × W)) → IsTaken (then p q) rows t
    → (u : Took R E W) × IsTaken (q v) mid u × (behind (length (p.rows_of v)) v u ≡ t)
second_of {R} {E} {V} {W} p q rows mid v told h (Ok x) k =
    let e = same_value told (head_begins p q rows x.0 x.1 k) h in
    let tail : Begins (q x.0.0) ((q x.0.0).rows_of x.0.1 ++ x.1) x.0.1 x.1 = record { fits = k.fits.1; made = refl; follows = k.follows.1 } in
    (Ok (x.0.1, x.1), along x.0.0 ((q x.0.0).rows_of x.0.1 ++ x.1) e.0 e.1 tail, λ i. Ok ((sym e.0 i, x.0.1), x.1))
  where
    along : (a : V) (others : List R) → a ≡ v → others ≡ mid → Begins (q a) others x.0.1 x.1 → Begins (q v) mid x.0.1 x.1
    along a others e f b = rw (e, f) at b
second_of p q rows mid v told h (Err f) (inl bad) = absurd (never_both p rows mid v f.0 f.1 told h bad)
second_of {R} {E} {V} {W} p q rows mid v told h (Err f) (inr k) =
    let e = same_value told k.3 h in
    let is = k.4 in
    let place : length (p.rows_of v) + k.2 ≡ f.0 = ap (λ (z : V). length (p.rows_of z) + k.2) (sym e.0) ∙ sym is in
    (Err (k.2, f.1), along k.0 k.1 e.0 e.1 k.5, λ i. Err (place i, f.1))
  where
    along : (a : V) (others : List R) → a ≡ v → others ≡ mid → (q a).Wrong others k.2 f.1 → (q v).Wrong mid k.2 f.1
    along a others e g b = rw (e, g) at b

pub then_told : {R E V W : Type 0} (p : Part R E V) (q : V → Part R E W) (rows : List R) → Told p rows → ((v : V) → p.Fits v → (mid : List R) → Told (q v) mid) → Told (then p q) rows
then_told {R} {E} {V} {W} p q rows (Ok x, h, close, only) s =
    let t = s x.0 h.fits x.1 in (
      behind (length (p.rows_of x.0)) x.0 t.0,
      second_taken p q rows x.1 x.0 h t.0 t.1,
      second_near p rows x.1 x.0 h t.0 t.2,
      λ u k. (let r = second_of p q rows x.1 x.0 (Ok x, h, close, only) h u k in ap (behind (length (p.rows_of x.0)) x.0) (t.3 r.0 r.1) ∙ r.2),
    )
then_told {R} {E} {V} {W} p q rows (Err f, bad, close, only) s = (Err f, inl bad, close, after)
  where
    after : (u : Took R E (V × W)) → IsTaken (then p q) rows u → Err f ≡ u
    after (Ok x) h = absurd (never_both p rows _ x.0.0 f.0 f.1 (Err f, bad, close, only) (head_begins p q rows x.0 x.1 h) bad)
    after (Err g) (inl k) = let same : f ≡ g = cc (only (Err g) k) in ap (λ z. Err z) same
    after (Err g) (inr k) = absurd (never_both p rows k.1 k.0 f.0 f.1 (Err f, bad, close, only) k.3 bad)

pub then_tells : {R E V W : Type 0} {p : Part R E V} {q : V → Part R E W} → Tells p → ((v : V) → p.Fits v → Tells (q v)) → Tells (then p q)
then_tells {p = p} {q = q} t s = record { told = λ rows. then_told p q rows (t.told rows) (λ v fit mid. (s v fit).told mid) }

-- no fault before a record of the first part
pub reached_first : {R E V W : Type 0} (p : Part R E V) (q : V → Part R E W) → ((v : V) → p.Fits v → Tells (q v)) → (rows : List R) (at : ℕ)
    → GetsTo p rows at → GetsTo (then p q) rows at
reached_first {R} {E} {V} {W} p q s rows at r = record { far = r.far; good = good }
  where
    good : (t : Took R E (V × W)) → IsTaken (then p q) rows t → at ≤ place_of (then p q) t
    good (Ok x) h =
        let inside : at ≤ length (p.rows_of x.0.0) + 1 = r.good (Ok (x.0.0, (q x.0.0).rows_of x.0.1 ++ x.1)) (head_begins p q rows x.0 x.1 h) in
        omega (arith, inside, length-append (p.rows_of x.0.0) ((q x.0.0).rows_of x.0.1))
    good (Err f) (inl k) = r.good (Err f) k
    good (Err f) (inr k) =
        let n = (near (s k.0 k.3.fits) k.1 k.2 f.1 k.5).0 in
        let inside : at ≤ length (p.rows_of k.0) + 1 = r.good (Ok (k.0, k.1)) k.3 in
        let is = k.4 in
        omega (arith, n, inside, is)

-- nor before one of the second part
pub reached_second : {R E V W : Type 0} (p : Part R E V) (q : V → Part R E W) → Tells p → (rows mid : List R) (v : V) (at : ℕ)
    → Begins p rows v mid → GetsTo (q v) mid at → GetsTo (then p q) rows (length (p.rows_of v) + at)
reached_second {R} {E} {V} {W} p q t rows mid v at h r = record {
  far = (
      let all : length rows ≡ length (p.rows_of v ++ mid) = ap length h.made in
      let far = r.far in
      omega (arith, all, length-append (p.rows_of v) mid, far)
      );
  good = λ u k. (let s = second_of p q rows mid v (t.told rows) h u k in subst (λ (z : Took R E (V × W)). length (p.rows_of v) + at ≤ place_of (then p q) z) s.2 (past s.0 (r.good s.0 s.1)));
}
  where
    past : (u : Took R E W) → at ≤ place_of (q v) u → length (p.rows_of v) + at ≤ place_of (then p q) (behind (length (p.rows_of v)) v u)
    past (Ok x) l = omega (arith, l, length-append (p.rows_of v) ((q v).rows_of x.0))
    past (Err f) l = omega (arith, l)

-- the first record is always reached
pub at_first : {R E V : Type 0} (p : Part R E V) → Tells p → (rows : List R) → GetsTo p rows 1
at_first {R} {E} {V} p t rows = record { far = omega arith; good = good }
  where
    good : (u : Took R E V) → IsTaken p rows u → 1 ≤ place_of p u
    good (Ok x) h = omega arith
    good (Err f) h = (near t rows f.0 f.1 h).0

-- the record after those of a value is reached
pub after_all_reached : {R E V : Type 0} (p : Part R E V) → Tells p → (rows : List R) (v : V) (rest : List R) → Begins p rows v rest → GetsTo p rows (length (p.rows_of v) + 1)
after_all_reached {R} {E} {V} p t rows v rest h = record {
  far = (let all : length rows ≡ length (p.rows_of v ++ rest) = ap length h.made in omega (arith, all, length-append (p.rows_of v) rest));
  good = λ u k. (let told = t.told rows in subst (λ (z : Took R E V). length (p.rows_of v) + 1 ≤ place_of p z) (sym (told.3 (Ok (v, rest)) h) ∙ told.3 u k) (omega arith));
}

-- the end of the text

pub over_tells : {R E V : Type 0} (why : E) {q : Part R E V} → Tells q → Tells (over why q)
over_tells {R} {E} {V} why {q} t = record { told = told }
  where
    more : (row : R) (rows : List R) → Told q (row ∷ rows) → Told (over why q) (row ∷ rows)
    more row rows (Ok x, h, close, only) = (Err (1, why), ((λ e. (cc e)), inr (refl, refl, (x.0, x.1, h))), (omega arith, omega arith), after)
      where
        after : (u : Took R E (Unit {0})) → IsTaken (over why q) (row ∷ rows) u → Err (1, why) ≡ u
        after (Ok y) k = absurd (let e = k.made ∙ k.follows in cc e)
        after (Err f) (some, inl k) = absurd (cc (only (Err f) k))
        after (Err f) (some, inr k) = λ i. Err (sym k.0 i, sym k.1 i)
    more row rows (Err f, bad, close, only) = (Err f, ((λ e. (cc e)), inl bad), close, after)
      where
        after : (u : Took R E (Unit {0})) → IsTaken (over why q) (row ∷ rows) u → Err f ≡ u
        after (Ok y) k = absurd (let e = k.made ∙ k.follows in cc e)
        after (Err g) (some, inl k) = let same : f ≡ g = cc (only (Err g) k) in ap (λ z. Err z) same
        after (Err g) (some, inr k) = absurd (never_both q (row ∷ rows) k.2.1 k.2.0 f.0 f.1 (Err f, bad, close, only) k.2.2 bad)

    none : (u : Took R E (Unit {0})) → IsTaken (over why q) [] u → Ok (tt, []) ≡ u
    none (Ok x) h = λ i. Ok (tt, sym h.follows i)
    none (Err f) h = absurd (h.0 refl)

    told : (rows : List R) → Told (over why q) rows
    told [] = (Ok (tt, []), record { fits = tt; made = refl; follows = refl }, tt, none)
    told (row ∷ rows) = more row rows (t.told (row ∷ rows))

-- values seen as others

pub seen_tells : {R E V U : Type 0} (g : U → V) {p : Part R E V} → ((u z : U) → g u ≡ g z → u ≡ z) → ((v : V) → p.Fits v → (u : U) × (g u ≡ v)) → Tells p → Tells (seen_as g p)
seen_tells {R} {E} {V} {U} g {p} same back t = record { told = λ rows. told rows (t.told rows) }
  where
    seen : (u : U) (rows a : List R) → Begins (seen_as g p) rows u a → Begins p rows (g u) a
    seen u rows a h = record { fits = h.fits; made = h.made; follows = h.follows }

    value : (rows rest : List R) (v : V) → Told p rows → Begins p rows v rest → (u : U) × (g u ≡ v) → Told (seen_as g p) rows
    value rows rest v all h b = (Ok (b.0, rest), record { fits = rw (← b.1) at h.fits; made = rw (← b.1) at h.made; follows = rw (← b.1) at h.follows }, tt, after)
      where
        after : (u : Took R E U) → IsTaken (seen_as g p) rows u → Ok (b.0, rest) ≡ u
        after (Ok x) k =
            let e = same_value all h (seen x.0 rows x.1 k) in
            let is = same b.0 x.0 (b.1 ∙ e.0) in
            λ i. Ok (is i, e.1 i)
        after (Err f) k = absurd (never_both p rows rest v f.0 f.1 all h k)

    told : (rows : List R) → Told p rows → Told (seen_as g p) rows
    told rows (Ok x, h, close, only) = value rows x.1 x.0 (Ok x, h, close, only) h (back x.0 h.fits)
    told rows (Err f, bad, close, only) = (Err f, bad, close, after)
      where
        after : (u : Took R E U) → IsTaken (seen_as g p) rows u → Err f ≡ u
        after (Ok x) k = absurd (never_both p rows x.1 (g x.0) f.0 f.1 (Err f, bad, close, only) (seen x.0 rows x.1 k) bad)
        after (Err h) k = let e : f ≡ h = cc (only (Err h) k) in ap (λ z. Err z) e

pub seen_reached : {R E V U : Type 0} (g : U → V) (p : Part R E V) (rows : List R) (at : ℕ) → GetsTo p rows at → GetsTo (seen_as g p) rows at
seen_reached {R} {E} {V} {U} g p rows at r = record { far = r.far; good = good }
  where
    good : (t : Took R E U) → IsTaken (seen_as g p) rows t → at ≤ place_of (seen_as g p) t
    good (Ok x) h = r.good (Ok (g x.0, x.1)) (record { fits = h.fits; made = h.made; follows = h.follows })
    good (Err f) h = r.good (Err f) h

-- one more test

pub tested_tells : {R E V : Type 0} {p : Part R E V} (Good : V → Type 0) (Fails : V → ℕ → E → Type 0) → Tells p
    → ((v : V) (k j : ℕ) (w x : E) → p.Fits v → Fails v k w → Fails v j x → (k ≡ j) × (w ≡ x))
    → ((v : V) (k : ℕ) (w : E) → Good v → Fails v k w → ⊥)
    → ((v : V) (k : ℕ) (w : E) → Fails v k w → (1 ≤ k) × (k ≤ length (p.rows_of v) + 1))
    → ((v : V) → p.Fits v → Good v ⊎ ((k : ℕ) × (w : E) × Fails v k w))
    → Tells (tested p Good Fails)
tested_tells {R} {E} {V} {p} Good Fails t one none in_it test = record { told = λ rows. told rows (t.told rows) }
  where
    plain : (v : V) (rows a : List R) → Begins (tested p Good Fails) rows v a → Begins p rows v a
    plain v rows a h = record { fits = h.fits.0; made = h.made; follows = h.follows }

    value : (rows rest : List R) (v : V) → Told p rows → Begins p rows v rest → Good v ⊎ ((k : ℕ) × (w : E) × Fails v k w) → Told (tested p Good Fails) rows
    value rows rest v all h (inl good) = (Ok (v, rest), record { fits = (h.fits, good); made = h.made; follows = h.follows }, tt, after)
      where
        after : (u : Took R E V) → IsTaken (tested p Good Fails) rows u → Ok (v, rest) ≡ u
        after (Ok x) k = let e = same_value all h (plain x.0 rows x.1 k) in λ i. Ok (e.0 i, e.1 i)
        after (Err f) (inl k) = absurd (never_both p rows rest v f.0 f.1 all h k)
        after (Err f) (inr k) = absurd (none v f.0 f.1 good (subst (λ (z : V). Fails z f.0 f.1) (same_value all k.2 h).0 k.3))
    value rows rest v all h (inr bad) =
        let n = in_it v bad.0 bad.1 bad.2 in
        let high = n.1 in
        let long : length rows ≡ length (p.rows_of v ++ rest) = ap length h.made in
        (Err (bad.0, bad.1), inr (v, rest, h, bad.2), (n.0, omega (arith, high, long, length-append (p.rows_of v) rest)), after)
      where
        after : (u : Took R E V) → IsTaken (tested p Good Fails) rows u → Err (bad.0, bad.1) ≡ u
        after (Ok x) k = absurd (none v bad.0 bad.1 (subst Good (same_value all (plain x.0 rows x.1 k) h).0 k.fits.1) bad.2)
        after (Err f) (inl k) = absurd (never_both p rows rest v f.0 f.1 all h k)
        after (Err f) (inr k) = let e = one v bad.0 f.0 bad.1 f.1 h.fits bad.2 (subst (λ (z : V). Fails z f.0 f.1) (same_value all k.2 h).0 k.3) in λ i. Err (e.0 i, e.1 i)

    told : (rows : List R) → Told p rows → Told (tested p Good Fails) rows
    told rows (Ok x, h, close, only) = value rows x.1 x.0 (Ok x, h, close, only) h (test x.0 h.fits)
    told rows (Err f, bad, close, only) = (Err f, inl bad, close, after)
      where
        after : (u : Took R E V) → IsTaken (tested p Good Fails) rows u → Err f ≡ u
        after (Ok x) k = absurd (never_both p rows x.1 x.0 f.0 f.1 (Err f, bad, close, only) (plain x.0 rows x.1 k) bad)
        after (Err g) (inl k) = let e : f ≡ g = cc (only (Err g) k) in ap (λ z. Err z) e
        after (Err g) (inr k) = absurd (never_both p rows k.1 k.0 f.0 f.1 (Err f, bad, close, only) k.2 bad)

pub tested_plain : {R E V : Type 0} (p : Part R E V) (Good : V → Type 0) (Fails : V → ℕ → E → Type 0) → IsPlain p → IsPlain (tested p Good Fails)
tested_plain p Good Fails t v rest fit = t v rest fit.0

-- one of some kinds

-- what the part of a kind is taken as
abbrev kind_as : {R E K : Type 0} (V : K → Type 0) (i : K) → Took R E (V i) → Took R E ((i : K) × V i)
kind_as V i (Ok t) = Ok ((i, t.0), t.1)
kind_as V i (Err f) = Err f

abbrev Kinded : {R E K : Type 0} (V : K → Type 0) → Took R E ((i : K) × V i) → Took R E ((i : K) × V i) → Type 0
Kinded V t u = t ≡ u

pub by_word_tells : {R E K : Type 0} (V : K → Type 0) (StartsWith : K → List R → Type 0) (q : (i : K) → Part R E (V i)) (NoKind : List R → E → Type 0) → ((i : K) (rows : List R) → StartsWith i rows → Told (q i) rows)
    → ((i j : K) (rows : List R) → StartsWith i rows → StartsWith j rows → i ≡ j)
    → ((i : K) (rows : List R) (v : V i) (a : List R) → Begins (q i) rows v a → StartsWith i rows)
    → ((rows : List R) (w x : E) → NoKind rows w → NoKind rows x → w ≡ x)
    → ((rows : List R) → ((i : K) × StartsWith i rows) ⊎ (((i : K) → ¬ StartsWith i rows) × ((w : E) × NoKind rows w)))
    → Tells (by_word V StartsWith q NoKind)
by_word_tells {R} {E} {K} V StartsWith q NoKind t kind starts none find = record { told = λ rows. told rows (find rows) }
  where
    this : (v : (i : K) × V i) (rows a : List R) → Begins (by_word V StartsWith q NoKind) rows v a → Begins (q v.0) rows v.1 a
    this v rows a h = record { fits = h.fits; made = h.made; follows = h.follows }

    taken : (i : K) (rows : List R) → StartsWith i rows → (u : Took R E (V i)) → IsTaken (q i) rows u → IsTaken (by_word V StartsWith q NoKind) rows (kind_as V i u)
    taken i rows s (Ok x) h = record { fits = h.fits; made = h.made; follows = h.follows }
    taken i rows s (Err f) h = inl (i, s, h)

    close : (i : K) (rows : List R) → (u : Took R E (V i)) → IsNear rows u → IsNear rows (kind_as V i u)
    close i rows (Ok x) n = n
    close i rows (Err f) n = n

    -- what the part of the same kind is taken as
    same : (i : K) (rows : List R) (a : Told (q i) rows) (j : K) → i ≡ j → (u : Took R E (V j)) → IsTaken (q j) rows u → Kinded V (kind_as V i a.0) (kind_as V j u)
    same i rows a j e = path_j (λ (z : K) (p : i ≡ z). (u : Took R E (V z)) → IsTaken (q z) rows u → Kinded V (kind_as V i a.0) (kind_as V z u)) (λ u h. ap (kind_as V i) (a.3 u h)) e

    told : (rows : List R) → ((i : K) × StartsWith i rows) ⊎ (((i : K) → ¬ StartsWith i rows) × ((w : E) × NoKind rows w)) → Told (by_word V StartsWith q NoKind) rows
    told rows (inl s) = (kind_as V s.0 (t s.0 rows s.1).0, taken s.0 rows s.1 (t s.0 rows s.1).0 (t s.0 rows s.1).1, close s.0 rows (t s.0 rows s.1).0 (t s.0 rows s.1).2, only)
      where
        only : (u : Took R E ((i : K) × V i)) → IsTaken (by_word V StartsWith q NoKind) rows u → kind_as V s.0 (t s.0 rows s.1).0 ≡ u
        only (Ok x) h = let k = this x.0 rows x.1 h in same s.0 rows (t s.0 rows s.1) x.0.0 (kind s.0 x.0.0 rows s.1 (starts x.0.0 rows x.0.1 x.1 k)) (Ok (x.0.1, x.1)) k
        only (Err f) (inl k) = same s.0 rows (t s.0 rows s.1) k.0 (kind s.0 k.0 rows s.1 k.1) (Err f) k.2
        only (Err f) (inr k) = absurd (k.1 s.0 s.1)
    told rows (inr n) = (Err (1, n.1.0), inr (refl, n.0, n.1.1), (omega arith, omega arith), only)
      where
        only : (u : Took R E ((i : K) × V i)) → IsTaken (by_word V StartsWith q NoKind) rows u → Err (1, n.1.0) ≡ u
        only (Ok x) h = absurd (n.0 x.0.0 (starts x.0.0 rows x.0.1 x.1 (this x.0 rows x.1 h)))
        only (Err f) (inl k) = absurd (n.0 k.0 k.1)
        only (Err f) (inr k) = let why = none rows n.1.0 f.1 n.1.1 k.2 in λ i. Err (sym k.0 i, why i)

-- what is reached in the part of its kind is reached
pub kind_reached : {R E K : Type 0} (V : K → Type 0) (StartsWith : K → List R → Type 0) (q : (i : K) → Part R E (V i)) (NoKind : List R → E → Type 0)
    → ((i j : K) (rows : List R) → StartsWith i rows → StartsWith j rows → i ≡ j)
    → ((i : K) (rows : List R) (v : V i) (a : List R) → Begins (q i) rows v a → StartsWith i rows)
    → (i : K) (rows : List R) (at : ℕ) → StartsWith i rows → GetsTo (q i) rows at → GetsTo (by_word V StartsWith q NoKind) rows at
kind_reached {R} {E} {K} V StartsWith q NoKind kind starts i rows at s r = record { far = r.far; good = good }
  where
    there : (j : K) → StartsWith j rows → GetsTo (q j) rows at
    there j z = subst (λ k. GetsTo (q k) rows at) (kind i j rows s z) r

    good : (t : Took R E ((i : K) × V i)) → IsTaken (by_word V StartsWith q NoKind) rows t → at ≤ place_of (by_word V StartsWith q NoKind) t
    good (Ok x) h =
        let this : Begins (q x.0.0) rows x.0.1 x.1 = record { fits = h.fits; made = h.made; follows = h.follows } in
        (there x.0.0 (starts x.0.0 rows x.0.1 x.1 this)).good (Ok (x.0.1, x.1)) this
    good (Err f) (inl k) = (there k.0 k.1).good (Err f) k.2
    good (Err f) (inr k) = absurd (k.1 i s)

-- what is reached in parts that those of each kind begin with is reached
pub kinds_reached : {R E K : Type 0} (V W : K → Type 0) (StartsWith : K → List R → Type 0) (p : (i : K) → Part R E (V i)) (q : (i : K) → Part R E (W i)) (NoKind : List R → E → Type 0)
    → ((i : K) (rows : List R) (v : W i) (a : List R) → Begins (q i) rows v a → StartsWith i rows)
    → ((i : K) (rows : List R) (at : ℕ) → GetsTo (p i) rows at → GetsTo (q i) rows at)
    → (rows : List R) (at : ℕ) → GetsTo (by_word V StartsWith p NoKind) rows at → GetsTo (by_word W StartsWith q NoKind) rows at
kinds_reached {R} {E} {K} V W StartsWith p q NoKind starts lift rows at r = record { far = r.far; good = good }
  where
    first_good : (i : K) → StartsWith i rows → (t : Took R E (V i)) → IsTaken (p i) rows t → at ≤ place_of (p i) t
    first_good i s (Ok x) h = r.good (Ok ((i, x.0), x.1)) (record { fits = h.fits; made = h.made; follows = h.follows })
    first_good i s (Err f) h = r.good (Err f) (inl (i, s, h))

    there : (i : K) → StartsWith i rows → GetsTo (q i) rows at
    there i s = lift i rows at (record { far = r.far; good = first_good i s })

    good : (t : Took R E ((i : K) × W i)) → IsTaken (by_word W StartsWith q NoKind) rows t → at ≤ place_of (by_word W StartsWith q NoKind) t
    good (Ok x) h =
        let begun : Begins (q x.0.0) rows x.0.1 x.1 = record { fits = h.fits; made = h.made; follows = h.follows } in
        (there x.0.0 (starts x.0.0 rows x.0.1 x.1 begun)).good (Ok (x.0.1, x.1)) begun
    good (Err f) (inl k) = (there k.0 k.1).good (Err f) k.2
    good (Err f) (inr k) = r.good (Err f) (inr k)
