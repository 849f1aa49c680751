-- The waiting bios in order: the values of a map by rising key.
use Rattle.std.proofs.Common.{◌≡◌, ◌<◌, ◌≤◌, ◌==◌, ℕ, suc, List, [], ◌∷◌, refl, sym, ◌∙◌, ap, subst, arith, inl, inr, Some, None, cond, Bool, true, false, eq-eqb, ne_eqb, eqb-true, is_some}
use Rattle.std.specs.Prelude.{Option, option_map, ◌||◌, ◌&&◌, not, count_by, filter, nat_le, slice_get, ⊤}
use Rattle.std.specs.List.{flat_map, AllByRecursion}
use Rattle.std.specs.List.Sorted.{IsStrictlySortedBy}
use Rattle.std.specs.Map.{lookup, keys_of, values_of}
use Rattle.std.specs.Ordering.{nat_cmp}
use Rattle.std.specs.declared.cmp.Ordering.TheVariants.{Less}
use Rattle.std.specs.Cmp.{ranked, nat_cmp_total, unsigned_tied}
use Rattle.std.specs.BTreeMap.{BTreeMap, get, values, is_at, IsOrdered}
use Rattle.std.proofs.lemmas.Map.Entries.{btree_map_get_place}
use Rattle.std.proofs.lemmas.Bool.{cases_Bool, or_left, or_cases, or_parts, or_from, cond_both, false_from_ne_true, leb-true, leb-false, cases_order}
use Rattle.blk_bio.specs.Bios.{Bio}
use Rattle.blk_trace.specs.Happened.{Happened}
use Rattle.blk_trace.specs.Setups.{Setup}
use Rattle.blk_trace.specs.Events.{request_of}
use Rattle.blk_trace.specs.Legal.{IsLegalTrace}
use Rattle.blk_trace.specs.Meaning.{released_ids, issued_ids, put_rising, rising, waiting_ids, waiting_of}
use Rattle.blk_trace.specs.Waits.{Entered, has_id, waits_at}
use Rattle.blk_trace.specs.Inside.Gathered.{waiting_bios}
use Rattle.blk_trace.proofs.Counting.{one_if, count-cons, released_times}
use Rattle.blk_trace.proofs.Waiting.{IsWaiting, waiting_from}

flip : (q i : ℕ) → (q == i) ≡ (i == q)
flip q i = elim (cases_Bool (q == i)) [
  | inl t ↦ t ∙ sym (eq-eqb i q (sym (eqb-true q i t)))
  | inr f ↦ f ∙ sym (ne_eqb i q (λ e. let t : (q == i) ≡ true = eq-eqb q i (sym e) in absurd (cc)))
]

-- each number is below those after it
Rises : List ℕ → Type 0
Rises [] = ⊤
Rises (x ∷ xs) = ((q : ℕ) → has_id xs q ≡ true → x < q) × Rises xs

above : (x : ℕ) (xs : List ℕ) → AllByRecursion (λ y. nat_cmp x y ≡ Less) xs → (q : ℕ) → has_id xs q ≡ true → x < q
above x [] a q h = absurd (cc)
above x (y ∷ ys) a q h = elim (or_cases (y == q) (has_id ys q) h) [
  | inl t ↦ let same : y ≡ q = eqb-true y q t in let less : x < y = ranked x y Less (sym a.0) in omega arith
  | inr t ↦ above x ys a.1 q t
]

rises_from : (xs : List ℕ) → IsStrictlySortedBy nat_cmp xs → Rises xs
unfolding IsStrictlySortedBy Rises
rises_from [] h = tt
rises_from (x ∷ xs) h = (λ q m. above x xs h.0 q m, rises_from xs h.1)

not_after : (x : ℕ) (xs : List ℕ) → ((q : ℕ) → has_id xs q ≡ true → x < q) → has_id xs x ≡ false
not_after x xs h = false_from_ne_true (has_id xs x) (λ t. let l : x < x = h x t in absurd (omega arith))

-- lists that rise and have the same numbers are one
same_rise : (xs ys : List ℕ) → Rises xs → Rises ys → ((q : ℕ) → has_id xs q ≡ has_id ys q) → xs ≡ ys
unfolding Rises
same_rise [] [] a b h = refl
same_rise [] (y ∷ ys) a b h = absurd (let t : has_id (y ∷ ys) y ≡ true = or_left (y == y) (has_id ys y) (eq-eqb y y refl) in let e : false ≡ true = h y ∙ t in cc)
same_rise (x ∷ xs) [] a b h = absurd (let t : has_id (x ∷ xs) x ≡ true = or_left (x == x) (has_id xs x) (eq-eqb x x refl) in let e : false ≡ true = sym (h x) ∙ t in cc)
same_rise (x ∷ xs) (y ∷ ys) a b h =
    let in_first : has_id (x ∷ xs) y ≡ true = h y ∙ or_left (y == y) (has_id ys y) (eq-eqb y y refl) in
    let in_second : has_id (y ∷ ys) x ≡ true = sym (h x) ∙ or_left (x == x) (has_id xs x) (eq-eqb x x refl) in
    let same : x ≡ y = elim (or_cases (x == y) (has_id xs y) in_first) [
      | inl t ↦ eqb-true x y t
      | inr t ↦ elim (or_cases (y == x) (has_id ys x) in_second) [
        | inl u ↦ sym (eqb-true y x u)
        | inr u ↦ let l : x < y = a.0 y t in let m : y < x = b.0 x u in absurd (omega arith)
      ]
    ] in
    let rest : (q : ℕ) → has_id xs q ≡ has_id ys q = λ q. elim (cases_Bool (x == q)) [
      | inl t ↦
          let is : x ≡ q = eqb-true x q t in
          let is_too : y ≡ q = sym same ∙ is in
          let none : has_id xs q ≡ false = subst (λ z. has_id xs z ≡ false) is (not_after x xs a.0) in
          let none_too : has_id ys q ≡ false = subst (λ z. has_id ys z ≡ false) is_too (not_after y ys b.0) in
          none ∙ sym none_too
      | inr f ↦
          let too : (y == q) ≡ false = subst (λ z. (z == q) ≡ false) same f in
          let whole : ((x == q) || has_id xs q) ≡ ((y == q) || has_id ys q) = h q in
          ap (λ c. c || has_id xs q) (sym f) ∙ whole ∙ ap (λ c. c || has_id ys q) too
    ] in
    let tails : xs ≡ ys = same_rise xs ys a.1 b.1 rest in
    cc

-- a number that is put among those that rise
swap_or : (a b c : Bool) → (a || (b || c)) ≡ (b || (a || c))
swap_or true true c = refl
swap_or true false c = refl
swap_or false true c = refl
swap_or false false c = refl

has_put : (x : ℕ) (ys : List ℕ) (q : ℕ) → has_id (put_rising x ys) q ≡ ((x == q) || has_id ys q)
has_put x [] q = refl
has_put x (y ∷ ys) q =
    cond_both (nat_le x y) (x ∷ y ∷ ys) (y ∷ put_rising x ys) (λ l. has_id l q ≡ ((x == q) || ((y == q) || has_id ys q)))
    (λ _. refl)
    (λ _. ap (λ b. (y == q) || b) (has_put x ys q) ∙ swap_or (y == q) (x == q) (has_id ys q))

rises_put : (x : ℕ) (ys : List ℕ) → Rises ys → has_id ys x ≡ false → Rises (put_rising x ys)
unfolding Rises
rises_put x [] r h = (λ q m. absurd (cc), tt)
rises_put x (y ∷ ys) r h =
    let apart = or_parts (y == x) (has_id ys x) h in
    cond_both (nat_le x y) (x ∷ y ∷ ys) (y ∷ put_rising x ys) Rises
    (λ t.
    let le : x ≤ y = leb-true x y t in
    let ne : x ≡ y → ⊥ = λ e. let u : (y == x) ≡ true = eq-eqb y x (sym e) in let n = apart.0 in absurd (cc) in
    let lt : x < y = elim (cases_order x y) [ inl e ↦ absurd (ne e) | inr o ↦ elim o [ inl l ↦ l | inr l ↦ absurd (omega arith) ] ] in (
      λ q m. elim (or_cases (y == q) (has_id ys q) m) [
        | inl u ↦ let is : y ≡ q = eqb-true y q u in omega arith
        | inr u ↦ let l : y < q = r.0 q u in omega arith
      ],
      r,
    ))
    (λ f.
    let lt : y < x = leb-false x y f in (
      λ q m. elim (or_cases (x == q) (has_id ys q) (sym (has_put x ys q) ∙ m)) [
        | inl u ↦ let is : x ≡ q = eqb-true x q u in omega arith
        | inr u ↦ r.0 q u
      ],
      rises_put x ys r.1 apart.1,
    ))

has_rising : (xs : List ℕ) (q : ℕ) → has_id (rising xs) q ≡ has_id xs q
unfolding rising
has_rising [] q = refl
has_rising (x ∷ xs) q = has_put x (rising xs) q ∙ ap (λ b. (x == q) || b) (has_rising xs q)

uncounted : (u : ℕ) (xs : List ℕ) → count_by (λ y. u == y) xs ≡ 0 → has_id xs u ≡ false
uncounted u [] h = refl
uncounted u (x ∷ xs) h =
    let c = count-cons (λ y. u == y) x xs in
    elim (cases_Bool (u == x)) [
      | inl t ↦ let one : one_if (u == x) ≡ 1 = ap one_if t in absurd (omega arith)
      | inr f ↦ or_from (x == u) (has_id xs u) (flip x u ∙ f) (uncounted u xs (omega arith))
    ]

rises_rising : (xs : List ℕ) → ((u : ℕ) → count_by (λ y. u == y) xs ≤ 1) → Rises (rising xs)
unfolding rising Rises
rises_rising [] h = tt
rises_rising (x ∷ xs) h =
    let one : one_if (x == x) ≡ 1 = ap one_if (eq-eqb x x refl) in
    let none : count_by (λ y. x == y) xs ≡ 0 = omega (arith, h x, count-cons (λ y. x == y) x xs) in
    rises_put x (rising xs) (rises_rising xs (λ u. omega (arith, h u, count-cons (λ y. u == y) x xs))) (has_rising xs x ∙ uncounted x xs none)

-- the ids that pass a test
fewer : (t p : ℕ → Bool) (xs : List ℕ) → count_by t (filter p xs) ≤ count_by t xs
fewer t p [] = omega arith
fewer t p (x ∷ xs) =
    cond_both (p x) (x ∷ filter p xs) (filter p xs) (λ l. count_by t l ≤ count_by t (x ∷ xs))
    (λ _. omega (arith, count-cons t x (filter p xs), count-cons t x xs, fewer t p xs))
    (λ _. omega (arith, count-cons t x xs, fewer t p xs))

has_cond : (b : Bool) (xs ys : List ℕ) (q : ℕ) → has_id (cond b xs ys) q ≡ cond b (has_id xs q) (has_id ys q)
has_cond true xs ys q = refl
has_cond false xs ys q = refl

passes : (t e h p : Bool) → (e ≡ true → p ≡ t) → cond t (e || (h && p)) (h && p) ≡ ((e || h) && p)
passes true true h p s = sym (s refl)
passes true false h p s = refl
passes false true true p s = refl
passes false true false p s = sym (s refl)
passes false false h p s = refl

has_passing : (p : ℕ → Bool) (xs : List ℕ) (q : ℕ) → has_id (filter p xs) q ≡ (has_id xs q && p q)
has_passing p [] q = refl
has_passing p (x ∷ xs) q =
    has_cond (p x) (x ∷ filter p xs) (filter p xs) q
    ∙ ap (λ h. cond (p x) ((x == q) || h) h) (has_passing p xs q)
    ∙ passes (p x) (x == q) (has_id xs q) (p q) (λ t. ap p (sym (eqb-true x q t)))

-- the keys of a map
has_key : {X : Type 0} (es : List (ℕ × X)) (q : ℕ) → has_id (keys_of es) q ≡ is_some (lookup (is_at (nat_cmp q)) es)
has_key [] q = refl
has_key (e ∷ es) q =
    ap (λ h. (e.0 == q) || h) (has_key es q)
    ∙ there (e.0 == q) e.1 (lookup (is_at (nat_cmp q)) es)
    ∙ ap (λ b. is_some (cond b (Some e.1) (lookup (is_at (nat_cmp q)) es))) (sym (unsigned_tied q e.0 ∙ flip q e.0))
  where
    there : {X : Type 0} (b : Bool) (x : X) (o : Option X) → (b || is_some o) ≡ is_some (cond b (Some x) o)
    there true x o = refl
    there false x o = refl

-- the values of a map that are those of a function of the keys
values_are : (f : ℕ → List Bio) (es : List (ℕ × List Bio)) → ((i k : ℕ) (v : List Bio) → slice_get es i ≡ Some (k, v) → v ≡ f k) → flat_map (λ bios. bios) (values_of es) ≡ flat_map f (keys_of es)
values_are f [] h = refl
values_are f (e ∷ es) h =
    let here : e.1 ≡ f e.0 = h 0 e.0 e.1 refl in
    let rest : flat_map (λ bios. bios) (values_of es) ≡ flat_map f (keys_of es) = values_are f es (λ i k v s. h (suc i) k v s) in
    cc

-- what waits
from_some : (o : Option Entered) (v : List Bio) → option_map (λ w. w.bios) o ≡ Some v → (w : Entered) × (o ≡ Some w) × (w.bios ≡ v)
from_some None v h = absurd (cc)
from_some (Some w) v h = (w, refl, cc)

waiting_is : (setup : Setup) (es : List Happened) (id : ℕ) (v : List Bio) → waiting_bios setup es id ≡ Some v → v ≡ request_of es id
waiting_is setup es id v h =
    let p = from_some (waits_at setup es id) v h in
    let w : IsWaiting setup es id p.0 = waiting_from setup es id p.0 p.1 in
    sym p.2 ∙ w.bios_is

some_if : (b : Bool) (x : Entered) → is_some (option_map (λ w. w.bios) (cond b (Some x) None)) ≡ b
some_if true x = refl
some_if false x = refl

waits_when : (setup : Setup) (es : List Happened) (id : ℕ) → is_some (waiting_bios setup es id) ≡ (has_id (released_ids es) id && not (has_id (issued_ids es) id))
unfolding waits_at
waits_when setup es id = some_if (has_id (released_ids es) id && not (has_id (issued_ids es) id)) _

-- the waiting ids rise, and are those under which something waits
waiting_rise : (setup : Setup) (es : List Happened) → IsLegalTrace setup es → Rises (waiting_ids es)
unfolding waiting_ids
waiting_rise setup es legal =
    let p : ℕ → Bool = λ id. not (has_id (issued_ids es) id) in
    rises_rising (filter p (released_ids es)) (λ u. at_most (has_id (released_ids es) u) _ _ (fewer (λ y. u == y) p (released_ids es)) (released_times setup es u legal))
  where
    at_most : (b : Bool) (m n : ℕ) → m ≤ n → n ≡ one_if b → m ≤ 1
    at_most true m n l e = omega (arith, e)
    at_most false m n l e = omega (arith, e)

has_waiting : (setup : Setup) (es : List Happened) (q : ℕ) → has_id (waiting_ids es) q ≡ is_some (waiting_bios setup es q)
unfolding waiting_ids
has_waiting setup es q =
    let p : ℕ → Bool = λ id. not (has_id (issued_ids es) id) in
    has_rising (filter p (released_ids es)) q ∙ has_passing p (released_ids es) q ∙ sym (waits_when setup es q)

-- a map of what waits, read by rising key
pub all_in_order : (setup : Setup) (es : List Happened) (m : BTreeMap ℕ (List Bio)) → IsLegalTrace setup es → IsOrdered nat_cmp m → ((id : ℕ) → get nat_cmp m id ≡ waiting_bios setup es id) → flat_map (λ bios. bios) (values m) ≡ waiting_of es
unfolding waiting_of
all_in_order setup es m legal ordered h =
    let keys : keys_of m.entries ≡ waiting_ids es = same_rise (keys_of m.entries) (waiting_ids es) (rises_from (keys_of m.entries) ordered) (waiting_rise setup es legal)
    (λ q. has_key m.entries q ∙ ap is_some (h q) ∙ sym (has_waiting setup es q)) in
    values_are (request_of es) m.entries (λ i k v s. waiting_is setup es k v (sym (h k) ∙ btree_map_get_place nat_cmp_total m i k v ordered s))
    ∙ ap (flat_map (request_of es)) keys
