-- Counting below bounds by halves.
use Rattle.std.proofs.Common.{◌≡◌, ◌<◌, ◌≤◌, ◌+◌, ◌-◌, ◌/◌, ◌++◌, ℕ, zero, suc, List, [], ◌∷◌, length, get_or, map, take, Bool, cond, count_by, refl, sym, ◌∙◌, ap, subst, arith, inl, inr, nat_le, nat_lt}
use Rattle.std.specs.List.{filter, All}
use Rattle.std.proofs.lemmas.Bool.{cases_Bool, cases_lt, le-leb, lt-leb, lt-ltb, le-ltb}
use Rattle.std.proofs.lemmas.List.{length-take-le, take-take, take_all, take-append-le, take-map, length-map, length-append, length_push, get_or_push, get_or_append_left, get_or-map}
use Rattle.std.proofs.lemmas.List.Sums.{sum_by-cons, sum_by-append, sum_by_more, sum_by-take-le, count_by-le-length, length-filter}
use Rattle.blk_report.specs.declared.below.CountAsk.{CountAsk}
use Rattle.blk_report.specs.Inside.Below.{number_below, AreBelow, halves, half_of, answer_of, IsAskWithin}

abbrev pub one_if : Bool → ℕ
one_if b = cond b 1 0

pub count_cons : {X : Type 0} (p : X → Bool) (x : X) (xs : List X) → count_by p (x ∷ xs) ≡ cond (p x) 1 0 + count_by p xs
count_cons p x xs = sum_by-cons (λ y. cond (p y) 1 0) x xs

-- the first that pass
filter_take : {X : Type 0} (p : X → Bool) (i : ℕ) (xs : List X) → filter p (take i xs) ≡ take (count_by p (take i xs)) (filter p xs)
filter_take p zero xs = refl
filter_take p (suc i) [] = refl
filter_take p (suc i) (x ∷ xs) =
    elim (cases_Bool (p x)) [
      | inl passes ↦
          let more : count_by p (x ∷ take i xs) ≡ suc (count_by p (take i xs)) = count_cons p x (take i xs) ∙ ap (λ b. cond b 1 0 + count_by p (take i xs)) passes ∙ omega arith in
          ap (λ b. cond b (x ∷ filter p (take i xs)) (filter p (take i xs))) passes
          ∙ ap (λ l. x ∷ l) (filter_take p i xs)
          ∙ sym (ap (λ n. take n (cond (p x) (x ∷ filter p xs) (filter p xs))) more ∙ ap (λ b. take (suc (count_by p (take i xs))) (cond b (x ∷ filter p xs) (filter p xs))) passes)
      | inr fails ↦
          let more : count_by p (x ∷ take i xs) ≡ count_by p (take i xs) = count_cons p x (take i xs) ∙ ap (λ b. cond b 1 0 + count_by p (take i xs)) fails ∙ omega arith in
          ap (λ b. cond b (x ∷ filter p (take i xs)) (filter p (take i xs))) fails
          ∙ filter_take p i xs
          ∙ sym (ap (λ n. take n (cond (p x) (x ∷ filter p xs) (filter p xs))) more ∙ ap (λ b. take (count_by p (take i xs)) (cond b (x ∷ filter p xs) (filter p xs))) fails)
    ]

-- each is below the pivot or not
below_or_not : (u : ℕ) (xs : List ℕ) → count_by (λ x. nat_lt x u) xs + count_by (λ x. nat_le u x) xs ≡ length xs
below_or_not u [] = refl
below_or_not u (x ∷ xs) =
    let rest = below_or_not u xs in
    let a = count_cons (λ y. nat_lt y u) x xs in
    let b = count_cons (λ y. nat_le u y) x xs in
    elim (cases_lt x u) [
      | inl low ↦ (let c : one_if (nat_lt x u) ≡ 1 = ap one_if (lt-ltb x u low) in let d : one_if (nat_le u x) ≡ 0 = ap one_if (lt-leb u x low) in omega (arith, rest, a, b, c, d))
      | inr high ↦ (let c : one_if (nat_lt x u) ≡ 0 = ap one_if (le-ltb x u high) in let d : one_if (nat_le u x) ≡ 1 = ap one_if (le-leb u x high) in omega (arith, rest, a, b, c, d))
    ]

-- a bound that is no lower than the pivot
above : (u b : ℕ) → u ≤ b → (xs : List ℕ) → count_by (λ x. nat_lt x b) xs ≡ count_by (λ x. nat_lt x u) xs + count_by (λ x. nat_lt x (b - u)) (map (λ x. x - u) (filter (λ x. nat_le u x) xs))
above u b h [] = refl
above u b h (x ∷ xs) =
    let rest = above u b h xs in
    let a = count_cons (λ y. nat_lt y b) x xs in
    let c = count_cons (λ y. nat_lt y u) x xs in
    let F : List ℕ = filter (λ y. nat_le u y) xs in
    let P : List ℕ → ℕ = λ l. count_by (λ y. nat_lt y (b - u)) (map (λ y. y - u) l) in
    elim (cases_lt x u) [
      | inl low ↦
          let d : one_if (nat_lt x u) ≡ 1 = ap one_if (lt-ltb x u low) in
          let e : one_if (nat_lt x b) ≡ 1 = ap one_if (lt-ltb x b (omega arith)) in
          let f : P (cond (nat_le u x) (x ∷ F) F) ≡ P F = ap (λ t. P (cond t (x ∷ F) F)) (lt-leb u x low) in
          omega (arith, rest, a, c, d, e, f)
      | inr high ↦
          let d : one_if (nat_lt x u) ≡ 0 = ap one_if (le-ltb x u high) in
          let f : P (cond (nat_le u x) (x ∷ F) F) ≡ cond (nat_lt (x - u) (b - u)) 1 0 + P F = ap (λ t. P (cond t (x ∷ F) F)) (le-leb u x high) ∙ count_cons (λ y. nat_lt y (b - u)) (x - u) (map (λ y. y - u) F) in
          elim (cases_lt x b) [
            | inl less ↦
                let e : one_if (nat_lt x b) ≡ 1 = ap one_if (lt-ltb x b less) in
                let g : one_if (nat_lt (x - u) (b - u)) ≡ 1 = ap one_if (lt-ltb (x - u) (b - u) (omega arith)) in
                omega (arith, rest, a, c, d, e, f, g)
            | inr more ↦
                let e : one_if (nat_lt x b) ≡ 0 = ap one_if (le-ltb x b more) in
                let g : one_if (nat_lt (x - u) (b - u)) ≡ 0 = ap one_if (le-ltb (x - u) (b - u) (omega arith)) in
                omega (arith, rest, a, c, d, e, f, g)
          ]
    ]

-- a bound that is lower
under : (u b : ℕ) → b < u → (xs : List ℕ) → count_by (λ x. nat_lt x b) xs ≡ count_by (λ x. nat_lt x b) (filter (λ x. nat_lt x u) xs)
under u b h [] = refl
under u b h (x ∷ xs) =
    let rest = under u b h xs in
    let a = count_cons (λ y. nat_lt y b) x xs in
    let F : List ℕ = filter (λ y. nat_lt y u) xs in
    let P : List ℕ → ℕ = λ l. count_by (λ y. nat_lt y b) l in
    elim (cases_lt x u) [
      | inl low ↦
          let f : P (cond (nat_lt x u) (x ∷ F) F) ≡ cond (nat_lt x b) 1 0 + P F = ap (λ t. P (cond t (x ∷ F) F)) (lt-ltb x u low) ∙ count_cons (λ y. nat_lt y b) x F in
          omega (arith, rest, a, f)
      | inr high ↦
          let f : P (cond (nat_lt x u) (x ∷ F) F) ≡ P F = ap (λ t. P (cond t (x ∷ F) F)) (le-ltb x u high) in
          let e : one_if (nat_lt x b) ≡ 0 = ap one_if (le-ltb x b (omega arith)) in
          omega (arith, rest, a, e, f)
    ]

take_past : {X : Type 0} (k : ℕ) (xs ys : List X) → take (length xs + k) (xs ++ ys) ≡ xs ++ take k ys
take_past k [] ys = let e : 0 + k ≡ k = omega arith in ap (λ n. take n ys) e
take_past k (x ∷ xs) ys =
    let e : suc (length xs) + k ≡ suc (length xs + k) = omega arith in
    ap (λ n. take n (x ∷ (xs ++ ys))) e ∙ ap (λ l. x ∷ l) (take_past k xs ys)

-- a longer beginning has no fewer
pub below_up : (xs : List ℕ) (b i j : ℕ) → i ≤ j → number_below xs b i ≤ number_below xs b j
unfolding number_below
below_up xs b i j h =
    let one = sum_by-take-le (λ x. cond (nat_lt x b) 1 0) (take j xs) i in
    let same : count_by (λ x. nat_lt x b) (take i (take j xs)) ≡ count_by (λ x. nat_lt x b) (take i xs) = ap (λ l. count_by (λ x. nat_lt x b) l) (take-take i j xs h) in
    omega (arith, one, same)

pub below_few : (xs : List ℕ) (b i : ℕ) → i ≤ length xs → number_below xs b i ≤ i
unfolding number_below
below_few xs b i h = omega (arith, count_by-le-length (λ x. nat_lt x b) (take i xs), length-take-le i xs h)

pub below_next : (xs : List ℕ) (b i d : ℕ) → i < length xs → number_below xs b (i + 1) ≡ number_below xs b i + cond (nat_lt (get_or xs i d) b) 1 0
unfolding number_below
below_next xs b i d h = sum_by_more (λ x. cond (nat_lt x b) 1 0) xs i d h

pub below_none : (xs : List ℕ) (b : ℕ) → number_below xs b 0 ≡ 0
unfolding number_below
below_none xs b = refl

-- none is below 0
pub none_below : (xs : List ℕ) (i : ℕ) → number_below xs 0 i ≡ 0
unfolding number_below
none_below xs i = none (take i xs) where
  none : (ys : List ℕ) → count_by (λ x. nat_lt x 0) ys ≡ 0
  none [] = refl
  none (y ∷ ys) =
      let rest = none ys in
      let more = count_cons (λ x. nat_lt x 0) y ys in
      let no : one_if (nat_lt y 0) ≡ 0 = ap one_if (le-ltb y 0 (omega arith)) in
      omega (arith, rest, more, no)

-- the others in a beginning: they are what is left of it
others : List ℕ → ℕ → ℕ → ℕ
others xs u i = count_by (λ x. nat_le u x) (take i xs)

others_left : (xs : List ℕ) (u i : ℕ) → i ≤ length xs → number_below xs u i + others xs u i ≡ i
unfolding number_below others
others_left xs u i h = below_or_not u (take i xs) ∙ length-take-le i xs h

others_up : (xs : List ℕ) (u i j : ℕ) → i ≤ j → others xs u i ≤ others xs u j
unfolding others
others_up xs u i j h =
    let one = sum_by-take-le (λ x. cond (nat_le u x) 1 0) (take j xs) i in
    let same : count_by (λ x. nat_le u x) (take i (take j xs)) ≡ count_by (λ x. nat_le u x) (take i xs) = ap (λ l. count_by (λ x. nat_le u x) l) (take-take i j xs h) in
    omega (arith, one, same)

low_many : (xs : List ℕ) (u : ℕ) → length (filter (λ x. nat_lt x u) xs) ≡ number_below xs u (length xs)
unfolding number_below
low_many xs u = length-filter (λ x. nat_lt x u) xs ∙ sym (ap (λ l. count_by (λ x. nat_lt x u) l) (take_all (length xs) xs (omega arith)))

pub halves_many : (xs : List ℕ) (u : ℕ) → length (halves u xs) ≡ length xs
unfolding halves
halves_many xs u =
    let A : List ℕ = filter (λ x. nat_lt x u) xs in
    let F : List ℕ = filter (λ x. nat_le u x) xs in
    length-append A (map (λ x. x - u) F)
    ∙ omega (arith, length-map F (λ x. x - u), length-filter (λ x. nat_lt x u) xs, length-filter (λ x. nat_le u x) xs, below_or_not u xs)

-- a place of the numbers below the pivot
low_place : (xs : List ℕ) (u b i : ℕ) → b < u → number_below (halves u xs) b (number_below xs u i) ≡ number_below xs b i
unfolding number_below halves
low_place xs u b i h =
    let A : List ℕ = filter (λ x. nat_lt x u) xs in
    let M : List ℕ = map (λ x. x - u) (filter (λ x. nat_le u x) xs) in
    let short : count_by (λ x. nat_lt x u) (take i xs) ≤ length A = omega (arith, length-filter (λ x. nat_lt x u) xs, sum_by-take-le (λ x. cond (nat_lt x u) 1 0) xs i) in
    ap (λ l. count_by (λ x. nat_lt x b) l) (take-append-le (count_by (λ x. nat_lt x u) (take i xs)) A M short ∙ sym (filter_take (λ x. nat_lt x u) i xs)) ∙ sym (under u b h (take i xs))

-- a place of the others
high_place : (xs : List ℕ) (u b i k : ℕ) → u ≤ b → k ≡ number_below xs u (length xs) + others xs u i → number_below (halves u xs) (b - u) k + number_below xs u i ≡ count_by (λ x. nat_lt x (b - u)) (filter (λ x. nat_lt x u) xs) + number_below xs b i
unfolding number_below halves others
high_place xs u b i k h is =
    let A : List ℕ = filter (λ x. nat_lt x u) xs in
    let F : List ℕ = filter (λ x. nat_le u x) xs in
    let f : ℕ → ℕ = λ x. x - u in
    let n : ℕ = count_by (λ x. nat_le u x) (take i xs) in
    let there : k ≡ length A + n = omega (arith, is, low_many xs u) in
    let parts : take k (A ++ map f F) ≡ A ++ map f (filter (λ x. nat_le u x) (take i xs)) =
    ap (λ m. take m (A ++ map f F)) there ∙ take_past n A (map f F) ∙ ap (λ l. A ++ l) (take-map f n F ∙ ap (map f) (sym (filter_take (λ x. nat_le u x) i xs))) in
    let sum : count_by (λ x. nat_lt x (b - u)) (take k (A ++ map f F)) ≡ count_by (λ x. nat_lt x (b - u)) A + count_by (λ x. nat_lt x (b - u)) (map f (filter (λ x. nat_le u x) (take i xs))) =
    ap (λ l. count_by (λ x. nat_lt x (b - u)) l) parts ∙ sum_by-append (λ x. cond (nat_lt x (b - u)) 1 0) A (map f (filter (λ x. nat_le u x) (take i xs))) in
    omega (arith, sum, above u b h (take i xs))

-- the two places of a question, in the halves
pub record IsHalved (xs : List ℕ) (u : ℕ) (a : CountAsk) : Type 0 where
  pub started : number_below xs u a.start ≤ a.start
  pub ended : number_below xs u a.end ≤ a.end
  pub rises : number_below xs u a.start ≤ number_below xs u a.end
  pub low : number_below xs u a.end ≤ number_below xs u (length xs)
  pub forward : a.start - number_below xs u a.start ≤ a.end - number_below xs u a.end
  pub within : number_below xs u (length xs) + (a.end - number_below xs u a.end) ≤ length xs

pub is_halved : (xs : List ℕ) (u limit : ℕ) (a : CountAsk) → IsAskWithin xs limit a → IsHalved xs u a
is_halved xs u limit a is =
    let start_in : a.start ≤ length xs = omega (arith, is.forward, is.within) in
    let s = others_left xs u a.start start_in in
    let e = others_left xs u a.end is.within in
    let l = others_left xs u (length xs) (omega arith) in
    let up = others_up xs u a.start a.end is.forward in
    let top = others_up xs u a.end (length xs) is.within in
    record {
      started = omega (arith, s);
      ended = omega (arith, e);
      rises = below_up xs u a.start a.end is.forward;
      low = below_up xs u a.end (length xs) is.within;
      forward = omega (arith, s, e, up);
      within = omega (arith, e, l, top);
    }

abbrev lower : List ℕ → ℕ → CountAsk → CountAsk
lower xs u a = record { start = number_below xs u a.start; end = number_below xs u a.end; bound = a.bound; count = a.count }

abbrev upper : List ℕ → ℕ → CountAsk → CountAsk
upper xs u a = record {
  start = number_below xs u (length xs) + (a.start - number_below xs u a.start);
  end = number_below xs u (length xs) + (a.end - number_below xs u a.end);
  bound = a.bound - u;
  count = a.count + (number_below xs u a.end - number_below xs u a.start);
}

pub half_low : (xs : List ℕ) (u : ℕ) (a : CountAsk) → a.bound < u → half_of xs u a ≡ lower xs u a
unfolding half_of
half_low xs u a h = ap (λ t. cond t (lower xs u a) (upper xs u a)) (lt-ltb a.bound u h)

pub half_high : (xs : List ℕ) (u : ℕ) (a : CountAsk) → u ≤ a.bound → half_of xs u a ≡ upper xs u a
unfolding half_of
half_high xs u a h = ap (λ t. cond t (lower xs u a) (upper xs u a)) (le-ltb a.bound u h)

low_answer : (xs : List ℕ) (u : ℕ) (a : CountAsk) → a.bound < u → answer_of (halves u xs) (lower xs u a) ≡ answer_of xs a
unfolding answer_of
low_answer xs u a h = omega (arith, low_place xs u a.bound a.start h, low_place xs u a.bound a.end h)

pub high_answer : (xs : List ℕ) (u limit : ℕ) (a : CountAsk) → IsAskWithin xs limit a → u ≤ a.bound → answer_of (halves u xs) (upper xs u a) ≡ answer_of xs a
unfolding answer_of
high_answer xs u limit a is h =
    let start_in : a.start ≤ length xs = omega (arith, is.forward, is.within) in
    let s = others_left xs u a.start start_in in
    let e = others_left xs u a.end is.within in
    let halved = is_halved xs u limit a is in
    let from : ℕ = number_below xs u (length xs) + (a.start - number_below xs u a.start) in
    let to : ℕ = number_below xs u (length xs) + (a.end - number_below xs u a.end) in
    let one = high_place xs u a.bound a.start from h (omega (arith, s)) in
    let two = high_place xs u a.bound a.end to h (omega (arith, e)) in
    let up = below_up (halves u xs) (a.bound - u) from to (omega (arith, halved.forward)) in
    let up' = below_up xs a.bound a.start a.end is.forward in
    omega (arith, one, two, up, up', halved.rises)

pub same_answer : (xs : List ℕ) (u limit : ℕ) (a : CountAsk) → IsAskWithin xs limit a → answer_of (halves u xs) (half_of xs u a) ≡ answer_of xs a
same_answer xs u limit a is =
    elim (cases_lt a.bound u) [
      | inl low ↦ ap (λ b. answer_of (halves u xs) b) (half_low xs u a low) ∙ low_answer xs u a low
      | inr high ↦ ap (λ b. answer_of (halves u xs) b) (half_high xs u a high) ∙ high_answer xs u limit a is high
    ]

-- the count does not outgrow the list
pub count_fits : (xs : List ℕ) (u limit : ℕ) (a : CountAsk) → IsAskWithin xs limit a → u ≤ a.bound → a.count + (number_below xs u a.end - number_below xs u a.start) ≤ length xs
unfolding answer_of
count_fits xs u limit a is h = omega (arith, high_answer xs u limit a is h, is.small)

-- half the limit is left
pub next_ask : (xs : List ℕ) (u limit : ℕ) (a : CountAsk) → u ≡ limit - limit / 2 → IsAskWithin xs limit a → IsAskWithin (halves u xs) (limit / 2) (half_of xs u a)
next_ask xs u limit a half is =
    let at = is_halved xs u limit a is in
    let many = halves_many xs u in
    let all = below_few xs u (length xs) (omega arith) in
    let same : answer_of (halves u xs) (half_of xs u a) ≤ length (halves u xs) = omega (arith, same_answer xs u limit a is, is.small, many) in
    elim (cases_lt a.bound u) [
      | inl low ↦
          let is_low = half_low xs u a low in
          subst (IsAskWithin (halves u xs) (limit / 2)) (sym is_low) (record {
            forward = at.rises;
            within = omega (arith, at.low, all, many);
            bounded = omega (arith, low, half);
            small = subst (λ b. answer_of (halves u xs) b ≤ length (halves u xs)) is_low same;
          })
      | inr high ↦
          let is_high = half_high xs u a high in
          subst (IsAskWithin (halves u xs) (limit / 2)) (sym is_high) (record {
            forward = omega (arith, at.forward);
            within = omega (arith, at.within, many);
            bounded = omega (arith, high, half, is.bounded);
            small = subst (λ b. answer_of (halves u xs) b ≤ length (halves u xs)) is_high same;
          })
    ]

-- nothing is left to count below 0
pub answered : (xs : List ℕ) (a : CountAsk) → IsAskWithin xs 0 a → answer_of xs a ≡ a.count
unfolding answer_of
answered xs a is =
    let none : a.bound ≡ 0 = omega (arith, is.bounded) in
    let s : number_below xs a.bound a.start ≡ 0 = ap (λ b. number_below xs b a.start) none ∙ none_below xs a.start in
    let e : number_below xs a.bound a.end ≡ 0 = ap (λ b. number_below xs b a.end) none ∙ none_below xs a.end in
    omega (arith, s, e)

-- one more count
pub push_count : (xs : List ℕ) (u n count : ℕ) (old new : List ℕ) → length old ≡ n → count ≡ number_below xs u n → new ≡ old ++ count ∷ [] → ((i : ℕ) → i < n → get_or old i 0 ≡ number_below xs u i)
    → (length new ≡ n + 1) × ((i : ℕ) → i < n + 1 → get_or new i 0 ≡ number_below xs u i)
push_count xs u n count old new long is more at = (
  ap length more ∙ length_push old count ∙ ap (λ m. m + 1) long,
  λ i h. elim (cases_lt i n) [
    | inl before ↦ ap (λ l. get_or l i 0) more ∙ get_or_append_left old (count ∷ []) 0 i (omega arith) ∙ at i before
    | inr last ↦ (let same : i ≡ n = omega arith in ap (λ l. get_or l i 0) more ∙ get_or_push old count 0 i (omega arith) ∙ is ∙ ap (number_below xs u) (sym same))
  ],
)

-- the same of a list of questions
map_same : {X Y Z : Type 0} (f : X → Y) (h : Y → Z) (k : X → Z) (xs : List X) → ((i : ℕ) (d : X) → i < length xs → h (f (get_or xs i d)) ≡ k (get_or xs i d)) → map h (map f xs) ≡ map k xs
map_same f h k [] is = refl
map_same f h k (x ∷ xs) is =
    let one : h (f x) ≡ k x = is 0 x (omega arith) in
    let rest : map h (map f xs) ≡ map k xs = map_same f h k xs (λ i d l. is (suc i) d (omega (arith, l))) in
    ap (λ z. z ∷ map h (map f xs)) one ∙ ap (λ l. k x ∷ l) rest

pub half_limit : (xs : List ℕ) (u limit : ℕ) (asks : List CountAsk) → All (IsAskWithin xs limit) asks → map (answer_of (halves u xs)) (map (half_of xs u) asks) ≡ map (answer_of xs) asks
half_limit xs u limit asks are = map_same (half_of xs u) (answer_of (halves u xs)) (answer_of xs) asks (λ i d l. same_answer xs u limit (get_or asks i d) (are i d l))

pub all_halved : (xs : List ℕ) (u limit : ℕ) (asks : List CountAsk) → u ≡ limit - limit / 2 → All (IsAskWithin xs limit) asks → All (IsAskWithin (halves u xs) (limit / 2)) (map (half_of xs u) asks)
all_halved xs u limit asks half are i d l =
    let none : CountAsk = record { start = 0; end = 0; bound = 0; count = 0 } in
    let low : i < length asks = omega (arith, l, length-map asks (half_of xs u)) in
    subst (IsAskWithin (halves u xs) (limit / 2)) (sym (get_or-map (half_of xs u) asks i none d low)) (next_ask xs u limit (get_or asks i none) half (are i none low))

pub all_asks : (xs : List ℕ) (limit : ℕ) (asks : List CountAsk) → All (IsAskWithin xs limit) asks → All (IsAskWithin xs ((limit - limit / 2) + (limit - limit / 2))) asks
all_asks xs limit asks are i d l =
    let is = are i d l in
    record { forward = is.forward; within = is.within; bounded = omega (arith, is.bounded); small = is.small }

pub all_answered : (xs : List ℕ) (asks : List CountAsk) → All (IsAskWithin xs 0) asks → map (answer_of xs) asks ≡ map (λ a. a.count) asks
all_answered xs [] are = refl
all_answered xs (a ∷ asks) are =
    let one : answer_of xs a ≡ a.count = answered xs a (are 0 a (omega arith)) in
    let rest : map (answer_of xs) asks ≡ map (λ b. b.count) asks = all_answered xs asks (λ i d l. are (suc i) d (omega (arith, l))) in
    ap (λ n. n ∷ map (answer_of xs) asks) one ∙ ap (λ l. a.count ∷ l) rest

-- the counts that a question reads
pub record IsTold (xs : List ℕ) (u : ℕ) (counts : List ℕ) (a : CountAsk) : Type 0 where
  pub start : get_or counts a.start 0 ≡ number_below xs u a.start
  pub end : get_or counts a.end 0 ≡ number_below xs u a.end
  pub all : get_or counts (length xs) 0 ≡ number_below xs u (length xs)

pub told : (xs : List ℕ) (u limit : ℕ) (counts : List ℕ) (a : CountAsk) → AreBelow xs u counts → IsAskWithin xs limit a → IsTold xs u counts a
told xs u limit counts a are is = record {
  start = are.at a.start (omega (arith, is.forward, is.within));
  end = are.at a.end is.within;
  all = are.at (length xs) (omega arith);
}

pub told_low : (xs : List ℕ) (u limit : ℕ) (counts : List ℕ) (a : CountAsk) → AreBelow xs u counts → IsAskWithin xs limit a → a.bound < u → (let z : CountAsk = record { start = get_or counts a.start 0; end = get_or counts a.end 0; bound = a.bound; count = a.count } in z) ≡ half_of xs u a
told_low xs u limit counts a are is h =
    let at = told xs u limit counts a are is in
    let make : ℕ → ℕ → CountAsk = λ s e. record { start = s; end = e; bound = a.bound; count = a.count } in
    ap (λ s. make s (get_or counts a.end 0)) at.start ∙ ap (λ e. make (number_below xs u a.start) e) at.end ∙ sym (half_low xs u a h)

pub told_high : (xs : List ℕ) (u limit : ℕ) (counts : List ℕ) (a : CountAsk) → AreBelow xs u counts → IsAskWithin xs limit a → u ≤ a.bound
    → (let z : CountAsk = record {
      start = get_or counts (length xs) 0 + (a.start - get_or counts a.start 0);
      end = get_or counts (length xs) 0 + (a.end - get_or counts a.end 0);
      bound = a.bound - u;
      count = a.count + (get_or counts a.end 0 - get_or counts a.start 0);
    } in z) ≡ half_of xs u a
told_high xs u limit counts a are is h =
    let at = told xs u limit counts a are is in
    let make : ℕ → ℕ → ℕ → CountAsk = λ m s e. record { start = m + (a.start - s); end = m + (a.end - e); bound = a.bound - u; count = a.count + (e - s) } in
    ap (λ m. make m (get_or counts a.start 0) (get_or counts a.end 0)) at.all
    ∙ ap (λ s. make (number_below xs u (length xs)) s (get_or counts a.end 0)) at.start
    ∙ ap (λ e. make (number_below xs u (length xs)) (number_below xs u a.start) e) at.end
    ∙ sym (half_high xs u a h)
