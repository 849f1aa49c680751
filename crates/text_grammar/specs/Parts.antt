-- Parts of a text, and what they are made of.
use Rattle.std.specs.Prelude.{◌≡◌, ◌⊎◌, ◌+◌, ◌≤◌, ◌<◌, ℕ, List, [], ◌∷◌, ◌++◌, length, Result, Ok, Err}
use Rattle.text_grammar.specs.declared.Repeats.{Repeats}
use Rattle.text_grammar.specs.declared.Repeats.TheVariants as repeats

-- a part of a text whose records are of R and whose faults are of E: the records of each value, which values there are,
-- which records may follow those of a value, and which record is the first that is wrong, from 1 on, and how
pub record Part (R E V : Type 0) : Type 1 where
  pub rows_of : V → List R
  pub Fits : V → Type 0
  pub Follows : V → List R → Type 0
  pub Wrong : List R → ℕ → E → Type 0

-- some records begin with those of a value, and these are left
pub record Begins {R E V : Type 0} (p : Part R E V) (rows : List R) (v : V) (rest : List R) : Type 0 where
  pub fits : p.Fits v
  pub made : rows ≡ p.rows_of v ++ rest
  pub follows : p.Follows v rest

-- what records are taken as: a value and what is left, or the place and kind of the first fault
abbrev pub Took : Type 0 → Type 0 → Type 0 → Type 0
Took R E V = Result (V × List R) (ℕ × E)

-- the records are taken as this
abbrev pub IsTaken : {R E V : Type 0} → Part R E V → List R → Took R E V → Type 0
IsTaken p rows (Ok t) = Begins p rows t.0 t.1
IsTaken p rows (Err f) = p.Wrong rows f.0 f.1

-- where that ends: one past the records of the value, or at the fault
abbrev pub place_of : {R E V : Type 0} → Part R E V → Took R E V → ℕ
place_of p (Ok t) = length (p.rows_of t.0) + 1
place_of p (Err f) = f.0

-- no record before the one at this place is wrong, the part is not over before it, and it is at most one past the last
pub record GetsTo {R E V : Type 0} (p : Part R E V) (rows : List R) (at : ℕ) : Type 0 where
  pub far : at ≤ length rows + 1
  pub good : (t : Took R E V) → IsTaken p rows t → at ≤ place_of p t

-- what is wrong at the next record: it never came, or it came and lacks something
abbrev pub NextWrong : {R E : Type 0} → E → (R → E → Type 0) → List R → E → Type 0
NextWrong gone Lacks [] w = w ≡ gone
NextWrong gone Lacks (row ∷ _) w = Lacks row w

-- one record
abbrev pub record_of : {R E V : Type 0} → (V → R) → (V → Type 0) → E → (R → E → Type 0) → Part R E V
record_of row_of Fits gone Lacks = record {
  rows_of = λ v. row_of v ∷ [];
  Fits = Fits;
  Follows = λ v rest. Unit {0};
  Wrong = λ rows k w. (k ≡ 1) × NextWrong gone Lacks rows w;
}

-- a part, and then one that depends on the first one's value
abbrev pub then : {R E V W : Type 0} → Part R E V → (V → Part R E W) → Part R E (V × W)
then {R} {E} {V} {W} p q = record {
  rows_of = λ v. p.rows_of v.0 ++ (q v.0).rows_of v.1;
  Fits = λ v. p.Fits v.0 × (q v.0).Fits v.1;
  Follows = λ v rest. p.Follows v.0 ((q v.0).rows_of v.1 ++ rest) × (q v.0).Follows v.1 rest;
  Wrong = λ rows k w. p.Wrong rows k w
      ⊎ ((v : V) × (rest : List R) × (j : ℕ) × Begins p rows v rest × (k ≡ length (p.rows_of v) + j) × (q v).Wrong rest j w);
}

-- what is known after some items, each of which adds to it
abbrev pub after : {S V : Type 0} → (S → V → S) → S → List V → S
after next s [] = s
after next s (v ∷ vs) = after next (next s v) vs

-- the records of items, each of which may depend on those before it
abbrev pub all_rows : {R E S V : Type 0} → (S → Part R E V) → (S → V → S) → S → List V → List R
all_rows q next s [] = []
all_rows q next s (v ∷ vs) = (q s).rows_of v ++ all_rows q next (next s v) vs

-- each item is one that may stand after those before it
abbrev pub AllFit : {R E S V : Type 0} → (S → Part R E V) → (S → V → S) → S → List V → Type 0
AllFit q next s [] = Unit {0}
AllFit q next s (v ∷ vs) = (q s).Fits v × AllFit q next (next s v) vs

-- this many items may there be
abbrev pub IsCount : Repeats → ℕ → Type 0
IsCount (repeats.AtMost n) c = c ≤ n
IsCount (repeats.Exactly n) c = c ≡ n

-- the items are over after n of them, where these records are left
abbrev pub Stops : {R : Type 0} → Repeats → ℕ → List R → Type 0
Stops (repeats.AtMost n) c rest = (c ≡ n) ⊎ (rest ≡ [])
Stops (repeats.Exactly n) c rest = c ≡ n

-- and here they go on
abbrev pub GoesOn : {R : Type 0} → Repeats → ℕ → List R → Type 0
GoesOn (repeats.AtMost n) c rest = (c < n) × ¬ (rest ≡ [])
GoesOn (repeats.Exactly n) c rest = c < n

-- items, each of which may depend on those before it: exactly a number of them, or at most a number and to the end
abbrev pub many : {R E S V : Type 0} → Repeats → (S → Part R E V) → (S → V → S) → S → Part R E (List V)
many {R} {E} {S} {V} x q next s = record {
  rows_of = all_rows q next s;
  Fits = λ vs. AllFit q next s vs × IsCount x (length vs);
  Follows = λ vs rest. Stops x (length vs) rest;
  Wrong = λ rows k w. (vs : List V) × (rest : List R) × (j : ℕ) × AllFit q next s vs × (rows ≡ all_rows q next s vs ++ rest) × GoesOn x (length vs) rest
      × (k ≡ length (all_rows q next s vs) + j) × (q (after next s vs)).Wrong rest j w;
}

-- the end of the text: another item that is good by itself is this fault
abbrev pub over : {R E V : Type 0} → E → Part R E V → Part R E (Unit {0})
over {R} {E} {V} why q = record {
  rows_of = λ _. [];
  Fits = λ _. Unit {0};
  Follows = λ _ rest. rest ≡ [];
  Wrong = λ rows k w. (¬ (rows ≡ [])) × (q.Wrong rows k w ⊎ ((k ≡ 1) × (w ≡ why) × ((v : V) × (rest : List R) × Begins q rows v rest)));
}

-- a part whose values are seen as others
abbrev pub seen_as : {R E V U : Type 0} → (U → V) → Part R E V → Part R E U
seen_as g p = record {
  rows_of = λ u. p.rows_of (g u);
  Fits = λ u. p.Fits (g u);
  Follows = λ u rest. p.Follows (g u) rest;
  Wrong = p.Wrong;
}

-- a part whose values have to pass one more test, looked for once the part is read
abbrev pub tested : {R E V : Type 0} → Part R E V → (V → Type 0) → (V → ℕ → E → Type 0) → Part R E V
tested {R} {E} {V} p Good Fails = record {
  rows_of = p.rows_of;
  Fits = λ v. p.Fits v × Good v;
  Follows = p.Follows;
  Wrong = λ rows k w. p.Wrong rows k w ⊎ ((v : V) × (rest : List R) × Begins p rows v rest × Fails v k w);
}

-- one of some kinds of parts, told by what the records begin with; where none may stand there, NoKind says what is wrong with the first record
abbrev pub by_word : {R E K : Type 0} → (V : K → Type 0) → (K → List R → Type 0) → ((i : K) → Part R E (V i)) → (List R → E → Type 0) → Part R E ((i : K) × V i)
by_word {R} {E} {K} V StartsWith q NoKind = record {
  rows_of = λ v. (q v.0).rows_of v.1;
  Fits = λ v. (q v.0).Fits v.1;
  Follows = λ v rest. (q v.0).Follows v.1 rest;
  Wrong = λ rows k w. ((i : K) × StartsWith i rows × (q i).Wrong rows k w) ⊎ ((k ≡ 1) × ((i : K) → ¬ StartsWith i rows) × NoKind rows w);
}

-- the most items
abbrev pub most_of : Repeats → ℕ
most_of (repeats.AtMost n) = n
most_of (repeats.Exactly n) = n

-- all items before the one that begins at this record are good
abbrev pub GoodBefore : {R E S V : Type 0} → Repeats → (S → Part R E V) → (S → V → S) → S → List R → ℕ → Type 0
GoodBefore {R} {E} {S} {V} x q next s rows at = (vs : List V) × (rest : List R) × AllFit q next s vs × (rows ≡ all_rows q next s vs ++ rest)
    × (length vs ≤ most_of x) × (at ≡ length (all_rows q next s vs) + 1)

-- items and then the end of the text, where what comes after them is looked at as `past` before it is one item too many
abbrev pub ended : {R E S V W : Type 0} → Repeats → E → (S → Part R E V) → (S → Part R E W) → (S → V → S) → S → Part R E (List V)
ended x why q past next s = seen_as (λ vs. (vs, tt)) (then (many x q next s) (λ vs. over why (past (after next s vs))))

-- all records are those of a value
abbrev pub Spells : {R E V : Type 0} → Part R E V → List R → V → Type 0
Spells p rows v = Begins p rows v []
