-- What reading a part answers.
use Rattle.std.specs.Prelude.{◌≡◌, ◌⊎◌, ◌+◌, ◌≤◌, ℕ, Bool, true, false, List, [], ◌∷◌, ◌++◌, Option, Some, IfSome, length}
use Rattle.blk_records.specs.Sources.{Row, Source}
use Rattle.blk_records.specs.declared.fault.TextFault.{TextFault}
use Rattle.blk_records.specs.declared.fault.TextReason.{TextReason}
use Rattle.blk_records.specs.declared.fault.TextReason.TheVariants as why
use Rattle.text_grammar.specs.Parts.{Part, Begins, GetsTo, AllFit, IsCount, GoodBefore, all_rows, many, most_of, ended}
use Rattle.text_grammar.specs.Laws.{Tells, IsPlain}
use Rattle.text_grammar.specs.declared.Repeats.{Repeats}
use Rattle.text_grammar.specs.declared.Repeats.TheVariants as repeats

-- faults from outside, which may come in place of any other: a read fault where the reader has failed, and out of memory
abbrev pub IsOutside : Bool → TextReason → Type 0
IsOutside failed w = ((w ≡ why.Read) × (failed ≡ true)) ⊎ (w ≡ why.Memory)

-- the records begin with those of this value, and what is left now is what follows them
abbrev pub Reads : {V : Type 0} → Part Row TextReason V → Option (List Row) → Option (List Row) → V → Type 0
Reads p left new v = IfSome left (λ rows. (rest : List Row) × (new ≡ Some rest) × Begins p rows v rest)

-- the records that are left are those of this value, and no more
abbrev pub ReadsAll : {V : Type 0} → Part Row TextReason V → Option (List Row) → V → Type 0
ReadsAll p left v = IfSome left (λ rows. Begins p rows v [])

-- the record in hand and those left begin with the records of this value, and what is left now is what follows them
abbrev pub HandReads : {V : Type 0} → Part Row TextReason V → Option (List Row) → Row → Option (List Row) → V → Type 0
HandReads p left row new v = IfSome left (λ rows. (rest : List Row) × (new ≡ Some rest) × Begins p (row ∷ rows) v rest)

-- the records have this first fault, or it came from outside; `start` records came before
abbrev pub Fails : {V : Type 0} → Bool → Part Row TextReason V → Option (List Row) → ℕ → ℕ → TextReason → Type 0
Fails failed p left start at w = IfSome left (λ rows. IsOutside failed w ⊎ ((k : ℕ) × (at ≡ start + k) × p.Wrong rows k w))

-- the record in hand and those left have this first fault, or it came from outside; the record in hand has the number `start`
abbrev pub HandFails : {V : Type 0} → Bool → Part Row TextReason V → Option (List Row) → Row → ℕ → ℕ → TextReason → Type 0
HandFails failed p left row start at w = IfSome left (λ rows. IsOutside failed w ⊎ ((k : ℕ) × (at + 1 ≡ start + k) × p.Wrong (row ∷ rows) k w))

-- the record of this number was come to: it is at most one past the last, and no record before it has a fault
abbrev pub Reaches : {V : Type 0} → Part Row TextReason V → Option (List Row) → ℕ → ℕ → Type 0
Reaches p left start at = IfSome left (λ rows. (k : ℕ) × (at ≡ start + k) × GetsTo p rows k)

-- reading stopped at this record, which was come to: no record before it is wrong; its fault is the first one, or came from outside
abbrev pub Halts : {V : Type 0} → Bool → Part Row TextReason V → Option (List Row) → ℕ → ℕ → TextReason → Type 0
Halts failed p left start at w = IfSome left (λ rows. (k : ℕ) × (at ≡ start + k) × GetsTo p rows k × (IsOutside failed w ⊎ p.Wrong rows k w))

-- a record by itself is a value's, whatever follows
abbrev pub IsRowOf : {V : Type 0} → Part Row TextReason V → Row → V → Type 0
IsRowOf p row v = (rest : List Row) → Begins p (row ∷ rest) v rest

-- an item that begins with the record in hand was read, and is gathered after those before it; the record in hand has the number `start`
pub record Gathers {V : Type 0} (q : List V → Part Row TextReason V) (old new : List V) (left : Option (List Row)) (row : Row) (after : Option (List Row)) (start at : ℕ) : Type 0 where
  pub item : V
  pub gathered : new ≡ old ++ item ∷ []
  pub fits : (q old).Fits item
  pub read : HandReads (q old) left row after item
  pub end : at + 1 ≡ start + length ((q old).rows_of item)

-- a record by itself is wrong, whatever follows
abbrev pub IsWrongRecord : {V : Type 0} → Part Row TextReason V → Row → TextReason → Type 0
IsWrongRecord p row w = (rest : List Row) → p.Wrong (row ∷ rest) 1 w

-- a part of one record, which any may follow
pub record IsOne {V : Type 0} (p : Part Row TextReason V) : Type 0 where
  pub tells : Tells p
  pub plain : IsPlain p
  pub one : (v : V) → length (p.rows_of v) ≡ 1

-- the items before are what an item may depend on
abbrev pub with_next : {V : Type 0} → List V → V → List V
with_next before v = before ++ v ∷ []

-- the fault of one item more
abbrev pub beyond_of : Repeats → TextReason
beyond_of (repeats.AtMost most) = why.TooLong
beyond_of (repeats.Exactly count) = why.Count

-- items, each of which may depend on those before it
abbrev pub repeated : {V : Type 0} → Repeats → (List V → Part Row TextReason V) → Part Row TextReason (List V)
repeated x q = many x q with_next []

-- the same to the end of the text; what comes after them is looked at as `past` before it is one too many
abbrev pub ended_of : {V W : Type 0} → Repeats → (List V → Part Row TextReason V) → (List V → Part Row TextReason W) → Part Row TextReason (List V)
ended_of x q past = ended x (beyond_of x) q past with_next []

-- the same, where what comes after them is looked at as one more
abbrev pub items_of : {V : Type 0} → Repeats → (List V → Part Row TextReason V) → Part Row TextReason (List V)
items_of x q = ended_of x q q

-- the number of records of items
abbrev pub size_of : {V : Type 0} → (List V → Part Row TextReason V) → List V → ℕ
size_of q vs = length (all_rows q with_next [] vs)

-- the items fit, and are as many as there may be
abbrev pub AreItems : {V : Type 0} → Repeats → (List V → Part Row TextReason V) → List V → Type 0
AreItems x q vs = AllFit q with_next [] vs × IsCount x (length vs)

-- the items before the one that begins at this record are good
abbrev pub ItemsBefore : {V : Type 0} → Repeats → (List V → Part Row TextReason V) → List Row → ℕ → Type 0
ItemsBefore x q rows place = GoodBefore x q with_next [] rows place

-- reading stopped at the record `at`, and `last` was asked for last: the items before the one that was being read are
-- good, and no record past the first and the next `more` of that one was asked for
abbrev pub IsStopped : {V : Type 0} → Repeats → (List V → Part Row TextReason V) → Option (List Row) → ℕ → ℕ → ℕ → ℕ → Type 0
IsStopped x q left start more at last = (place : ℕ) × (start + place ≤ at) × (at ≤ last) × (last ≤ start + place + more) × IfSome left (λ rows. ItemsBefore x q rows place)

-- there may be fewer items than this number
abbrev pub MayBeFewer : Repeats → Type 0
MayBeFewer (repeats.AtMost most) = Unit {0}
MayBeFewer (repeats.Exactly count) = ⊥

-- this number of items were read: the text is over after them, which was asked for, or they are as many as there may be
abbrev pub AreGathered : {V : Type 0} → Repeats → (List V → Part Row TextReason V) → Option (List Row) → Option (List Row) → ℕ → ℕ → List V → Bool → Type 0
AreGathered x q left new start at vs true = IfSome left (λ rows. Begins (repeated x q) rows vs []) × AreItems x q vs × (at ≡ start + size_of q vs + 1) × MayBeFewer x
AreGathered x q left new start at vs false = Reads (repeated x q) left new vs × AreItems x q vs × (length vs ≡ most_of x) × (at ≡ start + size_of q vs)

-- reading stopped at the record `at`, and `last` was asked for last: no record before that with which the item begins that
-- was being read is wrong, and no record past that one and the next `more` was asked for
abbrev pub IsHeldAt : {V : Type 0} → Part Row TextReason V → Option (List Row) → ℕ → ℕ → ℕ → Type 0
IsHeldAt p left more at last = (place : ℕ) × (place ≤ at) × (at ≤ last) × (last ≤ place + more) × IfSome left (λ rows. GetsTo p rows place)

-- what a call answers of a part, by the records that were left before it and those that are now

-- the fault is the first one of all records that were left, or it came from outside
abbrev pub FaultsBy : Source → Source → (List Row → ℕ → TextReason → Type 0) → TextFault → Type 0
FaultsBy old new Fault f = IfSome old.left (λ rows. IsOutside new.failed f.why ⊎ Fault rows f.at f.why)

abbrev pub FailsBy : {V : Type 0} → Source → Source → Part Row TextReason V → TextFault → Type 0
FailsBy old new p f = Fails new.failed p old.left old.at f.at f.why

abbrev pub HaltsBy : {V : Type 0} → Source → Source → Part Row TextReason V → TextFault → Type 0
HaltsBy old new p f = Halts new.failed p old.left old.at f.at f.why

abbrev pub HandFailsBy : {V : Type 0} → Source → Source → Part Row TextReason V → TextFault → Type 0
HandFailsBy old new p f = HandFails new.failed p old.left old.fields old.at f.at f.why

-- the same of the item after those before it, by whatever is known of them
abbrev pub NextFailsBy : {V K : Type 0} → Source → Source → (List V → Part Row TextReason V) → (K → List V) → TextFault → Type 0
NextFailsBy {V} {K} old new q before f = (k : K) → HandFailsBy old new (q (before k)) f

-- an item was read, and is gathered after those before it, by whatever is known of them; this is known of them now
abbrev pub GathersBy : {V K L : Type 0} → Source → Source → (List V → Part Row TextReason V) → (K → List V) → (L → List V) → Type 0
GathersBy {V} {K} {L} old new q before after = (k : K) → (l : L) × Gathers q (before k) (after l) old.left old.fields new.left old.at new.at

-- items were read, by what is known of them
abbrev pub AreGatheredBy : {V K : Type 0} → Source → Source → Repeats → (List V → Part Row TextReason V) → (K → List V) → Bool → Type 0
AreGatheredBy {V} {K} old new x q seen over = (k : K) × AreGathered x q old.left new.left old.at new.at (seen k) over
