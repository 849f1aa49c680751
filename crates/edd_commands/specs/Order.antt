-- The order of faults. What may be wrong with something is a list of rules, in the order in which they are looked at; a rule's
-- rank is its place in the list, from 0 on; and the fault that is reported is that of the first rule that is broken.
use Rattle.std.specs.Prelude.{zero, suc, ℕ, ◌≡◌, ◌⊎◌, List, [], ◌∷◌}

-- the rules before the rank are kept, and that of the rank is broken in this way
abbrev pub BreaksFirst : List (Type 0) → ℕ → Type 0 → Type 0
BreaksFirst rules zero Broken = Broken
BreaksFirst [] (suc rank) Broken = Broken
BreaksFirst (Rule ∷ rules) (suc rank) Broken = Rule × BreaksFirst rules rank Broken

-- all the rules are kept
abbrev pub AreKept : List (Type 0) → Type 0
AreKept [] = Unit {0}
AreKept (Rule ∷ []) = Rule
AreKept (Rule ∷ Next ∷ rules) = Rule × AreKept (Next ∷ rules)

-- of rules, each with the fault that tells that it is broken, the first that is broken has this fault
abbrev pub IsFirstFault : {F : Type 0} → List (Type 0 × F) → F → Type 0
IsFirstFault [] told = ⊥
IsFirstFault ((Rule, fault) ∷ rules) told = ((told ≡ fault) × ¬ Rule) ⊎ (Rule × IsFirstFault rules told)
