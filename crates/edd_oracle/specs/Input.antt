use Rattle.std.specs.Prelude.{take, ℕ, ◌≡◌, ◌≢◌, ◌≤◌, ◌<◌, ◌⊎◌, List, length, slice_index_or, All, [], ◌∷◌}
use Rattle.edd_commands.specs.declared.Command.{Command}
use Rattle.edd_commands.specs.declared.TheConstants.{MAX_COMMANDS, MAX_RELEASES, MAX_ROUNDS}
use Rattle.edd_oracle.specs.declared.OracleFault.{OracleFault}
use Rattle.edd_oracle.specs.declared.OracleFault.TheVariants.{TooMany, RoundRange, RepeatedId, Memory}
use Rattle.edd_commands.specs.Order.{BreaksFirst, AreKept}

-- the release and the due round are within their limits
abbrev pub IsSolvable : Command → Type 0
IsSolvable c = (c.release < MAX_RELEASES) × (c.due < MAX_ROUNDS)

-- the first command by place whose release or due round is out of range has this id
pub record IsFirstOutOfRange (commands : List Command) (id : ℕ) : Type 0 where
  pub place : ℕ
  pub in_list : place < length commands
  pub outside : (d : Command) → (MAX_RELEASES ≤ (slice_index_or commands place d).release) ⊎ (MAX_ROUNDS ≤ (slice_index_or commands place d).due)
  pub named : (d : Command) → (slice_index_or commands place d).id ≡ id
  pub first : (k : ℕ) (d : Command) → k < place → IsSolvable (slice_index_or commands k d)

-- no two of the first n places have the same id
abbrev pub HasDistinctIds : List Command → ℕ → Type 0
HasDistinctIds commands n =
    (j k : ℕ) (d : Command) → j < k → k < n → (slice_index_or commands j d).id ≢ (slice_index_or commands k d).id

-- the first place whose id stood before has this id
pub record IsFirstRepeated (commands : List Command) (id : ℕ) : Type 0 where
  pub place : ℕ
  pub in_list : place < length commands
  pub named : (d : Command) → (slice_index_or commands place d).id ≡ id
  pub before : ℕ
  pub stood_before : before < place
  pub same : (d : Command) → (slice_index_or commands before d).id ≡ id
  pub first : HasDistinctIds commands place

-- a list that the oracle takes
pub record IsTaken (commands : List Command) : Type 0 where
  pub few : length commands ≤ MAX_COMMANDS
  pub in_range : All IsSolvable commands
  pub distinct : HasDistinctIds commands (length commands)

-- the rules of a list, in the order in which they are looked at
abbrev pub list_rules : List Command → List (Type 0)
list_rules commands =
    (length commands ≤ MAX_COMMANDS) ∷ All IsSolvable commands ∷ HasDistinctIds commands (length commands) ∷ []

-- why the oracle refuses a list: the first rule that is broken, or running out of memory after the first two
abbrev pub IsRefusal : List Command → OracleFault → Type 0
IsRefusal commands TooMany = BreaksFirst (list_rules commands) 0 (MAX_COMMANDS < length commands)
IsRefusal commands (RoundRange id) = BreaksFirst (list_rules commands) 1 (IsFirstOutOfRange commands id)
IsRefusal commands (RepeatedId id) = BreaksFirst (list_rules commands) 2 (IsFirstRepeated commands id)
IsRefusal commands Memory = AreKept (take 2 (list_rules commands))
