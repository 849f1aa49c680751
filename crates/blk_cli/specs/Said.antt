-- What a job answers: a text, a line on what it leaves out, and whether what was looked at is good.
use Rattle.std.specs.Prelude.{◌≡◌, ℕ, Bool, true, List, Option, None, option_map}
use Rattle.blk_cli.specs.declared.Answered.{Answered}

pub record Said : Type 0 where
  pub text : List ℕ
  pub note : Option (List ℕ)
  pub good : Bool

abbrev pub said_of : Answered → Said
said_of a = record { text = a.text.items; note = option_map (λ line. line.items) a.note; good = a.good }

-- a text alone, of what is good
abbrev pub only : List ℕ → Said
only text = record { text = text; note = None; good = true }

abbrev pub IsAlone : Said → Type 0
IsAlone s = (s.note ≡ None) × (s.good ≡ true)
