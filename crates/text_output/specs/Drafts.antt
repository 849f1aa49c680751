-- The bytes of a text that is being made.
use Rattle.std.specs.Prelude.{ℕ, List, ◌∷◌, ◌++◌, take}
use Rattle.text_output.specs.declared.block.Block.{Block}

-- those that have joined the text, and those of the block up to its place
abbrev pub draft_text : Block → List ℕ
draft_text d = d.text.items ++ take d.at d.block

-- one more field of a record, behind a comma
abbrev pub next_field : List ℕ → List ℕ
next_field text = 44 ∷ text
