use Rattle.std.proofs.Common.{◌≡◌, ◌++◌, ◌∷◌, take}
use Rattle.std.specs.List.{flat_map}
use Rattle.answer.specs.Lines.{entry_text}
use Rattle.answer.proofs.as_lines.push_entries.Given as goal

-- what is added so far
abbrev pub invariant-loop-entry : goal.invariant-loop-entry
invariant-loop-entry l = l.draft ≡ l.fn.draft ++ flat_map (λ e. entry_text l.name l.columns e) (take l.entry-index l.entries)
