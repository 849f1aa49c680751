use Rattle.std.proofs.Common.{◌≡◌, ◌++◌, ◌∷◌, take}
use Rattle.std.specs.List.{flat_map}
use Rattle.answer.specs.Inside.Tokens.{entry_tokens}
use Rattle.answer.proofs.as_json.write_entries.Given as goal

-- what is added so far
abbrev pub invariant-loop-entry : goal.invariant-loop-entry
invariant-loop-entry l = l.page ≡ l.fn.page ++ flat_map (λ e. entry_tokens l.columns e) (take l.entry-index l.entries)
