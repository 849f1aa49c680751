-- The tokens of an array's items and of an object's members, and the text of some tokens.
use Rattle.std.proofs.Common.{◌≡◌, ◌++◌, ◌∷◌, [], ℕ, List, map, refl, sym, ap, subst, ◌∙◌}
use Rattle.std.specs.Prelude.{Result, IfOk}
use Rattle.std.specs.List.{flat_map}
use Rattle.std.proofs.lemmas.List.{append_assoc}
use Rattle.json.specs.Json as json
use Rattle.json.specs.Token as token
use Rattle.json.specs.Print.{print}
use Rattle.json.specs.Tree.{json_tokens, items_tokens, members_tokens}
use Rattle.answer.specs.declared.cells.Cell.{Cell}
use Rattle.answer.specs.declared.cells.Column.{Column}
use Rattle.answer.specs.declared.value.Setting.{Setting}
use Rattle.answer.specs.declared.answer.Entry.{Entry}
use Rattle.answer.specs.declared.answer.Part.{Part}
use Rattle.answer.specs.Values.{json_items, members_of}
use Rattle.answer.specs.Json.{cell_member, setting_told, entry_member, part_members}
use Rattle.answer.specs.Inside.Tokens.{member_tokens, tokens_of, cell_tokens, set_tokens, entry_tokens}

-- of the same tokens
pub told : {V E : Type 0} (r : Result V E) (items : V → List ℕ) (p q : List token.Token) → p ≡ q → IfOk r (λ v. items v ≡ print p ++ 10 ∷ []) → IfOk r (λ v. items v ≡ print q ++ 10 ∷ [])
told r items p q same h = subst (λ ts. IfOk r (λ v. items v ≡ print ts ++ 10 ∷ [])) same h

-- the items of an array, with the closing bracket
pub items_written : {X : Type 0} (f : X → json.Json) (xs : List X) → items_tokens (json_items (map f xs)) ≡ flat_map (λ x. json_tokens (f x)) xs ++ token.end_array ∷ []
unfolding json_items
items_written f [] = refl
items_written f (x ∷ xs) = ap (λ ts. json_tokens (f x) ++ ts) (items_written f xs) ∙ sym (append_assoc (json_tokens (f x)) _ _)

-- the members of an object, with the closing bracket
pub members_written : (ms : List (List ℕ × json.Json)) → members_tokens (members_of ms) ≡ tokens_of ms ++ token.end_object ∷ []
members_written [] = refl
members_written (m ∷ ms) = ap (λ ts. token.key m.0 ∷ (json_tokens m.1 ++ ts)) (members_written ms) ∙ ap (λ ts. token.key m.0 ∷ ts) (sym (append_assoc (json_tokens m.1) _ _))

-- the members of two lists, one after the other
pub tokens_append : (ms ns : List (List ℕ × json.Json)) → tokens_of (ms ++ ns) ≡ tokens_of ms ++ tokens_of ns
tokens_append [] ns = refl
tokens_append (m ∷ ms) ns = ap (λ ts. token.key m.0 ∷ (json_tokens m.1 ++ ts)) (tokens_append ms ns) ∙ ap (λ ts. token.key m.0 ∷ ts) (sym (append_assoc (json_tokens m.1) (tokens_of ms) (tokens_of ns)))

-- the members of cells, and those of parts
pub cells_written : (cs : List Cell) → tokens_of (map cell_member cs) ≡ flat_map (λ c. cell_tokens c) cs
cells_written [] = refl
cells_written (c ∷ cs) = ap (λ ts. cell_tokens c ++ ts) (cells_written cs)

pub parts_written : (ps : List Part) → tokens_of (flat_map part_members ps) ≡ flat_map (λ p. tokens_of (part_members p)) ps
parts_written [] = refl
parts_written (p ∷ ps) = tokens_append (part_members p) (flat_map part_members ps) ∙ ap (λ ts. tokens_of (part_members p) ++ ts) (parts_written ps)

-- settings, and rows under their names
pub settings_told : (ss : List Setting) → tokens_of (map setting_told ss) ≡ flat_map (λ s. set_tokens s) ss
settings_told [] = refl
settings_told (s ∷ ss) = ap (λ ts. set_tokens s ++ ts) (settings_told ss)

pub entries_told : (columns : List Column) (es : List Entry) → tokens_of (map (entry_member columns) es) ≡ flat_map (λ e. entry_tokens columns e) es
entries_told columns [] = refl
entries_told columns (e ∷ es) = ap (λ ts. entry_tokens columns e ++ ts) (entries_told columns es)
