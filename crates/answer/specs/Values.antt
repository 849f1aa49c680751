-- JSON values of numbers, lists and objects, and the line of a value.
use Rattle.std.specs.Prelude.{ℕ, ℤ, List, [], ◌∷◌, ◌++◌, decimal}
use Rattle.std.specs.Fmt.{signed_decimal}
use Rattle.json.specs.Json as json
use Rattle.json.specs.Print.{print}
use Rattle.json.specs.Tree.{json_tokens}

-- a number in decimal digits
abbrev pub count : ℕ → json.Json
count n = json.number (decimal n)

-- a number of either sign
abbrev pub signed_count : ℤ → json.Json
signed_count z = json.number (signed_decimal z)

-- an object with these members, in this order
abbrev pub members_of : List (List ℕ × json.Json) → json.Members
members_of [] = json.no_members
members_of (m ∷ ms) = json.member m.0 m.1 (members_of ms)

abbrev pub object_of : List (List ℕ × json.Json) → json.Json
object_of ms = json.object (members_of ms)

-- an array of these items
unfoldable pub json_items : List json.Json → json.Items
json_items [] = json.no_items
json_items (j ∷ js) = json.item j (json_items js)

abbrev pub array_of : List json.Json → json.Json
array_of js = json.array (json_items js)

-- the text of a value, without a space, and a line's end
abbrev pub value_line : json.Json → List ℕ
value_line j = print (json_tokens j) ++ 10 ∷ []
