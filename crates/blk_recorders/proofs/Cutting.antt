-- What a list is cut into, from a place on.
use Rattle.std.proofs.Common.{ℕ, ◌≡◌, ◌+◌, ◌-◌, ◌<◌, ◌≤◌, ◌∙◌, ◌++◌, Bool, true, false, List, [], ◌∷◌, All, length, not, ◌==◌, get_or, take, drop, refl, sym, ap, arith, append_assoc, inl, inr}
use Rattle.std.specs.List.{slice_split}
use Rattle.std.specs.Prelude.{if◌then◌else◌, nat_le}
use Rattle.std.proofs.lemmas.Bool.Decides.{nat_tests}
use Rattle.std.proofs.lemmas.Bool.{cases_eq}
use Rattle.std.proofs.lemmas.Grind.{common_steps}
use Rattle.std.proofs.lemmas.List.{drop_more, drop-take, get_or-take, take-append-drop, take_all}
use Rattle.std.proofs.Math.Seq.{take-take}
use Rattle.std.proofs.lemmas.List.Elements.{All-from_get_or, filter-append}
use Rattle.std.proofs.lemmas.List.Splits.{slice_split_none, slice_split_at}
use Rattle.blk_recorders.specs.Words.{Word, is_blank, words, fields, not_empty, line_between, IsLineEnd}
use Rattle.blk_recorders.specs.Steps.{lines_of}

drop_take : (text : List ℕ) (begin e : ℕ) → begin ≤ e → drop begin (take e text) ≡ take (e - begin) (drop begin text)
drop_take text begin e low =
    let sum : begin + (e - begin) ≡ e = omega (arith, low) in ap (λ (n : ℕ). drop begin (take n text)) (sym sum) ∙ drop-take begin (e - begin) text

-- the part up to an element that passes
pub cut_at : {X : Type 0} (p : X → Bool) (xs : List X) (begin place : ℕ) (d : X) → begin ≤ place → place < length xs → p (get_or xs place d) ≡ true
    → ((k : ℕ) → begin ≤ k → k < place → p (get_or xs k d) ≡ false) → slice_split p (drop begin xs) ≡ take (place - begin) (drop begin xs) ∷ slice_split p (drop (place + 1) xs)
cut_at p xs begin place d before inside passes plain =
    let rest : drop (place - begin) (drop begin xs) ≡ get_or xs place d ∷ drop (place + 1) xs = grind (arith, common_steps, drop_more xs place d inside) in
    let part = take (place - begin) (drop begin xs) in
    let none : All (λ x. p x ≡ false) part = All-from_get_or (λ x. p x ≡ false) part d (λ i l. grind (arith, common_steps, plain (begin + i))) in
    ap (slice_split p) (sym (take-append-drop (place - begin) (drop begin xs)) ∙ ap (λ ys. part ++ ys) rest) ∙ slice_split_at p part (get_or xs place d) (drop (place + 1) xs) none passes

-- the last part
pub cut_last : {X : Type 0} (p : X → Bool) (xs : List X) (begin : ℕ) (d : X) → begin ≤ length xs → ((k : ℕ) → begin ≤ k → k < length xs → p (get_or xs k d) ≡ false)
    → slice_split p (drop begin xs) ≡ drop begin xs ∷ []
cut_last p xs begin d within plain = slice_split_none p (drop begin xs) (All-from_get_or (λ x. p x ≡ false) (drop begin xs) d (λ i l. grind (arith, common_steps, plain (begin + i))))

-- what was cut and what is left make the whole, one part on and at the end; of the parts some may be dropped
part_taken : (p : ℕ → Bool) (kept : List Word → List Word) → ((xs ys : List Word) → kept (xs ++ ys) ≡ kept xs ++ kept ys) → (line : List ℕ) (begin place : ℕ) (before after total : List Word) (part : Word)
    → begin ≤ place → place < length line → p (get_or line place 0) ≡ true → ((k : ℕ) → begin ≤ k → k < place → p (get_or line k 0) ≡ false) → part ≡ take (place - begin) (drop begin line)
    → before ++ kept (slice_split p (drop begin line)) ≡ total → after ≡ before ++ kept (part ∷ []) → after ++ kept (slice_split p (drop (place + 1) line)) ≡ total
part_taken p kept law line begin place before after total part low inside passes plain is whole grown =
    let rest = slice_split p (drop (place + 1) line) in
    let cut : slice_split p (drop begin line) ≡ part ∷ rest = cut_at p line begin place 0 low inside passes plain ∙ ap (λ (w : Word). w ∷ rest) (sym is) in
    ap (λ (ws : List Word). ws ++ kept rest) grown ∙ append_assoc before (kept (part ∷ [])) (kept rest) ∙ ap (λ (ws : List Word). before ++ ws) (sym (law (part ∷ []) rest)) ∙ ap (λ (ws : List Word). before ++ kept ws) (sym cut) ∙ whole

part_last : (p : ℕ → Bool) (kept : List Word → List Word) (line : List ℕ) (begin : ℕ) (before after total : List Word) (part : Word)
    → begin ≤ length line → ((k : ℕ) → begin ≤ k → k < length line → p (get_or line k 0) ≡ false) → part ≡ drop begin line
    → before ++ kept (slice_split p (drop begin line)) ≡ total → after ≡ before ++ kept (part ∷ []) → after ≡ total
part_last p kept line begin before after total part low plain is whole grown =
    let cut : slice_split p (drop begin line) ≡ part ∷ [] = cut_last p line begin 0 low plain ∙ ap (λ (w : Word). w ∷ []) (sym is) in
    grown ∙ ap (λ (ws : List Word). before ++ kept ws) (sym cut) ∙ whole

-- the bytes of a text up to a place
up_to : (text : List ℕ) (k e : ℕ) → k < e → get_or (take e text) k 0 ≡ get_or text k 0
up_to text k e l = get_or-take e text k 0 l

part_up_to : (text : List ℕ) (begin place e : ℕ) → begin ≤ place → place ≤ e → take (place - begin) (drop begin (take e text)) ≡ take (place - begin) (drop begin text)
part_up_to text begin place e low high =
    let whole : drop begin (take e text) ≡ take (e - begin) (drop begin text) = drop_take text begin e (omega (arith, low, high)) in
    ap (take (place - begin)) whole ∙ take-take (place - begin) (e - begin) (drop begin text) (omega (arith, high))

pub word_taken : (text : List ℕ) (begin place e : ℕ) (before after total : List Word) (word : Word)
    → begin ≤ place → place < e → e ≤ length text → is_blank (get_or text place 0) ≡ true → ((k : ℕ) → begin ≤ k → k < place → is_blank (get_or text k 0) ≡ false) → word ≡ take (place - begin) (drop begin text)
    → before ++ words (drop begin (take e text)) ≡ total → after ≡ before ++ not_empty (word ∷ []) → after ++ words (drop (place + 1) (take e text)) ≡ total
word_taken text begin place e before after total word low high within blank plain is whole grown =
    part_taken is_blank not_empty (λ xs ys. filter-append (λ w. not (length w == 0)) xs ys) (take e text) begin place before after total word low (grind (arith, common_steps))
    (ap is_blank (up_to text place e high) ∙ blank) (λ k l h. ap is_blank (up_to text k e (omega (arith, h, high))) ∙ plain k l h) (is ∙ sym (part_up_to text begin place e low (omega (arith, high)))) whole grown

pub word_last : (text : List ℕ) (begin e : ℕ) (before after total : List Word) (word : Word)
    → begin ≤ e → e ≤ length text → ((k : ℕ) → begin ≤ k → k < e → is_blank (get_or text k 0) ≡ false) → word ≡ take (e - begin) (drop begin text)
    → before ++ words (drop begin (take e text)) ≡ total → after ≡ before ++ not_empty (word ∷ []) → after ≡ total
word_last text begin e before after total word low within plain is whole grown =
    let long : length (take e text) ≡ e = grind (arith, common_steps) in
    part_last is_blank not_empty (take e text) begin before after total word (omega (arith, low, long)) (λ k l h. let below : k < e = omega (arith, h, long) in ap is_blank (up_to text k e below) ∙ plain k l below)
    (is ∙ sym (drop_take text begin e low)) whole grown

pub field_taken : (row : List ℕ) (begin place : ℕ) (before after : List Word) (word : Word)
    → begin ≤ place → place < length row → (get_or row place 0 == 44) ≡ true → ((k : ℕ) → begin ≤ k → k < place → (get_or row k 0 == 44) ≡ false) → word ≡ take (place - begin) (drop begin row)
    → before ++ fields (drop begin row) ≡ fields row → after ≡ before ++ word ∷ [] → after ++ fields (drop (place + 1) row) ≡ fields row
field_taken row begin place before after word = part_taken (λ c. c == 44) (λ ws. ws) (λ xs ys. refl) row begin place before after (fields row) word

pub field_last : (row : List ℕ) (begin : ℕ) (before after : List Word) (word : Word)
    → begin ≤ length row → ((k : ℕ) → begin ≤ k → k < length row → (get_or row k 0 == 44) ≡ false) → word ≡ drop begin row
    → before ++ fields (drop begin row) ≡ fields row → after ≡ before ++ word ∷ [] → after ≡ fields row
field_last row begin before after word = part_last (λ c. c == 44) (λ ws. ws) row begin before after (fields row) word

-- the lines from a place on, of which there are none behind the end of a text
abbrev pub lines_left : List ℕ → ℕ → List (List ℕ)
lines_left text begin = if nat_le begin (length text) then lines_of (drop begin text) else []

lines_behind : (text : List ℕ) (end : ℕ) → end ≡ length text → lines_left text (end + 1) ≡ []
lines_behind text end e = let past : nat_le (end + 1) (length text) ≡ false = grind (arith, nat_tests) in rw past refl

pub lines_within : (text : List ℕ) (begin : ℕ) → begin ≤ length text → lines_left text begin ≡ lines_of (drop begin text)
lines_within text begin l = let in_it : nat_le begin (length text) ≡ true = grind (arith, nat_tests) in rw in_it refl

pub next_line : (text : List ℕ) (begin end : ℕ) → IsLineEnd text begin end → lines_left text begin ≡ line_between text begin end ∷ lines_left text (end + 1)
next_line text begin end h = elim (cases_eq end (length text)) [
  | inl last ↦ (
      let all : line_between text begin end ≡ drop begin text = ap (drop begin) (take_all end text (omega (arith, last))) in
      lines_within text begin (omega (arith, h.behind, h.within)) ∙ cut_last (λ c. c == 10) text begin 0 (omega (arith, h.behind, h.within)) (λ k l i. h.plain k l (omega (arith, i, last)))
      ∙ ap (λ (l : List ℕ). l ∷ []) (sym all) ∙ ap (λ (ls : List (List ℕ)). line_between text begin end ∷ ls) (sym (lines_behind text end last)))
  | inr more ↦ (
      let inside : end < length text = omega (arith, h.within, more) in
      let part : line_between text begin end ≡ take (end - begin) (drop begin text) = drop_take text begin end h.behind in
      lines_within text begin (omega (arith, h.behind, h.within)) ∙ cut_at (λ c. c == 10) text begin end 0 h.behind inside (h.fed inside) h.plain
      ∙ ap (λ (l : List ℕ). l ∷ lines_of (drop (end + 1) text)) (sym part) ∙ ap (λ (ls : List (List ℕ)). line_between text begin end ∷ ls) (sym (lines_within text (end + 1) (omega (arith, inside)))))
]

pub no_line : (text : List ℕ) (begin : ℕ) → length text < begin → lines_left text begin ≡ []
no_line text begin l = let past : nat_le begin (length text) ≡ false = grind (arith, nat_tests) in rw past refl

-- no element up to a place passes, nor does the one there
pub one_more : (p : ℕ → Bool) (xs : List ℕ) (begin place : ℕ) → ((k : ℕ) → begin ≤ k → k < place → p (get_or xs k 0) ≡ false) → p (get_or xs place 0) ≡ false
    → (k : ℕ) → begin ≤ k → k < place + 1 → p (get_or xs k 0) ≡ false
one_more p xs begin place plain e k low high = elim (cases_eq k place) [
  | inl same ↦ rw same e
  | inr other ↦ plain k low (omega (arith, other))
]

pub blank_is_no_feed : (c : ℕ) → is_blank c ≡ true → (c == 10) ≡ false
blank_is_no_feed c e = elim (cases_eq c 10) [
  | inl feed ↦ (let never : is_blank 10 ≡ true = rw feed at e in cc never)
  | inr other ↦ grind (arith, nat_tests, other)
]
