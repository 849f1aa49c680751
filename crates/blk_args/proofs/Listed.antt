-- Lists that are read, number by number.
use Rattle.std.proofs.Common.{◌≡◌, ◌∙◌, ◌++◌, ◌∷◌, [], ◌+◌, ◌≤◌, ◌<◌, drop, get_or, ℕ, Bool, true, false, List, Option, Some, None, length, refl, sym, ap, arith, subst}
use Rattle.std.proofs.lemmas.Bool.{leb-true, le-leb}
use Rattle.std.proofs.lemmas.Bool.Decides.{nat_tests}
use Rattle.std.proofs.lemmas.List.{append-nil, append_assoc, at_drop_all, at_drop_more, length-append}
use Rattle.std.proofs.lemmas.List.Elements.{All-cons, All-nil}
use Rattle.std.proofs.lemmas.List.Folds.{list_any-append}
use Rattle.std.specs.Prelude.{◌&&◌, ◌||◌, ◌==◌, not, nat_le, nat_lt, option_and_then, option_map, if◌then◌else◌, All, IfSome}
use Rattle.std.specs.List.{list_any}
use Rattle.std.specs.Str.Parse.{digits_value, without_leading_plus}
use Rattle.clap.proofs.ValueTestLemmas.{accepts-Accepts, Accepts-accepts}
use Rattle.clap.specs.ValueTests.{accepts}
use Rattle.clap.specs.Words.{Text}
use Rattle.clap.specs.declared.builder.value_parser.ValueParser.TheVariants as vp
use Rattle.blk_args.proofs.Lines.{Parses}
use Rattle.blk_schedulers.specs.declared.given.TheConstants.{MAX_LISTED}
use Rattle.blk_args.specs.Times.{number_in, is_plain, plain_number_in}
use Rattle.blk_schedulers.specs.Lists.{parts}
use Rattle.blk_args.specs.Lists.{part_in, numbers_in, are_distinct, is_listed, if_listed, list_by, list_of}
use Rattle.blk_args.specs.declared.lists.ListItems.TheVariants as part

both : (a b : Bool) → (a && b) ≡ true → (a ≡ true) × (b ≡ true)
both true b e = (refl, e)
both false b e = cc e

of_both : (a b : Bool) → a ≡ true → b ≡ true → (a && b) ≡ true
of_both a b e f = rw (e, f) refl

no_or : (a b : Bool) → not (a || b) ≡ true → not a ≡ true
no_or true b e = e
no_or false b e = refl

-- the front of numbers that are distinct, and of a list
distinct_front : (xs ys : List ℕ) → are_distinct (xs ++ ys) ≡ true → are_distinct xs ≡ true
distinct_front [] ys e = refl
distinct_front (x ∷ xs) ys e =
    let h = both (not (list_any (λ k. k == x) (xs ++ ys))) (are_distinct (xs ++ ys)) e in
    let none : not (list_any (λ k. k == x) xs) ≡ true = no_or (list_any (λ k. k == x) xs) (list_any (λ k. k == x) ys) (ap not (sym (list_any-append (λ k. k == x) xs ys)) ∙ h.0) in
    of_both (not (list_any (λ k. k == x) xs)) (are_distinct xs) none (distinct_front xs ys h.1)

listed_front : (xs ys : List ℕ) → is_listed (xs ++ ys) ≡ true → is_listed xs ≡ true
listed_front xs ys e =
    let h = both (nat_le (length (xs ++ ys)) MAX_LISTED) (are_distinct (xs ++ ys)) e in
    let few : length (xs ++ ys) ≤ MAX_LISTED = leb-true (length (xs ++ ys)) MAX_LISTED h.0 in
    let fewer : length xs ≤ MAX_LISTED = omega (arith, few, length-append xs ys) in
    of_both (nat_le (length xs) MAX_LISTED) (are_distinct xs) (le-leb (length xs) MAX_LISTED fewer) (distinct_front xs ys h.1)

-- one number more
shuffled : (a b d e : Bool) → (not (a || (b || false)) && (d && not e)) ≡ ((not a && d) && not (b || e))
shuffled true b d e = refl
shuffled false true true e = refl
shuffled false true false e = refl
shuffled false false d e = refl

turned : (m n : ℕ) → (m == n) ≡ (n == m)
turned m n = grind (arith, nat_tests)

distinct_more : (ns : List ℕ) (n : ℕ) → are_distinct (ns ++ n ∷ []) ≡ (are_distinct ns && not (list_any (λ y. y == n) ns))
distinct_more [] n = refl
distinct_more (x ∷ xs) n =
    let any : list_any (λ k. k == x) (xs ++ n ∷ []) ≡ (list_any (λ k. k == x) xs || ((x == n) || false)) =
    list_any-append (λ k. k == x) xs (n ∷ []) ∙ ap (λ (b : Bool). list_any (λ k. k == x) xs || (b || false)) (turned n x) in
    ap (λ (b : Bool). not b && are_distinct (xs ++ n ∷ [])) any
    ∙ ap (λ (b : Bool). not (list_any (λ k. k == x) xs || ((x == n) || false)) && b) (distinct_more xs n)
    ∙ shuffled (list_any (λ k. k == x) xs) (x == n) (are_distinct xs) (list_any (λ y. y == n) xs)

room : (m n most : ℕ) → n ≡ m + 1 → nat_le n most ≡ nat_lt m most
room m n most e = grind (arith, nat_tests)

pub listed_more : (ns : List ℕ) (n : ℕ) → is_listed ns ≡ true → is_listed (ns ++ n ∷ []) ≡ (nat_lt (length ns) MAX_LISTED && not (list_any (λ y. y == n) ns))
listed_more ns n e =
    let h = both (nat_le (length ns) MAX_LISTED) (are_distinct ns) e in
    let fits : nat_le (length (ns ++ n ∷ [])) MAX_LISTED ≡ nat_lt (length ns) MAX_LISTED = room (length ns) (length (ns ++ n ∷ [])) MAX_LISTED (length-append ns (n ∷ [])) in
    let apart : are_distinct (ns ++ n ∷ []) ≡ not (list_any (λ y. y == n) ns) = distinct_more ns n ∙ ap (λ (b : Bool). b && not (list_any (λ y. y == n) ns)) h.1 in
    ap (λ (b : Bool). b && are_distinct (ns ++ n ∷ [])) fits ∙ ap (λ (b : Bool). nat_lt (length ns) MAX_LISTED && b) apart

-- the numbers so far, and those of the texts that are left, each looked at as it comes
abbrev pub gathered : (Text → Option ℕ) → List ℕ → List Text → Option (List ℕ)
gathered read so_far [] = Some so_far
gathered read so_far (text ∷ texts) = option_and_then (λ n. if is_listed (so_far ++ n ∷ []) then gathered read (so_far ++ n ∷ []) texts else None) (read text)

not_listed : (xs ys : List ℕ) (b : Bool) → is_listed (xs ++ ys) ≡ b → is_listed xs ≡ false → b ≡ false
not_listed xs ys false e f = refl
not_listed xs ys true e f = let h : true ≡ false = sym (listed_front xs ys e) ∙ f in cc h

none_listed : (xs : List ℕ) (o : Option (List ℕ)) → is_listed xs ≡ false → option_and_then (λ ns. if_listed (xs ++ ns)) o ≡ None
none_listed xs None e = refl
none_listed xs (Some ns) e = ap (λ (b : Bool). if b then Some (xs ++ ns) else None) (not_listed xs ns (is_listed (xs ++ ns)) refl e)

moved : (xs : List ℕ) (n : ℕ) (o : Option (List ℕ)) → option_and_then (λ ns. if_listed ((xs ++ n ∷ []) ++ ns)) o ≡ option_and_then (λ ns. if_listed (xs ++ ns)) (option_map (λ ns. n ∷ ns) o)
moved xs n None = refl
moved xs n (Some ns) = ap if_listed (append_assoc xs (n ∷ []) ns)

-- how the rest is read from here on
abbrev Reads : (Text → Option ℕ) → List ℕ → List Text → Type 0
Reads read ns texts = gathered read ns texts ≡ option_and_then (λ k. if_listed (ns ++ k)) (numbers_in read texts)

after : (read : Text → Option ℕ) (so_far : List ℕ) (texts : List Text) (n : ℕ) (b : Bool) → is_listed (so_far ++ n ∷ []) ≡ b → ((ns : List ℕ) → is_listed ns ≡ true → Reads read ns texts)
    → (if b then gathered read (so_far ++ n ∷ []) texts else None) ≡ option_and_then (λ ns. if_listed (so_far ++ ns)) (option_map (λ ns. n ∷ ns) (numbers_in read texts))
after read so_far texts n true e rest = rest (so_far ++ n ∷ []) e ∙ moved so_far n (numbers_in read texts)
after read so_far texts n false e rest = sym (none_listed (so_far ++ n ∷ []) (numbers_in read texts) e) ∙ moved so_far n (numbers_in read texts)

with_one : (read : Text → Option ℕ) (so_far : List ℕ) (texts : List Text) (o : Option ℕ) → ((ns : List ℕ) → is_listed ns ≡ true → Reads read ns texts)
    → option_and_then (λ n. if is_listed (so_far ++ n ∷ []) then gathered read (so_far ++ n ∷ []) texts else None) o
    ≡ option_and_then (λ ns. if_listed (so_far ++ ns)) (option_and_then (λ n. option_map (λ ns. n ∷ ns) (numbers_in read texts)) o)
with_one read so_far texts None rest = refl
with_one read so_far texts (Some n) rest = after read so_far texts n (is_listed (so_far ++ n ∷ [])) refl rest

reads : (read : Text → Option ℕ) (so_far : List ℕ) (texts : List Text) → is_listed so_far ≡ true → Reads read so_far texts
reads read so_far [] e = sym (ap if_listed (append-nil so_far) ∙ ap (λ (b : Bool). if b then Some so_far else None) e)
reads read so_far (text ∷ texts) e = with_one read so_far texts (read text) (λ ns f. reads read ns texts f)

pub gathers : (read : Text → Option ℕ) (text : Text) → gathered read [] (parts text) ≡ list_by read text
gathers read text = reads read [] (parts text) refl

-- the numbers so far with the one of a text that is read, and those of the texts after it
abbrev pub goes : (Text → Option ℕ) → List ℕ → List Text → Option ℕ → Option (List ℕ)
goes read so_far texts o = option_and_then (λ n. if is_listed (so_far ++ n ∷ []) then gathered read (so_far ++ n ∷ []) texts else None) o

-- a part that comes
pub takes_part : (read : Text → Option ℕ) (so_far : List ℕ) (texts : List Text) (k : ℕ) (text : Text) (o : Option ℕ) → (k < length texts) × (text ≡ get_or texts k text) → o ≡ read text
    → gathered read so_far (drop k texts) ≡ goes read so_far (drop (k + 1) texts) o
takes_part read so_far texts k text o h e =
    at_drop_more (gathered read so_far) texts k text h.0 ∙ ap (λ (t : Text). gathered read so_far (t ∷ drop (k + 1) texts)) (sym h.1) ∙ ap (goes read so_far (drop (k + 1) texts)) (sym e)

pub goes_over : (read : Text → Option ℕ) (so_far : List ℕ) (texts : List Text) (n : ℕ) → is_listed (so_far ++ n ∷ []) ≡ true → goes read so_far texts (Some n) ≡ gathered read (so_far ++ n ∷ []) texts
goes_over read so_far texts n e = ap (λ (b : Bool). if b then gathered read (so_far ++ n ∷ []) texts else None) e

pub goes_no_further : (read : Text → Option ℕ) (so_far : List ℕ) (texts : List Text) (n : ℕ) → is_listed (so_far ++ n ∷ []) ≡ false → goes read so_far texts (Some n) ≡ None
goes_no_further read so_far texts n e = ap (λ (b : Bool). if b then gathered read (so_far ++ n ∷ []) texts else None) e

pub all_taken : (read : Text → Option ℕ) (so_far : List ℕ) (texts : List Text) (k : ℕ) → k ≡ length texts → gathered read so_far (drop k texts) ≡ Some so_far
all_taken read so_far texts k e = at_drop_all (gathered read so_far) texts k (omega (arith, e))

-- a number up to the most
below : (most : ℕ) (text : Text) (n : ℕ) (b : Bool) → accepts false (vp.Unsigned 0 most) text ≡ b → Some n ≡ (if b then Some (digits_value 10 (without_leading_plus text)) else None) → n ≤ most
below most text n false e is = cc is
below most text n true e is =
    let a = accepts-Accepts false (vp.Unsigned 0 most) text e in
    let same : n ≡ digits_value 10 (without_leading_plus text) = cc is in
    omega (arith, a.3, same)

plain_up_to : (most : ℕ) (text : Text) (n : ℕ) (b : Bool) → Some n ≡ (if b then number_in most text else None) → n ≤ most
plain_up_to most text n true is = below most text n (accepts false (vp.Unsigned 0 most) text) refl is
plain_up_to most text n false is = cc is

pub up_to : (most : ℕ) (text : Text) (n : ℕ) → Some n ≡ plain_number_in most text → n ≤ most
up_to most text n is = plain_up_to most text n (is_plain text) is

-- a number that a text spells is one up to the most, or is above it
above : (most : ℕ) (text : Text) (n : ℕ) (b : Bool) → nat_le n most ≡ b → accepts false (vp.Unsigned 0 most) text ≡ false → Parses 64 text → n ≡ digits_value 10 (without_leading_plus text) → b ≡ false
above most text n false e not p is = refl
above most text n true e not p is =
    let few : digits_value 10 (without_leading_plus text) ≤ most = omega (arith, leb-true n most e, is) in
    let t : accepts false (vp.Unsigned 0 most) text ≡ true = Accepts-accepts false (vp.Unsigned 0 most) text (p.0, p.1, omega arith, few) in
    let h : true ≡ false = sym t ∙ not in
    cc h

test_number : (most : ℕ) (text : Text) (n : ℕ) (b : Bool) → accepts false (vp.Unsigned 0 most) text ≡ b → Parses 64 text → n ≡ digits_value 10 (without_leading_plus text) → b ≡ nat_le n most
test_number most text n true e p is =
    let a = accepts-Accepts false (vp.Unsigned 0 most) text e in
    let few : n ≤ most = omega (arith, a.3, is) in
    sym (le-leb n most few)
test_number most text n false e p is = sym (above most text n (nat_le n most) refl e p is)

pub spelled : (most : ℕ) (text : Text) (n : ℕ) → Parses 64 text → n ≡ digits_value 10 (without_leading_plus text) → number_in most text ≡ (if nat_le n most then Some n else None)
spelled most text n p is =
    ap (λ (m : ℕ). if accepts false (vp.Unsigned 0 most) text then Some m else None) (sym is)
    ∙ ap (λ (b : Bool). if b then Some n else None) (test_number most text n (accepts false (vp.Unsigned 0 most) text) refl p is)

not_spelled : (most : ℕ) (text : Text) (b : Bool) → accepts false (vp.Unsigned 0 most) text ≡ b → (Parses 64 text → ⊥) → b ≡ false
not_spelled most text false e wrong = refl
not_spelled most text true e wrong =
    let a = accepts-Accepts false (vp.Unsigned 0 most) text e in
    absurd (wrong (a.0, a.1))

pub misspelled : (most : ℕ) (text : Text) → (Parses 64 text → ⊥) → number_in most text ≡ None
misspelled most text wrong =
    ap (λ (b : Bool). if b then Some (digits_value 10 (without_leading_plus text)) else None) (not_spelled most text (accepts false (vp.Unsigned 0 most) text) refl wrong)

-- the numbers of a list are numbers up to the most
one_more_up_to : (most : ℕ) (o : Option ℕ) (rest : Option (List ℕ)) (ns : List ℕ) → ((n : ℕ) → o ≡ Some n → n ≤ most) → ((ks : List ℕ) → rest ≡ Some ks → All (λ x. x ≤ most) ks)
    → option_and_then (λ n. option_map (λ ks. n ∷ ks) rest) o ≡ Some ns → All (λ x. x ≤ most) ns
one_more_up_to most None rest ns one others e = cc e
one_more_up_to most (Some n) None ns one others e = cc e
one_more_up_to most (Some n) (Some ks) ns one others e =
    let same : n ∷ ks ≡ ns = cc e in
    subst (λ (xs : List ℕ). All (λ x. x ≤ most) xs) same (All-cons (λ x. x ≤ most) n ks (one n refl) (others ks refl))

each_up_to : (most : ℕ) (texts : List Text) (ns : List ℕ) → numbers_in (part_in (part.UpTo most)) texts ≡ Some ns → All (λ x. x ≤ most) ns
each_up_to most [] ns e = let same : [] ≡ ns = cc e in subst (λ (xs : List ℕ). All (λ x. x ≤ most) xs) same (All-nil (λ x. x ≤ most))
each_up_to most (text ∷ texts) ns e =
    one_more_up_to most (plain_number_in most text) (numbers_in (part_in (part.UpTo most)) texts) ns (λ n is. up_to most text n (sym is)) (λ ks is. each_up_to most texts ks is) e

was_read : (ks ns : List ℕ) (b : Bool) → (if b then Some ks else None) ≡ Some ns → Some ks ≡ Some ns
was_read ks ns true e = e
was_read ks ns false e = cc e

were_read : (o : Option (List ℕ)) (ns : List ℕ) → option_and_then if_listed o ≡ Some ns → o ≡ Some ns
were_read None ns e = cc e
were_read (Some ks) ns e = was_read ks ns (is_listed ks) e

pub all_up_to : {N : Type 0} (items : N → List ℕ) (o : Option N) (most : ℕ) (text : Text) → option_map items o ≡ list_of most text → IfSome o (λ n. All (λ x. x ≤ most) (items n))
all_up_to items None most text e = tt
all_up_to items (Some n) most text e =
    each_up_to most (parts text) (items n) (were_read (numbers_in (part_in (part.UpTo most)) (parts text)) (items n) (sym e))
