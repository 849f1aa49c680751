-- Times that are read.
use Rattle.std.proofs.Common.{◌≡◌, ◌∙◌, ◌++◌, ◌*◌, ◌^◌, ◌<◌, ◌≤◌, ◌-◌, ℕ, Bool, true, false, length, take, drop, Option, Some, None, refl, sym, ap, subst, arith, take-append-drop, lt-ltb, le-ltb}
use Rattle.std.proofs.lemmas.List.{append_cancel_left}
use Rattle.std.proofs.lemmas.Slice.Eq.{bytes_eq-Decides}
use Rattle.std.specs.Prelude.{SomeIff, nat_lt, option_and_then, if◌then◌else◌}
use Rattle.clap.specs.Words.{Text}
use Rattle.blk_args.specs.Times.{MAX_NUMBER, plain_number_in, ends_with, before_unit, scaled, in_unit}

ends : (unit text : Text) → text ≡ before_unit unit text ++ unit → ends_with unit text ≡ true
ends unit text e =
    let n : ℕ = length text - length unit in
    let same : drop n text ≡ unit = append_cancel_left (take n text) (drop n text) unit (take-append-drop n text ∙ e) in
    (bytes_eq-Decides (drop n text) unit).1 same

other : (unit text : Text) (b : Bool) → ends_with unit text ≡ b → ((front : Text) → text ≡ front ++ unit → ⊥) → b ≡ false
other unit text false e none = refl
other unit text true e none =
    let n : ℕ = length text - length unit in
    absurd (none (take n text) (sym (take-append-drop n text) ∙ ap (λ (t : Text). take n text ++ t) ((bytes_eq-Decides (drop n text) unit).0 e)))

-- a text without the unit
pub of_another : (unit text : Text) (nanoseconds : ℕ) → ((front : Text) → text ≡ front ++ unit → ⊥) → None ≡ in_unit unit nanoseconds text
of_another unit text nanoseconds none =
    sym (ap (λ (b : Bool). if b then option_and_then (scaled nanoseconds) (plain_number_in MAX_NUMBER (before_unit unit text)) else None) (other unit text (ends_with unit text) refl none))

ending : (unit text : Text) (nanoseconds : ℕ) → text ≡ before_unit unit text ++ unit → in_unit unit nanoseconds text ≡ option_and_then (scaled nanoseconds) (plain_number_in MAX_NUMBER (before_unit unit text))
ending unit text nanoseconds e =
    ap (λ (b : Bool). if b then option_and_then (scaled nanoseconds) (plain_number_in MAX_NUMBER (before_unit unit text)) else None) (ends unit text e)

-- one with it, before which no number stands
pub no_number : (unit text number : Text) (nanoseconds : ℕ) → text ≡ before_unit unit text ++ unit → number ≡ before_unit unit text → None ≡ plain_number_in MAX_NUMBER number → None ≡ in_unit unit nanoseconds text
no_number unit text number nanoseconds e is none =
    let own : plain_number_in MAX_NUMBER (before_unit unit text) ≡ None = subst (λ (t : Text). plain_number_in MAX_NUMBER t ≡ None) is (sym none) in
    sym (ending unit text nanoseconds e ∙ ap (option_and_then (scaled nanoseconds)) own)

scales : (nanoseconds n : ℕ) (r : Option ℕ) → SomeIff r (n * nanoseconds < 2 ^ 64) (n * nanoseconds) → r ≡ scaled nanoseconds n
scales nanoseconds n None past =
    let at_least : 2 ^ 64 ≤ n * nanoseconds = omega (arith, past) in
    let f : nat_lt (n * nanoseconds) (2 ^ 64) ≡ false = le-ltb (n * nanoseconds) (2 ^ 64) at_least in
    sym (ap (λ (b : Bool). if b then Some (n * nanoseconds) else None) f)
scales nanoseconds n (Some x) within =
    let t : nat_lt (n * nanoseconds) (2 ^ 64) ≡ true = lt-ltb (n * nanoseconds) (2 ^ 64) within.0 in
    ap (λ (m : ℕ). Some m) within.1 ∙ sym (ap (λ (b : Bool). if b then Some (n * nanoseconds) else None) t)

-- and one before which a number does
pub of_number : (unit text number : Text) (nanoseconds n : ℕ) (r : Option ℕ) → text ≡ before_unit unit text ++ unit → number ≡ before_unit unit text → Some n ≡ plain_number_in MAX_NUMBER number
    → SomeIff r (n * nanoseconds < 2 ^ 64) (n * nanoseconds) → r ≡ in_unit unit nanoseconds text
of_number unit text number nanoseconds n r e is some scale =
    let own : plain_number_in MAX_NUMBER (before_unit unit text) ≡ Some n = subst (λ (t : Text). plain_number_in MAX_NUMBER t ≡ Some n) is (sym some) in
    scales nanoseconds n r scale ∙ sym (ending unit text nanoseconds e ∙ ap (option_and_then (scaled nanoseconds)) own)

-- what stripping a unit leaves
pub stripped : (unit text number : Text) (n : ℕ) → n ≡ length unit → text ≡ take (length text - n) text ++ unit → number ≡ take (length text - n) text → (text ≡ before_unit unit text ++ unit) × (number ≡ before_unit unit text)
stripped unit text number n e split is =
    (subst (λ (m : ℕ). text ≡ take (length text - m) text ++ unit) e split, subst (λ (m : ℕ). number ≡ take (length text - m) text) e is)
