-- The keys of the submitters.
use Rattle.std.proofs.Common.{◌≡◌, ◌+◌, ◌<◌, ◌≤◌, ◌∙◌, ◌==◌, ◌||◌, ℕ, Bool, true, false, not, List, [], ◌∷◌, ◌++◌, length, drop, get_or, cond, Option, Some, None, drop_of_length-le, suc, refl, sym, ap, add-one, drop-cons, length-append, eq-eqb, arith}
use Rattle.std.specs.Prelude.{All, IfSome, nat_lt}
use Rattle.std.specs.List.{list_any, position, position_or_len}
use Rattle.std.proofs.lemmas.Bool.{lt-ltb}
use Rattle.std.proofs.lemmas.List.Elements.{All-nil, All-cons}
use Rattle.std.proofs.lemmas.List.Folds.{list_any-append}
use Rattle.blk_bio.specs.declared.bio.Dir.{Dir}
use Rattle.blk_capture.specs.declared.record.Record.{Record}
use Rattle.blk_arrivals.specs.Coming.{way_of, key_of, with_key, keys_after, keys_of}
use Rattle.blk_arrivals.specs.declared.coming.ToldBy.{ToldBy}

-- what is left from a place on begins with the element there
pub rest_at : {X : Type 0} (xs : List X) (i : ℕ) (d : X) → i < length xs → drop i xs ≡ get_or xs i d ∷ drop (i + 1) xs
rest_at xs i d h = rw (add-one i) (drop-cons xs i d h)

-- one record more was looked at
pub key_step : (told : ToldBy) (keys new : List ℕ) (records : List Record) (i : ℕ) (d : Record) → i < length records → keys_after told keys (drop i records) ≡ keys_after told [] records
    → (way : Option Dir) (key : ℕ) → way ≡ way_of (get_or records i d) → key ≡ key_of told (get_or records i d) → new ≡ with_key way key keys
    → keys_after told new (drop (i + 1) records) ≡ keys_after told [] records
unfolding keys_after
key_step told keys new records i d h rest way key w k e =
    let next : keys_after told keys (get_or records i d ∷ drop (i + 1) records) ≡ keys_after told [] records = sym (ap (keys_after told keys) (rest_at records i d h)) ∙ rest in
    rw (e, w, k) next

-- keys don't get fewer

or_more : (b : Bool) (keys : List ℕ) (key : ℕ) → length keys ≤ length (cond b keys (keys ++ key ∷ []))
or_more true keys key = omega arith
or_more false keys key = omega (arith, length-append keys (key ∷ []))

with_more : (way : Option Dir) (key : ℕ) (keys : List ℕ) → length keys ≤ length (with_key way key keys)
with_more None key keys = omega arith
with_more (Some way) key keys = or_more (list_any (λ k. k == key) keys) keys key

pub no_fewer : (told : ToldBy) (keys : List ℕ) (records : List Record) → length keys ≤ length (keys_after told keys records)
unfolding keys_after
no_fewer told keys [] = omega arith
no_fewer told keys (r ∷ records) =
    let now : length keys ≤ length (with_key (way_of r) (key_of told r) keys) = with_more (way_of r) (key_of told r) keys in
    let later : length (with_key (way_of r) (key_of told r) keys) ≤ length (keys_after told (with_key (way_of r) (key_of told r) keys) records) = no_fewer told (with_key (way_of r) (key_of told r) keys) records in
    omega (arith, now, later)

-- as many as so far at least
pub too_many : (told : ToldBy) (keys : List ℕ) (records : List Record) (i n : ℕ) → n < length keys → keys_after told keys (drop i records) ≡ keys_after told [] records → n < length (keys_of told records)
too_many told keys records i n many rest =
    let more : length keys ≤ length (keys_after told keys (drop i records)) = no_fewer told keys (drop i records) in
    let same : length (keys_after told keys (drop i records)) ≡ length (keys_of told records) = ap length rest in
    omega (arith, many, more, same)

pub all_seen : (told : ToldBy) (keys : List ℕ) (records : List Record) (i : ℕ) → length records ≤ i → keys_after told keys (drop i records) ≡ keys_after told [] records → keys ≡ keys_of told records
unfolding keys_after
all_seen told keys records i past rest = sym (ap (keys_after told keys) (drop_of_length-le records past)) ∙ rest

-- a key that is among them stays among them

or_last : (b : Bool) → (b || true) ≡ true
or_last true = refl
or_last false = refl

or_kept : (p : ℕ → Bool) (b : Bool) (keys : List ℕ) (key : ℕ) → list_any p keys ≡ true → list_any p (cond b keys (keys ++ key ∷ [])) ≡ true
or_kept p true keys key h = h
or_kept p false keys key h = list_any-append p keys (key ∷ []) ∙ ap (λ b. b || list_any p (key ∷ [])) h

with_kept : (p : ℕ → Bool) (way : Option Dir) (key : ℕ) (keys : List ℕ) → list_any p keys ≡ true → list_any p (with_key way key keys) ≡ true
with_kept p None key keys h = h
with_kept p (Some way) key keys h = or_kept p (list_any (λ k. k == key) keys) keys key h

kept : (p : ℕ → Bool) (told : ToldBy) (keys : List ℕ) (records : List Record) → list_any p keys ≡ true → list_any p (keys_after told keys records) ≡ true
unfolding keys_after
kept p told keys [] h = h
kept p told keys (r ∷ records) h = kept p told (with_key (way_of r) (key_of told r) keys) records (with_kept p (way_of r) (key_of told r) keys h)

-- the key of a bio is among them

is_last : (keys : List ℕ) (key : ℕ) → list_any (λ k. k == key) (keys ++ key ∷ []) ≡ true
is_last keys key =
    let same : (key == key) ≡ true = eq-eqb key key refl in
    list_any-append (λ k. k == key) keys (key ∷ []) ∙ ap (λ b. list_any (λ k. k == key) keys || (b || false)) same ∙ or_last (list_any (λ k. k == key) keys)

or_there : (b : Bool) (keys : List ℕ) (key : ℕ) → list_any (λ k. k == key) keys ≡ b → list_any (λ k. k == key) (cond b keys (keys ++ key ∷ [])) ≡ true
or_there true keys key h = h
or_there false keys key h = is_last keys key

with_there : (way : Option Dir) (key : ℕ) (keys : List ℕ) → IfSome way (λ _. list_any (λ k. k == key) (with_key way key keys) ≡ true)
with_there None key keys = tt
with_there (Some way) key keys = or_there (list_any (λ k. k == key) keys) keys key refl

if_kept : (way : Option Dir) (P Q : Type 0) → (P → Q) → IfSome way (λ _. P) → IfSome way (λ _. Q)
if_kept None P Q f h = tt
if_kept (Some way) P Q f h = f h

-- each bio that comes in has its key among some
abbrev pub AreAmong : ToldBy → List ℕ → List Record → Type 0
AreAmong told keys [] = Unit {0}
AreAmong told keys (r ∷ records) = IfSome (way_of r) (λ _. list_any (λ k. k == key_of told r) keys ≡ true) × AreAmong told keys records

pub all_among : (told : ToldBy) (keys : List ℕ) (records : List Record) → AreAmong told (keys_after told keys records) records
unfolding keys_after
all_among told keys [] = tt
all_among told keys (r ∷ records) = (
  if_kept (way_of r) (list_any (λ k. k == key_of told r) (with_key (way_of r) (key_of told r) keys) ≡ true) (list_any (λ k. k == key_of told r) (keys_after told (with_key (way_of r) (key_of told r) keys) records) ≡ true)
      (kept (λ k. k == key_of told r) told (with_key (way_of r) (key_of told r) keys) records)
      (with_there (way_of r) (key_of told r) keys),
  all_among told (with_key (way_of r) (key_of told r) keys) records,
)

-- what is among them has a place

below_more : (b c : Bool) (i n : ℕ) → (b || c) ≡ true → (c ≡ true → i < n) → cond (not b) (1 + i) 0 < suc n
below_more true c i n h f = omega arith
below_more false c i n h f = (let below : i < n = f h in omega (arith, below))

place_below : (p : ℕ → Bool) (keys : List ℕ) → list_any p keys ≡ true → position_or_len p keys < length keys
place_below p [] h = absurd (cc h)
place_below p (k ∷ keys) h = below_more (p k) (list_any p keys) (position_or_len p keys) (length keys) h (place_below p keys)

pub placed : (p : ℕ → Bool) (keys : List ℕ) → list_any p keys ≡ true → position p keys ≡ Some (position_or_len p keys)
placed p keys h = rw (lt-ltb (position_or_len p keys) (length keys) (place_below p keys h)) refl
