-- Each word of a list of events with one more event.
use Rattle.std.proofs.Common.{◌≡◌, ◌≤◌, ◌+◌, ◌++◌, ◌==◌, ◌||◌, ℕ, zero, suc, List, [], ◌∷◌, length, take, refl, sym, ◌∙◌, ap, arith, cond, Bool, true, false, option_map}
use Rattle.std.specs.Prelude.{Option, count_by, fold, max}
use Rattle.std.specs.Option.{option_map_or}
use Rattle.std.specs.List.{filter_map, cons_option, list_any}
use Rattle.std.proofs.lemmas.List.Folds.{list_any-append}
use Rattle.std.proofs.lemmas.List.Elements.{filter_map-append}
use Rattle.std.proofs.lemmas.List.Sums.{sum_by-cons, sum_by-append, fold-append, count_by-le-length}
use Rattle.blk_trace.specs.Happened.{Happened}
use Rattle.blk_trace.specs.Kinds.{releases, issues, enters_under}
use Rattle.blk_trace.specs.Setups.{Setup}
use Rattle.blk_trace.specs.Events.{is_tick, round_of, join_up, request_of}
use Rattle.blk_trace.specs.Meaning.{timed, entry_round, entry_due, release_of, due_of, released_ids, greatest, least}
use Rattle.blk_trace.specs.Waits.{was_issued}

-- the released ids
pub released_more : (es fs : List Happened) → released_ids (es ++ fs) ≡ released_ids es ++ released_ids fs
unfolding released_ids
released_more es fs = filter_map-append (λ e. option_map (λ p. p.0) (releases e)) es fs

-- counts and rounds
pub more_of : (p : Happened → Bool) (es : List Happened) (e : Happened) → count_by p (es ++ e ∷ []) ≡ count_by p es + cond (p e) 1 0
more_of p es e = sum_by-append (λ (x : Happened). cond (p x) 1 0) es (e ∷ []) ∙ ap (λ n. count_by p es + n) (omega arith)

pub round_more : (es : List Happened) (e : Happened) → round_of (es ++ e ∷ []) ≡ round_of es + cond (is_tick e) 1 0
unfolding round_of
round_more es e = more_of is_tick es e

pub round_still : (es : List Happened) (e : Happened) → is_tick e ≡ false → round_of (es ++ e ∷ []) ≡ round_of es
round_still es e h = omega (arith, round_more es e ∙ ap (λ b. round_of es + cond b 1 0) h)

-- there are no more rounds than events
pub rounds_within : (es : List Happened) → round_of es ≤ length es
unfolding round_of
rounds_within es = count_by-le-length is_tick es

-- a round is no later than the last one
round_cons_le : (e : Happened) (es : List Happened) → round_of (e ∷ es) ≡ cond (is_tick e) 1 0 + round_of es
unfolding round_of
round_cons_le e es = sum_by-cons (λ (x : Happened). cond (is_tick x) 1 0) e es

pub round_within : (k : ℕ) (es : List Happened) → round_of (take k es) ≤ round_of es
unfolding round_of
round_within zero es = omega arith
round_within (suc k) [] = omega arith
round_within (suc k) (e ∷ es) = omega (arith, round_within k es, round_cons_le e es, round_cons_le e (take k es))

-- the round after a list that begins in a given round
one_later : (b : Bool) (r n : ℕ) → r + (cond b 1 0 + n) ≡ cond b (r + 1) r + n
one_later true r n = omega arith
one_later false r n = omega arith

pub round_cons : (e : Happened) (es : List Happened) (r : ℕ) → r + round_of (e ∷ es) ≡ cond (is_tick e) (r + 1) r + round_of es
unfolding round_of
round_cons e es r = ap (λ (n : ℕ). r + n) (sum_by-cons (λ (x : Happened). cond (is_tick x) 1 0) e es) ∙ one_later (is_tick e) r (count_by is_tick es)

pub timed_more : (r : ℕ) (es : List Happened) (e : Happened) → timed r (es ++ e ∷ []) ≡ timed r es ++ (r + round_of es, e) ∷ []
unfolding timed round_of
timed_more r [] e = ap (λ n. (n, e) ∷ []) (omega arith)
timed_more r (x ∷ es) e =
    ap (λ l. (r, x) ∷ l) (timed_more (cond (is_tick x) (r + 1) r) es e ∙ ap (λ n. timed (cond (is_tick x) (r + 1) r) es ++ (n, e) ∷ []) (sym (round_cons x es r)))

pub timed_push : (es : List Happened) (e : Happened) → timed 0 (es ++ e ∷ []) ≡ timed 0 es ++ (round_of es, e) ∷ []
timed_push es e = timed_more 0 es e ∙ ap (λ n. timed 0 es ++ (n, e) ∷ []) (let z : 0 + round_of es ≡ round_of es = omega arith in z)

-- what a part of each timed event gives
pub timed_part : {X : Type 0} (f : ℕ × Happened → Option X) (es : List Happened) (e : Happened) → filter_map f (timed 0 (es ++ e ∷ [])) ≡ filter_map f (timed 0 es) ++ cons_option (f (round_of es, e)) []
timed_part f es e = ap (filter_map f) (timed_push es e) ∙ filter_map-append f (timed 0 es) ((round_of es, e) ∷ [])

-- whether an id was ever issued
or_last : (x y : Bool) → (x || (y || false)) ≡ (x || y)
or_last true y = refl
or_last false true = refl
or_last false false = refl

pub was_issued_more : (es : List Happened) (e : Happened) (id : ℕ) → was_issued (es ++ e ∷ []) id ≡ (was_issued es id || option_map_or (λ p. p.0 == id) (issues e) false)
unfolding was_issued
was_issued_more es e id =
    let f : Happened → Bool = λ x. option_map_or (λ p. p.0 == id) (issues x) false in
    list_any-append f es (e ∷ []) ∙ or_last (list_any f es) (f e)

-- the request, release and due round of an id
pub request_more : (es : List Happened) (e : Happened) (id : ℕ) → request_of (es ++ e ∷ []) id ≡ fold join_up (request_of es id) (cons_option (enters_under id e) [])
unfolding request_of
request_more es e id =
    ap (fold join_up []) (filter_map-append (enters_under id) es (e ∷ [])) ∙ fold-append join_up [] (filter_map (enters_under id) es) (cons_option (enters_under id e) [])

pub release_more : (es : List Happened) (e : Happened) (id : ℕ) → release_of (es ++ e ∷ []) id ≡ fold max (release_of es id) (cons_option (entry_round id (round_of es, e)) [])
unfolding release_of
release_more es e id = ap greatest (timed_part (entry_round id) es e) ∙ fold-append max 0 (filter_map (entry_round id) (timed 0 es)) (cons_option (entry_round id (round_of es, e)) [])

-- the due rounds of an id's bios
unfoldable pub dues : Setup → List Happened → ℕ → List ℕ
dues setup es id = filter_map (entry_due setup id) (timed 0 es)

pub due_is : (setup : Setup) (es : List Happened) (id : ℕ) → due_of setup es id ≡ least (dues setup es id)
unfolding due_of dues
due_is setup es id = refl

pub dues_more : (setup : Setup) (es : List Happened) (e : Happened) (id : ℕ) → dues setup (es ++ e ∷ []) id ≡ dues setup es id ++ cons_option (entry_due setup id (round_of es, e)) []
unfolding dues
dues_more setup es e id = timed_part (entry_due setup id) es e
