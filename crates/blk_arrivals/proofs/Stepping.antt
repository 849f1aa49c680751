-- The steps that records come to: how many there are, and that they lie in the ranges of a script.
use Rattle.std.proofs.Common.{◌≡◌, ◌+◌, ◌-◌, ◌<◌, ◌≤◌, ◌^◌, ◌∙◌, ◌==◌, ℕ, Bool, true, false, List, [], ◌∷◌, ◌++◌, length, drop, get_or, cond, set, replicate, Option, Some, None, drop_of_length-le, max, subst, refl, sym, ap, append_assoc, append-nil, length-append, length-set, ltb-true, eqb-true, arith}
use Rattle.std.specs.Prelude.{All, IfSome, nat_lt, slice_index, slice_set}
use Rattle.std.proofs.lemmas.List.{length-replicate}
use Rattle.std.proofs.lemmas.List.Elements.{All-nil, All-cons, All-append}
use Rattle.blk_bio.specs.Bios.{Bio, IsBio}
use Rattle.blk_bio.specs.declared.bio.TheConstants.{MAX_END}
use Rattle.blk_bio.specs.declared.bio.Dir.{Dir}
use Rattle.blk_capture.specs.declared.record.Action.{Action}
use Rattle.blk_capture.specs.declared.record.Action.TheVariants as action
use Rattle.blk_capture.specs.declared.record.Record.{Record}
use Rattle.blk_text.specs.Script.{LineFits}
use Rattle.blk_text.specs.declared.script.Line.{Line}
use Rattle.blk_text.specs.declared.script.Line.TheVariants as line
use Rattle.blk_text.specs.declared.script.TheConstants.{MAX_RUN, MAX_STEPS}
use Rattle.blk_arrivals.specs.Coming.{way_of, key_of, round_of_time, ComeInTime}
use Rattle.blk_arrivals.specs.Effects.{comes_from, record_effect, effect_by, effect_of, submitter_number}
use Rattle.blk_arrivals.specs.Inside.Effects.{IsRecordEffect}
use Rattle.blk_arrivals.specs.Plugs.{Plugs, no_plugs, flush_of, flushes, out_of, ending_of, plugs_in, is_later, room_for, held_with, bio_of, arrival_of, plugs_with, out_if, unplugging_of, plugs_without, steps_by, plugs_by, last_steps, steps_from}
use Rattle.blk_arrivals.specs.declared.coming.ToldBy.{ToldBy}
use Rattle.blk_arrivals.specs.declared.effects.RecordEffect.{RecordEffect}
use Rattle.blk_arrivals.specs.declared.effects.RecordEffect.TheVariants as effect
use Rattle.blk_arrivals.proofs.Keys.{rest_at}

-- the flushes of one plug more, and of those that are left
pub flush_step : (had now whole : List Line) (held : List ℕ) (i : ℕ) → i < length held → had ++ flushes i (drop i held) ≡ whole → now ≡ had ++ flush_of i (get_or held i 0) → now ++ flushes (i + 1) (drop (i + 1) held) ≡ whole
unfolding flushes
flush_step had now whole held i h rest is =
    let next : had ++ flushes i (get_or held i 0 ∷ drop (i + 1) held) ≡ whole = sym (ap (λ (hs : List ℕ). had ++ flushes i hs) (rest_at held i 0 h)) ∙ rest in
    rw is (append_assoc had (flush_of i (get_or held i 0)) (flushes (i + 1) (drop (i + 1) held)) ∙ next)

-- no plug is left
pub no_flushes : (had whole : List Line) (held : List ℕ) (i : ℕ) → length held ≤ i → had ++ flushes i (drop i held) ≡ whole → had ≡ whole
unfolding flushes
no_flushes had whole held i past rest = sym (append-nil had) ∙ sym (ap (λ (hs : List ℕ). had ++ flushes i hs) (drop_of_length-le held past)) ∙ rest

-- the steps of one record more
pub line_step : (begin span : ℕ) (told : ToldBy) (keys : List ℕ) (had now whole : List Line) (p q : Plugs) (records : List Record) (i : ℕ) (r : Record) → i < length records
    → had ++ steps_from begin span told keys p (drop i records) ≡ whole
    → (round : ℕ) (d : RecordEffect) → round ≡ round_of_time begin span (get_or records i r).time → d ≡ effect_of told keys (get_or records i r)
    → now ≡ had ++ steps_by round p (get_or records i r) d → q ≡ plugs_by round p d
    → now ++ steps_from begin span told keys q (drop (i + 1) records) ≡ whole
unfolding steps_from
line_step begin span told keys had now whole p q records i r h rest round d a b is after =
    let x = get_or records i r in
    let next : had ++ steps_from begin span told keys p (x ∷ drop (i + 1) records) ≡ whole = sym (ap (λ (rs : List Record). had ++ steps_from begin span told keys p rs) (rest_at records i r h)) ∙ rest in
    rw (is, after, a, b)
    (append_assoc had (steps_by (round_of_time begin span x.time) p x (effect_of told keys x)) (steps_from begin span told keys (plugs_by (round_of_time begin span x.time) p (effect_of told keys x)) (drop (i + 1) records)) ∙ next)

-- and of none
pub last_step : (begin span : ℕ) (told : ToldBy) (keys : List ℕ) (had now whole : List Line) (p : Plugs) (records : List Record) (i : ℕ) → length records ≤ i → had ++ steps_from begin span told keys p (drop i records) ≡ whole
    → now ≡ had ++ last_steps p → now ≡ whole
unfolding steps_from
last_step begin span told keys had now whole p records i past rest is = is ∙ sym (ap (λ (rs : List Record). had ++ steps_from begin span told keys p rs) (drop_of_length-le records past)) ∙ rest

-- as many as so far at least
pub as_many : (had more whole : List Line) (n : ℕ) → n < length had → had ++ more ≡ whole → n < length whole
as_many had more whole n h is =
    let same : length (had ++ more) ≡ length whole = ap length is in
    omega (arith, h, same, length-append had more)

-- how many plugs there are

turned_held : (later : Bool) (round : ℕ) (p : Plugs) → length (plugs_in later round p).held ≡ length p.held
turned_held false round p = refl
turned_held true round p = length-replicate (length p.held) 0

unplugged_held : (later : Bool) (p : Plugs) (s : ℕ) → length (plugs_without later p s).held ≡ length p.held
unplugged_held true p s = refl
unplugged_held false p s = length-set p.held s 0

pub held_stay : (round : ℕ) (p : Plugs) (d : RecordEffect) → length (plugs_by round p d).held ≡ length p.held
held_stay round p (effect.Comes s way) =
    let t = plugs_in (is_later round p) round p in
    length-set t.held s (held_with (slice_index t.held s)) ∙ turned_held (is_later round p) round p
held_stay round p (effect.Unplugs s) = unplugged_held (is_later round p) p s
held_stay round p effect.Nothing = refl

-- each bio has a step

turned_bios : (later : Bool) (round : ℕ) (p : Plugs) → (plugs_in later round p).bios ≡ p.bios
turned_bios false round p = refl
turned_bios true round p = refl

unplugged_bios : (later : Bool) (p : Plugs) (s : ℕ) → (plugs_without later p s).bios ≡ p.bios
unplugged_bios true p s = refl
unplugged_bios false p s = refl

some_more : (xs ys : List Line) (l : Line) → 1 ≤ length (xs ++ (ys ++ l ∷ []))
some_more xs ys l = omega (arith, length-append xs (ys ++ l ∷ []), length-append ys (l ∷ []))

pub bios_stay : (round : ℕ) (p : Plugs) (r : Record) (d : RecordEffect) (had now : List Line) → p.bios ≤ length had → now ≡ had ++ steps_by round p r d → (plugs_by round p d).bios ≤ length now
bios_stay round p r (effect.Comes s way) had now few is =
    let t = plugs_in (is_later round p) round p in
    let same : t.bios ≡ p.bios = turned_bios (is_later round p) round p in
    let more : 1 ≤ length (ending_of (is_later round p) round p ++ arrival_of t s way r) = some_more (ending_of (is_later round p) round p) (room_for s (slice_index t.held s)) (line.Bio (bio_of s t.bios way r)) in
    let long : length now ≡ length (had ++ (ending_of (is_later round p) round p ++ arrival_of t s way r)) = ap length is in
    omega (arith, few, same, more, long, length-append had (ending_of (is_later round p) round p ++ arrival_of t s way r))
bios_stay round p r (effect.Unplugs s) had now few is =
    let same : (plugs_without (is_later round p) p s).bios ≡ p.bios = unplugged_bios (is_later round p) p s in
    let long : length now ≡ length (had ++ unplugging_of (is_later round p) p s) = ap length is in
    omega (arith, few, same, long, length-append had (unplugging_of (is_later round p) p s))
bios_stay round p r effect.Nothing had now few is =
    let long : length now ≡ length (had ++ []) = ap length is in
    omega (arith, few, long, length-append had [])

-- the steps lie in their ranges

abbrev pub AllFit : ℕ → List Line → Type 0
AllFit n lines = All (LineFits 1 n) lines

none_fits : (n : ℕ) → AllFit n []
none_fits n = All-nil (LineFits 1 n)

one_fits : (n : ℕ) (l : Line) → LineFits 1 n l → AllFit n (l ∷ [])
one_fits n l h = All-cons (LineFits 1 n) l [] h (none_fits n)

either_fits : (n : ℕ) (b : Bool) (xs ys : List Line) → AllFit n xs → AllFit n ys → AllFit n (cond b xs ys)
either_fits n true xs ys f g = f
either_fits n false xs ys f g = g

out_fits : (n s : ℕ) → s < n → AllFit n (out_of s)
out_fits n s h = All-cons (LineFits 1 n) (line.Flush s) (line.Drain 0 ∷ []) h (one_fits n (line.Drain 0) (omega arith))

flushes_fit : (n s : ℕ) (held : List ℕ) → s + length held ≤ n → AllFit n (flushes s held)
unfolding flushes
flushes_fit n s [] h = none_fits n
flushes_fit n s (x ∷ held) h =
    All-append (LineFits 1 n) (flush_of s x) (flushes (s + 1) held) (either_fits n (x == 0) [] (line.Flush s ∷ []) (none_fits n) (one_fits n (line.Flush s) (omega (arith, h)))) (flushes_fit n (s + 1) held (omega (arith, h)))

ended_fits : (n : ℕ) (later : Bool) (round : ℕ) (p : Plugs) → is_later round p ≡ later → length p.held ≤ n → round ≤ MAX_RUN → AllFit n (ending_of later round p)
ended_fits n false round p is few most = none_fits n
ended_fits n true round p is few most =
    let after : p.now < round = ltb-true p.now round is in
    All-append (LineFits 1 n) (flushes 0 p.held) (line.Run (round - p.now) ∷ []) (flushes_fit n 0 p.held (omega (arith, few))) (one_fits n (line.Run (round - p.now)) (omega (arith, after), omega (arith, most)))

-- a bio comes in within the rounds of a script, if one does
abbrev pub IsInTime : ℕ → RecordEffect → Type 0
IsInTime round (effect.Comes s way) = round ≤ MAX_RUN
IsInTime round (effect.Unplugs s) = Unit {0}
IsInTime round effect.Nothing = Unit {0}

from_in_time : (s round : ℕ) (way : Option Dir) → IfSome way (λ _. round ≤ MAX_RUN) → IsInTime round (comes_from s way)
from_in_time s round None h = tt
from_in_time s round (Some way) h = h

done_in_time : (s round : ℕ) (a : Action) (way : Option Dir) → IfSome way (λ _. round ≤ MAX_RUN) → IsInTime round (record_effect s a way)
done_in_time s round action.Unplug way h = tt
done_in_time s round a way h = from_in_time s round way h

by_in_time : (number : Option ℕ) (round : ℕ) (a : Action) (way : Option Dir) → IfSome way (λ _. round ≤ MAX_RUN) → IsInTime round (effect_by number a way)
by_in_time None round a way h = tt
by_in_time (Some s) round a way h = done_in_time s round a way h

pub deed_in_time : (told : ToldBy) (keys : List ℕ) (r : Record) (round : ℕ) → IfSome (way_of r) (λ _. round ≤ MAX_RUN) → IsInTime round (effect_of told keys r)
deed_in_time told keys r round h = by_in_time (submitter_number keys (key_of told r)) round r.action (way_of r) h

unplug_fits : (n : ℕ) (later : Bool) (p : Plugs) (s : ℕ) → s < n → AllFit n (unplugging_of later p s)
unplug_fits n true p s h = none_fits n
unplug_fits n false p s h = either_fits n (slice_index p.held s == 0) [] (out_of s) (none_fits n) (out_fits n s h)

-- those of a record
steps_fit : (n round : ℕ) (p : Plugs) (r : Record) (d : RecordEffect) → IsRecordEffect (length p.held) r d → IsInTime round d → length p.held ≤ n → p.bios < 2 ^ 64 → AllFit n (steps_by round p r d)
steps_fit n round p r (effect.Comes s way) is most few number =
    let t = plugs_in (is_later round p) round p in
    let same : t.bios ≡ p.bios = turned_bios (is_later round p) round p in
    let below : s < length p.held = is.0 in
    let bio : LineFits 1 n (line.Bio (bio_of s t.bios way r)) = (omega (arith, below, few), omega (arith, same, number), record { not_empty = is.1; in_range = is.2 }) in
    All-append (LineFits 1 n) (ending_of (is_later round p) round p) (arrival_of t s way r) (ended_fits n (is_later round p) round p refl few most)
    (All-append (LineFits 1 n) (room_for s (slice_index t.held s)) (line.Bio (bio_of s t.bios way r) ∷ []) (either_fits n _ [] (out_of s) (none_fits n) (out_fits n s (omega (arith, below, few)))) (one_fits n (line.Bio (bio_of s t.bios way r)) bio))
steps_fit n round p r (effect.Unplugs s) is most few number = unplug_fits n (is_later round p) p s (omega (arith, is, few))
steps_fit n round p r effect.Nothing is most few number = none_fits n

pub more_fit : (n round : ℕ) (p : Plugs) (r : Record) (d : RecordEffect) (had now : List Line) → IsRecordEffect (length p.held) r d → IsInTime round d → length p.held ≤ n → p.bios < 2 ^ 64 → AllFit n had → now ≡ had ++ steps_by round p r d
    → AllFit n now
more_fit n round p r d had now is most few number fit e = rw e (All-append (LineFits 1 n) had (steps_by round p r d) fit (steps_fit n round p r d is most few number))

run_fits : (n bios : ℕ) (b : Bool) → (bios == 0) ≡ b → bios ≤ MAX_RUN → AllFit n (cond b [] (line.Run bios ∷ []))
run_fits n bios true is most = none_fits n
run_fits n bios false is most = one_fits n (line.Run bios) (some bios is, most)
  where
    some : (k : ℕ) → (k == 0) ≡ false → 1 ≤ k
    some k h = grind (arith, h)

-- and those at the end
pub last_fit : (n : ℕ) (p : Plugs) (had now : List Line) → length p.held ≤ n → p.bios ≤ length had → length had ≤ MAX_STEPS → AllFit n had → now ≡ had ++ last_steps p → AllFit n now
last_fit n p had now few bios short fit e =
    rw e
    (All-append (LineFits 1 n) had (last_steps p) fit
    (All-append (LineFits 1 n) (flushes 0 p.held) (cond (p.bios == 0) [] (line.Run p.bios ∷ [])) (flushes_fit n 0 p.held (omega (arith, few))) (run_fits n p.bios (p.bios == 0) refl (omega (arith, bios, short)))))

-- the steps of the records up to a place, after which those of the others come
pub record AreSteps (begin span : ℕ) (told : ToldBy) (keys : List ℕ) (records : List Record) (i : ℕ) (lines : List Line) (p : Plugs) : Type 0 where
  pub rest : lines ++ steps_from begin span told keys p (drop i records) ≡ steps_from begin span told keys (no_plugs (length keys)) records
  pub held : length p.held ≡ length keys
  pub bios : p.bios ≤ length lines
  pub fit : AllFit (max (length keys) 1) lines

in_time_at : (begin span : ℕ) (told : ToldBy) (keys : List ℕ) (r : Record) (round : ℕ) (d : RecordEffect) → round ≡ round_of_time begin span r.time → d ≡ effect_of told keys r → IfSome (way_of r) (λ _. round_of_time begin span r.time ≤ MAX_RUN)
    → IsInTime round d
in_time_at begin span told keys r round d a b h = rw (a, b) (deed_in_time told keys r (round_of_time begin span r.time) h)

pub more_steps : (begin span : ℕ) (told : ToldBy) (keys : List ℕ) (records : List Record) (i : ℕ) (lines now : List Line) (p q : Plugs) (r : Record) (round : ℕ) (d : RecordEffect) → i < length records → ComeInTime begin span records
    → length lines ≤ MAX_STEPS → AreSteps begin span told keys records i lines p → round ≡ round_of_time begin span (get_or records i r).time → d ≡ effect_of told keys (get_or records i r) → IsRecordEffect (length keys) (get_or records i r) d
    → now ≡ lines ++ steps_by round p (get_or records i r) d → q ≡ plugs_by round p d → AreSteps begin span told keys records (i + 1) now q
more_steps begin span told keys records i lines now p q r round d h in_time short s a b effect is after =
    let x = get_or records i r in
    let held : length p.held ≡ length keys = s.held in
    let count : (plugs_by round p d).bios ≤ length now = bios_stay round p x d lines now s.bios is in
    let same : q.bios ≡ (plugs_by round p d).bios = ap (λ (y : Plugs). y.bios) after in
    let bios : p.bios ≤ length lines = s.bios in
    record {
      rest = line_step begin span told keys lines now _ p q records i r h s.rest round d a b is after;
      held = ap (λ (y : Plugs). length y.held) after ∙ held_stay round p d ∙ s.held;
      bios = omega (arith, count, same);
      fit =
          more_fit (max (length keys) 1) round p x d lines now (subst (λ n. IsRecordEffect n x d) (sym held) effect) (in_time_at begin span told keys x round d a b (in_time i r h)) (omega (arith, held)) (omega (arith, bios, short)) s.fit is;
    }
