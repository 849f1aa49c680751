-- The steps bring in the bios of the records, each in the round of its time.
use Rattle.std.proofs.Common.{◌≡◌, ◌+◌, ◌-◌, ◌*◌, ◌/◌, ◌<◌, ◌≤◌, ◌∙◌, ◌==◌, ℕ, Bool, true, false, List, [], ◌∷◌, ◌++◌, length, drop, get_or, cond, Option, Some, None, refl, sym, ap, add-one, append_assoc, ltb-true, ltb-false, div-mul-le_self, arith}
use Rattle.std.specs.Prelude.{IfSome, nat_lt, slice_index}
use Rattle.std.specs.List.{list_any, position, position_or_len}
use Rattle.std.proofs.lemmas.Nat.{le-div}
use Rattle.blk_bio.specs.Bios.{Bio}
use Rattle.blk_bio.specs.declared.bio.Dir.{Dir}
use Rattle.blk_capture.specs.Passing.{dir_of_op, passed_over}
use Rattle.blk_capture.specs.Requests.{AreInOrder}
use Rattle.blk_capture.specs.declared.record.Action.{Action}
use Rattle.blk_capture.specs.declared.record.Action.TheVariants as action
use Rattle.blk_capture.specs.declared.record.Record.{Record}
use Rattle.blk_text.specs.declared.script.Line.{Line}
use Rattle.blk_text.specs.declared.script.Line.TheVariants as line
use Rattle.blk_arrivals.specs.Brought.{brought_by, next_number, with_bio, bios_from, arriving_bios}
use Rattle.blk_arrivals.specs.Coming.{way_of, if_queued, unless_passed, key_of, keys_of, round_of_time, begin_of, told_by, submitters_of}
use Rattle.blk_arrivals.specs.Effects.{comes_from, record_effect, effect_by, effect_of, submitter_number}
use Rattle.blk_arrivals.specs.Plugs.{Plugs, no_plugs, flush_of, flushes, out_of, ending_of, plugs_in, is_later, room_for, bio_of, arrival_of, plugs_with, out_if, unplugging_of, plugs_without, steps_by, plugs_by, last_steps, steps_from}
use Rattle.blk_arrivals.specs.Scripts.{steps_of}
use Rattle.blk_arrivals.specs.declared.coming.ToldBy.{ToldBy}
use Rattle.blk_arrivals.specs.declared.effects.RecordEffect.{RecordEffect}
use Rattle.blk_arrivals.specs.declared.effects.RecordEffect.TheVariants as effect
use Rattle.blk_arrivals.specs.declared.terms.Terms.{Terms}
use Rattle.blk_arrivals.proofs.Keys.{AreAmong, all_among, placed}

-- what flushes and drains bring in: nothing

out_brings : (now : ℕ) (b : Bool) (s : ℕ) (rest : List Line) → brought_by now (cond b [] (out_of s) ++ rest) ≡ brought_by now rest
unfolding brought_by
out_brings now true s rest = refl
out_brings now false s rest = refl

room_brings : (now : ℕ) (b : Bool) (s : ℕ) (rest : List Line) → brought_by now (cond b [] (line.Flush s ∷ []) ++ rest) ≡ brought_by now rest
unfolding brought_by
room_brings now true s rest = refl
room_brings now false s rest = refl

flushes_bring : (now s : ℕ) (held : List ℕ) (rest : List Line) → brought_by now (flushes s held ++ rest) ≡ brought_by now rest
unfolding flushes
flushes_bring now s [] rest = refl
flushes_bring now s (h ∷ held) rest =
    ap (brought_by now) (append_assoc (flush_of s h) (flushes (s + 1) held) rest) ∙ room_brings now (h == 0) s (flushes (s + 1) held ++ rest) ∙ flushes_bring now (s + 1) held rest

run_brings : (now round : ℕ) (rest : List Line) → now ≤ round → brought_by now (line.Run (round - now) ∷ rest) ≡ brought_by round rest
unfolding brought_by
run_brings now round rest h = (let same : now + (round - now) ≡ round = omega (arith, h) in ap (λ n. brought_by n rest) same)

-- the round that it is once rounds have ending_of
ended_brings : (later : Bool) (round : ℕ) (p : Plugs) (rest : List Line) → p.now ≤ round → brought_by p.now (ending_of later round p ++ rest) ≡ brought_by (plugs_in later round p).now rest
ended_brings false round p rest h = refl
ended_brings true round p rest h =
    ap (brought_by p.now) (append_assoc (flushes 0 p.held) (line.Run (round - p.now) ∷ []) rest) ∙ flushes_bring p.now 0 p.held (line.Run (round - p.now) ∷ rest) ∙ run_brings p.now round rest h

turned_now : (later : Bool) (round : ℕ) (p : Plugs) → is_later round p ≡ later → p.now ≤ round → (plugs_in later round p).now ≡ round
turned_now false round p is h = (let not : round ≤ p.now = ltb-false p.now round is in omega (arith, not, h))
turned_now true round p is h = refl

turned_bios : (later : Bool) (round : ℕ) (p : Plugs) → (plugs_in later round p).bios ≡ p.bios
turned_bios false round p = refl
turned_bios true round p = refl

bio_brings : (now : ℕ) (b : Bio) (rest : List Line) → brought_by now (line.Bio b ∷ rest) ≡ (now, b) ∷ brought_by now rest
unfolding brought_by
bio_brings now b rest = refl

arrival_brings : (p : Plugs) (s : ℕ) (way : Dir) (r : Record) (rest : List Line) → brought_by p.now (arrival_of p s way r ++ rest) ≡ (p.now, bio_of s p.bios way r) ∷ brought_by p.now rest
arrival_brings p s way r rest =
    ap (brought_by p.now) (append_assoc (room_for s (slice_index p.held s)) (line.Bio (bio_of s p.bios way r) ∷ []) rest)
    ∙ out_brings p.now _ s (line.Bio (bio_of s p.bios way r) ∷ rest)
    ∙ bio_brings p.now (bio_of s p.bios way r) rest

comes_brings : (round s : ℕ) (p : Plugs) (r : Record) (way : Dir) (rest : List Line) → p.now ≤ round
    → brought_by p.now (steps_by round p r (effect.Comes s way) ++ rest) ≡ (round, bio_of s p.bios way r) ∷ brought_by round rest
comes_brings round s p r way rest h =
    let later = is_later round p in
    let t = plugs_in later round p in
    let now : t.now ≡ round = turned_now later round p refl h in
    ap (brought_by p.now) (append_assoc (ending_of later round p) (arrival_of t s way r) rest)
    ∙ ended_brings later round p (arrival_of t s way r ++ rest) h
    ∙ arrival_brings t s way r rest
    ∙ ap (λ n. (n, bio_of s t.bios way r) ∷ brought_by n rest) now
    ∙ ap (λ n. (round, bio_of s n way r) ∷ brought_by round rest) (turned_bios later round p)

unplug_brings : (later : Bool) (p : Plugs) (s : ℕ) (rest : List Line) → brought_by p.now (unplugging_of later p s ++ rest) ≡ brought_by p.now rest
unplug_brings true p s rest = refl
unplug_brings false p s rest = out_brings p.now (slice_index p.held s == 0) s rest

-- a record of what is queued by the submitter with its key, or of something else
abbrev Brings : ℕ → ℕ → Plugs → Record → Option Dir → RecordEffect → Type 0
Brings round k p r way d =
    (rest : List Line) → brought_by p.now (steps_by round p r d ++ rest) ≡ with_bio round k p.bios r way (brought_by (plugs_by round p d).now rest)

from_brings : (round k : ℕ) (p : Plugs) (r : Record) (way : Option Dir) → p.now ≤ round → Brings round k p r way (comes_from k way)
from_brings round k p r None h = λ rest. refl
from_brings round k p r (Some way) h =
    λ rest.
    let now : (plugs_in (is_later round p) round p).now ≡ round = turned_now (is_later round p) round p refl h in
    comes_brings round k p r way rest h ∙ ap (λ n. (round, bio_of k p.bios way r) ∷ brought_by n rest) (sym now)

unplugged_now : (later : Bool) (p : Plugs) (s : ℕ) → (plugs_without later p s).now ≡ p.now
unplugged_now true p s = refl
unplugged_now false p s = refl

done_brings : (round k : ℕ) (p : Plugs) (r : Record) (a : Action) (way : Option Dir) → p.now ≤ round → Brings round k p r (if_queued a way) (record_effect k a (if_queued a way))
done_brings round k p r action.Unplug way h =
    λ rest. unplug_brings (is_later round p) p k rest ∙ ap (λ n. brought_by n rest) (sym (unplugged_now (is_later round p) p k))
done_brings round k p r action.Queue way h = from_brings round k p r way h
done_brings round k p r a way h = λ rest. refl

by_brings : (round k : ℕ) (p : Plugs) (r : Record) (number : Option ℕ) (a : Action) (way : Option Dir) → p.now ≤ round → IfSome (if_queued a way) (λ _. number ≡ Some k)
    → (found : (s : ℕ) → number ≡ Some s → s ≡ k) → Brings round k p r (if_queued a way) (effect_by number a (if_queued a way))
by_brings round k p r None a way h there found = λ rest. absent (if_queued a way) there rest
  where
    absent : (w : Option Dir) → IfSome w (λ _. None ≡ Some k) → (rest : List Line) → brought_by p.now rest ≡ with_bio round k p.bios r w (brought_by p.now rest)
    absent None there rest = refl
    absent (Some w) there rest = absurd (cc there)
by_brings round k p r (Some s) a way h there found = rw (found s refl) (done_brings round k p r a way h)

-- times don't fall, and are no earlier than one
abbrev pub Rise : ℕ → List Record → Type 0
Rise time [] = Unit {0}
Rise time (r ∷ records) = (time ≤ r.time) × Rise r.time records

order_tail : (r : Record) (records : List Record) → AreInOrder (r ∷ records) (length (r ∷ records)) → AreInOrder records (length records)
order_tail r records h =
    λ k d below.
    let first : get_or (r ∷ records) (k + 1) d ≡ get_or records k d = rw (add-one k) refl in
    let second : get_or (r ∷ records) (k + 1 + 1) d ≡ get_or records (k + 1) d = rw (add-one (k + 1)) refl in
    let fact : (get_or (r ∷ records) (k + 1) d).time ≤ (get_or (r ∷ records) (k + 1 + 1) d).time = h (k + 1) d (omega (arith, below)) in
    rw (first, second) at fact

in_order : (r : Record) (records : List Record) → AreInOrder (r ∷ records) (length (r ∷ records)) → Rise r.time records
in_order r [] h = tt
in_order r (s ∷ records) h = (h 0 r (omega arith), in_order s records (order_tail r (s ∷ records) h))

pub from_begin : (records : List Record) → AreInOrder records (length records) → Rise (begin_of records) records
from_begin [] h = tt
from_begin (r ∷ records) h = (omega arith, in_order r records h)

round_rises : (begin span a b : ℕ) → 0 < span → a ≤ b → round_of_time begin span a ≤ round_of_time begin span b
round_rises begin span a b some h =
    let below : (a - begin) / span * span ≤ a - begin = div-mul-le_self (a - begin) span in
    le-div ((a - begin) / span) (b - begin) span some (omega (arith, below, h))

after_record : (round : ℕ) (p : Plugs) (d : RecordEffect) → p.now ≤ round → (plugs_by round p d).now ≤ round
after_record round p (effect.Comes s way) h = (let now : (plugs_in (is_later round p) round p).now ≡ round = turned_now (is_later round p) round p refl h in omega (arith, now))
after_record round p (effect.Unplugs s) h = (let now : (plugs_without (is_later round p) p s).now ≡ p.now = unplugged_now (is_later round p) p s in omega (arith, now, h))
after_record round p effect.Nothing h = h

-- one bio more where one comes in
from_counts : (round s : ℕ) (p : Plugs) (way : Option Dir) → (plugs_by round p (comes_from s way)).bios ≡ next_number p.bios way
from_counts round s p None = refl
from_counts round s p (Some way) = ap (λ n. n + 1) (turned_bios (is_later round p) round p)

unplugged_bios : (later : Bool) (p : Plugs) (s : ℕ) → (plugs_without later p s).bios ≡ p.bios
unplugged_bios true p s = refl
unplugged_bios false p s = refl

done_counts : (round s : ℕ) (p : Plugs) (a : Action) (way : Option Dir) → (plugs_by round p (record_effect s a (if_queued a way))).bios ≡ next_number p.bios (if_queued a way)
done_counts round s p action.Unplug way = unplugged_bios (is_later round p) p s
done_counts round s p action.Queue way = from_counts round s p way
done_counts round s p a way = refl

by_counts : (round k : ℕ) (p : Plugs) (number : Option ℕ) (a : Action) (way : Option Dir) → IfSome (if_queued a way) (λ _. number ≡ Some k)
    → (plugs_by round p (effect_by number a (if_queued a way))).bios ≡ next_number p.bios (if_queued a way)
by_counts round k p None a way there = absent (if_queued a way) there
  where
    absent : (w : Option Dir) → IfSome w (λ _. None ≡ Some k) → p.bios ≡ next_number p.bios w
    absent None there = refl
    absent (Some w) there = absurd (cc there)
by_counts round k p (Some s) a way there = done_counts round s p a way

if_placed : (keys : List ℕ) (key : ℕ) (way : Option Dir) → IfSome way (λ _. list_any (λ k. k == key) keys ≡ true) → IfSome way (λ _. submitter_number keys key ≡ Some (position_or_len (λ k. k == key) keys))
if_placed keys key None h = tt
if_placed keys key (Some way) h = placed (λ k. k == key) keys h

position_is : (p : ℕ → Bool) (keys : List ℕ) (s : ℕ) → position p keys ≡ Some s → s ≡ position_or_len p keys
position_is p keys s h = picked (nat_lt (position_or_len p keys) (length keys)) h
  where
    picked : (b : Bool) → cond b (Some (position_or_len p keys)) None ≡ Some s → s ≡ position_or_len p keys
    picked true h = cc h
    picked false h = absurd (cc h)

last_brings : (p : Plugs) → brought_by p.now (last_steps p) ≡ []
unfolding brought_by
last_brings p = flushes_bring p.now 0 p.held (cond (p.bios == 0) [] (line.Run p.bios ∷ [])) ∙ none (p.bios == 0)
  where
    none : (b : Bool) → brought_by p.now (cond b [] (line.Run p.bios ∷ [])) ≡ []
    none true = refl
    none false = refl

-- all records
pub brings : (begin span : ℕ) (told : ToldBy) (keys : List ℕ) (p : Plugs) (time : ℕ) (records : List Record) → 0 < span → p.now ≤ round_of_time begin span time → Rise time records → AreAmong told keys records
    → brought_by p.now (steps_from begin span told keys p records) ≡ bios_from begin span told keys p.bios records
unfolding steps_from bios_from
brings begin span told keys p time [] some now rise among = last_brings p
brings begin span told keys p time (r ∷ records) some now rise among =
    let round = round_of_time begin span r.time in
    let key = key_of told r in
    let k = position_or_len (λ k. k == key) keys in
    let number = submitter_number keys key in
    let way = unless_passed (passed_over r) (dir_of_op r.op) in
    let q = plugs_by round p (effect_of told keys r) in
    let rises : round_of_time begin span time ≤ round = round_rises begin span time r.time some rise.0 in
    let by : p.now ≤ round = omega (arith, now, rises) in
    let there = if_placed keys key (way_of r) among.0 in
    let first = by_brings round k p r number r.action way by there (position_is (λ k. k == key) keys) (steps_from begin span told keys q records) in
    let counts = by_counts round k p number r.action way there in
    let others = brings begin span told keys q r.time records some (after_record round p (effect_of told keys r) by) rise.1 among.1 in
    first ∙ ap (with_bio round k p.bios r (way_of r)) (others ∙ ap (λ n. bios_from begin span told keys n records) counts)

-- those of a capture
pub script_brings : (t : Terms) (records : List Record) → 0 < t.round → AreInOrder records (length records) → brought_by 0 (steps_of t records) ≡ arriving_bios t records
script_brings t records some order =
    brings (begin_of records) t.round (told_by records) (submitters_of records) (no_plugs (length (submitters_of records))) (begin_of records) records some (omega arith) (from_begin records order)
    (all_among (told_by records) [] records)

-- steps by the submitters of a capture are its steps
pub same_steps : (t : Terms) (records : List Record) (told : ToldBy) (keys : List ℕ) (lines : List Line) → told ≡ told_by records → keys ≡ submitters_of records
    → lines ≡ steps_from (begin_of records) t.round told keys (no_plugs (length keys)) records → lines ≡ steps_of t records
same_steps t records told keys lines a b is =
    is
    ∙ ap (λ (x : ToldBy). steps_from (begin_of records) t.round x keys (no_plugs (length keys)) records) a
    ∙ ap (λ (ks : List ℕ). steps_from (begin_of records) t.round (told_by records) ks (no_plugs (length ks)) records) b
