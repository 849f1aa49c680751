-- The steps keep the plugs within their bounds.
use Rattle.std.proofs.Common.{◌≡◌, ◌+◌, ◌<◌, ◌≤◌, ◌∙◌, ◌==◌, ℕ, zero, suc, Bool, true, false, List, [], ◌∷◌, ◌++◌, length, get_or, set, replicate, cond, Option, Some, None, refl, sym, ap, subst, append-nil, append_assoc, add-one, get_or-set_same, set-set, length-set, ltb-true, eqb-true, arith}
use Rattle.std.specs.Prelude.{All, nat_lt, slice_index, slice_set}
use Rattle.std.proofs.lemmas.List.{length-replicate}
use Rattle.std.proofs.lemmas.List.Elements.{All-nil, All-replicate}
use Rattle.blk_bio.specs.declared.bio.Dir.{Dir}
use Rattle.blk_queues.specs.declared.plug.TheConstants.{MAX_STAGED}
use Rattle.blk_capture.specs.declared.record.Action.{Action}
use Rattle.blk_capture.specs.declared.record.Action.TheVariants as action
use Rattle.blk_capture.specs.declared.record.Record.{Record}
use Rattle.blk_text.specs.declared.script.Line.{Line}
use Rattle.blk_text.specs.declared.script.Line.TheVariants as line
use Rattle.blk_arrivals.specs.Coming.{way_of, key_of, round_of_time, begin_of, told_by, submitters_of}
use Rattle.blk_arrivals.specs.Effects.{submitter_number, comes_from, record_effect, effect_by, effect_of}
use Rattle.blk_arrivals.specs.Plugs.{Plugs, no_plugs, flush_of, flushes, out_of, ending_of, plugs_in, is_later, room_for, held_with, bio_of, arrival_of, plugs_with, out_if, unplugging_of, plugs_without, steps_by, plugs_by, last_steps, steps_from}
use Rattle.blk_arrivals.specs.Scripts.{steps_of}
use Rattle.blk_arrivals.specs.Staged.{AreEmpty, KeepPlugs, no_bios}
use Rattle.blk_arrivals.specs.declared.coming.ToldBy.{ToldBy}
use Rattle.blk_arrivals.specs.declared.effects.RecordEffect.{RecordEffect}
use Rattle.blk_arrivals.specs.declared.effects.RecordEffect.TheVariants as effect
use Rattle.blk_arrivals.specs.declared.terms.Terms.{Terms}
use Rattle.blk_arrivals.proofs.Comes.{place_below}
use Rattle.blk_arrivals.proofs.Stepping.{held_stay}

none_held : (n : ℕ) → AreEmpty (replicate n 0)
none_held n = All-replicate (λ (h : ℕ). h ≡ 0) n 0 refl

-- each plug in turn is emptied

one_emptied : (s h : ℕ) (held : List ℕ) → set (replicate s 0 ++ h ∷ held) s 0 ≡ replicate s 0 ++ 0 ∷ held
one_emptied zero h held = refl
one_emptied (suc s) h held = ap (λ (t : List ℕ). 0 ∷ t) (one_emptied s h held)

one_empty_more : (s : ℕ) (held : List ℕ) → replicate s 0 ++ 0 ∷ held ≡ replicate (suc s) 0 ++ held
one_empty_more zero held = refl
one_empty_more (suc s) held = ap (λ (t : List ℕ). 0 ∷ t) (one_empty_more s held)

flush_keeps : (s h : ℕ) (b : Bool) (held : List ℕ) (rest : List Line) → (h == 0) ≡ b → KeepPlugs (replicate (suc s) 0 ++ held) rest → KeepPlugs (replicate s 0 ++ h ∷ held) (cond b [] (line.Flush s ∷ []) ++ rest)
unfolding KeepPlugs
flush_keeps s h true held rest is k =
    let none : h ≡ 0 = eqb-true h 0 is in
    rw (none, one_empty_more s held) k
flush_keeps s h false held rest is k = rw (one_emptied s h held, one_empty_more s held) k

flushes_keep : (s : ℕ) (held : List ℕ) (rest : List Line) → KeepPlugs (replicate (s + length held) 0) rest → KeepPlugs (replicate s 0 ++ held) (flushes s held ++ rest)
unfolding flushes
flushes_keep s [] rest k =
    let none : s + length {A = ℕ} [] ≡ s = omega arith in
    subst (λ (hs : List ℕ). KeepPlugs hs rest) (sym (append-nil (replicate s 0))) (subst (λ n. KeepPlugs (replicate n 0) rest) none k)
flushes_keep s (h ∷ held) rest k =
    let same : suc s + length held ≡ s + length (h ∷ held) = omega arith in
    let tail : KeepPlugs (replicate (suc s) 0 ++ held) (flushes (suc s) held ++ rest) = flushes_keep (suc s) held rest (subst (λ n. KeepPlugs (replicate n 0) rest) (sym same) k) in
    let next : KeepPlugs (replicate (suc s) 0 ++ held) (flushes (s + 1) held ++ rest) = subst (λ n. KeepPlugs (replicate (suc s) 0 ++ held) (flushes n held ++ rest)) (sym (add-one s)) tail in
    subst (λ (ls : List Line). KeepPlugs (replicate s 0 ++ h ∷ held) ls) (sym (append_assoc (flush_of s h) (flushes (s + 1) held) rest)) (flush_keeps s h (h == 0) held (flushes (s + 1) held ++ rest) refl next)

all_keep : (held : List ℕ) (rest : List Line) → KeepPlugs (replicate (length held) 0) rest → KeepPlugs held (flushes 0 held ++ rest)
all_keep held rest k = flushes_keep 0 held rest (subst (λ n. KeepPlugs (replicate n 0) rest) (omega arith) k)

run_keeps : (n round : ℕ) (rest : List Line) → KeepPlugs (replicate n 0) rest → KeepPlugs (replicate n 0) (line.Run round ∷ rest)
unfolding KeepPlugs
run_keeps n round rest k = (none_held n, k)

ending_keeps : (later : Bool) (round : ℕ) (p : Plugs) (rest : List Line) → KeepPlugs (plugs_in later round p).held rest → KeepPlugs p.held (ending_of later round p ++ rest)
ending_keeps false round p rest k = k
ending_keeps true round p rest k =
    subst (λ (ls : List Line). KeepPlugs p.held ls) (sym (append_assoc (flushes 0 p.held) (line.Run _ ∷ []) rest)) (all_keep p.held (line.Run _ ∷ rest) (run_keeps (length p.held) _ rest k))

-- a bio comes in

bio_keeps : (p : Plugs) (s : ℕ) (way : Dir) (r : Record) (b : Bool) (rest : List Line) → s < length p.held → nat_lt (slice_index p.held s) MAX_STAGED ≡ b
    → KeepPlugs (slice_set p.held s (cond b (slice_index p.held s + 1) 1)) rest → KeepPlugs p.held (cond b [] (out_of s) ++ (line.Bio (bio_of s p.bios way r) ∷ rest))
unfolding KeepPlugs
bio_keeps p s way r true rest h is k = (ltb-true (slice_index p.held s) MAX_STAGED is, k)
bio_keeps p s way r false rest h is k =
    let none : get_or (set p.held s 0) s 0 ≡ 0 = get_or-set_same p.held s 0 0 h in
    rw (none, set-set p.held s 0 1) (omega arith, k)

arrival_keeps : (p : Plugs) (s : ℕ) (way : Dir) (r : Record) (rest : List Line) → s < length p.held → KeepPlugs (plugs_with p s).held rest → KeepPlugs p.held (arrival_of p s way r ++ rest)
arrival_keeps p s way r rest h k =
    subst (λ (ls : List Line). KeepPlugs p.held ls) (sym (append_assoc (room_for s (slice_index p.held s)) (line.Bio (bio_of s p.bios way r) ∷ []) rest))
    (bio_keeps p s way r (nat_lt (slice_index p.held s) MAX_STAGED) rest h refl k)

-- a plug is flushed

out_keeps : (held : List ℕ) (s : ℕ) (b : Bool) (rest : List Line) → (slice_index held s == 0) ≡ b → s < length held → KeepPlugs (slice_set held s 0) rest → KeepPlugs held (cond b [] (out_of s) ++ rest)
unfolding KeepPlugs
out_keeps held s true rest is h k = subst (λ (hs : List ℕ). KeepPlugs hs rest) (set_same held s (eqb-true (slice_index held s) 0 is)) k
  where
    set_same : (hs : List ℕ) (s : ℕ) → get_or hs s 0 ≡ 0 → set hs s 0 ≡ hs
    set_same [] s e = refl
    set_same (x ∷ hs) zero e = ap (λ n. n ∷ hs) (sym e)
    set_same (x ∷ hs) (suc s) e = ap (λ (t : List ℕ). x ∷ t) (set_same hs s e)
out_keeps held s false rest is h k = k

unplugging_keeps : (later : Bool) (p : Plugs) (s : ℕ) (rest : List Line) → s < length p.held → KeepPlugs (plugs_without later p s).held rest → KeepPlugs p.held (unplugging_of later p s ++ rest)
unplugging_keeps true p s rest h k = k
unplugging_keeps false p s rest h k = out_keeps p.held s (slice_index p.held s == 0) rest refl h k

-- a record

abbrev IsBelow : ℕ → RecordEffect → Type 0
IsBelow count (effect.Comes s way) = s < count
IsBelow count (effect.Unplugs s) = s < count
IsBelow count effect.Nothing = Unit {0}

in_held : (later : Bool) (round : ℕ) (p : Plugs) → length (plugs_in later round p).held ≡ length p.held
in_held false round p = refl
in_held true round p = length-replicate (length p.held) 0

record_keeps : (round : ℕ) (p : Plugs) (r : Record) (d : RecordEffect) (rest : List Line) → IsBelow (length p.held) d → KeepPlugs (plugs_by round p d).held rest → KeepPlugs p.held (steps_by round p r d ++ rest)
record_keeps round p r (effect.Comes s way) rest h k =
    let later = is_later round p in
    let t = plugs_in later round p in
    let long : length t.held ≡ length p.held = in_held later round p in
    subst (λ (ls : List Line). KeepPlugs p.held ls) (sym (append_assoc (ending_of later round p) (arrival_of t s way r) rest))
    (ending_keeps later round p (arrival_of t s way r ++ rest) (arrival_keeps t s way r rest (omega (arith, h, long)) k))
record_keeps round p r (effect.Unplugs s) rest h k = unplugging_keeps (is_later round p) p s rest h k
record_keeps round p r effect.Nothing rest h k = k

from_below : (count s : ℕ) (way : Option Dir) → s < count → IsBelow count (comes_from s way)
from_below count s None h = tt
from_below count s (Some way) h = h

done_below : (count s : ℕ) (a : Action) (way : Option Dir) → s < count → IsBelow count (record_effect s a way)
done_below count s action.Unplug way h = h
done_below count s a way h = from_below count s way h

by_below : (count : ℕ) (number : Option ℕ) (a : Action) (way : Option Dir) → ((s : ℕ) → number ≡ Some s → s < count) → IsBelow count (effect_by number a way)
by_below count None a way h = tt
by_below count (Some s) a way h = done_below count s a way (h s refl)

-- all records

none_left : (n : ℕ) → KeepPlugs (replicate n 0) []
unfolding KeepPlugs
none_left n = none_held n

last_keeps : (p : Plugs) → KeepPlugs p.held (last_steps p)
last_keeps p = all_keep p.held (cond (p.bios == 0) [] (line.Run p.bios ∷ [])) (ends (p.bios == 0))
  where
    ends : (b : Bool) → KeepPlugs (replicate (length p.held) 0) (cond b [] (line.Run p.bios ∷ []))
    ends true = none_left (length p.held)
    ends false = run_keeps (length p.held) p.bios [] (none_left (length p.held))

keeps : (begin span : ℕ) (told : ToldBy) (keys : List ℕ) (p : Plugs) (records : List Record) → length p.held ≡ length keys → KeepPlugs p.held (steps_from begin span told keys p records)
unfolding steps_from
keeps begin span told keys p [] h = last_keeps p
keeps begin span told keys p (r ∷ records) h =
    let round = round_of_time begin span r.time in
    let d = effect_of told keys r in
    let below : IsBelow (length keys) d = by_below (length keys) (submitter_number keys (key_of told r)) r.action (way_of r) (place_below keys (key_of told r)) in
    record_keeps round p r d (steps_from begin span told keys (plugs_by round p d) records) (subst (λ n. IsBelow n d) (sym h) below) (keeps begin span told keys (plugs_by round p d) records (held_stay round p d ∙ h))

pub script_keeps : (t : Terms) (records : List Record) → KeepPlugs (no_bios (length (submitters_of records))) (steps_of t records)
script_keeps t records = keeps (begin_of records) t.round (told_by records) (submitters_of records) (no_plugs (length (submitters_of records))) records (length-replicate (length (submitters_of records)) 0)
