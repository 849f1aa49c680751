-- The lines of a text, one after another.
use Rattle.std.proofs.Common.{ℕ, ◌≡◌, ◌+◌, ◌<◌, ◌≤◌, Bool, true, false, List, [], ◌∷◌, ◌++◌, length, refl, subst, arith, Option, None, Some, Result, Ok, Err}
use Rattle.std.specs.Prelude.{nat_lt, nat_le, if◌then◌else◌, slice_index_or}
use Rattle.std.proofs.lemmas.Bool.Decides.{nat_tests}
use Rattle.std.proofs.lemmas.Grind.{common_steps}
use Rattle.std.proofs.lemmas.List.Sorted.{IsNonDecreasingBy-from_sort}
use Rattle.blk_capture.specs.Requests.{AreInOrder}
use Rattle.blk_capture.specs.declared.record.Record.{Record}
use Rattle.blk_recorders.specs.Layouts.{step_told}
use Rattle.blk_recorders.specs.Lines.{printed_line_of}
use Rattle.blk_recorders.specs.Words.{Word, words, line_between, IsLineEnd}
use Rattle.blk_recorders.proofs.Cutting.{lines_left, next_line, no_line}
use Rattle.blk_recorders.specs.Steps.{ReadProgress, none_yet, more, is_other, settle, is_unordered, falls, keep, if_step, take_line, take_words, take, go_on, read_from, lines_of, read_printed, AreOrdered, Rises}
use Rattle.blk_recorders.specs.declared.device.Device.{Device}
use Rattle.blk_recorders.specs.declared.fault.LineReason.{LineReason}
use Rattle.blk_recorders.specs.declared.fault.LineReason.TheVariants as why
use Rattle.blk_recorders.specs.declared.layout.Step.{Step}
use Rattle.blk_recorders.specs.declared.lines.Line.{Line}
use Rattle.blk_recorders.specs.declared.lines.Line.TheVariants as line
use Rattle.blk_recorders.specs.declared.recorder.Recorder.{Recorder}
use Rattle.blk_recorders.specs.declared.recorder.Recorder.TheVariants.{Blkparse, Ftrace, Perf, Bpftrace}
use Rattle.blk_recorders.specs.declared.steps.TheConstants.{MAX_STEPS}

pub line_taken : (most : ℕ) (f : Recorder) (asked : Option Device) (n : ℕ) (s t : ReadProgress) (text : List ℕ) (begin end : ℕ) → IsLineEnd text begin end → take most f asked s (line_between text begin end) ≡ Ok t
    → read_from most f asked n s (lines_left text begin) ≡ read_from most f asked (more n) t (lines_left text (end + 1))
unfolding read_from
line_taken most f asked n s t text begin end h e = rw (next_line text begin end h, e) refl

pub line_refused : (most : ℕ) (f : Recorder) (asked : Option Device) (n : ℕ) (s : ReadProgress) (w : LineReason) (text : List ℕ) (begin end : ℕ) → IsLineEnd text begin end → take most f asked s (line_between text begin end) ≡ Err w
    → read_from most f asked n s (lines_left text begin) ≡ Err (record { at = n; why = w })
unfolding read_from
line_refused most f asked n s w text begin end h e = rw (next_line text begin end h, e) refl

pub none_over : (most : ℕ) (f : Recorder) (asked : Option Device) (n : ℕ) (s : ReadProgress) → read_from most f asked n s [] ≡ Ok s
unfolding read_from
none_over most f asked n s = refl

pub lines_over : (most : ℕ) (f : Recorder) (asked : Option Device) (n : ℕ) (s : ReadProgress) (text : List ℕ) (begin : ℕ) → length text < begin → read_from most f asked n s (lines_left text begin) ≡ Ok s
lines_over most f asked n s text begin l = rw (no_line text begin l) (none_over most f asked n s)

one_more : (rs : List Record) (r : Record) (last : ℕ) → AreInOrder rs (length rs) → ((k : ℕ) (d : Record) → k < length rs → (slice_index_or rs k d).time ≤ last) → last ≤ r.time
    → (k : ℕ) (d : Record) → k + 1 < length (rs ++ r ∷ []) → (slice_index_or (rs ++ r ∷ []) k d).time ≤ (slice_index_or (rs ++ r ∷ []) (k + 1) d).time
one_more rs r last rising below up k d l = grind (arith, common_steps, rising k d, below k d)

all_below : (rs : List Record) (r : Record) (last : ℕ) → ((k : ℕ) (d : Record) → k < length rs → (slice_index_or rs k d).time ≤ last) → last ≤ r.time
    → (k : ℕ) (d : Record) → k < length (rs ++ r ∷ []) → (slice_index_or (rs ++ r ∷ []) k d).time ≤ r.time
all_below rs r last below up k d l = grind (arith, common_steps, below k d)

pushed : (s : ReadProgress) (r : Record) (d : Option Device) → Rises s → s.last ≤ r.time → Rises (record s { records = s.records ++ r ∷ []; count = s.count + 1; device = d; last = r.time })
pushed s r d h up = record { rising = one_more s.records r s.last h.rising h.below up; below = all_below s.records r s.last h.below up }

abbrev kept_as : ReadProgress → Record → Option Device → Bool → Bool → Result ReadProgress LineReason
kept_as s r d a b = if a then Err why.Order else (if b then Err why.TooLong else Ok (record s { records = s.records ++ r ∷ []; count = s.count + 1; device = d; last = r.time }))

kept : (s : ReadProgress) (r : Record) (d : Option Device) (t : ReadProgress) → Rises s → (a b : Bool) → (a ≡ false → s.last ≤ r.time) → kept_as s r d a b ≡ Ok t → Rises t
kept s r d t h true b up e = absurd (cc e)
kept s r d t h false true up e = absurd (cc e)
kept s r d t h false false up e =
    let same : record s { records = s.records ++ r ∷ []; count = s.count + 1; device = d; last = r.time } ≡ t = cc e in
    subst Rises same (pushed s r d h (up refl))

in_time : (f : Recorder) (s : ReadProgress) (r : Record) → is_unordered f ≡ false → falls f s r ≡ false → s.last ≤ r.time
in_time f s r u e = let below : nat_lt r.time s.last ≡ false = rw u at e in grind (arith, nat_tests)

kept_step : (most : ℕ) (f : Recorder) (s : ReadProgress) (r : Record) (d : Option (Option Device)) (t : ReadProgress) → is_unordered f ≡ false → Rises s → keep most f s r d ≡ Ok t → Rises t
kept_step most f s r None t u h e = absurd (cc e)
kept_step most f s r (Some d) t u h e = kept s r d t h (falls f s r) (nat_le most s.count) (in_time f s r u) e

counted : (s : ReadProgress) (o m l : ℕ) → Rises s → Rises (record s { others = o; remarks = m; losses = l })
counted s o m l h = record { rising = h.rising; below = h.below }

abbrev stepped_as : ℕ → Recorder → ReadProgress → Step → Bool → Result ReadProgress LineReason
stepped_as most f s x other = if other then Ok (record s { others = more s.others }) else keep most f s x.told (settle s.device x.device)

stepped_on : (most : ℕ) (f : Recorder) (s : ReadProgress) (x : Step) (other : Bool) (t : ReadProgress) → is_unordered f ≡ false → Rises s → stepped_as most f s x other ≡ Ok t → Rises t
stepped_on most f s x true t u h e =
    let same : record s { others = more s.others } ≡ t = cc e in subst Rises same (counted s (more s.others) s.remarks s.losses h)
stepped_on most f s x false t u h e = kept_step most f s x.told (settle s.device x.device) t u h e

if_stepped : (most : ℕ) (f : Recorder) (asked : Option Device) (s : ReadProgress) (x : Result Step LineReason) (t : ReadProgress) → is_unordered f ≡ false → Rises s → if_step most f asked s x ≡ Ok t → Rises t
if_stepped most f asked s (Ok x) t u h e = stepped_on most f s x (is_other asked x.device) t u h e
if_stepped most f asked s (Err w) t u h e = absurd (cc e)

lined_up : (most : ℕ) (f : Recorder) (asked : Option Device) (s : ReadProgress) (l : Result (Line Word) LineReason) (t : ReadProgress) → is_unordered f ≡ false → Rises s → take_line most f asked s l ≡ Ok t → Rises t
lined_up most f asked s (Err w) t u h e = absurd (cc e)
lined_up most f asked s (Ok (line.Step l)) t u h e = if_stepped most f asked s (step_told l) t u h e
lined_up most f asked s (Ok line.Remark) t u h e =
    let same : record s { remarks = more s.remarks } ≡ t = cc e in subst Rises same (counted s s.others (more s.remarks) s.losses h)
lined_up most f asked s (Ok line.Loss) t u h e =
    let same : record s { losses = more s.losses } ≡ t = cc e in subst Rises same (counted s s.others s.remarks (more s.losses) h)

worded : (most : ℕ) (f : Recorder) (asked : Option Device) (s : ReadProgress) (ws : List Word) (t : ReadProgress) → is_unordered f ≡ false → Rises s → take_words most f asked s ws ≡ Ok t → Rises t
worded most f asked s [] t u h e = let same : s ≡ t = cc e in subst Rises same h
worded most f asked s (w ∷ ws) t u h e = lined_up most f asked s (printed_line_of f (w ∷ ws)) t u h e

gone_on : (most : ℕ) (f : Recorder) (asked : Option Device) (n : ℕ) (s : ReadProgress) (ls : List (List ℕ)) (r : Result ReadProgress LineReason) (t : ReadProgress) → ((m : ReadProgress) → r ≡ Ok m → Rises m)
    → ((m : ReadProgress) → Rises m → read_from most f asked (more n) m ls ≡ Ok t → Rises t) → go_on n (λ m. read_from most f asked (more n) m ls) r ≡ Ok t → Rises t
gone_on most f asked n s ls (Ok m) t first rest e = rest m (first m refl) e
gone_on most f asked n s ls (Err w) t first rest e = absurd (cc e)

pub rises : (most : ℕ) (f : Recorder) (asked : Option Device) (n : ℕ) (s : ReadProgress) (ls : List (List ℕ)) (t : ReadProgress) → is_unordered f ≡ false → Rises s → read_from most f asked n s ls ≡ Ok t → Rises t
unfolding read_from
rises most f asked n s [] t u h e = let same : s ≡ t = cc e in subst Rises same h
rises most f asked n s (l ∷ ls) t u h e =
    gone_on most f asked n s ls (take most f asked s l) t (λ m q. worded most f asked s (words l) m u h q) (λ m g q. rises most f asked (more n) m ls t u g q) e

none_rise : Rises none_yet
none_rise = record { rising = λ k d l. absurd (omega arith); below = λ k d l. absurd (omega arith) }

-- the records of a text by their times
pub in_order : (f : Recorder) (asked : Option Device) (text : List ℕ) (told : ReadProgress) (records : List Record) → read_printed f asked text ≡ Ok told → AreOrdered f told.records records → AreInOrder records (length records)
in_order Blkparse asked text told records e o = rw o (rises MAX_STEPS Blkparse asked 1 none_yet (lines_of text) told refl none_rise e).rising
in_order Ftrace asked text told records e o = rw o (rises MAX_STEPS Ftrace asked 1 none_yet (lines_of text) told refl none_rise e).rising
in_order Perf asked text told records e o = rw o (rises MAX_STEPS Perf asked 1 none_yet (lines_of text) told refl none_rise e).rising
in_order Bpftrace asked text told records e o = λ k d l. IsNonDecreasingBy-from_sort (λ (r : Record). r.time) records o.sorted k (k + 1) d (omega arith) l
