-- Lines that are taken in part by part, and the records that are streamed.
use Rattle.std.proofs.Common.{ℕ, ◌≡◌, ◌+◌, ◌≤◌, ◌<◌, ◌∙◌, ◌++◌, ◌⊎◌, false, List, [], length, take, drop, refl, sym, ap, subst, arith, inl, inr, append_assoc, append-nil, length-append, Option, Some, Result, Ok, Err}
use Rattle.std.specs.Prelude.{IfOk, IfErr, OnOk}
use Rattle.std.proofs.lemmas.List.{take-append-drop}
use Rattle.blk_capture.specs.declared.record.Record.{Record}
use Rattle.blk_capture.specs.declared.requests.Options.{Options}
use Rattle.blk_capture.specs.declared.summary.TheConstants.{MAX_STREAMED}
use Rattle.blk_recorders.specs.Steps.{ReadProgress, none_yet, is_unordered, lines_of, read_from, read_upto, EndsLine, HasWholeLines, Rises, AreOrdered, sofar, at_hand, steps_read, line_next, HandsOn, HasCounts, IsCountedOn}
use Rattle.blk_recorders.specs.declared.device.Device.{Device}
use Rattle.blk_recorders.specs.declared.fault.LineFault.{LineFault}
use Rattle.blk_recorders.specs.declared.fault.LineReason.TheVariants as why
use Rattle.blk_recorders.specs.declared.recorder.Recorder.{Recorder}
use Rattle.blk_recorders.specs.declared.steps.StepReader.{StepReader}
use Rattle.blk_recorders.specs.declared.steps.Steps.{Steps}
use Rattle.blk_recorders.proofs.Wholes.{none_behind}
use Rattle.blk_capture_text.specs.Streaming.{IsAtWork, HasStreamed, stream_count, stream_options}
use Rattle.blk_capture_text.specs.Source.{printed_of}
use Rattle.blk_capture_text.specs.Streams.{printed_by, IsFirstBad, IsSummable}
use Rattle.blk_capture_text.specs.Inside.Along.{AreLinesRead, IsPassedOn, IsAlong, IsLineReadFault, TakesPart, AreStreamed, EndsStreamed, GoBehind, StreamsBehind}
use Rattle.blk_capture_text.specs.declared.lines.LineStream.{LineStream}
use Rattle.blk_capture_text.specs.declared.lines.StreamedCapture.{StreamedCapture}
use Rattle.blk_capture_text.specs.declared.source.UnreadCapture.{UnreadCapture}
use Rattle.blk_capture_text.specs.declared.source.UnreadCapture.TheVariants as unread
use Rattle.blk_capture_text.specs.declared.streaming.Streamed.{Streamed}
use Rattle.blk_capture_text.proofs.Lining.{ends_behind, whole_part, none_ends, ordered_on, rise_on, as_many}

-- as many were streamed as are given
pub streamed_each : (given : List Record) (s : Streamed) → HasStreamed given s → stream_count s ≡ length given
streamed_each given s h = h.taken.run.counted

-- nothing was taken in
pub along_none : (o : Options) (f : Recorder) (d : Option Device) (s : LineStream) → line_next s.reader ≡ 1 → sofar [] s.reader ≡ none_yet → s.pending.items ≡ [] → HasStreamed [] s.streamed → IsAtWork s.streamed → stream_options s.streamed ≡ o → IsAlong o f d [] s
along_none o f d s first none pending streamed work due = record {
  past = [];
  all = sym pending;
  ends = none_ends;
  passed = record {
    given = [];
    read = record {
      reads = λ rest whole. ap (λ n. read_from MAX_STREAMED f d n none_yet (lines_of rest)) (sym first) ∙ ap (λ t. read_from MAX_STREAMED f d (line_next s.reader) t (lines_of rest)) (sym none);
      rises = λ u. subst Rises (sym none) none_rise;
      streamed = streamed;
      kept = λ u. refl;
      work = work;
      due = due;
      counted = (let zero : steps_read s.reader ≡ 0 = ap (λ (t : ReadProgress). t.count) none in let empty : length (at_hand s.reader) ≡ 0 = ap (λ (t : ReadProgress). length t.records) none in omega (arith, zero, empty));
      few = (let zero : steps_read s.reader ≡ 0 = ap (λ (t : ReadProgress). t.count) none in omega (arith, zero));
    };
    none = λ u. ap (λ (t : ReadProgress). t.records) none;
  };
}
  where
    none_rise : Rises none_yet
    none_rise = record { rising = λ k d l. absurd (omega arith); below = λ k d l. absurd (omega arith) }

-- the records at hand were streamed and let go
pub passed_on : (o : Options) (f : Recorder) (d : Option Device) (past : List ℕ) (given : List Record) (old new : LineStream) → AreLinesRead o f d past given old → is_unordered f ≡ false → HandsOn old.reader new.reader → at_hand new.reader ≡ []
    → line_next new.reader ≡ line_next old.reader → HasStreamed (given ++ at_hand old.reader) new.streamed → IsAtWork new.streamed → stream_options new.streamed ≡ stream_options old.streamed → IsPassedOn o f d past new
passed_on o f d past given old new read u hands none number streamed work due = record {
  given = given ++ at_hand old.reader;
  read = record {
    reads = λ rest whole. read.reads rest whole ∙ ap (λ (t : ReadProgress). read_from MAX_STREAMED f d (line_next old.reader) t (lines_of rest)) (sym (hands given))
        ∙ ap (λ n. read_from MAX_STREAMED f d n (sofar (given ++ at_hand old.reader) new.reader) (lines_of rest)) (sym number);
    rises = λ e. subst Rises (sym (hands given)) (read.rises e);
    streamed = streamed;
    kept = λ e. absurd (cc (u, e));
    work = work;
    due = due ∙ read.due;
    counted = (let same : steps_read new.reader ≡ steps_read old.reader = ap (λ (t : ReadProgress). t.count) (hands given) in let each = read.counted in let long = length-append given (at_hand old.reader) in let empty : length (at_hand new.reader) ≡ 0 = ap (λ (rs : List Record). length rs) none in omega (arith, same, each, long, empty));
    few = (let same : steps_read new.reader ≡ steps_read old.reader = ap (λ (t : ReadProgress). t.count) (hands given) in let most = read.few in omega (arith, same, most));
  };
  none = λ e. none;
}

-- the pending line was read
pub read_on : (o : Options) (f : Recorder) (d : Option Device) (text past : List ℕ) (given : List Record) (old mid : LineStream) → AreLinesRead o f d past given old → EndsLine past → text ≡ past ++ old.pending.items
    → ((ago : List Record) (rest : List ℕ) → HasWholeLines old.pending.items rest → read_from MAX_STREAMED f d (line_next old.reader) (sofar ago old.reader) (lines_of (old.pending.items ++ rest)) ≡ read_from MAX_STREAMED f d (line_next mid.reader) (sofar ago mid.reader) (lines_of rest))
    → ((ago : List Record) → is_unordered f ≡ false → Rises (sofar ago old.reader) → Rises (sofar ago mid.reader)) → IsCountedOn old.reader mid.reader → (steps_read old.reader ≤ MAX_STREAMED → steps_read mid.reader ≤ MAX_STREAMED)
    → mid.streamed ≡ old.streamed → AreLinesRead o f d text given mid
read_on o f d text past given old mid read ends all reads rises counted few same = record {
  reads = λ rest whole.
      ap (λ (t : List ℕ). read_upto MAX_STREAMED f d (t ++ rest)) all ∙ ap (read_upto MAX_STREAMED f d) (append_assoc past old.pending.items rest)
      ∙ read.reads (old.pending.items ++ rest) (inr ends) ∙ reads given rest (whole_part past old.pending.items rest (subst (λ (t : List ℕ). HasWholeLines t rest) all whole));
  rises = λ u. rises given u (read.rises u);
  streamed = subst (HasStreamed given) (sym same) read.streamed;
  kept = read.kept;
  work = subst IsAtWork (sym same) read.work;
  due = ap stream_options same ∙ read.due;
  counted = (let each = read.counted in omega (arith, counted, each));
  few = few read.few;
}

-- or it is no good
pub bad_on : (o : Options) (f : Recorder) (d : Option Device) (text past : List ℕ) (given : List Record) (old : LineStream) (x : LineFault) → AreLinesRead o f d past given old → EndsLine past → text ≡ past ++ old.pending.items
    → ((ago : List Record) (rest : List ℕ) → HasWholeLines old.pending.items rest → (x.why ≡ why.Memory) ⊎ (read_from MAX_STREAMED f d (line_next old.reader) (sofar ago old.reader) (lines_of (old.pending.items ++ rest)) ≡ Err x))
    → (rest : List ℕ) → HasWholeLines text rest → IsFirstBad f d (text ++ rest) x
bad_on o f d text past given old x read ends all reads rest whole = elim (reads given rest (whole_part past old.pending.items rest (subst (λ (t : List ℕ). HasWholeLines t rest) all whole))) [
  | inl memory ↦ inl memory
  | inr e ↦ inr (ap (λ (t : List ℕ). read_upto MAX_STREAMED f d (t ++ rest)) all ∙ ap (read_upto MAX_STREAMED f d) (append_assoc past old.pending.items rest) ∙ read.reads (old.pending.items ++ rest) (inr ends) ∙ e)
]

-- what is pending says nothing of what was read
same_read : (o : Options) (f : Recorder) (d : Option Device) (past : List ℕ) (given : List Record) (old new : LineStream) → new.reader ≡ old.reader → new.streamed ≡ old.streamed → AreLinesRead o f d past given old → AreLinesRead o f d past given new
same_read o f d past given old new same streamed read = record {
  reads = λ rest whole. read.reads rest whole ∙ ap (λ (r : StepReader). read_from MAX_STREAMED f d (line_next r) (sofar given r) (lines_of rest)) (sym same);
  rises = λ u. subst (λ (r : StepReader). Rises (sofar given r)) (sym same) (read.rises u);
  streamed = subst (HasStreamed given) (sym streamed) read.streamed;
  kept = read.kept;
  work = subst IsAtWork (sym streamed) read.work;
  due = ap stream_options streamed ∙ read.due;
  counted = subst (λ (r : StepReader). steps_read r ≡ length given + length (at_hand r)) (sym same) read.counted;
  few = subst (λ (r : StepReader). steps_read r ≤ MAX_STREAMED) (sym same) read.few;
}

pub same_passed : (o : Options) (f : Recorder) (d : Option Device) (past : List ℕ) (old new : LineStream) → new.reader ≡ old.reader → new.streamed ≡ old.streamed → IsPassedOn o f d past old → IsPassedOn o f d past new
same_passed o f d past old new same streamed h = record {
  given = h.given;
  read = same_read o f d past h.given old new same streamed h.read;
  none = λ u. ap at_hand same ∙ h.none u;
}

-- a part more is pending
pub along_more : (o : Options) (f : Recorder) (d : Option Device) (text part : List ℕ) (old new : LineStream) → IsAlong o f d text old → new.pending.items ≡ old.pending.items ++ part → new.reader ≡ old.reader → new.streamed ≡ old.streamed → IsAlong o f d (text ++ part) new
along_more o f d text part old new h pending same streamed = record {
  past = h.past;
  all = ap (λ (t : List ℕ). t ++ part) h.all ∙ append_assoc h.past old.pending.items part ∙ ap (λ (t : List ℕ). h.past ++ t) (sym pending);
  ends = h.ends;
  passed = same_passed o f d h.past old new same streamed h.passed;
}

-- whole lines were read, and the rest of the part is pending
pub along_again : (o : Options) (f : Recorder) (d : Option Device) (text part : List ℕ) (n : ℕ) (mid new : LineStream) → IsPassedOn o f d (text ++ take n part) mid → EndsLine (take n part) → 0 < length (take n part) → new.pending.items ≡ drop n part
    → new.reader ≡ mid.reader → new.streamed ≡ mid.streamed → IsAlong o f d (text ++ part) new
along_again o f d text part n mid new h ends some pending same streamed = record {
  past = text ++ take n part;
  all = ap (λ (t : List ℕ). text ++ t) (sym (take-append-drop n part)) ∙ sym (append_assoc text (take n part) (drop n part)) ∙ ap (λ (t : List ℕ). (text ++ take n part) ++ t) (sym pending);
  ends = ends_behind text (take n part) some ends;
  passed = same_passed o f d (text ++ take n part) mid new same streamed h;
}

-- what stands behind a part stands behind its lines
pub rest_behind : (text part rest : List ℕ) (n : ℕ) → (text ++ take n part) ++ (drop n part ++ rest) ≡ (text ++ part) ++ rest
rest_behind text part rest n =
    append_assoc text (take n part) (drop n part ++ rest) ∙ ap (λ (t : List ℕ). text ++ t) (sym (append_assoc (take n part) (drop n part) rest) ∙ ap (λ (t : List ℕ). t ++ rest) (take-append-drop n part))
    ∙ sym (append_assoc text part rest)

-- all was read
pub read_whole : (o : Options) (f : Recorder) (d : Option Device) (text : List ℕ) (given : List Record) (s : LineStream) → AreLinesRead o f d text given s → read_upto MAX_STREAMED f d text ≡ Ok (sofar given s.reader)
read_whole o f d text given s read =
    ap (read_upto MAX_STREAMED f d) (sym (append-nil text)) ∙ read.reads [] (inl refl) ∙ none_behind MAX_STREAMED f d (line_next s.reader) (sofar given s.reader)

-- the records at hand go on from those that were streamed
pub goes_on : (o : Options) (f : Recorder) (d : Option Device) (past : List ℕ) (s : LineStream) (records : List Record) → IsPassedOn o f d past s → AreOrdered f (at_hand s.reader) records → GoBehind records s.streamed
goes_on o f d past s records h ordered =
    (h.given, h.read.streamed, rise_on f h.given (at_hand s.reader) records h.read.kept (λ u. (h.read.rises u).rising) ordered)

pub few_on : (o : Options) (f : Recorder) (d : Option Device) (past : List ℕ) (s : LineStream) (records : List Record) → IsPassedOn o f d past s → AreOrdered f (at_hand s.reader) records → stream_count s.streamed + length records ≤ MAX_STREAMED
few_on o f d past s records h ordered =
    let each = streamed_each h.given s.streamed h.read.streamed in
    let counted = h.read.counted in
    let few = h.read.few in
    omega (arith, each, counted, few, as_many f (at_hand s.reader) records ordered)

pub go_behind : (o : Options) (f : Recorder) (d : Option Device) (past : List ℕ) (given : List Record) (s : LineStream) → AreLinesRead o f d past given s → is_unordered f ≡ false → GoBehind (at_hand s.reader) s.streamed
go_behind o f d past given s read u = (given, read.streamed, (read.rises u).rising)

pub few_behind : (o : Options) (f : Recorder) (d : Option Device) (past : List ℕ) (given : List Record) (s : LineStream) → AreLinesRead o f d past given s → stream_count s.streamed + length (at_hand s.reader) ≤ MAX_STREAMED
few_behind o f d past given s read =
    let each = streamed_each given s.streamed read.streamed in
    let counted = read.counted in
    let few = read.few in
    omega (arith, each, counted, few)

-- all was streamed
same_printed : (f : Recorder) (given : List Record) (r : StepReader) (steps : Steps) → HasCounts r steps → printed_of f steps ≡ printed_by f (sofar given r)
same_printed f given r steps h = λ i. record { recorder = f; device = h.device_is i; others = h.others_are i; remarks = h.remarks_are i; losses = h.losses_are i }

pub finished : (o : Options) (f : Recorder) (d : Option Device) (text : List ℕ) (s : LineStream) (steps : Steps) (c : StreamedCapture) → IsPassedOn o f d text s → AreOrdered f (at_hand s.reader) steps.records.items → HasCounts s.reader steps
    → c.printed ≡ Some (printed_of f steps) → StreamsBehind steps.records.items s.streamed c → IsSummable (stream_options s.streamed) c → AreStreamed o f d text c
finished o f d text s steps c h ordered counts printed behind ready = record {
  records = h.given ++ steps.records.items;
  told = record {
    told = sofar h.given s.reader;
    read_so = read_whole o f d text h.given s h.read;
    ordered = ordered_on f h.given (at_hand s.reader) steps.records.items h.read.kept ordered;
    printed_is = printed ∙ ap Some (same_printed f h.given s.reader steps counts);
  };
  streamed = behind h.given h.read.streamed;
  ready = subst (λ (p : Options). IsSummable p c) h.read.due ready;
}

-- a part was added, or memory ran out
pub part_added : (o : Options) (f : Recorder) (d : Option Device) (text part : List ℕ) (old new : LineStream) (result : Result (Unit {0}) UnreadCapture) → IsAlong o f d text old → OnOk result (new.pending.items ≡ old.pending.items ++ part)
    → new.reader ≡ old.reader → new.streamed ≡ old.streamed → IfErr result (λ x. x ≡ unread.Memory) → TakesPart o f d (text ++ part) new result
part_added o f d text part old new (Ok u) h pending same streamed memory = along_more o f d text part old new h pending same streamed
part_added o f d text part old new (Err x) h pending same streamed memory = λ rest. subst (IsLineReadFault f d ((text ++ part) ++ rest)) (sym memory) tt

pub part_again : (o : Options) (f : Recorder) (d : Option Device) (text part : List ℕ) (n : ℕ) (mid new : LineStream) (cleared tail : List ℕ) (result : Result (Unit {0}) UnreadCapture) → IsPassedOn o f d (text ++ take n part) mid
    → EndsLine (take n part) → 0 < length (take n part) → OnOk result (new.pending.items ≡ cleared ++ tail) → cleared ≡ [] → tail ≡ drop n part → new.reader ≡ mid.reader → new.streamed ≡ mid.streamed → IfErr result (λ x. x ≡ unread.Memory) → TakesPart o f d (text ++ part) new result
part_again o f d text part n mid new cleared tail (Ok u) h ends some pending none is same streamed memory =
    along_again o f d text part n mid new h ends some (pending ∙ ap (λ (t : List ℕ). t ++ tail) none ∙ is) same streamed
part_again o f d text part n mid new cleared tail (Err x) h ends some pending none is same streamed memory = λ rest. subst (IsLineReadFault f d ((text ++ part) ++ rest)) (sym memory) tt

-- the lines of a part are no good, whatever follows
pub part_refused : (o : Options) (f : Recorder) (d : Option Device) (text part : List ℕ) (n : ℕ) (x : UnreadCapture) → EndsLine (take n part) → 0 < length (take n part)
    → ((rest : List ℕ) → HasWholeLines (text ++ take n part) rest → IsLineReadFault f d ((text ++ take n part) ++ rest) x) → (rest : List ℕ) → IsLineReadFault f d ((text ++ part) ++ rest) x
part_refused o f d text part n x ends some bad rest =
    subst (λ (t : List ℕ). IsLineReadFault f d t x) (rest_behind text part rest n) (bad (drop n part ++ rest) (inr (ends_behind text (take n part) some ends)))

pub end_streamed : (o : Options) (f : Recorder) (d : Option Device) (text : List ℕ) (s : LineStream) (steps : Steps) (result : Result StreamedCapture UnreadCapture) → IsPassedOn o f d text s → AreOrdered f (at_hand s.reader) steps.records.items → HasCounts s.reader steps
    → IfOk result (λ c. c.printed ≡ Some (printed_of f steps)) → IfOk result (StreamsBehind steps.records.items s.streamed) → IfOk result (IsSummable (stream_options s.streamed)) → IfErr result (λ x. x ≡ unread.Memory) → EndsStreamed o f d text result
end_streamed o f d text s steps (Ok c) h ordered counts printed behind ready memory = finished o f d text s steps c h ordered counts printed behind ready
end_streamed o f d text s steps (Err x) h ordered counts printed behind ready memory = subst (IsLineReadFault f d text) (sym memory) tt

pub all_refused : (f : Recorder) (d : Option Device) (text : List ℕ) (x : UnreadCapture) → ((rest : List ℕ) → HasWholeLines text rest → IsLineReadFault f d (text ++ rest) x) → IsLineReadFault f d text x
all_refused f d text x bad = subst (λ (t : List ℕ). IsLineReadFault f d t x) (append-nil text) (bad [] (inl refl))
