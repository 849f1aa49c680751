-- An input of which a first part was read, and the rest part by part.
use Rattle.std.proofs.Common.{ℕ, ◌≡◌, ◌∙◌, ◌++◌, Bool, true, false, List, [], refl, sym, ap, subst, append_assoc, append-nil, inl, inr, Option, None, Some, Result, Ok, Err}
use Rattle.std.specs.Prelude.{IfSome, IfOk, IfErr}
use Rattle.std.specs.Io.KnownBytes.{Consumes, IsAtEnd}
use Rattle.blk_capture.specs.declared.requests.Options.{Options}
use Rattle.blk_recorders.specs.declared.detect.CaptureForm.{CaptureForm}
use Rattle.blk_recorders.specs.declared.detect.CaptureForm.TheVariants as form
use Rattle.blk_recorders.specs.declared.device.Device.{Device}
use Rattle.blk_recorders.specs.declared.recorder.Recorder.{Recorder}
use Rattle.blk_capture_text.specs.Source.{form_taken, IsRecordsFault}
use Rattle.blk_capture_text.specs.Streams.{IsToldAs, IsStreamedFrom, IsStreamFault}
use Rattle.blk_capture_text.specs.Inside.Along.{IsFirstPart, IsInputFrom, IsLineReadFault, IsRestUntold, AreLinesUnstreamed, AreRecordsStreamed, EndsStreamed, EndsLines}
use Rattle.blk_capture_text.specs.declared.lines.StreamedCapture.{StreamedCapture}
use Rattle.blk_capture_text.specs.declared.summing.FirstPart.{FirstPart}
use Rattle.blk_capture_text.specs.declared.source.UnreadCapture.{UnreadCapture}
use Rattle.blk_capture_text.specs.declared.source.UnreadCapture.TheVariants as unread
use Rattle.blk_capture_text.proofs.Lining.{consumed_on, consumed_all, consumed_and_left, left_of, form_told_first}

-- nothing more was given, and nothing is left
pub consumed_end : (a b c : Option (List ℕ)) (xs ys : List ℕ) → Consumes a b xs → Consumes b c ys → ys ≡ [] → IsAtEnd c → IfSome a (λ known. xs ≡ known)
consumed_end a b c xs ys p q none end =
    let all : xs ++ ys ≡ xs = ap (λ (zs : List ℕ). xs ++ zs) none ∙ append-nil xs in
    subst (λ (zs : List ℕ). IfSome a (λ known. zs ≡ known)) all (consumed_all a c (xs ++ ys) (consumed_on a b c xs ys p q) end)

pub none_left : (left : Option (List ℕ)) → IsAtEnd left → IfSome left (λ known. [] ≡ known)
none_left None end = tt
none_left (Some xs) end = sym end

pub left_known : (left : Option (List ℕ)) → IfSome left (λ known. left_of left ≡ known)
left_known None = tt
left_known (Some xs) = refl

pub left_at_end : (left : Option (List ℕ)) → IsAtEnd left → left_of left ≡ []
left_at_end None end = refl
left_at_end (Some xs) end = end

-- a part more, and what is left behind it
pub more_left : (a b c : Option (List ℕ)) (xs ys : List ℕ) → Consumes a b xs → Consumes b c ys → IfSome a (λ known. (xs ++ ys) ++ left_of c ≡ known)
more_left a b c xs ys p q = consumed_and_left a c (xs ++ ys) (consumed_on a b c xs ys p q)

-- why the rest isn't streamed
pub rest_untold : (f : Recorder) (d : Option Device) (text rest : List ℕ) (left : Option (List ℕ)) (failed : Bool) (y : UnreadCapture) → IfSome left (λ known. rest ≡ known) → IsLineReadFault f d (text ++ rest) y → IsRestUntold f d text left failed y
rest_untold f d text rest left failed (unread.Text x) given bad = absurd bad
rest_untold f d text rest left failed (unread.Line x) given bad = record { rest = rest; given = given; fault = bad }
rest_untold f d text rest left failed unread.Memory given bad = tt

-- bytes behind the first part
behind_first : (input left : Option (List ℕ)) (first rest : List ℕ) → Consumes input left first → IfSome left (λ known. rest ≡ known) → IfSome input (λ known. first ++ rest ≡ known)
behind_first None left first rest p given = tt
behind_first (Some known) None first rest p given = absurd p
behind_first (Some known) (Some xs) first rest p given = ap (λ (zs : List ℕ). first ++ zs) given ∙ sym p

pub input_from : (input left : Option (List ℕ)) (p : FirstPart) (rest : List ℕ) → IsFirstPart input left p → IfSome left (λ known. rest ≡ known) → (p.is_whole ≡ true → rest ≡ []) → IsInputFrom input p (p.bytes.items ++ rest)
input_from input left p rest h given whole = record {
  given = behind_first input left p.bytes.items rest h.consumed given;
  rest = rest;
  all = refl;
  whole = whole;
}

-- a first part that is whole
pub input_whole : (input left : Option (List ℕ)) (p : FirstPart) → IsFirstPart input left p → p.is_whole ≡ true → IsInputFrom input p p.bytes.items
input_whole input left p h whole = subst (IsInputFrom input p) (append-nil p.bytes.items) (input_from input left p [] h (none_left left (h.whole whole)) (λ e. refl))

-- why lines aren't streamed
pub lines_untold : (f : Recorder) (d : Option Device) (input : Option (List ℕ)) (p : FirstPart) (bytes : List ℕ) (failed : Bool) (y : UnreadCapture) → IsInputFrom input p bytes → IsLineReadFault f d bytes y → AreLinesUnstreamed f d input p failed y
lines_untold f d input p bytes failed (unread.Text x) on bad = absurd bad
lines_untold f d input p bytes failed (unread.Line x) on bad = record { bytes = bytes; on = on; fault = bad }
lines_untold f d input p bytes failed unread.Memory on bad = tt

-- at once: whatever stands behind the first part
pub first_untold : (f : Recorder) (d : Option Device) (input left : Option (List ℕ)) (p : FirstPart) (failed : Bool) (y : UnreadCapture) → IsFirstPart input left p → ((rest : List ℕ) → IsLineReadFault f d (p.bytes.items ++ rest) y) → AreLinesUnstreamed f d input p failed y
first_untold f d input left p failed y h bad =
    lines_untold f d input p (p.bytes.items ++ left_of left) failed y (input_from input left p (left_of left) h (left_known left) (λ e. left_at_end left (h.whole e))) (bad (left_of left))

-- in the rest
pub rest_of_lines : (f : Recorder) (d : Option Device) (input left : Option (List ℕ)) (p : FirstPart) (failed : Bool) (y : UnreadCapture) → IsFirstPart input left p → p.is_whole ≡ false → IsRestUntold f d p.bytes.items left failed y → AreLinesUnstreamed f d input p failed y
rest_of_lines f d input left p failed (unread.Text x) h part bad = bad
rest_of_lines f d input left p failed (unread.Line x) h part bad = record {
  bytes = p.bytes.items ++ bad.rest;
  on = input_from input left p bad.rest h bad.given (λ e. absurd (cc (part, e)));
  fault = bad.fault;
}
rest_of_lines f d input left p failed unread.Memory h part bad = tt

-- the form of all is that of the first part
by_whole : {T : Type 0} (b : Bool) → (b ≡ true → T) → (b ≡ false → T) → T
by_whole true so not_so = so refl
by_whole false so not_so = not_so refl

pub form_of_input : (asked : Option CaptureForm) (input left : Option (List ℕ)) (p : FirstPart) (bytes : List ℕ) → IsFirstPart input left p → IsInputFrom input p bytes → form_taken asked bytes ≡ form_taken asked p.bytes.items
form_of_input asked input left p bytes h on = by_whole p.is_whole
    (λ e. ap (form_taken asked) (on.all ∙ ap (λ (zs : List ℕ). p.bytes.items ++ zs) (on.whole e) ∙ append-nil p.bytes.items))
    (λ e. ap (form_taken asked) on.all ∙ form_told_first asked p.bytes.items on.rest (h.enough e))

pub never_both : {T : Type 0} (b : Bool) → b ≡ false → b ≡ true → T
never_both true a e = absurd (cc a)
never_both false a e = absurd (cc e)

pub four_parts : (a b c d : List ℕ) → ((a ++ b) ++ c) ++ d ≡ a ++ ((b ++ c) ++ d)
four_parts a b c d = ap (λ (t : List ℕ). t ++ d) (append_assoc a b c) ∙ append_assoc a (b ++ c) d

-- how lines of an input end
pub lines_end : (o : Options) (f : Recorder) (d : Option Device) (input : Option (List ℕ)) (p : FirstPart) (bytes : List ℕ) (failed : Bool) (result : Result StreamedCapture UnreadCapture) → IsInputFrom input p bytes → EndsStreamed o f d bytes result → EndsLines o f d input p failed result
lines_end o f d input p bytes failed (Ok c) on ends = record { bytes = bytes; on = on; streamed = ends }
lines_end o f d input p bytes failed (Err y) on ends = lines_untold f d input p bytes failed y on ends

-- a capture of either form
pub records_from : (o : Options) (asked : Option CaptureForm) (device : Option Device) (input left : Option (List ℕ)) (p : FirstPart) (bytes : List ℕ) (result : Result StreamedCapture UnreadCapture) → IsFirstPart input left p → IsInputFrom input p bytes
    → form_taken asked p.bytes.items ≡ form.Records → IfOk result (AreRecordsStreamed o bytes) → IfOk result (IsStreamedFrom o asked device input)
records_from o asked device input left p bytes (Ok c) h on is all = record {
  bytes = bytes;
  given = on.given;
  records = all.records;
  told = subst (λ (k : CaptureForm). IsToldAs k device bytes all.records c.printed) (sym (form_of_input asked input left p bytes h on ∙ is)) (all.spelled, all.plain);
  streamed = all.streamed;
  ready = all.ready;
}
records_from o asked device input left p bytes (Err x) h on is all = tt

pub records_not_from : (asked : Option CaptureForm) (device : Option Device) (input left : Option (List ℕ)) (p : FirstPart) (bytes : List ℕ) (failed : Bool) (result : Result StreamedCapture UnreadCapture) → IsFirstPart input left p → IsInputFrom input p bytes
    → form_taken asked p.bytes.items ≡ form.Records → IfErr result (IsRecordsFault bytes) → IfErr result (IsStreamFault asked device input failed)
records_not_from asked device input left p bytes failed (Ok c) h on is bad = tt
records_not_from asked device input left p bytes failed (Err (unread.Text x)) h on is bad = inr (record { bytes = bytes; given = on.given; is_records = form_of_input asked input left p bytes h on ∙ is; fault = bad })
records_not_from asked device input left p bytes failed (Err (unread.Line x)) h on is bad = absurd bad
records_not_from asked device input left p bytes failed (Err unread.Memory) h on is bad = tt

pub lines_from : (o : Options) (asked : Option CaptureForm) (f : Recorder) (device : Option Device) (input left : Option (List ℕ)) (p : FirstPart) (failed : Bool) (result : Result StreamedCapture UnreadCapture) → IsFirstPart input left p
    → form_taken asked p.bytes.items ≡ form.Printed f → EndsLines o f device input p failed result → IfOk result (IsStreamedFrom o asked device input)
lines_from o asked f device input left p failed (Ok c) h is all = record {
  bytes = all.bytes;
  given = all.on.given;
  records = all.streamed.records;
  told = subst (λ (k : CaptureForm). IsToldAs k device all.bytes all.streamed.records c.printed) (sym (form_of_input asked input left p all.bytes h all.on ∙ is)) all.streamed.told;
  streamed = all.streamed.streamed;
  ready = all.streamed.ready;
}
lines_from o asked f device input left p failed (Err x) h is all = tt

pub lines_not_from : (o : Options) (asked : Option CaptureForm) (f : Recorder) (device : Option Device) (input left : Option (List ℕ)) (p : FirstPart) (failed : Bool) (result : Result StreamedCapture UnreadCapture) → IsFirstPart input left p
    → form_taken asked p.bytes.items ≡ form.Printed f → EndsLines o f device input p failed result → IfErr result (IsStreamFault asked device input failed)
lines_not_from o asked f device input left p failed (Ok c) h is bad = tt
lines_not_from o asked f device input left p failed (Err (unread.Text x)) h is bad = inl bad
lines_not_from o asked f device input left p failed (Err (unread.Line x)) h is bad = record { bytes = bad.bytes; given = bad.on.given; recorder = f; is_printed = form_of_input asked input left p bad.bytes h bad.on ∙ is; fault = bad.fault }
lines_not_from o asked f device input left p failed (Err unread.Memory) h is bad = tt
