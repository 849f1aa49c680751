-- A text of whole lines, and what stands behind it.
use Rattle.std.proofs.Common.{ℕ, ◌≡◌, ◌+◌, ◌-◌, ◌<◌, ◌≤◌, ◌∙◌, ◌++◌, ◌⊎◌, ◌==◌, true, false, List, [], length, get_or, drop, refl, sym, ap, arith, inl, inr, append-nil, length-append, Option, Result, Ok, Err}
use Rattle.std.proofs.lemmas.Bool.{cases_eq}
use Rattle.std.proofs.lemmas.List.{take-append-le, drop-append-le, drop_all, get_or_append_left}
use Rattle.blk_recorders.specs.Words.{line_between, IsLineEnd}
use Rattle.blk_recorders.specs.Steps.{ReadProgress, none_yet, is_unordered, lines_of, read_from, read_printed, HasWholeLines, Rises}
use Rattle.blk_recorders.specs.declared.device.Device.{Device}
use Rattle.blk_recorders.specs.declared.fault.LineFault.{LineFault}
use Rattle.blk_recorders.specs.declared.fault.LineReason.{LineReason}
use Rattle.blk_recorders.specs.declared.recorder.Recorder.{Recorder}
use Rattle.blk_recorders.specs.declared.steps.TheConstants.{MAX_STEPS}
use Rattle.blk_recorders.proofs.Cutting.{lines_left, lines_within, no_line}
use Rattle.blk_recorders.proofs.Reading.{rises, none_over}

-- a line of the text is one of the whole
pub between_whole : (text rest : List ℕ) (begin end : ℕ) → end ≤ length text → line_between (text ++ rest) begin end ≡ line_between text begin end
between_whole text rest begin end within = ap (drop begin) (take-append-le end text rest within)

-- it ends with a line feed, or nothing stands behind the text
pub fed_inside : (text rest : List ℕ) (begin end : ℕ) → HasWholeLines text rest → IsLineEnd text begin end → begin < length text → (end < length text) ⊎ (rest ≡ [])
fed_inside text rest begin end (inl none) h inside = inr none
fed_inside text rest begin end (inr ends) h inside = elim (cases_eq end (length text)) [
  | inl last ↦ absurd (
      let k : ℕ = length text - 1 in
      let feed : (get_or text k 0 == 10) ≡ true = ends k (omega (arith, inside)) in
      let plain : (get_or text k 0 == 10) ≡ false = h.plain k (omega (arith, inside)) (omega (arith, inside, last)) in
      cc (feed, plain))
  | inr more ↦ (let within = h.within in inl (omega (arith, within, more)))
]

pub end_behind : (text rest : List ℕ) (begin end : ℕ) → HasWholeLines text rest → IsLineEnd text begin end → begin < length text → IsLineEnd (text ++ rest) begin end
end_behind text rest begin end whole h inside =
    let within = h.within in
    let fed_at : end < length text → (get_or (text ++ rest) end 0 == 10) ≡ true = λ inner. ap (λ (c : ℕ). c == 10) (get_or_append_left text rest 0 end inner) ∙ h.fed inner in
    record {
      behind = h.behind;
      within = omega (arith, within, length-append text rest);
      plain = λ k low high. ap (λ (c : ℕ). c == 10) (get_or_append_left text rest 0 k (omega (arith, within, high))) ∙ h.plain k low high;
      fed = λ below. elim (fed_inside text rest begin end whole h inside) [
        | inl inner ↦ fed_at inner
        | inr none ↦ (let long : length (text ++ rest) ≡ length text = ap (λ ys. length (text ++ ys)) none ∙ ap length (append-nil text) in fed_at (omega (arith, long, below)))
      ];
    }

-- an empty text has one line, which has no words
pub none_behind : (most : ℕ) (f : Recorder) (asked : Option Device) (n : ℕ) (s : ReadProgress) → read_from most f asked n s (lines_of []) ≡ Ok s
unfolding read_from
none_behind most f asked n s = refl

at_end : (most : ℕ) (f : Recorder) (asked : Option Device) (n : ℕ) (s : ReadProgress) (text rest : List ℕ) (begin : ℕ) → begin ≡ length text → read_from most f asked n s (lines_left (text ++ rest) begin) ≡ read_from most f asked n s (lines_of rest)
at_end most f asked n s text rest begin e =
    let within : begin ≤ length (text ++ rest) = omega (arith, e, length-append text rest) in
    let behind : drop begin (text ++ rest) ≡ rest = drop-append-le begin text rest (omega (arith, e)) ∙ ap (λ ys. ys ++ rest) (drop_all begin text (omega (arith, e))) in
    ap (read_from most f asked n s) (lines_within (text ++ rest) begin within ∙ ap lines_of behind)

past_end : (most : ℕ) (f : Recorder) (asked : Option Device) (n : ℕ) (s : ReadProgress) (text rest : List ℕ) (begin : ℕ) → length text < begin → rest ≡ [] → read_from most f asked n s (lines_left (text ++ rest) begin) ≡ read_from most f asked n s (lines_of rest)
past_end most f asked n s text rest begin l none =
    let long : length (text ++ rest) ≡ length text = ap (λ ys. length (text ++ ys)) none ∙ ap length (append-nil text) in
    ap (read_from most f asked n s) (no_line (text ++ rest) begin (omega (arith, long, l))) ∙ none_over most f asked n s
    ∙ sym (ap (λ ys. read_from most f asked n s (lines_of ys)) none ∙ none_behind most f asked n s)

-- behind the last line of the text
pub left_over : (most : ℕ) (f : Recorder) (asked : Option Device) (n : ℕ) (s : ReadProgress) (text rest : List ℕ) (begin : ℕ) → length text ≤ begin → (begin ≤ length text) ⊎ (rest ≡ [])
    → read_from most f asked n s (lines_left (text ++ rest) begin) ≡ read_from most f asked n s (lines_of rest)
left_over most f asked n s text rest begin l (inl at) = at_end most f asked n s text rest begin (omega (arith, l, at))
left_over most f asked n s text rest begin l (inr none) = elim (cases_eq begin (length text)) [
  | inl here ↦ at_end most f asked n s text rest begin here
  | inr other ↦ past_end most f asked n s text rest begin (omega (arith, l, other)) none
]

pub left_whole : (most : ℕ) (f : Recorder) (asked : Option Device) (n : ℕ) (s : ReadProgress) (text : List ℕ) → lines_left text 0 ≡ lines_of text
left_whole most f asked n s text = lines_within text 0 (omega arith)

-- all of a text was read
pub read_all : (most : ℕ) (f : Recorder) (asked : Option Device) (n m : ℕ) (s t : ReadProgress) (text : List ℕ) → read_from most f asked n s (lines_of (text ++ [])) ≡ read_from most f asked m t (lines_of []) → read_from most f asked n s (lines_of text) ≡ Ok t
read_all most f asked n m s t text e = ap (λ ys. read_from most f asked n s (lines_of ys)) (sym (append-nil text)) ∙ e ∙ none_behind most f asked m t

pub rises_on : (most : ℕ) (f : Recorder) (asked : Option Device) (n m : ℕ) (s t : ReadProgress) (text : List ℕ) → is_unordered f ≡ false → Rises s → read_from most f asked n s (lines_of (text ++ [])) ≡ read_from most f asked m t (lines_of []) → Rises t
rises_on most f asked n m s t text u h e = rises most f asked n s (lines_of text) t u h (read_all most f asked n m s t text e)

-- from the first line on
pub started : (f : Recorder) (asked : Option Device) (n : ℕ) (s : ReadProgress) (text : List ℕ) (y : Result ReadProgress LineFault) → n ≡ 1 → s ≡ none_yet → read_from MAX_STEPS f asked n s (lines_of (text ++ [])) ≡ y → read_printed f asked text ≡ y
started f asked n s text y e g h =
    ap (λ k. read_from MAX_STEPS f asked k none_yet (lines_of text)) (sym e)
    ∙ ap (λ t. read_from MAX_STEPS f asked n t (lines_of text)) (sym g)
    ∙ ap (λ ys. read_from MAX_STEPS f asked n s (lines_of ys)) (sym (append-nil text))
    ∙ h

-- the number of a line, by another name
pub told_at : (y : Result ReadProgress LineFault) (n m : ℕ) (w : LineReason) → m ≡ n → y ≡ Err (record { at = n; why = w }) → y ≡ Err (record { at = m; why = w })
told_at y n m w e h = h ∙ ap (λ (k : ℕ). Err (record { at = k; why = w })) (sym e)
