-- The laws of captures.
use Rattle.std.proofs.Common.{◌≡◌, ◌+◌, ◌<◌, ◌≤◌, ◌∙◌, ℕ, zero, suc, List, [], ◌∷◌, ◌++◌, length, map, Bool, true, false, Option, Some, None, refl, sym, ap, subst, inl, inr, arith, get_or, add-one}
use Rattle.std.specs.Prelude.{IfSome, ◌⊎◌}
use Rattle.std.proofs.lemmas.List.{length-map, map-append, get_or-map}
use Rattle.csv.specs.Reading.{default_config, records, strip_bom}
use Rattle.csv.specs.Writing.{read_back}
use Rattle.blk_capture.specs.Requests.{AreInOrder}
use Rattle.blk_capture.specs.declared.record.Record.{Record}
use Rattle.blk_records.specs.Sources.{Row, TakesRecord}
use Rattle.blk_records.specs.Texts.{rows_text}
use Rattle.blk_records.specs.Reads.{IsOutside, Reads, Halts, Fails, HandFails, Gathers, AreGathered, IsOne, IsStopped, with_next, size_of, repeated}
use Rattle.blk_records.specs.Titles.{IsVersion, title_by, TakesTitle, StopsAtTitle}
use Rattle.blk_records.specs.declared.fault.TextReason.{TextReason}
use Rattle.blk_records.specs.declared.fault.TextReason.TheVariants as why
use Rattle.text_grammar.specs.declared.Repeats.{Repeats}
use Rattle.text_grammar.specs.declared.Repeats.TheVariants as repeats
use Rattle.text_grammar.specs.Parts.{Begins, Spells, AllFit, all_rows, over}
use Rattle.text_grammar.specs.Laws.{Tells}
use Rattle.text_grammar.proofs.Then.{once, apart, first, decided, then_tells}
use Rattle.text_grammar.proofs.Many.{ended_tells}
use Rattle.blk_records.proofs.TitleLaws.{IsTitleTable, title_tells, title_reads, title_stops}
use Rattle.blk_records.proofs.Each.{one_record, one_item, one_version}
use Rattle.blk_records.proofs.Reading.{outside_fails, many_fails, past_wrong, full_stopped, then_reads, hand_reads, first_halts, second_halts, lines_halt}
use Rattle.blk_records.proofs.Texts.{text_back}
use Rattle.blk_capture_text.specs.Recorded.{time_at, record_at, IsRecordAfter, RecordLacks}
use Rattle.blk_capture_text.specs.Captures.{capture_title_part, last_time, record_after, records_body, capture_form, capture_rows, AreCapture, SpellsCapture, CaptureTextFault}
use Rattle.blk_capture_text.specs.Inside.Taking.{HasRecords, HaveRows}
use Rattle.blk_capture_text.specs.declared.reading.RecordsRead.{RecordsRead}
use Rattle.blk_capture_text.specs.declared.reading.TheConstants.{CAPTURE, MAX_RECORDS}
use Rattle.blk_capture_text.proofs.RowLaws.{row_tells}

-- the title

title_table : IsTitleTable CAPTURE [] (λ _ (v : Unit {0}). Unit {0})
title_table = record {
  latest = omega arith;
  slots = λ v. refl;
  table = λ v. record {
    sized = (tt, (tt, (tt, (tt, (tt, (tt, tt))))));
    within = λ v f. (tt, (tt, (tt, (tt, (tt, (tt, tt))))));
    made = λ x. tt;
    back = λ v f. refl;
    forth = λ x. refl;
    fits = λ x f. tt;
  };
  fits = λ v u f. tt;
}

capture_title_tells : Tells capture_title_part
capture_title_tells = title_tells title_table

pub title_told : (left mid : Option (List Row)) (version : ℕ) (ns : List ℕ) → TakesTitle CAPTURE left mid version ns → Reads capture_title_part left mid (version, tt) × (IsVersion CAPTURE.latest version × Unit {0})
title_told left mid version ns h = title_reads CAPTURE [] (λ _ (v : Unit {0}). Unit {0}) title_table left mid version tt ns h (tt, (tt, (tt, (tt, (tt, (tt, tt))))))

-- a record

pub row_one : (before : List Row) → IsOne (record_after before)
row_one before = one_record why.Count (row_tells (last_time before))

body_tells : Tells records_body
body_tells = ended_tells (repeats.AtMost MAX_RECORDS) why.TooLong with_next (λ s. one_item (row_one s)) (λ s. (row_one s).tells) []

pub capture_tells : Tells capture_form
capture_tells = then_tells capture_title_tells (λ t fit. body_tells)

-- the rows of records are themselves

same_rows : (s vs : List Row) → all_rows record_after with_next s vs ≡ vs
same_rows s [] = refl
same_rows s (v ∷ vs) = ap (λ (t : List Row). v ∷ t) (same_rows (s ++ v ∷ []) vs)

pub size_rows : (vs : List Row) → size_of record_after vs ≡ length vs
size_rows vs = ap length (same_rows [] vs)

last_after : (s : List Row) (v : Row) → last_time (s ++ v ∷ []) ≡ time_at v
last_after [] v = refl
last_after (r ∷ []) v = refl
last_after (r ∷ n ∷ s) v = last_after (n ∷ s) v

-- times don't fall

rising : (s vs : List Row) → AllFit record_after with_next s vs → (k : ℕ) (d : Row) → suc k < length vs → time_at (get_or vs k d) ≤ time_at (get_or vs (suc k) d)
rising s [] f k d l = absurd (omega (arith, l))
rising s (v ∷ []) f k d l = absurd (omega (arith, l))
rising s (v ∷ u ∷ us) f zero d l = let up = f.1.0.order in omega (arith, up, last_after s v)
rising s (v ∷ u ∷ us) f (suc k) d l = rising (s ++ v ∷ []) (u ∷ us) f.1 k d (omega (arith, l))

pub fit_in_order : (vs : List Row) (cs : List Record) → cs ≡ map record_at vs → AllFit record_after with_next [] vs → AreInOrder cs (length cs)
fit_in_order vs cs e f = rw e (λ k d l. ordered k d (omega (arith, l, length-map vs record_at)))
  where
    empty : Row
    empty = []

    ordered : (k : ℕ) (d : Record) → k + 1 < length vs → (get_or (map record_at vs) k d).time ≤ (get_or (map record_at vs) (k + 1) d).time
    ordered k d l =
        let here : (get_or (map record_at vs) k d).time ≡ time_at (get_or vs k empty) = ap (λ (r : Record). r.time) (get_or-map record_at vs k empty d (omega (arith, l))) in
        let next : (get_or (map record_at vs) (suc k) d).time ≡ time_at (get_or vs (suc k) empty) = ap (λ (r : Record). r.time) (get_or-map record_at vs (suc k) empty d (omega (arith, l))) in
        rw (add-one k) (omega (arith, here, next, rising [] vs f k empty (omega (arith, l))))

-- whole captures

spelled : (rows body : List Row) (version : ℕ) → IsVersion 1 version → Spells capture_form rows ((version, tt), body) → AreCapture rows body
spelled rows body version v h = let one = one_version version v in subst (λ v. Spells capture_form rows v) (λ i. ((one i, tt), body)) h

pub spelled_once : (rows : List Row) (c d : List Record) → SpellsCapture rows c → SpellsCapture rows d → c ≡ d
spelled_once rows c d s t =
    let e = (once capture_tells rows ((CAPTURE.latest, tt), s.0) ((CAPTURE.latest, tt), t.0) [] [] s.2 t.2).0 in
    s.1 ∙ ap (λ (z : List Row). map record_at z) (λ i. (e i).1) ∙ sym t.1

pub spelled_or_wrong : (rows : List Row) → ((c : List Record) × SpellsCapture rows c) ⊎ ((at : ℕ) × (w : TextReason) × CaptureTextFault rows at w)
spelled_or_wrong rows = elim (decided capture_tells rows) [
  | inl h ↦ inl (map record_at h.0.1, (h.0.1, refl, spelled rows h.0.1 h.0.0.0 h.2.fits.0.0 (rw h.2.follows.1.1 at h.2)))
  | inr f ↦ inr f
]

pub spelled_no_fault : (rows : List Row) (c : List Record) (at : ℕ) (w : TextReason) → SpellsCapture rows c → CaptureTextFault rows at w → ⊥
spelled_no_fault rows c at w s f = apart capture_tells rows ((CAPTURE.latest, tt), s.0) [] at w s.2 f

pub one_fault : (rows : List Row) (at other : ℕ) (w v : TextReason) → CaptureTextFault rows at w → CaptureTextFault rows other v → (at ≡ other) × (w ≡ v)
one_fault rows at other w v = first capture_tells rows at other w v

row_back : (last : ℕ) (row : Row) → IsRecordAfter last row → read_back row ≡ row
row_back last [] s = absurd (let none : 0 ≡ 8 = s.width in omega (arith, none))
row_back last (x ∷ xs) s = refl

rows_back : (s vs : List Row) → AllFit record_after with_next s vs → map read_back (all_rows record_after with_next s vs ++ []) ≡ all_rows record_after with_next s vs ++ []
rows_back s [] f = refl
rows_back s (v ∷ vs) f = let first = row_back (last_time s) v f.0 in let others = rows_back (s ++ v ∷ []) vs f.1 in cc (first, others)

pub read_back_is : (body : List Row) → AreCapture (capture_rows body) body → SpellsCapture (records default_config (strip_bom (rows_text (capture_rows body)))) (map record_at body)
unfolding rows_text
read_back_is body h =
    let back : map read_back (capture_rows body) ≡ capture_rows body = ap (λ (t : List Row). title_by {V = Unit {0}} CAPTURE [] (CAPTURE.latest, tt) ∷ t) (rows_back [] body h.fits.1.0.0) in
    (body, refl, rw (text_back (capture_rows body) _ refl back) h)

-- reading

pub capture_read : (left mid : Option (List Row)) (version : ℕ) (body : List Row) (cs : List Record) → Reads capture_title_part left mid (version, tt) → IsVersion 1 version → cs ≡ map record_at body
    → IfSome mid (λ rows. Begins records_body rows body []) → IfSome left (λ rows. SpellsCapture rows cs)
capture_read None mid version body cs h v e k = tt
capture_read (Some rows) mid version body cs h v e k = (body, e, spelled rows body version v (then_reads capture_title_part (λ _. records_body) (Some rows) mid (version, tt) body h k))

-- one record more

pub row_gathers : (old now : RecordsRead) (known : HaveRows old) (left : Option (List Row)) (row : Row) (at : ℕ) → IsRecordAfter old.last row → now.records.items ≡ old.records.items ++ record_at row ∷ [] → now.last ≡ time_at row
    → (next : HaveRows now) × Gathers record_after known.0 next.0 left row left at at
row_gathers old now known left row at after items last =
    let fits : IsRecordAfter (last_time known.0) row = rw known.1.1 at after in
    let has : HasRecords now (known.0 ++ row ∷ []) = (items ∙ ap (λ (z : List Record). z ++ record_at row ∷ []) known.1.0 ∙ sym (map-append record_at known.0 (row ∷ [])), last ∙ sym (last_after known.0 row)) in (
      (known.0 ++ row ∷ [], has),
      record {
        item = row;
        gathered = refl;
        fits = fits;
        read = hand_reads (record_after known.0) left row row (λ rest. record { fits = fits; made = refl; follows = tt });
        end = refl;
      },
    )

pub row_fails : (failed : Bool) (old : RecordsRead) (known : HaveRows old) (left : Option (List Row)) (row : Row) (start at : ℕ) (w : TextReason) → at ≡ start → (w ≡ why.Memory) ⊎ RecordLacks old.last row w → HandFails failed (record_after known.0) left row start at w
row_fails failed old known None row start at w e h = tt
row_fails failed old known (Some rows) row start at w e (inl m) = inl (inr m)
row_fails failed old known (Some rows) row start at w e (inr bad) = inr (1, omega (arith, e), (refl, rw known.1.1 at bad))

-- records to the end of the text

abbrev at_most : Repeats
at_most = repeats.AtMost MAX_RECORDS

-- rows were read, and the records are theirs
abbrev pub AreTaken : RecordsRead → Option (List Row) → Option (List Row) → ℕ → ℕ → Bool → Type 0
AreTaken s left new start at over = (known : HaveRows s) × AreGathered (repeats.AtMost MAX_RECORDS) record_after left new start at known.0 over

halted : (failed : Bool) (left : Option (List Row)) (start at last : ℕ) (w : TextReason) → IsStopped (repeats.AtMost MAX_RECORDS) record_after left start 0 at last → Fails failed records_body left start at w → Halts failed records_body left start at w
halted failed left start at last w = lines_halt failed record_after at_most left start at last w (λ s. one_item (row_one s))

pub taking_halts : (failed : Bool) (left : Option (List Row)) (start at last : ℕ) (w : TextReason) → IsStopped (repeats.AtMost MAX_RECORDS) record_after left start 0 at last → Fails failed (repeated (repeats.AtMost MAX_RECORDS) record_after) left start at w
    → Halts failed records_body left start at w
taking_halts failed left start at last w s f = halted failed left start at last w s (many_fails failed record_after record_after at_most left start at w f)

full : (s : RecordsRead) (left mid : Option (List Row)) (start now at : ℕ) → AreTaken s left mid start now false → at ≡ now + 1 → IsStopped (repeats.AtMost MAX_RECORDS) record_after left start 0 at at
full s left mid start now at g e = let is = g.1.3 in full_stopped record_after at_most left mid g.0.0 start 0 at g.1.0 g.1.2 (omega (arith, is, e))

pub end_outside : (failed : Bool) (s : RecordsRead) (left mid : Option (List Row)) (start now at : ℕ) (w : TextReason) → AreTaken s left mid start now false → at ≡ now + 1 → IsOutside failed w → Halts failed records_body left start at w
end_outside failed s left mid start now at w g e o = halted failed left start at at w (full s left mid start now at g e) (outside_fails failed records_body left start at w o)

past_halts : (failed : Bool) (s : RecordsRead) (left mid new : Option (List Row)) (start now at : ℕ) (row : Row) (w : TextReason) (g : AreTaken s left mid start now false) → TakesRecord mid new row true → at ≡ now + 1
    → ((rest : List Row) → (over why.TooLong (record_after g.0.0)).Wrong (row ∷ rest) 1 w) → Halts failed records_body left start at w
past_halts failed s left mid new start now at row w g taken e bad =
    let is = g.1.3 in
    halted failed left start at at w (full s left mid start now at g e)
    (past_wrong failed record_after record_after at_most left mid new g.0.0 row start at w g.1.0 taken (omega (arith, is, e)) bad)

-- one record too many, and one that is wrong by itself
pub past_long : (failed : Bool) (s : RecordsRead) (left mid new : Option (List Row)) (start now at : ℕ) (row : Row) → AreTaken s left mid start now false → TakesRecord mid new row true → at ≡ now + 1 → IsRecordAfter s.last row
    → Halts failed records_body left start at why.TooLong
past_long failed s left mid new start now at row g taken e after =
    let fits : IsRecordAfter (last_time g.0.0) row = rw g.0.1.1 at after in
    past_halts failed s left mid new start now at row why.TooLong g taken e (λ rest. ((λ z. (cc z)), inr (refl, refl, (row, rest, record { fits = fits; made = refl; follows = tt }))))

pub past_lacks : (failed : Bool) (s : RecordsRead) (left mid new : Option (List Row)) (start now at : ℕ) (row : Row) (w : TextReason) → AreTaken s left mid start now false → TakesRecord mid new row true → at ≡ now + 1 → RecordLacks s.last row w
    → Halts failed records_body left start at w
past_lacks failed s left mid new start now at row w g taken e bad =
    let lacks : RecordLacks (last_time g.0.0) row w = rw g.0.1.1 at bad in
    past_halts failed s left mid new start now at row w g taken e (λ rest. ((λ z. (cc z)), inl (refl, lacks)))

pub taken_long : (s : RecordsRead) (left mid : Option (List Row)) (start at : ℕ) (over : Bool) (g : AreTaken s left mid start at over) → length s.records.items ≡ length g.0.0
taken_long s left mid start at over g = ap length g.0.1.0 ∙ length-map g.0.0 record_at

-- where reading halts

pub title_halts : (failed : Bool) (left : Option (List Row)) (at : ℕ) (w : TextReason) → at ≡ 1 → StopsAtTitle CAPTURE failed left w → Halts failed capture_form left 0 at w
title_halts failed left at w e h =
    first_halts failed capture_title_part (λ _. records_body) left 0 at w (λ t fit. body_tells)
    (title_stops CAPTURE [] (λ _ (v : Unit {0}). Unit {0}) title_table failed left 0 at w (omega (arith, e)) h)

pub body_halts : (failed : Bool) (left mid : Option (List Row)) (t : ℕ × Unit {0}) (middle at : ℕ) (w : TextReason) → middle ≡ 1 → Reads capture_title_part left mid t → Halts failed records_body mid middle at w → Halts failed capture_form left 0 at w
body_halts failed left mid t middle at w e r h = second_halts failed capture_title_part (λ _. records_body) left mid t 0 middle at w capture_title_tells r (omega (arith, e)) h
