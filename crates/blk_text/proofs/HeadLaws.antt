-- The laws of the first record of an event.
use Rattle.std.proofs.Common.{◌≡◌, ◌==◌, ◌∙◌, ℕ, suc, List, [], refl, sym, ap, inl, inr, arith, get_or, true}
use Rattle.std.specs.Prelude.{if◌then◌else◌}
use Rattle.blk_records.specs.Sources.{Row}
use Rattle.blk_records.specs.Words.{HasNoWord}
use Rattle.blk_records.specs.Fields.{Lacks, FieldsSpell}
use Rattle.blk_records.specs.Kinds.{KindRow, Told, cells_of, RowSaid, HasRow}
use Rattle.blk_records.specs.Reads.{IsRowOf, IsWrongRecord, IsOne}
use Rattle.blk_text.specs.EventKinds.{event_table}
use Rattle.blk_text.specs.TraceForm.{Head, said, first_record}
use Rattle.blk_text.specs.declared.setup.TheConstants.{WIDTH}
use Rattle.blk_records.specs.declared.fault.TextReason.{TextReason}
use Rattle.blk_records.specs.declared.fault.TextReason.TheVariants as why
use Rattle.blk_trace.specs.declared.event.Event.TheVariants as head
use Rattle.text_grammar.specs.Laws.{Tells}
use Rattle.text_grammar.proofs.Then.{seen_tells}
use Rattle.blk_records.proofs.TableLaws.{IsBy}
use Rattle.blk_records.proofs.KindLaws.{EachRow, row_in, IsWordRow, IsKinds, IsWordOf, apart, numbers_said, said_tells, said_line, said_lacks, said_nowhere, said_gone}

-- the rows, in the order of the table

words : EachRow IsWordRow event_table
words = (record { long = omega arith; slots = refl }, (record { long = omega arith; slots = refl }, (record { long = omega arith; slots = refl }, (record { long = omega arith; slots = refl }, (record { long = omega arith; slots = refl }, (record { long = omega arith; slots = refl }, (record { long = omega arith; slots = refl }, tt)))))))

event_kinds : IsKinds event_table
event_kinds = record {
  sized = (tt, ((omega arith, (omega arith, tt)), ((omega arith, (omega arith, tt)), ((omega arith, (omega arith, tt)), ((omega arith, tt), ((omega arith, tt), ((omega arith, tt), tt)))))));
  words = apart event_table refl;
}

-- the row of a first record stands there
pub said_in : (h : Head) → HasRow event_table (said h).0
said_in head.Tick = inl refl
said_in (head.Release id bios) = inr (inl refl)
said_in (head.Join id bios) = inr (inr (inl refl))
said_in (head.Issue id tag) = inr (inr (inr (inl refl)))
said_in (head.Done tag) = inr (inr (inr (inr (inl refl))))
said_in (head.Back tag) = inr (inr (inr (inr (inr (inl refl)))))
said_in (head.Depth depth) = inr (inr (inr (inr (inr (inr (inl refl))))))

-- each row has a first record that says this
abbrev IsToldBy : KindRow → Type 0
IsToldBy k = (v : Told k.slots) → (h : Head) × (said h ≡ (k, v))

heads : EachRow IsToldBy event_table
heads = (
  (λ v. (head.Tick, refl)),
  (
    (λ v. (head.Release v.0 v.1.0, refl)),
    (
      (λ v. (head.Join v.0 v.1.0, refl)),
      (
        (λ v. (head.Issue v.0 v.1.0, refl)),
        (
          (λ v. (head.Done v.0, refl)),
          (
            (λ v. (head.Back v.0, refl)),
            ((λ v. (head.Depth v.0, refl)), tt),
          ),
        ),
      ),
    ),
  ),
)

-- the first record of a word and numbers, whatever they are
abbrev head_by : List ℕ → List ℕ → Head
head_by word ns =
    if get_or word 0 0 == 116 then head.Tick
    else if get_or word 0 0 == 114 then head.Release (get_or ns 0 0) (get_or ns 1 0)
    else if get_or word 0 0 == 106 then head.Join (get_or ns 0 0) (get_or ns 1 0)
    else if get_or word 0 0 == 105 then head.Issue (get_or ns 0 0) (get_or ns 1 0)
    else if get_or word 0 0 == 98 then head.Back (get_or ns 0 0)
    else if get_or word 1 0 == 101 then head.Depth (get_or ns 0 0)
    else head.Done (get_or ns 0 0)

abbrev made_again : RowSaid → Head
made_again s = head_by s.0.word (numbers_said s.0.slots s.1)

head_back : (h : Head) → made_again (said h) ≡ h
head_back head.Tick = refl
head_back h = refl

pub head_tells : (version : ℕ) → Tells (first_record version)
head_tells version = seen_tells said (λ l m e. sym (head_back l) ∙ ap made_again e ∙ head_back m) (λ s f. row_in IsToldBy event_table s.0 heads f.0.0 s.1) (said_tells why.Count WIDTH event_table version event_kinds)

pub head_one : (version : ℕ) → IsOne (first_record version)
head_one version = record { tells = head_tells version; plain = λ h rest f. tt; one = λ h. refl }

-- what was read of a first record

pub head_line : (version : ℕ) (h : Head) (cells : Row) (f ns : List ℕ) → f ≡ get_or cells 0 [] → (true ≡ true → IsWordOf version f (said h).0) → FieldsSpell (said h).0.slots cells ns
    → IsBy (cells_of (said h).0.slots (λ v. v)) (said h).1 (λ i. get_or cells (suc i) []) (λ i. get_or ns (suc i) 0) → IsRowOf (first_record version) cells h
head_line version h cells f ns at is s b =
    let line = said_line why.Count WIDTH event_table version (said h) cells f ns words (said_in h) at is s b in
    λ rest. record { fits = (line rest).fits; made = (line rest).made; follows = tt }

-- of the row of such a one
pub head_lacks : (version : ℕ) (h : Head) (cells : Row) (f : List ℕ) (w : TextReason) → f ≡ get_or cells 0 [] → (true ≡ true → IsWordOf version f (said h).0) → Lacks (said h).0.slots cells w → IsWrongRecord (first_record version) cells w
head_lacks version h cells f w at is l = said_lacks why.Count WIDTH event_table version (said h).0 cells f w words (said_in h) at is l

pub no_head : (version : ℕ) (cells : Row) (f : List ℕ) (w : TextReason) → f ≡ get_or cells 0 [] → EachRow (λ r. ¬ IsWordOf version f r) event_table → HasNoWord WIDTH cells w → IsWrongRecord (first_record version) cells w
no_head version cells f w at n h = said_nowhere why.Count WIDTH event_table version cells f w at n h

pub head_gone : (version : ℕ) → (first_record version).Wrong [] 1 why.Count
head_gone version = said_gone why.Count WIDTH event_table version
