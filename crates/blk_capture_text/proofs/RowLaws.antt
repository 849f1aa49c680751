-- The laws of a record of a capture.
use Rattle.std.proofs.Common.{◌≡◌, ◌-◌, ◌<◌, ◌≤◌, ◌^◌, ◌∙◌, ℕ, zero, suc, List, [], get_or, refl, sym, ap, inl, inr, arith}
use Rattle.std.specs.Prelude.{◌⊎◌}
use Rattle.std.specs.Str.Parse.{digits_value}
use Rattle.std.proofs.lemmas.Fmt.{decimal_injective, digits_value-decimal}
use Rattle.blk_capture.specs.Passing.{action_by, op_by}
use Rattle.blk_capture.specs.declared.record.Action.{Action}
use Rattle.blk_capture.specs.declared.record.Op.{Op}
use Rattle.blk_records.specs.Sources.{Row}
use Rattle.blk_records.specs.Fields.{EachField, IsBlank, IsDirection, IsNumber, IsInRange, FieldSpells, FieldsSpell, Lacks}
use Rattle.blk_records.specs.declared.fault.TextReason.{TextReason}
use Rattle.blk_records.specs.declared.fault.TextReason.TheVariants as why
use Rattle.blk_records.specs.declared.fields.Slot.TheVariants as slot
use Rattle.blk_records.proofs.Decimals.{own}
use Rattle.blk_records.proofs.Lacking.{at_most, goods_all, goods_or_lacks, first_once}
use Rattle.text_grammar.specs.Inside.Laws.{TellsRecord}
use Rattle.blk_capture_text.specs.Recorded.{number_at, time_at, record_at, IsRecordAfter, capture_rules, RecordLacks}
use Rattle.blk_capture_text.specs.declared.record.TheConstants.{MAX_SECONDS, RECORD}

-- no field has to be empty or a direction

each_blank : (cells : Row) → EachField IsBlank RECORD cells
each_blank cells zero l = tt
each_blank cells (suc zero) l = tt
each_blank cells (suc (suc zero)) l = tt
each_blank cells (suc (suc (suc zero))) l = tt
each_blank cells (suc (suc (suc (suc zero)))) l = tt
each_blank cells (suc (suc (suc (suc (suc zero))))) l = tt
each_blank cells (suc (suc (suc (suc (suc (suc zero)))))) l = tt
each_blank cells (suc (suc (suc (suc (suc (suc (suc zero))))))) l = tt
each_blank cells (suc (suc (suc (suc (suc (suc (suc (suc k)))))))) l = absurd (omega (arith, l))

each_direction : (cells : Row) → EachField IsDirection RECORD cells
each_direction cells zero l = tt
each_direction cells (suc zero) l = tt
each_direction cells (suc (suc zero)) l = tt
each_direction cells (suc (suc (suc zero))) l = tt
each_direction cells (suc (suc (suc (suc zero)))) l = tt
each_direction cells (suc (suc (suc (suc (suc zero))))) l = tt
each_direction cells (suc (suc (suc (suc (suc (suc zero)))))) l = tt
each_direction cells (suc (suc (suc (suc (suc (suc (suc zero))))))) l = tt
each_direction cells (suc (suc (suc (suc (suc (suc (suc (suc k)))))))) l = absurd (omega (arith, l))

-- what a record lacks of its slots

pub lack_is : (last : ℕ) (cells : Row) (w : TextReason) → Lacks RECORD cells w → RecordLacks last cells w
lack_is last cells w bad = elim bad [
  | inl f ↦ inl (f.0, λ l. f.1 (l, each_blank cells))
  | inr p ↦ elim p.1 [
    | inl f ↦ absurd (f.1 (each_direction cells))
    | inr q ↦ elim q.1 [
      | inl f ↦ inr (p.0.0, inl (f.0, f.1))
      | inr r ↦ elim r.1 [
        | inl f ↦ inr (p.0.0, inr (r.0, inl (f.0, f.1)))
        | inr s ↦ absurd s.1
      ]
    ]
  ]
]

-- a field that spells a number

spelled_good : (least most n : ℕ) (f : List ℕ) → most < 2 ^ 64 → FieldSpells (slot.Number least most) f n → IsNumber (slot.Number least most) f × IsInRange (slot.Number least most) f
spelled_good least most n f m h =
    let low = h.3.0 in
    let high = h.3.1 in (
      (n, omega (arith, high, m), h.2),
      λ k small e. (let same = decimal_injective k n small (omega (arith, high, m)) (sym e ∙ h.2) in (omega (arith, same, low), omega (arith, same, high))),
    )

spelled_value : (least most n : ℕ) (f : List ℕ) → most < 2 ^ 64 → FieldSpells (slot.Number least most) f n → digits_value 10 f ≡ n
spelled_value least most n f m h = let high = h.3.1 in ap (digits_value 10) h.2 ∙ digits_value-decimal own n (omega (arith, high, m))

any_good : (cells : Row) (ns : List ℕ) → FieldsSpell RECORD cells ns → (k : ℕ) → k < 8 → IsNumber (get_or RECORD k slot.Given) (get_or cells k []) × IsInRange (get_or RECORD k slot.Given) (get_or cells k [])
any_good cells ns s zero l = spelled_good 0 (MAX_SECONDS - 1) (get_or ns 0 0) (get_or cells 0 []) (omega arith) (s.1 0 (omega arith))
any_good cells ns s (suc zero) l = ((s.1 1 (omega arith)).2.0, tt)
any_good cells ns s (suc (suc zero)) l = spelled_good 0 (2 ^ 64 - 1) (get_or ns 2 0) (get_or cells 2 []) (omega arith) (s.1 2 (omega arith))
any_good cells ns s (suc (suc (suc zero))) l = (tt, tt)
any_good cells ns s (suc (suc (suc (suc zero)))) l = spelled_good 0 (2 ^ 64 - 1) (get_or ns 4 0) (get_or cells 4 []) (omega arith) (s.1 4 (omega arith))
any_good cells ns s (suc (suc (suc (suc (suc zero))))) l = (tt, tt)
any_good cells ns s (suc (suc (suc (suc (suc (suc zero)))))) l = spelled_good 0 (2 ^ 64 - 1) (get_or ns 6 0) (get_or cells 6 []) (omega arith) (s.1 6 (omega arith))
any_good cells ns s (suc (suc (suc (suc (suc (suc (suc zero))))))) l = spelled_good 0 (2 ^ 64 - 1) (get_or ns 7 0) (get_or cells 7 []) (omega arith) (s.1 7 (omega arith))
any_good cells ns s (suc (suc (suc (suc (suc (suc (suc (suc k)))))))) l = absurd (omega (arith, l))

pub spelled_numbers : (cells : Row) (ns : List ℕ) → FieldsSpell RECORD cells ns → EachField IsNumber RECORD cells
spelled_numbers cells ns s k l = (any_good cells ns s k (omega (arith, l))).0

pub spelled_row : (last : ℕ) (cells : Row) (ns : List ℕ) → FieldsSpell RECORD cells ns → last ≤ time_at cells → IsRecordAfter last cells
spelled_row last cells ns s order = record {
  width = s.0;
  numbers = spelled_numbers cells ns s;
  ranges = λ k l. (any_good cells ns s k (omega (arith, l))).1;
  order = order;
}

pub seconds_is : (cells : Row) (ns : List ℕ) → FieldsSpell RECORD cells ns → number_at 0 cells ≡ get_or ns 0 0
seconds_is cells ns s = spelled_value 0 (MAX_SECONDS - 1) (get_or ns 0 0) (get_or cells 0 []) (omega arith) (s.1 0 (omega arith))

pub nanoseconds_are : (cells : Row) (ns : List ℕ) → FieldsSpell RECORD cells ns → number_at 1 cells ≡ get_or ns 1 0
nanoseconds_are cells ns s = sym (s.1 1 (omega arith)).2.1

pub told_record : (cells : Row) (ns : List ℕ) (time : ℕ) (a : Action) (o : Op) → FieldsSpell RECORD cells ns → time ≡ time_at cells → a ≡ action_by (get_or cells 3 []) → o ≡ op_by (get_or cells 5 [])
    → record { time = time; cpu = get_or ns 2 0; action = a; pid = get_or ns 4 0; op = o; first = get_or ns 6 0; sectors = get_or ns 7 0 } ≡ record_at cells
told_record cells ns time a o s e f g i = record {
  time = e i;
  cpu = sym (spelled_value 0 (2 ^ 64 - 1) (get_or ns 2 0) (get_or cells 2 []) (omega arith) (s.1 2 (omega arith))) i;
  action = f i;
  pid = sym (spelled_value 0 (2 ^ 64 - 1) (get_or ns 4 0) (get_or cells 4 []) (omega arith) (s.1 4 (omega arith))) i;
  op = g i;
  first = sym (spelled_value 0 (2 ^ 64 - 1) (get_or ns 6 0) (get_or cells 6 []) (omega arith) (s.1 6 (omega arith))) i;
  sectors = sym (spelled_value 0 (2 ^ 64 - 1) (get_or ns 7 0) (get_or cells 7 []) (omega arith) (s.1 7 (omega arith))) i;
}

-- the first of the rules that is broken

pub late_row : (last : ℕ) (cells : Row) (ns : List ℕ) → FieldsSpell RECORD cells ns → time_at cells < last → RecordLacks last cells why.Order
late_row last cells ns s order =
    inr (s.0, inr (spelled_numbers cells ns s, inr ((λ k l. (any_good cells ns s k (omega (arith, l))).1), inl (refl, λ up. omega (arith, up, order)))))

-- a row is a record's, or it lacks one thing first

pub row_tells : (last : ℕ) → TellsRecord {R = Row} (λ cells. cells) (IsRecordAfter last) (RecordLacks last)
row_tells last = record { once = λ v u f g e. e; apart = apart; first = λ cells. first_once (capture_rules last cells); decided = decided }
  where
    apart : (v : Row) (w : TextReason) → IsRecordAfter last v → RecordLacks last v w → ⊥
    apart v w s bad = elim bad [
      | inl f ↦ f.1 s.width
      | inr p ↦ elim p.1 [
        | inl f ↦ f.1 s.numbers
        | inr q ↦ elim q.1 [
          | inl f ↦ f.1 s.ranges
          | inr r ↦ elim r.1 [
            | inl f ↦ f.1 s.order
            | inr z ↦ z.1
          ]
        ]
      ]
    ]

    decided : (cells : Row) → ((v : Row) × IsRecordAfter last v × (cells ≡ v)) ⊎ ((w : TextReason) × RecordLacks last cells w)
    decided cells = elim (goods_or_lacks RECORD cells) [
      | inl g ↦
          let all = goods_all RECORD cells g in
          elim (at_most last (time_at cells)) [
            | inl up ↦ inl (cells, record { width = all.0.0; numbers = all.2; ranges = all.3; order = up }, refl)
            | inr down ↦ inr (why.Order, inr (all.0.0, inr (all.2, inr (all.3, inl (refl, down)))))
          ]
      | inr b ↦ inr (b.0, lack_is last cells b.0 b.1)
    ]
