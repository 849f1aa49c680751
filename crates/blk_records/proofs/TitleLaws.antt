-- The laws of titles by their rows.
use Rattle.std.proofs.Common.{◌≡◌, ◌∙◌, ◌+◌, ◌<◌, ◌^◌, ℕ, suc, List, [], ◌∷◌, get_or, Bool, true, Option, Some, None, refl, sym, ap, subst, inl, inr, arith, decimal}
use Rattle.std.specs.Prelude.{◌⊎◌}
use Rattle.std.proofs.lemmas.Fmt.{decimal_injective}
use Rattle.blk_records.specs.Sources.{Row, TakesRecord}
use Rattle.blk_records.specs.Fields.{Lacks, FieldsSpell}
use Rattle.blk_records.specs.Reads.{IsRowOf, Reads, Halts}
use Rattle.blk_records.specs.Tables.{FitsCells, cells_by, row_by, slots_by}
use Rattle.blk_records.specs.Titles.{IsTitled, IsVersion, slots_in, title_cells, title_by, TitleLacks, TitleTells, TakesTitle, StopsAtTitle, title_record, IsCounted, counted_numbers}
use Rattle.blk_records.specs.declared.fields.Slot.TheVariants as slot
use Rattle.blk_records.specs.declared.fault.TextReason.{TextReason}
use Rattle.blk_records.specs.declared.fault.TextReason.TheVariants as why
use Rattle.blk_records.specs.declared.certificate.TheConstants.{CERTIFICATE}
use Rattle.blk_records.specs.declared.on_time.TheConstants.{ON_TIME}
use Rattle.blk_records.specs.declared.schedule.TheConstants.{SCHEDULE}
use Rattle.blk_records.specs.declared.titles.TitleRow.{TitleRow}
use Rattle.blk_records.specs.declared.titles.TheConstants.{COUNTED}
use Rattle.text_grammar.specs.Laws.{Tells}
use Rattle.text_grammar.proofs.Then.{record_tells, at_first}
use Rattle.blk_records.proofs.Lists.{cons_same}
use Rattle.blk_records.proofs.Lacking.{Goods, Dec, both, same_as, at_most, same_text, number_decided, lacks_once, goods_lack, goods_or_lacks}
use Rattle.blk_records.proofs.Reading.{line_reads}
use Rattle.blk_records.proofs.TableLaws.{IsTable, IsBy, given_goods, one_by, by_table, fields_by}

-- a title whose numbers tell a value
pub record IsTitleTable {letters fields : ℕ} {V : Type 0} (title : TitleRow letters fields) (numbers : List (V → ℕ)) (Fits : ℕ → V → Type 0) : Type 0 where
  pub latest : title.latest < 2 ^ 64
  pub slots : (version : ℕ) → slots_in title version ≡ slot.Given ∷ slot.Given ∷ slots_by (title_cells title numbers version)
  pub table : (version : ℕ) → IsTable (title_cells title numbers version) (Fits version)
  pub fits : (version : ℕ) → (v : V) → FitsCells (title_cells title numbers version) v → Fits version v

same_version : (name : List ℕ) (latest a b : ℕ) (row : Row) → latest < 2 ^ 64 → IsVersion latest a → IsVersion latest b → IsTitled name a row → IsTitled name b row → a ≡ b
same_version name latest a b row l p q h k =
    let e = cons_same _ _ _ _ (cons_same _ _ _ _ (sym h.1 ∙ k.1)).1 in
    let high = p.1 in
    let other = q.1 in
    decimal_injective a b (omega (arith, high, l)) (omega (arith, other, l)) e.0

title_apart : {letters fields : ℕ} {V : Type 0} (title : TitleRow letters fields) (numbers : List (V → ℕ)) (Fits : ℕ → V → Type 0) → IsTitleTable title numbers Fits → (t : ℕ × V) (w : TextReason)
    → IsVersion title.latest t.0 × Fits t.0 t.1 → TitleLacks title (title_by title numbers t) w → ⊥
title_apart title numbers Fits is t w f (inl bad) = bad.1 t.0 f.0 (_, refl)
title_apart title numbers Fits is t w f (inr bad) =
    let cells = title_cells title numbers t.0 in
    let same = same_version title.word title.latest bad.0 t.0 (title_by title numbers t) is.latest bad.1 f.0 bad.2 (row_by cells t.1, refl) in
    let lacks : Lacks (slots_in title t.0) (title_by title numbers t) w = subst (λ v. Lacks (slots_in title v) (title_by title numbers t) w) same bad.3 in
    goods_lack (slot.Given ∷ slot.Given ∷ slots_by cells) (title_by title numbers t) w
    ((tt, tt, tt, tt), given_goods (decimal t.0) cells t.1 (is.table t.0).sized ((is.table t.0).within t.1 f.1))
    (subst (λ ss. Lacks ss (title_by title numbers t) w) (is.slots t.0) lacks)

title_first : {letters fields : ℕ} (title : TitleRow letters fields) → title.latest < 2 ^ 64 → (row : Row) (w x : TextReason) → TitleLacks title row w → TitleLacks title row x → w ≡ x
title_first title l row w x (inl a) (inl b) = a.0 ∙ sym b.0
title_first title l row w x (inl a) (inr b) = absurd (a.1 b.0 b.1 b.2)
title_first title l row w x (inr a) (inl b) = absurd (b.1 a.0 a.1 a.2)
title_first title l row w x (inr a) (inr b) =
    let same = same_version title.word title.latest a.0 b.0 row l a.1 b.1 a.2 b.2 in
    lacks_once (slots_in title b.0) row w x (subst (λ v. Lacks (slots_in title v) row w) same a.3) b.3

pub title_tells : {letters fields : ℕ} {V : Type 0} {title : TitleRow letters fields} {numbers : List (V → ℕ)} {Fits : ℕ → V → Type 0} → IsTitleTable title numbers Fits → Tells (title_record title numbers Fits)
title_tells {letters} {fields} {V} {title} {numbers} {Fits} is = record_tells why.Title (record {
  once = λ t u f g e. same t u f g e (same_version title.word title.latest t.0 u.0 (title_by title numbers u) is.latest f.0 g.0 (row_by (title_cells title numbers t.0) t.1, sym e) (row_by (title_cells title numbers u.0) u.1, refl));
  apart = title_apart title numbers Fits is;
  first = title_first title is.latest;
  decided = λ row. decided row (titled row);
})
  where
    same : (t u : ℕ × V) → IsVersion title.latest t.0 × Fits t.0 t.1 → IsVersion title.latest u.0 × Fits u.0 u.1 → title_by title numbers t ≡ title_by title numbers u → t.0 ≡ u.0 → t ≡ u
    same t u f g h e =
        let value = one_by (title_cells title numbers u.0) (Fits u.0) (is.table u.0) t.1 u.1 (rw e at f.1) g.1 (rw e at (cons_same _ _ _ _ (cons_same _ _ _ _ h).1).1) in
        λ i. (e i, value i)

    titled : (row : Row) → Dec ((version : ℕ) × IsVersion title.latest version × IsTitled title.word version row)
    titled [] = inr (λ t. (let e : [] ≡ title.word ∷ decimal t.0 ∷ t.2.0 = t.2.1 in cc e))
    titled (f ∷ []) = inr (λ t. (let e : [] ≡ decimal t.0 ∷ t.2.0 = (cons_same _ _ _ _ t.2.1).1 in cc e))
    titled (f ∷ g ∷ more) = let l = is.latest in elim (both (same_text f title.word) (number_decided g)) [
      | inl d ↦ same_as (λ v. (d.1.0, v, (more, (let a = d.0 in let b = d.1.2 in cc (a, b)))))
          (λ t. (let e = cons_same _ _ _ _ (cons_same _ _ _ _ t.2.1).1 in let high = t.1.1 in let is : t.0 ≡ d.1.0 = decimal_injective t.0 d.1.0 (omega (arith, high, l)) d.1.1 (sym e.0 ∙ d.1.2) in rw is at t.1))
          (both (at_most 1 d.1.0) (at_most d.1.0 title.latest))
      | inr n ↦ inr (λ t. (let e = cons_same _ _ _ _ t.2.1 in let high = t.1.1 in n (e.0, (t.0, omega (arith, high, l), (cons_same _ _ _ _ e.1).0))))
    ]

    starts : (version : ℕ) (row : Row) → IsVersion title.latest version → IsTitled title.word version row → Goods (slot.Given ∷ slot.Given ∷ slots_by (title_cells title numbers version)) row
        → (t : ℕ × V) × (IsVersion title.latest t.0 × Fits t.0 t.1) × (row ≡ title_by title numbers t)
    starts version [] v t g = absurd g
    starts version (f ∷ []) v t g = absurd g.1
    starts version (f ∷ h ∷ fs) v t g =
        let u = by_table (title_cells title numbers version) (Fits version) (is.table version) fs g.1.1 in
        let e = cons_same _ _ _ _ t.1 in
        let first = e.0 in
        let second = (cons_same _ _ _ _ e.1).0 in
        let others = u.2 in
        ((version, u.0), (v, u.1), cc (first, second, others))

    decided : (row : Row) → Dec ((version : ℕ) × IsVersion title.latest version × IsTitled title.word version row)
        → ((t : ℕ × V) × (IsVersion title.latest t.0 × Fits t.0 t.1) × (row ≡ title_by title numbers t)) ⊎ ((w : TextReason) × TitleLacks title row w)
    decided row (inr n) = inr (why.Title, inl (refl, λ v i t. n (v, i, t)))
    decided row (inl t) = elim (goods_or_lacks (slots_in title t.0) row) [
      | inl g ↦ inl (starts t.0 row t.1 t.2 (subst (λ ss. Goods ss row) (is.slots t.0) g))
      | inr w ↦ inr (w.0, inr (t.0, t.1, t.2, w.1))
    ]

-- what was read of a title

-- the record that tells numbers is that of their value
pub title_line : {letters fields : ℕ} {V : Type 0} (title : TitleRow letters fields) (numbers : List (V → ℕ)) (Fits : ℕ → V → Type 0) → IsTitleTable title numbers Fits → (version : ℕ) (v : V) (row : Row) (ns : List ℕ)
    → TitleTells title row version ns → IsBy (title_cells title numbers version) v (λ k. get_or row (suc (suc k)) []) (λ k. get_or ns (suc (suc k)) 0) → IsRowOf (title_record title numbers Fits) row (version, v)
title_line {letters} {fields} {V} title numbers Fits is version v row ns t b = line row t.0.0 t.0.1 (subst (λ ss. FieldsSpell ss row ns) (is.slots version) t.1) b
  where
    line : (row : Row) → IsVersion title.latest version → IsTitled title.word version row → FieldsSpell (slot.Given ∷ slot.Given ∷ slots_by (title_cells title numbers version)) row ns
        → IsBy (title_cells title numbers version) v (λ k. get_or row (suc (suc k)) []) (λ k. get_or ns (suc (suc k)) 0) → IsRowOf (title_record title numbers Fits) row (version, v)
    line [] i t s b = absurd (let long = s.0 in omega (arith, long))
    line (g ∷ []) i t s b = absurd (let long = s.0 in omega (arith, long))
    line (g ∷ h ∷ fs) i t s b =
        let long = s.0 in
        let cells = title_cells title numbers version in
        let r = fields_by cells v fs (λ k. get_or ns (suc (suc k)) 0) (omega (arith, long)) (λ k l. s.1 (suc (suc k)) (omega (arith, l))) b in
        let e = cons_same _ _ _ _ t.1 in
        let first = e.0 in
        let second = (cons_same _ _ _ _ e.1).0 in
        let others = r.0 in
        let made : g ∷ h ∷ fs ≡ title_by title numbers (version, v) = cc (first, second, others) in
        λ rest. record { fits = (i, is.fits version v r.1); made = ap (λ (x : Row). x ∷ rest) made; follows = tt }

pub title_reads : {letters fields : ℕ} {V : Type 0} (title : TitleRow letters fields) (numbers : List (V → ℕ)) (Fits : ℕ → V → Type 0) → IsTitleTable title numbers Fits → (left mid : Option (List Row)) (version : ℕ) (v : V) (ns : List ℕ)
    → (h : TakesTitle title left mid version ns) → IsBy (title_cells title numbers version) v (λ k. get_or h.0 (suc (suc k)) []) (λ k. get_or ns (suc (suc k)) 0)
    → Reads (title_record title numbers Fits) left mid (version, v) × (IsVersion title.latest version × Fits version v)
title_reads title numbers Fits is left mid version v ns h b =
    let line = title_line title numbers Fits is version v h.0 ns h.2 b in
    (line_reads (title_record title numbers Fits) left mid h.0 (version, v) h.1 line, (line []).fits)

pub title_stops : {letters fields : ℕ} {V : Type 0} (title : TitleRow letters fields) (numbers : List (V → ℕ)) (Fits : ℕ → V → Type 0) → IsTitleTable title numbers Fits → (failed : Bool) (left : Option (List Row)) (start at : ℕ) (w : TextReason)
    → at ≡ start + 1 → StopsAtTitle title failed left w → Halts failed (title_record title numbers Fits) left start at w
title_stops title numbers Fits is failed None start at w e h = tt
title_stops title numbers Fits is failed (Some rows) start at w e h = (
  1,
  e,
  at_first (title_record title numbers Fits) (title_tells is) rows,
  elim h [
    | inl o ↦ inl o
    | inr f ↦ inr (refl, f)
  ],
)

-- the record that was taken is wrong
pub line_stops : {letters fields : ℕ} (title : TitleRow letters fields) (failed : Bool) (left new : Option (List Row)) (row : Row) (w : TextReason) → TakesRecord left new row true → TitleLacks title row w → StopsAtTitle title failed left w
line_stops title failed None new row w t h = tt
line_stops title failed (Some []) new row w t h = cc t
line_stops title failed (Some (r ∷ rs)) new row w t h = inr (subst (λ (r : Row). TitleLacks title r w) t.1 h)

-- titles of a depth and a number of commands

counted_table : IsTable (cells_by COUNTED counted_numbers) IsCounted
counted_table = record {
  sized = (omega arith, (omega arith, tt));
  within = λ t f. ((f.0, f.1), ((omega arith, f.2), tt));
  made = λ x. (x.0, x.1.0);
  back = λ t f. refl;
  forth = λ x. refl;
  fits = λ x f. (f.0.0, f.0.1, f.1.0.1);
}

pub is_certificate_title : IsTitleTable CERTIFICATE counted_numbers (λ _. IsCounted)
is_certificate_title = record { latest = omega arith; slots = λ v. refl; table = λ v. counted_table; fits = λ v t f. (f.0.0, f.0.1, f.1.0.1) }

pub is_on_time_title : IsTitleTable ON_TIME counted_numbers (λ _. IsCounted)
is_on_time_title = record { latest = omega arith; slots = λ v. refl; table = λ v. counted_table; fits = λ v t f. (f.0.0, f.0.1, f.1.0.1) }

pub is_schedule_title : IsTitleTable SCHEDULE counted_numbers (λ _. IsCounted)
is_schedule_title = record { latest = omega arith; slots = λ v. refl; table = λ v. counted_table; fits = λ v t f. (f.0.0, f.0.1, f.1.0.1) }
