-- The laws of the bios of a group.
use Rattle.std.proofs.Common.{◌≡◌, ◌^◌, ◌≤◌, ◌<◌, ◌∙◌, ℕ, suc, List, [], ◌∷◌, ◌++◌, length, refl, sym, ap, subst, inl, inr, arith, codes, Bool, Option, Some, None}
use Rattle.std.specs.Prelude.{◌⊎◌, Result, Ok, Err, IfOk, IfErr}
use Rattle.blk_bio.specs.Bios.{Bio, IsBio}
use Rattle.blk_bio.specs.Limits.{Limits}
use Rattle.blk_bio.specs.Requests.{Fits}
use Rattle.blk_bio.specs.declared.request.Side.TheVariants as side
use Rattle.blk_records.specs.Sources.{Row}
use Rattle.blk_text.specs.BioTable.{bio_cells, IsNoSuchBio}
use Rattle.blk_text.specs.Inside.BioTable.{bio_record}
use Rattle.blk_records.specs.Words.{StartsWith, NextStarts}
use Rattle.blk_records.specs.Reads.{IsRowOf, IsWrongRecord, HandFails, Gathers, with_next}
use Rattle.blk_records.specs.Tables.{FitsCells, row_by, word_record}
use Rattle.blk_text.specs.TraceForm.{Tiles, IsAstray, IsNoBio, first_record, plain_bio, whole_bio, group_bio, group}
use Rattle.blk_text.specs.Inside.TraceForm.{gathered_bios}
use Rattle.blk_records.specs.declared.fault.TextReason.{TextReason}
use Rattle.blk_records.specs.declared.fault.TextReason.TheVariants as why
use Rattle.blk_text.specs.TraceForm.{Head}
use Rattle.text_grammar.specs.declared.Repeats.TheVariants as repeats
use Rattle.text_grammar.specs.Parts.{Part, all_rows}
use Rattle.text_grammar.specs.Laws.{Tells}
use Rattle.text_grammar.specs.Inside.Laws.{IsItem}
use Rattle.text_grammar.proofs.Then.{first, decided, record_tells, by_word_tells, seen_tells, tested_tells, over_tells}
use Rattle.text_grammar.proofs.Many.{many_tells}
use Rattle.blk_records.proofs.Lacking.{Dec, word_decided}
use Rattle.blk_records.proofs.TableLaws.{IsTable, next_starts, word_tells}
use Rattle.blk_text.proofs.ScriptLaws.{no_bio_is, one_bio_fault, bio_or_none}
use Rattle.blk_records.proofs.Reading.{hand_reads}
use Rattle.blk_text.proofs.HeadLaws.{head_tells}
use Rattle.blk_text.proofs.RuleLaws.{fits as fits_decided}

bio_table : (submitters : ℕ) → submitters ≤ 2 ^ 8 → IsTable (bio_cells submitters) (FitsCells (bio_cells submitters))
bio_table submitters s = record {
  sized = (omega (arith, s), (omega arith, (tt, (omega arith, (omega arith, tt)))));
  within = λ b f. f;
  made = λ x. record { id = record { submitter = x.0; serial = x.1.0 }; dir = x.1.1.0; first = x.1.1.1.0; sectors = x.1.1.1.1.0 };
  back = λ b f. refl;
  forth = λ x. refl;
  fits = λ x f. f;
}

no_bio_once : (version : ℕ) (rows : List Row) (w x : TextReason) → IsNoBio version rows w → IsNoBio version rows x → w ≡ x
no_bio_once version [] w x a b = a ∙ sym b
no_bio_once version (row ∷ rows) w x a b = (first (over_tells why.Count (head_tells version)) (row ∷ []) 1 1 w x a b).1

abbrev bio_by_table : Part Row TextReason Bio
bio_by_table = word_record why.Count (codes "bio") (bio_cells (2 ^ 8)) (FitsCells (bio_cells (2 ^ 8)))

-- what is wrong with a record that does not begin as a bio's
no_bio : (version : ℕ) (row : Row) → (w : TextReason) × IsNoBio version (row ∷ []) w
no_bio version row = elim (decided (head_tells version) (row ∷ [])) [
  | inl h ↦ (why.Count, ((λ e. (cc e)), inr (refl, refl, h)))
  | inr f ↦ (f.1, ((λ e. (cc e)), inl (subst (λ k. (first_record version).Wrong (row ∷ []) k f.1) (at_one f.0 f.1 f.2) f.2)))
]
  where
    at_one : (k : ℕ) (w : TextReason) → (first_record version).Wrong (row ∷ []) k w → k ≡ 1
    at_one k w (inl f) = f.2.0
    at_one k w (inr f) = f.0

plain_tells : (version : ℕ) → Tells (plain_bio version)
plain_tells version = seen_tells (λ b. (tt, b)) (λ u z e. (let r : u ≡ z = (λ i. (e i).1) in r)) (λ v f. (v.1, refl))
    (by_word_tells {K = Unit {0}} (λ _. Bio) (λ _. NextStarts (codes "bio")) (λ _. bio_by_table) (IsNoBio version) (λ _ rows s. (record_tells why.Count (word_tells (codes "bio") (bio_table 256 (omega arith)))).told rows)
    (λ i j rows s t. refl) (λ i rows v a h. next_starts (codes "bio") (row_by (bio_cells (2 ^ 8)) v) rows a h.made) (no_bio_once version) find)
  where
    find : (rows : List Row) → ((i : Unit {0}) × NextStarts (codes "bio") rows) ⊎ (((i : Unit {0}) → ¬ NextStarts (codes "bio") rows) × ((w : TextReason) × IsNoBio version rows w))
    find [] = inr ((λ i s. s), (why.Count, refl))
    find (row ∷ rows) = elim (word_decided (codes "bio") row) [
      | inl s ↦ inl (tt, s)
      | inr n ↦ inr ((λ i s. n s), no_bio version row)
    ]

whole_tells : (version : ℕ) → Tells (whole_bio version)
whole_tells version = tested_tells IsBio IsNoSuchBio (plain_tells version)
    (λ b k j w x fit f g. (f.1 ∙ sym g.1, f.2 ∙ ap why.Bio (one_bio_fault b f.0 g.0 f.3 g.3) ∙ sym g.2))
    (λ b k w good f. no_bio_is b f.0 good f.3)
    (λ b k w f. (let is = f.1 in (omega (arith, is), omega (arith, is)))) (λ b fit. elim (bio_or_none b) [
      | inl i ↦ inl i
      | inr f ↦ inr (1, why.Bio f.0, (f.0, refl, refl, f.1))
    ])

tiles_decided : (limits : Limits) (before : List Bio) (b : Bio) → Dec (Tiles limits before b)
tiles_decided limits [] b = inl tt
tiles_decided limits (a ∷ before) b = fits_decided limits (a ∷ before) (b ∷ []) side.Back

bio_item : (version : ℕ) (limits : Limits) (before : List Bio) → IsItem (group_bio version limits before)
bio_item version limits before = record {
  tells = tested_tells (Tiles limits before) (IsAstray limits before) (whole_tells version)
      (λ b k j w x fit f g. (f.0 ∙ sym g.0, f.1 ∙ sym g.1))
      (λ b k w good f. f.2 good)
      (λ b k w f. (let is = f.0 in (omega (arith, is), omega (arith, is)))) (λ b fit. elim (tiles_decided limits before b) [
        | inl t ↦ inl t
        | inr n ↦ inr (1, why.Tile, (refl, refl, n))
      ]);
  plain = λ v rest fit. tt;
  some = λ v fit e. (cc e);
}

pub group_tells : (version : ℕ) (limits : Limits) (count : ℕ) → Tells (group version limits count)
group_tells version limits count = many_tells (repeats.Exactly count) with_next (bio_item version limits) []

-- a group has a record for each bio
sizes : (version : ℕ) (limits : Limits) (before bios : List Bio) → length (all_rows (group_bio version limits) with_next before bios) ≡ length bios
sizes version limits before [] = refl
sizes version limits before (b ∷ bs) = ap suc (sizes version limits (with_next before b) bs)

pub group_size : (version : ℕ) (limits : Limits) (count : ℕ) (bios : List Bio) → length ((group version limits count).rows_of bios) ≡ length bios
group_size version limits count bios = sizes version limits [] bios

-- what was read of a record

-- a bio by itself
pub group_line : (version : ℕ) (b : Bio) (row : Row) → IsRowOf (bio_record (2 ^ 8)) row b → IsRowOf (whole_bio version) row b
group_line version b row h rest = let k = h rest in record { fits = k.fits; made = k.made; follows = tt }

pub group_wrong : (version : ℕ) (row : Row) (w : TextReason) → StartsWith (codes "bio") row → IsWrongRecord (bio_record (2 ^ 8)) row w → IsWrongRecord (whole_bio version) row w
group_wrong version row w t h rest = elim (h rest) [
  | inl f ↦ inl (inl (tt, t, f))
  | inr g ↦ inr (g.0, g.1, record { fits = g.2.fits; made = g.2.made; follows = tt }, g.3)
]

-- what is answered of one
pub group_ok : (version : ℕ) (row : Row) (r : Result Bio TextReason) → IfOk r (IsRowOf (bio_record (2 ^ 8)) row) → IfOk r (IsRowOf (whole_bio version) row)
group_ok version row (Ok b) h = group_line version b row h
group_ok version row (Err w) h = tt

pub group_err : (version : ℕ) (row : Row) (r : Result Bio TextReason) → StartsWith (codes "bio") row → IfErr r (IsWrongRecord (bio_record (2 ^ 8)) row) → IfErr r (IsWrongRecord (whole_bio version) row)
group_err version row (Ok b) t h = tt
group_err version row (Err w) t h = group_wrong version row w t h

-- a record that is another event's, or no event's
pub event_too_soon : (version : ℕ) (h : Head) (row : Row) → ¬ StartsWith (codes "bio") row → IsRowOf (first_record version) row h → IsWrongRecord (whole_bio version) row why.Count
event_too_soon version h row n l = λ rest. inl (inr (refl, (λ i s. n s), ((λ z. (cc z)), inr (refl, refl, (h, [], l [])))))

pub no_event_there : (version : ℕ) (row : Row) (w : TextReason) → ¬ StartsWith (codes "bio") row → IsWrongRecord (first_record version) row w → IsWrongRecord (whole_bio version) row w
no_event_there version row w n l = λ rest. inl (inr (refl, (λ i s. n s), ((λ z. (cc z)), inl (l []))))

-- a bio that tiles, and one that does not
pub tiles_line : (version : ℕ) (limits : Limits) (before : List Bio) (b : Bio) (row : Row) → IsRowOf (whole_bio version) row b → Tiles limits before b → IsRowOf (group_bio version limits before) row b
tiles_line version limits before b row l t = λ rest. record { fits = ((l rest).fits, t); made = (l rest).made; follows = tt }

pub astray_line : (version : ℕ) (limits : Limits) (before : List Bio) (b : Bio) (row : Row) → IsRowOf (whole_bio version) row b → ¬ Tiles limits before b → IsWrongRecord (group_bio version limits before) row why.Tile
astray_line version limits before b row l n = λ rest. inr (b, rest, l rest, (refl, refl, n))

pub wrong_line : (version : ℕ) (limits : Limits) (before : List Bio) (row : Row) (w : TextReason) → IsWrongRecord (whole_bio version) row w → IsWrongRecord (group_bio version limits before) row w
wrong_line version limits before row w l = λ rest. inl (l rest)

pub line_fails : {V : Type 0} (failed : Bool) (p : Part Row TextReason V) (left : Option (List Row)) (row : Row) (start at : ℕ) (w : TextReason) → IsWrongRecord p row w → at ≡ start → HandFails failed p left row start at w
line_fails failed p None row start at w h e = tt
line_fails failed p (Some rows) row start at w h e = inr (1, omega (arith, e), h rows)

bio_gathers : (version : ℕ) (limits : Limits) (old : List Bio) (b : Bio) (left : Option (List Row)) (row : Row) (at : ℕ) → IsRowOf (whole_bio version) row b → Tiles limits old b
    → Gathers (group_bio version limits) old (old ++ b ∷ []) left row left at at
bio_gathers version limits old b left row at l t =
    let line = tiles_line version limits old b row l t in
    record { item = b; gathered = refl; fits = (line []).fits; read = hand_reads (group_bio version limits old) left row b line; end = omega arith }

-- the first bio of a group
pub first_gathers : (version : ℕ) (limits : Limits) (o : Option (List Bio)) (new : List Bio) (b : Bio) (left : Option (List Row)) (row : Row) (at : ℕ) → o ≡ None → new ≡ b ∷ [] → IsRowOf (whole_bio version) row b
    → Gathers (group_bio version limits) (gathered_bios o) new left row left at at
first_gathers version limits None new b left row at e n l = rw n (bio_gathers version limits [] b left row at l tt)
first_gathers version limits (Some old) new b left row at e n l = absurd (cc e)

tiles_after : (limits : Limits) (old : List Bio) (b : Bio) → Fits limits old (b ∷ []) side.Back → Tiles limits old b
tiles_after limits [] b f = tt
tiles_after limits (a ∷ old) b f = f

fits_tiles : (limits : Limits) (old : List Bio) (b : Bio) → 0 < length old → Tiles limits old b → Fits limits old (b ∷ []) side.Back
fits_tiles limits [] b some t = absurd (omega (arith, some))
fits_tiles limits (a ∷ old) b some t = t

-- one more
pub next_gathers : (version : ℕ) (limits : Limits) (o : Option (List Bio)) (old new : List Bio) (b : Bio) (left : Option (List Row)) (row : Row) (at : ℕ) → o ≡ Some old → new ≡ old ++ b ∷ [] → Fits limits old (b ∷ []) side.Back
    → IsRowOf (whole_bio version) row b → Gathers (group_bio version limits) (gathered_bios o) new left row left at at
next_gathers version limits None old new b left row at e n f l = absurd (cc e)
next_gathers version limits (Some x) old new b left row at e n f l =
    let same : x ≡ old = cc e in
    rw (same, n) (bio_gathers version limits old b left row at l (tiles_after limits old b f))

pub astray_fails : (version : ℕ) (limits : Limits) (failed : Bool) (o : Option (List Bio)) (old : List Bio) (b : Bio) (left : Option (List Row)) (row : Row) (start at : ℕ) → o ≡ Some old → 0 < length old → ¬ Fits limits old (b ∷ []) side.Back
    → IsRowOf (whole_bio version) row b → at ≡ start → HandFails failed (group_bio version limits (gathered_bios o)) left row start at why.Tile
astray_fails version limits failed None old b left row start at e some n l is = absurd (cc e)
astray_fails version limits failed (Some x) old b left row start at e some n l is =
    let same : x ≡ old = cc e in
    rw same (line_fails failed (group_bio version limits old) left row start at why.Tile (astray_line version limits old b row l (λ t. n (fits_tiles limits old b some t))) is)
