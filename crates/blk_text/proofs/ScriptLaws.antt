-- The laws of scripts.
use Rattle.std.proofs.Common.{◌≡◌, ◌+◌, ◌<◌, ◌≤◌, ◌==◌, ◌∙◌, ℕ, zero, suc, List, [], length, map, Option, Some, None, refl, sym, ap, subst, inl, inr, arith, get_or, codes, true}
use Rattle.std.proofs.lemmas.Bool.{le-leb}
use Rattle.std.specs.Prelude.{◌⊎◌, All, Err, IfSome, Bool, cond, if◌then◌else◌}
use Rattle.csv.specs.Reading.{default_config, records, strip_bom}
use Rattle.csv.specs.Writing.{read_back}
use Rattle.blk_bio.specs.Bios.{Bio, IsBio, IsBioAnswer}
use Rattle.blk_bio.specs.declared.bio.TheConstants.{MAX_END}
use Rattle.blk_bio.specs.declared.bio.BioFault.{BioFault}
use Rattle.blk_bio.specs.declared.bio.BioFault.TheVariants as bio_fault
use Rattle.blk_bio.specs.Limits.{Limits, IsLimits}
use Rattle.blk_trace.specs.Setups.{Setup, IsSetup}
use Rattle.blk_records.specs.Sources.{Row}
use Rattle.blk_records.specs.Texts.{rows_text}
use Rattle.edd_commands.specs.declared.steps.TheConstants.{MAX_DEPTH}
use Rattle.blk_text.specs.SetupRecord.{setup_cells, setup, FitsSetup}
use Rattle.blk_records.specs.Words.{StartsWith}
use Rattle.blk_records.specs.Fields.{Lacks, FieldsSpell}
use Rattle.blk_records.specs.Reads.{Reads, Halts, IsRowOf, IsWrongRecord, IsOne, items_of}
use Rattle.blk_records.specs.Tables.{FitsCells}
use Rattle.blk_records.specs.Titles.{IsVersion, most_in, title_cells, TakesTitle, StopsAtTitle}
use Rattle.blk_records.specs.Kinds.{KindRow, row_below, Told, cells_of, RowSaid, HasRow}
use Rattle.blk_text.specs.StepKinds.{step_table}
use Rattle.blk_text.specs.declared.bios.TheConstants.{BIO}
use Rattle.blk_text.specs.Script.{step_said, LineFits, IsLineOf, IsRight, HasNoSuchBio, Title, title_numbers, IsTitle, IsEnough, TooFew, plain_title, script_title_part, step, script_body, script_form, script_value, Scripted, title_of, script_rows, IsScript, IsScriptOf, SpellsVersion, SpellsScript, ScriptFault}
use Rattle.blk_text.specs.Inside.BioTable.{bio_record}
use Rattle.blk_text.specs.Versions.{most_tags}
use Rattle.blk_text.specs.declared.setup.TheConstants.{LATEST, MAX_DEPTH_1, MORE_TAGS, WIDTH}
use Rattle.blk_records.specs.declared.fault.TextReason.{TextReason}
use Rattle.blk_records.specs.declared.fault.TextReason.TheVariants as why
use Rattle.text_grammar.specs.declared.Repeats.TheVariants as repeats
use Rattle.text_grammar.specs.Parts.{Begins, Spells}
use Rattle.text_grammar.specs.Laws.{Tells}
use Rattle.text_grammar.proofs.Then.{once, apart as never_both, first, decided, at_first, then_tells, tested_tells, seen_tells}
use Rattle.blk_text.specs.declared.script.Line.{Line}
use Rattle.blk_text.specs.declared.script.Line.TheVariants as line
use Rattle.blk_records.proofs.Lacking.{at_most}
use Rattle.blk_records.proofs.KindLaws.{EachRow, row_in, IsWordRow, IsKinds, IsWordOf, apart, way_of, way_back, numbers_said, said_tells, said_line, said_lacks, said_gone}
use Rattle.blk_records.proofs.TableLaws.{IsTable, IsBy, word_tells}
use Rattle.blk_records.proofs.TitleLaws.{IsTitleTable, title_tells, title_reads}
use Rattle.blk_records.proofs.Each.{all_fit, each_tells, one_record}
use Rattle.blk_records.proofs.Reading.{then_reads, first_halts, second_halts}
use Rattle.blk_records.proofs.Texts.{text_back, parts_back, begins_itself}
use Rattle.blk_bio.specs.declared.limits.TheConstants.{MAX_QUEUES, MAX_SOFT_QUEUES}
use Rattle.blk_text.specs.declared.script.TheConstants.{MAX_STEPS, SCRIPT}

-- the rows of steps, in the order of the table

words : (hw submitters : ℕ) → EachRow IsWordRow (step_table hw submitters)
words hw submitters = (record { long = omega arith; slots = refl }, (record { long = omega arith; slots = refl }, (record { long = omega arith; slots = refl }, (record { long = omega arith; slots = refl }, (record { long = omega arith; slots = refl }, (record { long = omega arith; slots = refl }, (record { long = omega arith; slots = refl }, (record { long = omega arith; slots = refl }, (record { long = omega arith; slots = refl }, tt)))))))))

step_kinds : (hw submitters : ℕ) → hw ≤ MAX_QUEUES → submitters ≤ MAX_SOFT_QUEUES → IsKinds (step_table hw submitters)
step_kinds hw submitters g s = record {
  sized = (
    (omega (arith, s), (omega arith, (omega arith, (omega arith, tt)))),
    ((omega (arith, s), tt), ((omega (arith, g), tt), ((omega (arith, g), (omega arith, tt)), ((omega arith, tt), ((omega arith, tt), (tt, ((omega arith, tt), ((omega arith, tt), tt)))))))),
  );
  words = apart (step_table hw submitters) refl;
}

-- the row of a step stands there
step_in : (hw submitters : ℕ) (l : Line) → HasRow (step_table hw submitters) (step_said hw submitters l).0
step_in hw submitters (line.Bio b) = inl refl
step_in hw submitters (line.Flush n) = inr (inl refl)
step_in hw submitters (line.Drain n) = inr (inr (inl refl))
step_in hw submitters (line.Issue n t) = inr (inr (inr (inl refl)))
step_in hw submitters (line.Done t) = inr (inr (inr (inr (inl refl))))
step_in hw submitters (line.Back t) = inr (inr (inr (inr (inr (inl refl)))))
step_in hw submitters line.Tick = inr (inr (inr (inr (inr (inr (inl refl))))))
step_in hw submitters (line.Run n) = inr (inr (inr (inr (inr (inr (inr (inl refl)))))))
step_in hw submitters (line.Depth d) = inr (inr (inr (inr (inr (inr (inr (inr (inl refl))))))))

-- each row has a step that says this
abbrev IsToldBy : (hw submitters : ℕ) → KindRow → Type 0
IsToldBy hw submitters k = (v : Told k.slots) → (l : Line) × (step_said hw submitters l ≡ (k, v))

abbrev bio_by : Told BIO.slots → Bio
bio_by v = record { id = record { submitter = v.0; serial = v.1.0 }; dir = v.1.1.0; first = v.1.1.1.0; sectors = v.1.1.1.1.0 }

lines : (hw submitters : ℕ) → EachRow (IsToldBy hw submitters) (step_table hw submitters)
lines hw submitters = (
  (λ v. (line.Bio (bio_by v), refl)),
  (
    (λ v. (line.Flush v.0, refl)),
    (
      (λ v. (line.Drain v.0, refl)),
      (
        (λ v. (line.Issue v.0 v.1.0, refl)),
        (
          (λ v. (line.Done v.0, refl)),
          (
            (λ v. (line.Back v.0, refl)),
            (
              (λ v. (line.Tick, refl)),
              (
                (λ v. (line.Run v.0, refl)),
                ((λ v. (line.Depth v.0, refl)), tt),
              ),
            ),
          ),
        ),
      ),
    ),
  ),
)

-- the step of a word and numbers, whatever they are
abbrev bio_again : List ℕ → Bio
bio_again ns = record { id = record { submitter = get_or ns 0 0; serial = get_or ns 1 0 }; dir = way_of (get_or ns 2 0); first = get_or ns 3 0; sectors = get_or ns 4 0 }

abbrev line_by : List ℕ → List ℕ → Line
line_by word ns =
    if get_or word 0 0 == 98 then (if get_or word 1 0 == 105 then line.Bio (bio_again ns) else line.Back (get_or ns 0 0))
    else if get_or word 0 0 == 102 then line.Flush (get_or ns 0 0)
    else if get_or word 0 0 == 105 then line.Issue (get_or ns 0 0) (get_or ns 1 0)
    else if get_or word 0 0 == 116 then line.Tick
    else if get_or word 0 0 == 114 then line.Run (get_or ns 0 0)
    else if get_or word 1 0 == 114 then line.Drain (get_or ns 0 0)
    else if get_or word 1 0 == 101 then line.Depth (get_or ns 0 0)
    else line.Done (get_or ns 0 0)

abbrev made_again : RowSaid → Line
made_again s = line_by s.0.word (numbers_said s.0.slots s.1)

line_back : (hw submitters : ℕ) (l : Line) → made_again (step_said hw submitters l) ≡ l
line_back hw submitters (line.Bio b) = ap (λ d. line.Bio record { id = b.id; dir = d; first = b.first; sectors = b.sectors }) (way_back b.dir)
line_back hw submitters l = refl

one_bio : (b c : Bio) → line.Bio b ≡ line.Bio c → b ≡ c
one_bio b c e = cc e

pub no_bio_is : (b : Bio) (f : BioFault) → IsBio b → IsBioAnswer b.id b.dir b.first b.sectors (Err f) → ⊥
no_bio_is b bio_fault.Empty i a = omega (arith, i.not_empty, a)
no_bio_is b bio_fault.Range i a = omega (arith, i.in_range, a.1)

pub one_bio_fault : (b : Bio) (f g : BioFault) → IsBioAnswer b.id b.dir b.first b.sectors (Err f) → IsBioAnswer b.id b.dir b.first b.sectors (Err g) → f ≡ g
one_bio_fault b bio_fault.Empty bio_fault.Empty p q = refl
one_bio_fault b bio_fault.Empty bio_fault.Range p q = absurd (omega (arith, p, q.0))
one_bio_fault b bio_fault.Range bio_fault.Empty p q = absurd (omega (arith, q, p.0))
one_bio_fault b bio_fault.Range bio_fault.Range p q = refl

no_bio_once : (l : Line) (k j : ℕ) (w x : TextReason) → HasNoSuchBio l k w → HasNoSuchBio l j x → (k ≡ j) × (w ≡ x)
no_bio_once l k j w x n m =
    let same : n.0 ≡ m.0 = one_bio n.0 m.0 (sym n.2 ∙ m.2) in
    let fault = one_bio_fault m.0 n.1 m.1 (subst (λ (b : Bio). IsBioAnswer b.id b.dir b.first b.sectors (Err n.1)) same n.5) m.5 in
    (n.3 ∙ sym m.3, n.4 ∙ ap why.Bio fault ∙ sym m.4)

-- a bio is one, or there is none
pub bio_or_none : (b : Bio) → IsBio b ⊎ ((f : BioFault) × IsBioAnswer b.id b.dir b.first b.sectors (Err f))
bio_or_none b = elim (at_most 1 b.sectors) [
  | inl some ↦ elim (at_most (b.first + b.sectors) MAX_END) [
    | inl l ↦ inl (record { not_empty = some; in_range = l })
    | inr n ↦ inr (bio_fault.Range, (some, out (b.first + b.sectors) n))
  ]
  | inr n ↦ inr (bio_fault.Empty, none b.sectors n)
]
  where
    none : (n : ℕ) → ¬ (1 ≤ n) → n ≡ 0
    none n h = grind (arith, h)

    out : (n : ℕ) → ¬ (n ≤ MAX_END) → MAX_END < n
    out n h = grind (arith, h)

right_or_no_bio : (l : Line) → IsRight l ⊎ ((k : ℕ) × (w : TextReason) × HasNoSuchBio l k w)
right_or_no_bio (line.Bio b) = elim (bio_or_none b) [
  | inl i ↦ inl (λ c e. subst IsBio (one_bio b c e) i)
  | inr f ↦ inr (1, why.Bio f.0, (b, f.0, refl, refl, refl, f.1))
]
right_or_no_bio l = inl (λ b e. absurd (cc e))

step_tells : (version hw submitters : ℕ) → hw ≤ MAX_QUEUES → submitters ≤ MAX_SOFT_QUEUES → Tells (step version hw submitters)
step_tells version hw submitters g s = tested_tells IsRight HasNoSuchBio
    (seen_tells (step_said hw submitters) (λ l m e. sym (line_back hw submitters l) ∙ ap made_again e ∙ line_back hw submitters m) (λ v f. row_in (IsToldBy hw submitters) (step_table hw submitters) v.0 (lines hw submitters) f.0.0 v.1)
    (said_tells why.Count WIDTH (step_table hw submitters) version (step_kinds hw submitters g s)))
    (λ l k j w x fit. no_bio_once l k j w x) (λ l k w good n. no_bio_is n.0 n.1 (good n.0 n.2) n.5) (λ l k w n. (let is = n.3 in (omega (arith, is), omega (arith, is)))) (λ l fit. right_or_no_bio l)

pub step_one : (version hw submitters : ℕ) → hw ≤ MAX_QUEUES → submitters ≤ MAX_SOFT_QUEUES → IsOne (step version hw submitters)
step_one version hw submitters g s = record { tells = step_tells version hw submitters g s; plain = λ l rest f. tt; one = λ l. refl }

-- the numbers of a step, as its table and as the script say
pub step_fits : (version hw submitters : ℕ) → (l : Line) → IsLineOf version l → LineFits hw submitters l → (step version hw submitters).Fits l
step_fits version hw submitters (line.Bio b) v h =
    let in_range = h.2.in_range in
    (((step_in hw submitters (line.Bio b), v), ((omega arith, omega (arith, h.0)), ((omega arith, omega (arith, h.1)), (tt, ((omega arith, omega (arith, in_range)), ((omega arith, omega (arith, in_range)), tt)))))), λ c e. subst IsBio (one_bio b c e) h.2)
step_fits version hw submitters (line.Flush n) v h = (((step_in hw submitters (line.Flush n), v), ((omega arith, omega (arith, h)), (tt, (tt, (tt, (tt, tt)))))), λ b e. absurd (cc e))
step_fits version hw submitters (line.Drain n) v h = (((step_in hw submitters (line.Drain n), v), ((omega arith, omega (arith, h)), (tt, (tt, (tt, (tt, tt)))))), λ b e. absurd (cc e))
step_fits version hw submitters (line.Issue n t) v h = (((step_in hw submitters (line.Issue n t), v), ((omega arith, omega (arith, h.0)), ((omega arith, omega (arith, h.1)), (tt, (tt, (tt, tt)))))), λ b e. absurd (cc e))
step_fits version hw submitters (line.Done t) v h = (((step_in hw submitters (line.Done t), v), ((omega arith, omega (arith, h)), (tt, (tt, (tt, (tt, tt)))))), λ b e. absurd (cc e))
step_fits version hw submitters (line.Back t) v h = (((step_in hw submitters (line.Back t), v), ((omega arith, omega (arith, h)), (tt, (tt, (tt, (tt, tt)))))), λ b e. absurd (cc e))
step_fits version hw submitters (line.Depth d) v h = (((step_in hw submitters (line.Depth d), v), ((omega arith, omega (arith, h)), (tt, (tt, (tt, (tt, tt)))))), λ b e. absurd (cc e))
step_fits version hw submitters line.Tick v h = (((step_in hw submitters line.Tick, v), (tt, (tt, (tt, (tt, (tt, tt)))))), λ b e. absurd (cc e))
step_fits version hw submitters (line.Run n) v h = (((step_in hw submitters (line.Run n), v), (h, (tt, (tt, (tt, (tt, tt)))))), λ b e. absurd (cc e))

pub fits_step : (version hw submitters : ℕ) → 1 ≤ hw → 1 ≤ submitters → (l : Line) → (step version hw submitters).Fits l → LineFits hw submitters l
fits_step version hw submitters g s (line.Bio b) f = let low = f.0.1.0.1 in let serial = f.0.1.1.0.1 in (omega (arith, low, s), omega (arith, serial), f.1 b refl)
fits_step version hw submitters g s (line.Flush n) f = let low = f.0.1.0.1 in omega (arith, low, s)
fits_step version hw submitters g s (line.Drain n) f = let low = f.0.1.0.1 in omega (arith, low, g)
fits_step version hw submitters g s (line.Issue n t) f = let low = f.0.1.0.1 in let tag = f.0.1.1.0.1 in (omega (arith, low, g), omega (arith, tag))
fits_step version hw submitters g s (line.Done t) f = let tag = f.0.1.0.1 in omega (arith, tag)
fits_step version hw submitters g s (line.Back t) f = let tag = f.0.1.0.1 in omega (arith, tag)
fits_step version hw submitters g s (line.Depth d) f = let high = f.0.1.0.1 in omega (arith, high)
fits_step version hw submitters g s line.Tick f = tt
fits_step version hw submitters g s (line.Run n) f = f.0.1.0

-- what was read of a step's record whose field is asked for its kind

pub step_line : (version hw submitters : ℕ) (l : Line) (row : Row) (f ns : List ℕ) → f ≡ get_or row (0) [] → (true ≡ true → IsWordOf version f (step_said hw submitters l).0) → FieldsSpell (step_said hw submitters l).0.slots row ns
    → IsBy (cells_of (step_said hw submitters l).0.slots (λ v. v)) (step_said hw submitters l).1 (λ i. get_or row (suc i) []) (λ i. get_or ns (suc i) 0) → IsRight l → IsRowOf (step version hw submitters) row l
step_line version hw submitters l row f ns at is s b r =
    let h = said_line why.Count WIDTH (step_table hw submitters) version (step_said hw submitters l) row f ns (words hw submitters) (step_in hw submitters l) at is s b in
    λ rest. record { fits = ((h rest).fits, r); made = (h rest).made; follows = tt }

pub bio_right : (b : Bio) → IsBio b → IsRight (line.Bio b)
bio_right b i = λ c e. subst IsBio (one_bio b c e) i

-- of the row of such a step
pub step_lacks : (version hw submitters : ℕ) (l : Line) (row : Row) (f : List ℕ) (w : TextReason) → f ≡ get_or row (0) [] → (true ≡ true → IsWordOf version f (step_said hw submitters l).0) → Lacks (step_said hw submitters l).0.slots row w
    → IsWrongRecord (step version hw submitters) row w
step_lacks version hw submitters l row f w at is h rest = inl (said_lacks why.Count WIDTH (step_table hw submitters) version (step_said hw submitters l).0 row f w (words hw submitters) (step_in hw submitters l) at is h rest)

pub step_gone : (version hw submitters : ℕ) → (step version hw submitters).Wrong [] 1 why.Count
step_gone version hw submitters = inl (said_gone why.Count WIDTH (step_table hw submitters) version)

-- the bio of a step
pub step_bio : (version hw submitters : ℕ) (b : Bio) (row : Row) → IsRowOf (bio_record submitters) row b → IsRowOf (step version hw submitters) row (line.Bio b)
step_bio version hw submitters b row h rest = let k = h rest in record { fits = (((inl refl, tt), k.fits.0), bio_right b k.fits.1); made = k.made; follows = tt }

pub step_no_bio : (version hw submitters : ℕ) (row : Row) (w : TextReason) → StartsWith (codes "bio") row → IsWrongRecord (bio_record submitters) row w → IsWrongRecord (step version hw submitters) row w
step_no_bio version hw submitters row w t h rest = elim (h rest) [
  | inl f ↦ inl (inl (row_below submitters BIO, ((inl refl, tt), t), f))
  | inr g ↦ inr (line.Bio g.0, g.1, record { fits = ((inl refl, tt), g.2.fits); made = g.2.made; follows = tt }, (g.0, g.3.0, refl, g.3.1, g.3.2, g.3.3))
]

-- titles and setups

-- a version has no more tags than the latest
pub fewer_tags : (version : ℕ) → most_tags version ≤ MAX_DEPTH
fewer_tags zero = omega arith
fewer_tags (suc zero) = omega arith
fewer_tags (suc (suc version)) = omega arith

-- the row has as many
pub tags_are : (version : ℕ) → most_in MORE_TAGS version MAX_DEPTH_1 ≡ most_tags version
tags_are zero = refl
tags_are (suc zero) = refl
tags_are (suc (suc version)) = ap (λ b. cond b MAX_DEPTH MAX_DEPTH_1) (le-leb 2 (suc (suc version)) (omega arith))

title_fits : (version : ℕ) (t : Title) → FitsCells (title_cells SCRIPT title_numbers version) t → IsTitle version t
title_fits version t f = record { depth = rw (tags_are version) at f.0; hw = f.1.0; soft_depth = f.1.1.0; submitters = f.1.1.1.0 }

title_table : IsTitleTable SCRIPT title_numbers IsTitle
title_table = record {
  latest = omega arith;
  slots = λ v. refl;
  table = λ v. record {
    sized = (omega (arith, fewer_tags v, tags_are v), (omega arith, (omega arith, (omega arith, tt))));
    within = λ t i. (rw (sym (tags_are v)) at i.depth, (i.hw, (i.soft_depth, (i.submitters, tt))));
    made = λ x. record { depth = x.0; hw = x.1.0; soft_depth = x.1.1.0; submitters = x.1.1.1.0 };
    back = λ t i. refl;
    forth = λ x. refl;
    fits = λ x f. title_fits v _ f;
  };
  fits = title_fits;
}

script_title_tells : Tells script_title_part
script_title_tells = tested_tells IsEnough TooFew (title_tells title_table)
    (λ t k j w x fit f g. (f.0 ∙ sym g.0, f.1 ∙ sym g.1))
    (λ t k w good f. (let few = f.2 in omega (arith, good, few)))
    (λ t k w f. (let is = f.0 in (omega (arith, is), omega (arith, is)))) (λ t fit. elim (at_most t.1.hw t.1.submitters) [
      | inl e ↦ inl e
      | inr n ↦ inr (1, why.Range, (refl, refl, few t.1.hw t.1.submitters n))
    ])
  where
    few : (a b : ℕ) → ¬ (a ≤ b) → b < a
    few a b h = grind (arith, h)

-- what a record's numbers tell
abbrev pub title_at : List ℕ → Title
title_at ns = record { depth = get_or ns 2 0; hw = get_or ns 3 0; soft_depth = get_or ns 4 0; submitters = get_or ns 5 0 }

plain_told : (left mid : Option (List Row)) (t : ℕ × List ℕ) → TakesTitle SCRIPT left mid t.0 t.1 → Reads plain_title left mid (t.0, title_at t.1) × (IsVersion SCRIPT.latest t.0 × IsTitle t.0 (title_at t.1))
plain_told left mid t h = title_reads SCRIPT title_numbers IsTitle title_table left mid t.0 (title_at t.1) t.1 h (refl, (refl, (refl, (refl, tt))))

-- with enough submitters
pub title_told : (left mid : Option (List Row)) (t : ℕ × List ℕ) → TakesTitle SCRIPT left mid t.0 t.1 → get_or t.1 3 0 ≤ get_or t.1 5 0 → Reads script_title_part left mid (t.0, title_at t.1) × IsTitle t.0 (title_at t.1)
title_told left mid t h e = let p = plain_told left mid t h in (enough left mid p.0, p.1.1)
  where
    enough : (left mid : Option (List Row)) → Reads plain_title left mid (t.0, title_at t.1) → Reads script_title_part left mid (t.0, title_at t.1)
    enough None mid r = tt
    enough (Some rows) mid r = (r.0, r.1, record { fits = (r.2.fits, e); made = r.2.made; follows = tt })

pub setup_table : (depth hw : ℕ) → (0 < depth) × (depth ≤ MAX_DEPTH) → (0 < hw) × (hw ≤ MAX_QUEUES) → IsTable setup_cells (FitsSetup depth hw)
setup_table depth hw d q = record {
  sized = (omega arith, (omega arith, (omega arith, (omega arith, (tt, tt)))));
  within = λ s f. (
      let h = f.2 in (
        (omega arith, omega (arith, h.is_setup.read_in)),
        (
          (omega arith, omega (arith, h.is_setup.write_in)),
          ((omega (arith, h.is_limits.some_sectors), h.is_limits.few_sectors), ((omega (arith, h.is_limits.some_segments), h.is_limits.few_segments), (tt, tt))),
        ),
      )
      );
  made = λ x. record { depth = depth; hw = hw; read_expire = x.0; write_expire = x.1.0; limits = record { max_sectors = x.1.1.0; max_segments = x.1.1.1.0 } };
  back = λ s f. (λ i. record { depth = sym f.0 i; hw = sym f.1 i; read_expire = s.read_expire; write_expire = s.write_expire; limits = s.limits });
  forth = λ x. refl;
  fits = λ x f. (
      let read = f.0.1 in
      let write = f.1.0.1 in
      let sectors = f.1.1.0.0 in
      let segments = f.1.1.1.0.0 in (
        refl,
        refl,
        record {
          is_setup = record { some_tags = d.0; few_tags = omega (arith, d.1); some_queues = q.0; few_queues = omega (arith, q.1); read_in = omega (arith, read); write_in = omega (arith, write) };
          is_limits = record { some_sectors = omega (arith, sectors); few_sectors = f.1.1.0.1; some_segments = omega (arith, segments); few_segments = f.1.1.1.0.1 };
        },
      )
      );
}

-- the setup of the numbers of a record
abbrev pub setup_with : ℕ → ℕ → List ℕ → Setup
setup_with depth hw ns = record { depth = depth; hw = hw; read_expire = get_or ns 1 0; write_expire = get_or ns 2 0; limits = record { max_sectors = get_or ns 3 0; max_segments = get_or ns 4 0 } }

pub setup_fits : (depth hw : ℕ) (ns : List ℕ) (l : Limits) (s : Setup) → l ≡ record { max_sectors = get_or ns 3 0; max_segments = get_or ns 4 0 } → s ≡ setup_with depth hw ns → IsSetup s → IsLimits l
    → FitsSetup depth hw (setup_with depth hw ns)
setup_fits depth hw ns l s e f i k = (refl, refl, record { is_setup = subst IsSetup f i; is_limits = subst IsLimits e k })

pub setup_one : (depth hw : ℕ) → (0 < depth) × (depth ≤ MAX_DEPTH) → (0 < hw) × (hw ≤ MAX_QUEUES) → IsOne (setup depth hw)
setup_one depth hw d q = one_record why.Word (word_tells (codes "setup") (setup_table depth hw d q))

-- whole scripts

-- the depth of a title is one of a setup
pub setup_depth : (t : ℕ × Title) → IsTitle t.0 t.1 → (0 < t.1.depth) × (t.1.depth ≤ MAX_DEPTH)
setup_depth t i = let high = i.depth.1 in (i.depth.0, omega (arith, high, fewer_tags t.0))

steps_tell : (t : ℕ × Title) → IsTitle t.0 t.1 → Tells (items_of (repeats.AtMost MAX_STEPS) (λ _. step t.0 t.1.hw t.1.submitters))
steps_tell t i = each_tells (step_one t.0 t.1.hw t.1.submitters i.hw.1 i.submitters.1) (repeats.AtMost MAX_STEPS)

pub body_tells : (t : ℕ × Title) → IsTitle t.0 t.1 → Tells (script_body t)
body_tells t i = then_tells (setup_one t.1.depth t.1.hw (setup_depth t i) i.hw).tells (λ s fit. steps_tell t i)

script_tells : Tells script_form
script_tells = then_tells script_title_tells (λ t fit. body_tells t fit.0.1)

same_script : (s t : Scripted) → s.setup ≡ t.setup → s.soft_depth ≡ t.soft_depth → s.submitters ≡ t.submitters → s.lines ≡ t.lines → s ≡ t
same_script s t a b c d i = record { setup = a i; soft_depth = b i; submitters = c i; lines = d i }

pub spelled_once : (rows : List Row) (version other : ℕ) (s t : Scripted) → SpellsVersion version rows s → SpellsVersion other rows t → (version ≡ other) × (s ≡ t)
spelled_once rows version other s t p q =
    let e = (once script_tells rows (script_value version s) (script_value other t) [] [] p q).0 in
    ((λ i. (e i).0.0), same_script s t (λ i. (e i).1.0) (λ i. (e i).0.1.soft_depth) (λ i. (e i).0.1.submitters) (λ i. (e i).1.1))

pub spelled_apart : (rows : List Row) (s : Scripted) (at : ℕ) (w : TextReason) → SpellsScript rows s → ScriptFault rows at w → ⊥
spelled_apart rows s at w p = never_both script_tells rows (script_value p.0 s) [] at w p.1

pub fault_once : (rows : List Row) (at other : ℕ) (w v : TextReason) → ScriptFault rows at w → ScriptFault rows other v → (at ≡ other) × (w ≡ v)
fault_once = first script_tells

steps_fit : (version hw submitters : ℕ) (lines : List Line) → All (IsLineOf version) lines → All (LineFits hw submitters) lines → All (step version hw submitters).Fits lines
steps_fit version hw submitters lines v h = λ k d l. step_fits version hw submitters _ (v k d l) (h k d l)

title_in : (version : ℕ) (s : Scripted) → IsScript s → IsScriptOf version s → IsTitle version (title_of s)
title_in version s h v = record { depth = (h.title.depth.0, v.tags); hw = h.title.hw; soft_depth = h.title.soft_depth; submitters = h.title.submitters }

-- the records of a script spell it
pub rows_spell : (version : ℕ) (s : Scripted) → IsScript s → IsScriptOf version s → SpellsVersion version (script_rows version s) s
rows_spell version s h v = begins_itself script_form (script_value version s) (
  ((v.is_version, title_in version s h v), h.enough),
  ((refl, refl, h.setup), ((all_fit (step version s.setup.hw s.submitters) [] s.lines (steps_fit version s.setup.hw s.submitters s.lines v.steps h.lines), h.short), tt)),
)
    (tt, (tt, (inr refl, refl)))

step_back : (version hw submitters : ℕ) (l : Line) → map read_back ((step version hw submitters).rows_of l) ≡ (step version hw submitters).rows_of l
step_back version hw submitters (line.Bio b) = refl
step_back version hw submitters l = refl

pub read_back_is : (version : ℕ) (s : Scripted) → IsScript s → IsScriptOf version s → SpellsVersion version (records default_config (strip_bom (rows_text (script_rows version s)))) s
unfolding rows_text
read_back_is version s h v = rw (text_back (script_rows version s) _ refl (rw (parts_back (step version s.setup.hw s.submitters) (step_back version s.setup.hw s.submitters) s.lines) refl)) (rows_spell version s h v)

-- reading

-- the title of a script that was read
title_is : (t : Title) (s : Setup) (lines : List Line) → FitsSetup t.depth t.hw s → title_of (record { setup = s; soft_depth = t.soft_depth; submitters = t.submitters; lines = lines }) ≡ t
title_is t s lines f = λ i. record { depth = f.0 i; hw = f.1 i; soft_depth = t.soft_depth; submitters = t.submitters }

-- records that were taken for a title, a setup and steps spell them
script_spelled : (rows : List Row) (t : ℕ × Title) (s : Setup) (lines : List Line) → FitsSetup t.1.depth t.1.hw s → Spells script_form rows (t, (s, lines))
    → SpellsScript rows record { setup = s; soft_depth = t.1.soft_depth; submitters = t.1.submitters; lines = lines }
script_spelled rows t s lines f h =
    let same = title_is t.1 s lines f in
    (t.0, subst (λ v. Spells script_form rows v) (λ i. ((t.0, sym same i), (s, lines))) h)

pub spelled_or_wrong : (rows : List Row) → ((s : Scripted) × SpellsScript rows s) ⊎ ((at : ℕ) × (w : TextReason) × ScriptFault rows at w)
spelled_or_wrong rows = elim (decided script_tells rows) [
  | inl h ↦ (let f = h.2.fits in let t = h.0.0 in
      inl (record { setup = h.0.1.0; soft_depth = t.1.soft_depth; submitters = t.1.submitters; lines = h.0.1.1 }, script_spelled rows t h.0.1.0 h.0.1.1 f.1.0 (rw h.2.follows.1.1.1 at h.2)))
  | inr f ↦ inr f
]

latest_title : (version : ℕ) (t : Title) → IsTitle version t → IsTitle LATEST t
latest_title version t i = record { depth = (let high = i.depth.1 in (i.depth.0, omega (arith, high, fewer_tags version))); hw = i.hw; soft_depth = i.soft_depth; submitters = i.submitters }

pub script_in : (t : ℕ × Title) (s : Setup) (lines : List Line) → IsTitle t.0 t.1 → t.1.hw ≤ t.1.submitters → FitsSetup t.1.depth t.1.hw s → All (step t.0 t.1.hw t.1.submitters).Fits lines → length lines ≤ MAX_STEPS
    → IsScript record { setup = s; soft_depth = t.1.soft_depth; submitters = t.1.submitters; lines = lines }
script_in t s lines i enough f a short = record {
  title = subst (IsTitle LATEST) (sym (title_is t.1 s lines f)) (latest_title t.0 t.1 i);
  enough = (let hw = f.1 in omega (arith, enough, hw));
  setup = f.2;
  lines = subst (λ hw. All (LineFits hw t.1.submitters) lines) (sym f.1) (λ k d l. fits_step t.0 t.1.hw t.1.submitters i.hw.0 i.submitters.0 _ (a k d l));
  short = short;
}

pub script_read : (left mid after : Option (List Row)) (t : ℕ × Title) (s : Setup) (lines : List Line) → Reads script_title_part left mid t → Reads (setup t.1.depth t.1.hw) mid after s
    → IfSome after (λ rows. Begins (items_of (repeats.AtMost MAX_STEPS) (λ _. step t.0 t.1.hw t.1.submitters)) rows lines []) → FitsSetup t.1.depth t.1.hw s
    → IfSome left (λ rows. SpellsScript rows record { setup = s; soft_depth = t.1.soft_depth; submitters = t.1.submitters; lines = lines })
script_read None mid after t s lines h k a f = tt
script_read (Some rows) mid after t s lines h k a f =
    script_spelled rows t s lines f (then_reads script_title_part script_body (Some rows) mid t (s, lines) h
    (then_reads (setup t.1.depth t.1.hw) (λ s. items_of (repeats.AtMost MAX_STEPS) (λ _. step t.0 t.1.hw t.1.submitters)) mid after s lines k a))

-- where reading halts

title_lifts : (failed : Bool) (left : Option (List Row)) (at : ℕ) (w : TextReason) → Halts failed script_title_part left 0 at w → Halts failed script_form left 0 at w
title_lifts failed left at w h = first_halts failed script_title_part script_body left 0 at w (λ t fit. body_tells t fit.0.1) h

pub title_halts : (failed : Bool) (left : Option (List Row)) (at : ℕ) (w : TextReason) → at ≡ 1 → StopsAtTitle SCRIPT failed left w → Halts failed script_form left 0 at w
title_halts failed None at w e h = tt
title_halts failed (Some rows) at w e h = title_lifts failed (Some rows) at w (
  1,
  e,
  at_first script_title_part script_title_tells rows,
  elim h [
    | inl o ↦ inl o
    | inr f ↦ inr (inl (refl, f))
  ],
)

-- with too few submitters
pub few_halts : (failed : Bool) (left mid : Option (List Row)) (t : ℕ × List ℕ) (at : ℕ) (w : TextReason) → at ≡ 1 → w ≡ why.Range → TakesTitle SCRIPT left mid t.0 t.1 → get_or t.1 5 0 < get_or t.1 3 0 → Halts failed script_form left 0 at w
few_halts failed None mid t at w e r h l = tt
few_halts failed (Some rows) mid t at w e r h l =
    let p = (plain_told (Some rows) mid t h).0 in
    title_lifts failed (Some rows) at w (1, e, at_first script_title_part script_title_tells rows, inr (inr ((t.0, title_at t.1), p.0, p.2, (refl, r, l))))

pub setup_halts : (failed : Bool) (left mid : Option (List Row)) (t : ℕ × Title) (middle at : ℕ) (w : TextReason) → middle ≡ 1 → IsTitle t.0 t.1 → Reads script_title_part left mid t → Halts failed (setup t.1.depth t.1.hw) mid middle at w → Halts failed script_form left 0 at w
setup_halts failed left mid t middle at w e i r h =
    second_halts failed script_title_part script_body left mid t 0 middle at w script_title_tells r (omega (arith, e))
    (first_halts failed (setup t.1.depth t.1.hw) (λ s. items_of (repeats.AtMost MAX_STEPS) (λ _. step t.0 t.1.hw t.1.submitters)) mid middle at w (λ s fit. steps_tell t i) h)

pub steps_halt : (failed : Bool) (left mid after : Option (List Row)) (t : ℕ × Title) (s : Setup) (middle start at : ℕ) (w : TextReason) → middle ≡ 1 → start ≡ 2 → IsTitle t.0 t.1 → Reads script_title_part left mid t → Reads (setup t.1.depth t.1.hw) mid after s
    → Halts failed (items_of (repeats.AtMost MAX_STEPS) (λ _. step t.0 t.1.hw t.1.submitters)) after start at w → Halts failed script_form left 0 at w
steps_halt failed left mid after t s middle start at w e f i r k h =
    second_halts failed script_title_part script_body left mid t 0 middle at w script_title_tells r (omega (arith, e))
    (second_halts failed (setup t.1.depth t.1.hw) (λ s. items_of (repeats.AtMost MAX_STEPS) (λ _. step t.0 t.1.hw t.1.submitters)) mid after s middle start at w (setup_one t.1.depth t.1.hw (setup_depth t i) i.hw).tells k (omega (arith, e, f)) h)
