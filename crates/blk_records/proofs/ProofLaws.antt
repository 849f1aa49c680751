-- The laws of certificates of either form.
use Rattle.std.proofs.Common.{◌≡◌, ◌==◌, ◌∙◌, ℕ, List, [], ◌∷◌, length, Option, Some, None, refl, sym, ap, subst, inl, inr, arith, get_or, codes}
use Rattle.std.specs.Prelude.{IfSome, ◌⊎◌, Bool, if◌then◌else◌}
use Rattle.blk_records.specs.Sources.{Row}
use Rattle.blk_records.specs.Words.{StartsWith, NextStarts}
use Rattle.blk_records.specs.Reads.{Reads, Halts, IsOne}
use Rattle.blk_records.specs.Certificate.{Claim, certificate_title_part, claim_body, SpellsClaim}
use Rattle.blk_records.specs.OnTime.{OnTimeClaim, on_time_title, on_time_body, SpellsOnTime}
use Rattle.blk_records.specs.Proof.{ProofClaim, OfLateness, OfOnTime, proof_name, Shown, form_of, StartsAs, IsProofNameFault, proof_form, SpellsProof, ProofFault}
use Rattle.blk_records.specs.Inside.Proof.{kind_title, proof_title}
use Rattle.blk_records.specs.declared.certificate.TheConstants.{CERTIFICATE}
use Rattle.blk_records.specs.declared.on_time.TheConstants.{ON_TIME}
use Rattle.blk_records.specs.declared.proof.ProofKind.{ProofKind}
use Rattle.blk_records.specs.declared.proof.ProofKind.TheVariants as kind
use Rattle.blk_records.specs.declared.fault.TextReason.{TextReason}
use Rattle.blk_records.specs.declared.fault.TextReason.TheVariants as why
use Rattle.text_grammar.specs.Parts.{Begins, GetsTo}
use Rattle.text_grammar.specs.Laws.{Tells}
use Rattle.text_grammar.proofs.Then.{apart, reached_first, by_word_tells, kind_reached, kinds_reached}
use Rattle.blk_records.proofs.Lacking.{word_decided}
use Rattle.blk_records.proofs.TableLaws.{next_starts, next_same}
use Rattle.blk_records.proofs.TitleLaws.{is_certificate_title, is_on_time_title, title_tells}
use Rattle.blk_records.proofs.ClaimLaws as claim
use Rattle.blk_records.proofs.OnTimeLaws as on_time_laws

-- the names

-- the kind of a name, whatever stands there
abbrev kind_at : List ℕ → ProofKind
kind_at f = if get_or f 4 0 == 99 then kind.Lateness else kind.OnTime

kind_is : (k : ProofKind) → kind_at (proof_name k) ≡ k
kind_is kind.Lateness = refl
kind_is kind.OnTime = refl

pub one_name : (j k : ProofKind) (rows : List Row) → StartsAs j rows → StartsAs k rows → j ≡ k
one_name j k rows s t = sym (kind_is j) ∙ ap kind_at (next_same (proof_name j) (proof_name k) rows s t) ∙ kind_is k

pub titles_start : (k : ProofKind) (rows : List Row) (v : ℕ × (ℕ × ℕ)) (a : List Row) → Begins (kind_title k) rows v a → StartsAs k rows
titles_start kind.Lateness rows v a h = next_starts CERTIFICATE.word _ rows a h.made
titles_start kind.OnTime rows v a h = next_starts ON_TIME.word _ rows a h.made

titles_tell : (k : ProofKind) → Tells (kind_title k)
titles_tell kind.Lateness = title_tells is_certificate_title
titles_tell kind.OnTime = title_tells is_on_time_title

forms_start : (k : ProofKind) (rows : List Row) (v : Shown k) (a : List Row) → Begins (form_of k) rows v a → StartsAs k rows
forms_start kind.Lateness rows v a h = next_starts (codes "blk-certificate") _ rows _ h.made
forms_start kind.OnTime rows v a h = next_starts (codes "blk-met") _ rows _ h.made

neither : (row : Row) (rows : List Row) → ¬ StartsWith (codes "blk-certificate") row → ¬ StartsWith (codes "blk-met") row → (k : ProofKind) → ¬ StartsAs k (row ∷ rows)
neither row rows n m kind.Lateness s = n s
neither row rows n m kind.OnTime s = m s

name_found : (rows : List Row) → ((k : ProofKind) × StartsAs k rows) ⊎ (((k : ProofKind) → ¬ StartsAs k rows) × ((w : TextReason) × IsProofNameFault rows w))
name_found [] = inr ((λ k s. s), (why.Title, refl))
name_found (row ∷ rows) = elim (word_decided (codes "blk-certificate") row) [
  | inl s ↦ inl (kind.Lateness, s)
  | inr n ↦ elim (word_decided (codes "blk-met") row) [
    | inl s ↦ inl (kind.OnTime, s)
    | inr m ↦ inr (neither row rows n m, (why.Title, refl))
  ]
]

-- titles

follows : (k : ProofKind) (t : ℕ × (ℕ × ℕ)) (rest : List Row) → (kind_title k).Follows t rest
follows kind.Lateness t rest = tt
follows kind.OnTime t rest = tt

one_row : (k : ProofKind) (t : ℕ × (ℕ × ℕ)) → length ((kind_title k).rows_of t) ≡ 1
one_row kind.Lateness t = refl
one_row kind.OnTime t = refl

pub title_one : IsOne proof_title
title_one = record {
  tells = by_word_tells (λ _. ℕ × (ℕ × ℕ)) StartsAs kind_title IsProofNameFault (λ k rows s. (titles_tell k).told rows) one_name titles_start (λ rows w x a b. a ∙ sym b) name_found;
  plain = λ t rest fit. follows t.0 t.1 rest;
  one = λ t. one_row t.0 t.1;
}

pub title_gone : proof_title.Wrong [] 1 why.Title
title_gone = inr (refl, (λ k s. s), refl)

-- both forms

forms_tell : (k : ProofKind) → Tells (form_of k)
forms_tell kind.Lateness = claim.claim_tells
forms_tell kind.OnTime = on_time_laws.on_time_tells

pub proof_tells : Tells proof_form
proof_tells = by_word_tells Shown StartsAs form_of IsProofNameFault (λ k rows s. (forms_tell k).told rows) one_name forms_start (λ rows w x a b. a ∙ sym b) name_found

-- what is wrong with the records of a kind is wrong
pub wrong_of : (k : ProofKind) (rows : List Row) (at : ℕ) (w : TextReason) → StartsAs k rows → (form_of k).Wrong rows at w → ProofFault rows at w
wrong_of k rows at w s f = inl (k, s, f)

pub of_wrong : (k : ProofKind) (rows : List Row) (at : ℕ) (w : TextReason) → StartsAs k rows → ProofFault rows at w → (form_of k).Wrong rows at w
of_wrong k rows at w s (inl f) = subst (λ z. (form_of z).Wrong rows at w) (one_name f.0 k rows f.1 s) f.2
of_wrong k rows at w s (inr f) = absurd (f.1 k s)

pub unnamed_wrong : (rows : List Row) → ((k : ProofKind) → ¬ StartsAs k rows) → ProofFault rows 1 why.Title
unnamed_wrong rows n = inr (refl, n, refl)

unnamed : (rows : List Row) → ¬ NextStarts (codes "blk-certificate") rows → ¬ NextStarts (codes "blk-met") rows → (k : ProofKind) → ¬ StartsAs k rows
unnamed rows n m kind.Lateness s = n s
unnamed rows n m kind.OnTime s = m s

pub neither_wrong : (rows : List Row) → ¬ NextStarts (codes "blk-certificate") rows → ¬ NextStarts (codes "blk-met") rows → ProofFault rows 1 why.Title
neither_wrong rows n m = unnamed_wrong rows (unnamed rows n m)

pub claim_named : (rows : List Row) (c : Claim) → SpellsClaim rows c → NextStarts (codes "blk-certificate") rows
claim_named rows c s = next_starts (codes "blk-certificate") _ rows _ s.1.made

pub on_time_named : (rows : List Row) (c : OnTimeClaim) → SpellsOnTime rows c → NextStarts (codes "blk-met") rows
on_time_named rows c s = next_starts (codes "blk-met") _ rows _ s.1.made

pub spelled_or_wrong : (rows : List Row) → ((c : ProofClaim) × SpellsProof rows c) ⊎ ((at : ℕ) × (w : TextReason) × ProofFault rows at w)
spelled_or_wrong rows = elim (name_found rows) [
  | inl s ↦ of_kind s.0 s.1
  | inr n ↦ inr (1, why.Title, unnamed_wrong rows n.0)
]
  where
    of_kind : (k : ProofKind) → StartsAs k rows → ((c : ProofClaim) × SpellsProof rows c) ⊎ ((at : ℕ) × (w : TextReason) × ProofFault rows at w)
    of_kind kind.Lateness s = elim (claim.spelled_or_wrong rows) [
      | inl c ↦ inl (OfLateness c.0, c.1)
      | inr f ↦ inr (f.0, f.1, wrong_of kind.Lateness rows f.0 f.1 s f.2)
    ]
    of_kind kind.OnTime s = elim (on_time_laws.spelled_or_wrong rows) [
      | inl c ↦ inl (OfOnTime c.0, c.1)
      | inr f ↦ inr (f.0, f.1, wrong_of kind.OnTime rows f.0 f.1 s f.2)
    ]

pub spelled_apart : (rows : List Row) (c : ProofClaim) (at : ℕ) (w : TextReason) → SpellsProof rows c → ProofFault rows at w → ⊥
spelled_apart rows (OfLateness c) at w s f = apart claim.claim_tells rows _ _ at w s.1 (of_wrong kind.Lateness rows at w (claim_named rows c s) f)
spelled_apart rows (OfOnTime c) at w s f = apart on_time_laws.on_time_tells rows _ _ at w s.1 (of_wrong kind.OnTime rows at w (on_time_named rows c s) f)

two_names : (rows : List Row) → NextStarts (codes "blk-certificate") rows → NextStarts (codes "blk-met") rows → ⊥
two_names rows s t = let e = one_name kind.Lateness kind.OnTime rows s t in cc e

pub spelled_once : (rows : List Row) (c d : ProofClaim) → SpellsProof rows c → SpellsProof rows d → c ≡ d
spelled_once rows (OfLateness c) (OfLateness d) s t = ap (λ z. OfLateness z) (claim.spelled_once rows c d s t)
spelled_once rows (OfLateness c) (OfOnTime d) s t = absurd (two_names rows (claim_named rows c s) (on_time_named rows d t))
spelled_once rows (OfOnTime c) (OfLateness d) s t = absurd (two_names rows (claim_named rows d t) (on_time_named rows c s))
spelled_once rows (OfOnTime c) (OfOnTime d) s t = ap (λ z. OfOnTime z) (on_time_laws.spelled_once rows c d s t)

-- reading

-- a title of either kind, as one of its own
pub title_reads : (left mid : Option (List Row)) (k : ProofKind) (t : ℕ × (ℕ × ℕ)) → Reads proof_title left mid (k, t) → Reads (kind_title k) left mid t
title_reads None mid k t h = tt
title_reads (Some rows) mid k t h = (h.0, h.1, record { fits = h.2.fits; made = h.2.made; follows = follows k t h.0 })

named : (left mid : Option (List Row)) (k : ProofKind) (t : ℕ × (ℕ × ℕ)) → Reads (kind_title k) left mid t → IfSome left (StartsAs k)
named None mid k t h = tt
named (Some rows) mid k t h = titles_start k rows t h.0 h.2

-- where reading halts

title_lifts : (k : ProofKind) (rows : List Row) (at : ℕ) → GetsTo (kind_title k) rows at → GetsTo (form_of k) rows at
title_lifts kind.Lateness rows at r = reached_first certificate_title_part (λ t. claim_body t.1.1) (λ t fit. claim.body_tells t.1.1) rows at r
title_lifts kind.OnTime rows at r = reached_first on_time_title (λ t. on_time_body t.1.1) (λ t fit. on_time_laws.body_tells t.1.1) rows at r

wrong_lifts : (k : ProofKind) (rows : List Row) (at : ℕ) (w : TextReason) → (kind_title k).Wrong rows at w → (form_of k).Wrong rows at w
wrong_lifts kind.Lateness rows at w f = inl f
wrong_lifts kind.OnTime rows at w f = inl f

fault_lifts : (rows : List Row) (at : ℕ) (w : TextReason) → proof_title.Wrong rows at w → proof_form.Wrong rows at w
fault_lifts rows at w (inl f) = inl (f.0, f.1, wrong_lifts f.0 rows at w f.2)
fault_lifts rows at w (inr f) = inr f

pub title_halts : (failed : Bool) (left : Option (List Row)) (start at : ℕ) (w : TextReason) → start ≡ 0 → Halts failed proof_title left start at w → Halts failed proof_form left 0 at w
title_halts failed None start at w e h = tt
title_halts failed (Some rows) start at w e h = (
  h.0,
  (let is = h.1 in omega (arith, is, e)),
  kinds_reached (λ _. ℕ × (ℕ × ℕ)) Shown StartsAs kind_title form_of IsProofNameFault forms_start title_lifts rows h.0 h.2,
  elim h.3 [
    | inl o ↦ inl o
    | inr f ↦ inr (fault_lifts rows h.0 w f)
  ],
)

kind_halts : (failed : Bool) (left : Option (List Row)) (k : ProofKind) (start at : ℕ) (w : TextReason) → IfSome left (StartsAs k) → Halts failed (form_of k) left start at w → Halts failed proof_form left start at w
kind_halts failed None k start at w s h = tt
kind_halts failed (Some rows) k start at w s h = (
  h.0,
  h.1,
  kind_reached Shown StartsAs form_of IsProofNameFault one_name forms_start k rows h.0 s h.2,
  elim h.3 [
    | inl o ↦ inl o
    | inr f ↦ inr (wrong_of k rows h.0 w s f)
  ],
)

pub lateness_halts : (failed : Bool) (left mid : Option (List Row)) (k : ProofKind) (t : ℕ × (ℕ × ℕ)) (at : ℕ) (w : TextReason) → k ≡ kind.Lateness → Reads proof_title left mid (k, t) → Halts failed (claim_body t.1.1) mid 1 at w
    → Halts failed proof_form left 0 at w
lateness_halts failed left mid k t at w e r h =
    let own = title_reads left mid kind.Lateness t (rw e at r) in
    kind_halts failed left kind.Lateness 0 at w (named left mid kind.Lateness t own) (claim.body_halts failed left mid t at w own h)

pub on_time_halts : (failed : Bool) (left mid : Option (List Row)) (k : ProofKind) (t : ℕ × (ℕ × ℕ)) (at : ℕ) (w : TextReason) → k ≡ kind.OnTime → Reads proof_title left mid (k, t) → Halts failed (on_time_body t.1.1) mid 1 at w
    → Halts failed proof_form left 0 at w
on_time_halts failed left mid k t at w e r h =
    let own = title_reads left mid kind.OnTime t (rw e at r) in
    kind_halts failed left kind.OnTime 0 at w (named left mid kind.OnTime t own) (on_time_laws.body_halts failed left mid t at w own h)
