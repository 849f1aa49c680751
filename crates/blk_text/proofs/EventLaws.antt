-- The laws of the events of a trace, and of whole traces.
use Rattle.std.proofs.Common.{◌≡◌, ◌+◌, ◌<◌, ◌≤◌, ◌∙◌, ℕ, List, [], ◌∷◌, length, refl, sym, ap, subst, inl, inr, arith, get_or, Bool, true, false, Option, Some, None}
use Rattle.std.specs.Prelude.{◌⊎◌, IfSome, unwrap_or}
use Rattle.blk_bio.specs.Bios.{Bio}
use Rattle.blk_bio.specs.Limits.{Limits}
use Rattle.blk_trace.specs.Happened.{Happened}
use Rattle.blk_trace.specs.declared.event.Event.TheVariants.{Tick, Release, Join}
use Rattle.blk_trace.specs.Kinds.{bare}
use Rattle.blk_trace.specs.Rules.{IsFirstBroken, BreaksNoRule, rank}
use Rattle.blk_bio.specs.declared.rule.TraceRule.{TraceRule}
use Rattle.edd_commands.specs.declared.steps.TheConstants.{MAX_DEPTH}
use Rattle.blk_trace.specs.Setups.{Setup}
use Rattle.blk_trace.specs.Traces.{Traced, extended}
use Rattle.blk_records.specs.Sources.{Row, TakesRecord}
use Rattle.blk_records.specs.Reads.{Gathers, IsRowOf, IsWrongRecord, Reads, HandReads, HandFails, Fails, AreGathered, IsStopped, repeated, size_of, with_next}
use Rattle.blk_text.specs.SetupRecord.{setup}
use Rattle.blk_records.specs.Tables.{FitsCells}
use Rattle.blk_records.specs.Titles.{IsVersion, title_cells, TakesTitle}
use Rattle.blk_text.specs.TraceForm.{first_record, bios_after, group, event_told, plain_event, BreaksRule, event, alone, one_more, events_of, TraceTitle, trace_numbers, IsTraceTitle, trace_title_part, trace_body, trace_form}
use Rattle.blk_text.specs.Inside.TraceForm.{IsPast}
use Rattle.blk_records.specs.declared.fault.TextReason.{TextReason}
use Rattle.blk_records.specs.declared.fault.TextReason.TheVariants as why
use Rattle.blk_text.specs.TraceForm.{Head}
use Rattle.blk_trace.specs.declared.event.Event.TheVariants as head
use Rattle.blk_text.specs.declared.heads.TheConstants.{TRACE}
use Rattle.text_grammar.specs.declared.Repeats.TheVariants as repeats
use Rattle.text_grammar.specs.Parts.{Part, Begins}
use Rattle.text_grammar.specs.Parts.{then as in_turn}
use Rattle.text_grammar.specs.Laws.{Tells}
use Rattle.text_grammar.specs.Inside.Laws.{IsItem}
use Rattle.text_grammar.proofs.Then.{seen_tells, then_tells, tested_tells, both_begin}
use Rattle.text_grammar.proofs.Many.{ended_tells}
use Rattle.blk_records.proofs.Reading.{many_fails, many_ends, full_ends, past_wrong, full_stopped}
use Rattle.blk_records.proofs.TitleLaws.{IsTitleTable, title_tells, title_reads}
use Rattle.blk_text.proofs.ScriptLaws.{fewer_tags, tags_are, setup_one}
use Rattle.blk_text.proofs.HeadLaws.{head_tells, head_gone}
use Rattle.blk_text.proofs.GroupLaws.{group_tells, group_size}
use Rattle.blk_text.proofs.RuleLaws.{rule_at, rule_is, unbroken_or_first}
use Rattle.blk_bio.specs.declared.limits.TheConstants.{MAX_SEGMENTS}

-- the event of a first record and bios
back : Head × List Bio → Happened
back (head.Release id count, bios) = Release id bios
back (head.Join id count, bios) = Join id bios
back (h, bios) = unwrap_or (bare h) Tick

back_is : (e : Happened) → back (event_told e) ≡ e
unfolding back
back_is Tick = refl
back_is e = refl

none : (bios : List Bio) → length bios ≡ 0 → [] ≡ bios
none [] e = refl
none (b ∷ bs) e = absurd (omega (arith, e))

-- the first record and the bios of an event
told_back : (h : Head) (bios : List Bio) → length bios ≡ bios_after h → event_told (back (h, bios)) ≡ (h, bios)
unfolding back
told_back (head.Release id count) bios e = ap (λ n. (head.Release id n, bios)) e
told_back (head.Join id count) bios e = ap (λ n. (head.Join id n, bios)) e
told_back h bios e = ap (λ l. (h, l)) (none bios e)

pub plain_tells : (version : ℕ) (limits : Limits) → Tells (plain_event version limits)
plain_tells version limits = seen_tells event_told (λ e f same. sym (back_is e) ∙ ap back same ∙ back_is f) (λ v f. (back v, told_back v.0 v.1 f.1.1))
    (then_tells {q = λ h. group version limits (bios_after h)} (head_tells version) (λ h fit. group_tells version limits (bios_after h)))

-- rules

three : (a b : ℕ) → (a < b) ⊎ (a ≡ b) ⊎ (b < a)
three a b = grind arith

one_rule : (setup : Setup) (before : List Happened) (e : Happened) (r s : TraceRule) → IsFirstBroken setup before e r → IsFirstBroken setup before e s → r ≡ s
one_rule setup before e r s f g = by_cases (three (rank r) (rank s))
  where
    by_cases : (rank r < rank s) ⊎ (rank r ≡ rank s) ⊎ (rank s < rank r) → r ≡ s
    by_cases (inl l) = absurd (f.broken (g.first r l))
    by_cases (inr (inl same)) = sym (rule_is r) ∙ ap rule_at same ∙ rule_is s
    by_cases (inr (inr l)) = absurd (g.broken (f.first s l))

breaks_once : (setup : Setup) (before : List Happened) (e : Happened) (k j : ℕ) (w x : TextReason) → BreaksRule setup before e k w → BreaksRule setup before e j x → (k ≡ j) × (w ≡ x)
breaks_once setup before e k j w x f g = (f.0 ∙ sym g.0, f.1.1 ∙ ap why.Rule (one_rule setup before e f.1.0 g.1.0 f.1.2 g.1.2) ∙ sym g.1.1)

broken_or_not : (setup : Setup) (before : List Happened) (e : Happened) → BreaksNoRule setup before e ⊎ ((k : ℕ) × (w : TextReason) × BreaksRule setup before e k w)
broken_or_not setup before e = elim (unbroken_or_first setup before e) [
  | inl u ↦ inl u
  | inr b ↦ inr (1, why.Rule b.0, (refl, (b.0, refl, b.1)))
]

pub event_item : (version : ℕ) (setup : Setup) (before : List Happened) → IsItem (event version setup before)
event_item version setup before = record {
  tells = tested_tells (BreaksNoRule setup before) (BreaksRule setup before) (plain_tells version setup.limits)
      (λ e k j w x fit f g. breaks_once setup before e k j w x f g)
      (λ e k w good f. f.1.2.broken (good f.1.0))
      (λ e k w f. (let is = f.0 in (omega (arith, is), omega (arith, is)))) (λ e fit. broken_or_not setup before e);
  plain = λ e rest fit. (tt, fit.0.1.1);
  some = λ e fit z. (cc z);
}

-- one event more

some_same : (a b : Happened) → Some a ≡ Some b → a ≡ b
some_same a b e = cc e

alone_good : (setup : Setup) (before : List Happened) (o : Option Happened) (e : Happened) → IfSome o (BreaksNoRule setup before) → o ≡ Some e → BreaksNoRule setup before e
alone_good setup before o e good is = rw is at good

pub more_tells : (version : ℕ) (setup : Setup) (before : List Happened) → Tells (one_more version setup before)
more_tells version setup before =
    tested_tells (λ h. IfSome (alone h) (BreaksNoRule setup before)) (λ h k w. (e : Happened) × (alone h ≡ Some e) × BreaksRule setup before e k w) (head_tells version)
    (λ h k j w x fit f g. (let same = some_same f.0 g.0 (sym f.1 ∙ g.1) in breaks_once setup before g.0 k j w x (rw same at f.2) g.2))
    (λ h k w good f. f.2.1.2.broken (alone_good setup before (alone h) f.0 good f.1 f.2.1.0))
    (λ h k w f. (let is = f.2.0 in (omega (arith, is), omega (arith, is)))) (λ h fit. decided (alone h))
  where
    decided : (o : Option Happened) → IfSome o (BreaksNoRule setup before) ⊎ ((k : ℕ) × (w : TextReason) × ((e : Happened) × (o ≡ Some e) × BreaksRule setup before e k w))
    decided None = inl tt
    decided (Some e) = elim (broken_or_not setup before e) [
      | inl u ↦ inl u
      | inr b ↦ inr (b.0, b.1, (e, refl, b.2))
    ]

pub events_tell : (version : ℕ) (setup : Setup) (count : ℕ) → Tells (events_of version setup count)
events_tell version setup count = ended_tells (repeats.Exactly count) why.Count with_next (event_item version setup) (more_tells version setup) []

pub event_gone : (version : ℕ) (setup : Setup) (before : List Happened) → (event version setup before).Wrong [] 1 why.Count
event_gone version setup before = inl (inl (head_gone version))

-- whole traces

title_fits : (version : ℕ) (t : TraceTitle) → FitsCells (title_cells TRACE trace_numbers version) t → IsTraceTitle version t
title_fits version t f = record { depth = rw (tags_are version) at f.0; hw = f.1.0; count = f.1.1.0.1 }

title_table : IsTitleTable TRACE trace_numbers IsTraceTitle
title_table = record {
  latest = omega arith;
  slots = λ v. refl;
  table = λ v. record {
    sized = (omega (arith, fewer_tags v, tags_are v), (omega arith, (omega arith, (tt, tt))));
    within = λ t i. (rw (sym (tags_are v)) at i.depth, (i.hw, ((omega arith, i.count), (tt, tt))));
    made = λ x. record { depth = x.0; hw = x.1.0; count = x.1.1.0 };
    back = λ t i. refl;
    forth = λ x. refl;
    fits = λ x f. title_fits v _ f;
  };
  fits = title_fits;
}

pub trace_title_tells : Tells trace_title_part
trace_title_tells = title_tells title_table

-- the title that a record tells by its numbers
abbrev pub title_at : List ℕ → TraceTitle
title_at ns = record { depth = get_or ns 2 0; hw = get_or ns 3 0; count = get_or ns 4 0 }

pub title_told : (left mid : Option (List Row)) (t : ℕ × List ℕ) → TakesTitle TRACE left mid t.0 t.1 → Reads trace_title_part left mid (t.0, title_at t.1) × (IsVersion TRACE.latest t.0 × IsTraceTitle t.0 (title_at t.1))
title_told left mid t h = title_reads TRACE trace_numbers IsTraceTitle title_table left mid t.0 (title_at t.1) t.1 h (refl, (refl, (refl, (tt, tt))))

-- the depth of a title is one of a setup
pub setup_depth : (t : ℕ × TraceTitle) → IsTraceTitle t.0 t.1 → (0 < t.1.depth) × (t.1.depth ≤ MAX_DEPTH)
setup_depth t i = let high = i.depth.1 in (i.depth.0, omega (arith, high, fewer_tags t.0))

pub body_tells : (t : ℕ × TraceTitle) → IsTraceTitle t.0 t.1 → Tells (trace_body t)
body_tells t i = then_tells (setup_one t.1.depth t.1.hw (setup_depth t i) i.hw).tells (λ s fit. events_tell t.0 s t.1.count)

pub trace_tells : Tells trace_form
trace_tells = then_tells trace_title_tells (λ t fit. body_tells t fit.1)

-- what was read of an event

pub head_fails : (version : ℕ) (limits : Limits) (failed : Bool) (left : Option (List Row)) (row : Row) (start at : ℕ) (w : TextReason) → IsWrongRecord (first_record version) row w → at ≡ start
    → HandFails failed (plain_event version limits) left row start at w
head_fails version limits failed None row start at w h e = tt
head_fails version limits failed (Some rows) row start at w h e = inr (1, omega (arith, e), inl (h rows))

-- of one record
pub alone_line : (version : ℕ) (limits : Limits) (h : Head) (e : Happened) (row : Row) → alone h ≡ Some e → IsRowOf (first_record version) row h → IsRowOf (plain_event version limits) row e
alone_line version limits (head.Release id bios) e row is l = absurd (cc is)
alone_line version limits (head.Join id bios) e row is l = absurd (cc is)
alone_line version limits h e row is l = subst (λ z. IsRowOf (plain_event version limits) row z) (some_same _ _ is) (λ rest. record { fits = ((l rest).fits, (tt, refl)); made = (l rest).made; follows = (tt, refl) })

-- of a group: its first record and its bios
abbrev grouped : ℕ → Limits → Part Row TextReason (Head × List Bio)
grouped version limits = in_turn (first_record version) (λ h. group version limits (bios_after h))

group_begins : (version : ℕ) (limits : Limits) (h : Head) (bios : List Bio) (row : Row) (rows rest : List Row) → IsRowOf (first_record version) row h → Begins (group version limits (bios_after h)) rows bios rest
    → Begins (grouped version limits) (row ∷ rows) (h, bios) rest
group_begins version limits h bios row rows rest l b = both_begin (first_record version) (λ h. group version limits (bios_after h)) (row ∷ rows) rows h bios rest (l rows) b

pub release_reads : (version : ℕ) (limits : Limits) (id n : ℕ) (bios : List Bio) (left new : Option (List Row)) (row : Row) → length bios ≡ n → IsRowOf (first_record version) row (head.Release id n)
    → Reads (group version limits n) left new bios → HandReads (plain_event version limits) left row new (Release id bios)
release_reads version limits id n bios None new row e l b = tt
release_reads version limits id n bios (Some rows) new row e l b =
    let line : IsRowOf (first_record version) row (head.Release id (length bios)) = subst (λ m. IsRowOf (first_record version) row (head.Release id m)) (sym e) l in
    let bs : Begins (group version limits (length bios)) rows bios b.0 = subst (λ m. Begins (group version limits m) rows bios b.0) (sym e) b.2 in
    let k = group_begins version limits (head.Release id (length bios)) bios row rows b.0 line bs in
    (b.0, b.1, record { fits = k.fits; made = k.made; follows = k.follows })

pub join_reads : (version : ℕ) (limits : Limits) (id n : ℕ) (bios : List Bio) (left new : Option (List Row)) (row : Row) → length bios ≡ n → IsRowOf (first_record version) row (head.Join id n)
    → Reads (group version limits n) left new bios → HandReads (plain_event version limits) left row new (Join id bios)
join_reads version limits id n bios None new row e l b = tt
join_reads version limits id n bios (Some rows) new row e l b =
    let line : IsRowOf (first_record version) row (head.Join id (length bios)) = subst (λ m. IsRowOf (first_record version) row (head.Join id m)) (sym e) l in
    let bs : Begins (group version limits (length bios)) rows bios b.0 = subst (λ m. Begins (group version limits m) rows bios b.0) (sym e) b.2 in
    let k = group_begins version limits (head.Join id (length bios)) bios row rows b.0 line bs in
    (b.0, b.1, record { fits = k.fits; made = k.made; follows = k.follows })

pub release_fits : (version : ℕ) (limits : Limits) (id n : ℕ) (bios : List Bio) (row : Row) → IsRowOf (first_record version) row (head.Release id n) → (group version limits n).Fits bios → (plain_event version limits).Fits (Release id bios)
release_fits version limits id n bios row l f =
    let line : IsRowOf (first_record version) row (head.Release id (length bios)) = subst (λ m. IsRowOf (first_record version) row (head.Release id m)) (sym f.1) l in
    ((line []).fits, (f.0, refl))

pub join_fits : (version : ℕ) (limits : Limits) (id n : ℕ) (bios : List Bio) (row : Row) → IsRowOf (first_record version) row (head.Join id n) → (group version limits n).Fits bios → (plain_event version limits).Fits (Join id bios)
join_fits version limits id n bios row l f =
    let line : IsRowOf (first_record version) row (head.Join id (length bios)) = subst (λ m. IsRowOf (first_record version) row (head.Join id m)) (sym f.1) l in
    ((line []).fits, (f.0, refl))

pub release_size : (version : ℕ) (limits : Limits) (id : ℕ) (bios : List Bio) → length ((plain_event version limits).rows_of (Release id bios)) ≡ length bios + 1
release_size version limits id bios = let size = group_size version limits (length bios) bios in omega (arith, size)

pub join_size : (version : ℕ) (limits : Limits) (id : ℕ) (bios : List Bio) → length ((plain_event version limits).rows_of (Join id bios)) ≡ length bios + 1
join_size version limits id bios = let size = group_size version limits (length bios) bios in omega (arith, size)

-- where a group is wrong
pub group_fails : (version : ℕ) (limits : Limits) (h : Head) (failed : Bool) (left : Option (List Row)) (row : Row) (start middle at : ℕ) (w : TextReason) → middle ≡ start → IsRowOf (first_record version) row h
    → Fails failed (group version limits (bios_after h)) left middle at w → HandFails failed (plain_event version limits) left row start at w
group_fails version limits h failed None row start middle at w e l f = tt
group_fails version limits h failed (Some rows) row start middle at w e l f = elim f [
  | inl o ↦ inl o
  | inr k ↦ (let is = k.1 in inr (1 + k.0, omega (arith, is, e), inr (h, rows, k.0, l rows, refl, k.2)))
]

-- an event that breaks no rule, and one that breaks one

pub event_fails : (version : ℕ) (setup : Setup) (before : List Happened) (failed : Bool) (left : Option (List Row)) (row : Row) (start at : ℕ) (w : TextReason) → HandFails failed (plain_event version setup.limits) left row start at w
    → HandFails failed (event version setup before) left row start at w
event_fails version setup before failed None row start at w f = tt
event_fails version setup before failed (Some rows) row start at w f = elim f [
  | inl o ↦ inl o
  | inr k ↦ inr (k.0, k.1, inl k.2)
]

pub event_gathers : (version : ℕ) (setup : Setup) (old new : Traced) (left after : Option (List Row)) (row : Row) (e : Happened) (start at : ℕ) → old.setup ≡ setup → (new ≡ extended old e) × BreaksNoRule old.setup old.events e → (plain_event version setup.limits).Fits e
    → HandReads (plain_event version setup.limits) left row after e → at + 1 ≡ start + length ((plain_event version setup.limits).rows_of e)
    → (new.setup ≡ setup) × Gathers (event version setup) old.events new.events left row after start at
event_gathers version setup old new left after row e start at same pushed fits h end = let good : BreaksNoRule setup old.events e = rw same at pushed.1 in (
  ap (λ (t : Traced). t.setup) pushed.0 ∙ same,
  record {
    item = e;
    gathered = ap (λ (t : Traced). t.events) pushed.0;
    fits = (fits, good);
    read = reads left h good;
    end = end;
  },
)
  where
    reads : (left : Option (List Row)) → HandReads (plain_event version setup.limits) left row after e → BreaksNoRule setup old.events e → HandReads (event version setup old.events) left row after e
    reads None h good = tt
    reads (Some rows) h good = (h.0, h.1, record { fits = (h.2.fits, good); made = h.2.made; follows = h.2.follows })

pub rule_fails : (version : ℕ) (setup : Setup) (before : List Happened) (failed : Bool) (left new : Option (List Row)) (row : Row) (e : Happened) (start at : ℕ) (r : TraceRule) → HandReads (plain_event version setup.limits) left row new e
    → IsFirstBroken setup before e r → at ≡ start → HandFails failed (event version setup before) left row start at (why.Rule r)
rule_fails version setup before failed None new row e start at r h b is = tt
rule_fails version setup before failed (Some rows) new row e start at r h b is = inr (1, omega (arith, is), inr (e, h.0, h.2, (refl, (r, refl, b))))

-- a record after the last event

pub past_head : (version : ℕ) (setup : Setup) (before : List Happened) (row : Row) (w : TextReason) → IsWrongRecord (first_record version) row w → IsPast version setup before row w
past_head version setup before row w l = λ rest. ((λ z. (cc z)), inl (inl (l rest)))

pub past_group : (version : ℕ) (setup : Setup) (before : List Happened) (row : Row) (h : Head) → alone h ≡ None → IsRowOf (first_record version) row h → IsPast version setup before row why.Count
past_group version setup before row h n l = λ rest. ((λ z. (cc z)), inr (refl, refl, (h, rest, record { fits = ((l rest).fits, rw n tt); made = (l rest).made; follows = tt })))

pub past_event : (version : ℕ) (setup : Setup) (before : List Happened) (row : Row) (h : Head) (e : Happened) → alone h ≡ Some e → IsRowOf (first_record version) row h → BreaksNoRule setup before e → IsPast version setup before row why.Count
past_event version setup before row h e is l u = λ rest. ((λ z. (cc z)), inr (refl, refl, (h, rest, record { fits = ((l rest).fits, rw is u); made = (l rest).made; follows = tt })))

pub past_rule : (version : ℕ) (setup : Setup) (before : List Happened) (row : Row) (h : Head) (e : Happened) (r : TraceRule) → alone h ≡ Some e → IsRowOf (first_record version) row h → IsFirstBroken setup before e r
    → IsPast version setup before row (why.Rule r)
past_rule version setup before row h e r is l b = λ rest. ((λ z. (cc z)), inl (inr (h, rest, l rest, (e, is, (refl, (r, refl, b))))))

-- how many bios a first record announces
pub release_count : (version id n : ℕ) (row : Row) (h : Head) → h ≡ head.Release id n → IsRowOf (first_record version) row h → (1 ≤ n) × (n ≤ MAX_SEGMENTS)
release_count version id n row h e l = let line : IsRowOf (first_record version) row (head.Release id n) = subst (λ z. IsRowOf (first_record version) row z) e l in (line []).fits.1.1.0

pub join_count : (version id n : ℕ) (row : Row) (h : Head) → h ≡ head.Join id n → IsRowOf (first_record version) row h → (1 ≤ n) × (n ≤ MAX_SEGMENTS)
join_count version id n row h e l = let line : IsRowOf (first_record version) row (head.Join id n) = subst (λ z. IsRowOf (first_record version) row z) e l in (line []).fits.1.1.0

-- of all events, under a setup that is this one, from the third record on

pub gathered_at : (version count : ℕ) (s own : Setup) (left new : Option (List Row)) (start at : ℕ) (es : List Happened) → own ≡ s → start ≡ 2 → AreGathered (repeats.Exactly count) (event version own) left new start at es false
    → AreGathered (repeats.Exactly count) (event version s) left new 2 at es false
gathered_at version count s own left new start at es e is h = rw (e, is) at h

pub events_err : (version count : ℕ) (s own : Setup) (failed : Bool) (left : Option (List Row)) (start at : ℕ) (w : TextReason) → own ≡ s → start ≡ 2 → Fails failed (repeated (repeats.Exactly count) (event version own)) left start at w
    → Fails failed (events_of version s count) left 2 at w
events_err version count s own failed left start at w e is h = many_fails failed (event version s) (one_more version s) (repeats.Exactly count) left 2 at w (rw (e, is) at h)

pub stopped_at : (version count : ℕ) (s own : Setup) (left : Option (List Row)) (start at last : ℕ) → own ≡ s → start ≡ 2 → IsStopped (repeats.Exactly count) (event version own) left start MAX_SEGMENTS at last
    → IsStopped (repeats.Exactly count) (event version s) left 2 MAX_SEGMENTS at last
stopped_at version count s own left start at last e is h = rw (e, is) at h

pub past_stopped : (version count : ℕ) (s : Setup) (left mid : Option (List Row)) (es : List Happened) (at last : ℕ) → Reads (repeated (repeats.Exactly count) (event version s)) left mid es → length es ≡ count → at ≡ last → last ≡ 2 + size_of (event version s) es + 1
    → IsStopped (repeats.Exactly count) (event version s) left 2 MAX_SEGMENTS at last
past_stopped version count s left mid es at last h l e is = subst (λ z. IsStopped (repeats.Exactly count) (event version s) left 2 MAX_SEGMENTS z last) (sym e) (full_stopped (event version s) (repeats.Exactly count) left mid es 2 128 last h l is)

pub events_end : (version count : ℕ) (s : Setup) (left mid new : Option (List Row)) (es : List Happened) (row : Row) → Reads (repeated (repeats.Exactly count) (event version s)) left mid es → TakesRecord mid new row false
    → IfSome left (λ rows. Begins (events_of version s count) rows es [])
events_end version count s left mid new es row h t = many_ends (event version s) (one_more version s) (repeats.Exactly count) left es (full_ends (event version s) (repeats.Exactly count) left mid new es row h t)

pub events_past : (version count : ℕ) (s own : Setup) (failed : Bool) (left mid new : Option (List Row)) (es : List Happened) (row cells : Row) (at : ℕ) (w : TextReason) → own ≡ s → cells ≡ row → Reads (repeated (repeats.Exactly count) (event version s)) left mid es
    → TakesRecord mid new row true → at ≡ 2 + size_of (event version s) es + 1 → IsPast version own es cells w → Fails failed (events_of version s count) left 2 at w
events_past version count s own failed left mid new es row cells at w e r h t is p = past_wrong failed (event version s) (one_more version s) (repeats.Exactly count) left mid new es row (2) at w h t is (rw (e, r) at p)
