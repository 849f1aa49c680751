-- The laws of the text of a trace.
use Rattle.std.proofs.Common.{◌≡◌, ◌^◌, ◌+◌, ◌<◌, ◌≤◌, ◌∙◌, ℕ, zero, suc, List, [], ◌∷◌, ◌++◌, length, map, refl, sym, ap, subst, inl, inr, arith, append_assoc, append-nil, get_or, Option, Some, None, Bool}
use Rattle.std.specs.Prelude.{◌⊎◌, All, IfSome}
use Rattle.std.specs.List.{flat_map}
use Rattle.std.proofs.lemmas.List.{map-append, length-append}
use Rattle.std.proofs.lemmas.List.Sums.{sum_by-append}
use Rattle.std.proofs.lemmas.List.Elements.{All-nil}
use Rattle.std.proofs.Math.ListN.{get_or-append}
use Rattle.std.proofs.Math.Seq.{get_or-append_seam}
use Rattle.csv.specs.Reading.{default_config, records, strip_bom}
use Rattle.csv.specs.Writing.{read_back}
use Rattle.blk_bio.specs.Bios.{Bio, IsBio, end_of}
use Rattle.blk_bio.specs.Limits.{Limits}
use Rattle.blk_bio.specs.Requests.{IsRequest, IsWithin, last_of, sectors_of, joined}
use Rattle.blk_bio.specs.declared.request.Side.{Side}
use Rattle.blk_bio.specs.declared.request.Side.TheVariants as side
use Rattle.blk_bio.proofs.Tiles.{last_at, joins}
use Rattle.blk_trace.specs.Happened.{Happened}
use Rattle.blk_trace.specs.declared.event.Event.TheVariants.{Tick, Release, Join, Issue, Done, Back, Depth}
use Rattle.blk_trace.specs.Setups.{Setup}
use Rattle.blk_trace.specs.Traces.{Traced}
use Rattle.blk_trace.specs.declared.trace.Prepared.TheVariants.{Nothing}
use Rattle.blk_trace.specs.Events.{At, EntersRequest}
use Rattle.blk_trace.specs.Legal.{IsLegalTrace}
use Rattle.blk_trace.proofs.Ids.{by_legal}
use Rattle.blk_trace.proofs.Pushing.{empty_legal, push_legal}
use Rattle.blk_records.specs.Sources.{Row}
use Rattle.blk_records.specs.Texts.{rows_text}
use Rattle.blk_text.specs.Inside.BioTable.{bio_row}
use Rattle.blk_text.specs.SetupRecord.{setup_row, setup, FitsSetup, IsWholeSetup}
use Rattle.blk_records.specs.Reads.{IsOutside, Reads, Halts, Fails, AreItems, IsStopped, IsHeldAt, with_next, size_of}
use Rattle.blk_text.specs.Inside.TraceRecords.{head_row, event_rows, title_row}
use Rattle.blk_text.specs.TraceRecords.{BioFits, EventFits, IsTrace}
use Rattle.blk_text.specs.TraceForm.{Tiles, group_bio, plain_event, event, one_more, events_of, IsTraceTitle, trace_title_part, trace_body, trace_form, trace_value, trace_rows, said, event_told, IsEventOf, IsTraceOf, SpellsTraceIn, SpellsTrace, TraceTextFault, TraceTitle}
use Rattle.blk_text.specs.BioTable.{bio_cells}
use Rattle.blk_text.specs.EventKinds.{event_table}
use Rattle.blk_records.specs.Kinds.{RowStandsIn}
use Rattle.blk_records.specs.Tables.{FitsCells}
use Rattle.blk_text.specs.declared.setup.TheConstants.{LATEST}
use Rattle.blk_records.specs.declared.fault.TextReason.{TextReason}
use Rattle.blk_records.specs.declared.fault.TextReason.TheVariants as why
use Rattle.text_grammar.specs.declared.Repeats.TheVariants as repeats
use Rattle.text_grammar.specs.Parts.{Begins, AllFit, Spells, all_rows}
use Rattle.text_grammar.proofs.Many.{fit_more, ended_reached}
use Rattle.text_grammar.proofs.Then.{once, apart, first, decided, reached_second, at_first}
use Rattle.blk_records.proofs.Lists.{head_of, tail_of, all_cons}
use Rattle.blk_records.proofs.Reading.{after_all, first_halts, halts_err, second_fails, second_halts, then_reads}
use Rattle.blk_records.proofs.Texts.{text_back, begins_itself}
use Rattle.blk_text.proofs.ScriptLaws.{setup_one}
use Rattle.blk_text.proofs.HeadLaws.{said_in}
use Rattle.blk_text.proofs.EventLaws.{event_item, more_tells, trace_title_tells, setup_depth, body_tells, trace_tells, events_tell}
use Rattle.blk_bio.specs.declared.limits.TheConstants.{MAX_SEGMENTS}

-- the records of a trace's events, one after the other

bios_rows : (version : ℕ) (limits : Limits) (before bios : List Bio) → all_rows (group_bio version limits) with_next before bios ≡ map bio_row bios
bios_rows version limits before [] = refl
bios_rows version limits before (b ∷ bs) = ap (λ (t : List Row). bio_row b ∷ t) (bios_rows version limits (before ++ b ∷ []) bs)

event_same : (version : ℕ) (setup : Setup) (before : List Happened) (e : Happened) → (event version setup before).rows_of e ≡ event_rows e
event_same version setup before e = ap (λ (t : List Row). head_row (event_told e).0 ∷ t) (bios_rows version setup.limits [] (event_told e).1)

events_same : (version : ℕ) (setup : Setup) (before es : List Happened) → all_rows (event version setup) with_next before es ≡ flat_map event_rows es
events_same version setup before [] = refl
events_same version setup before (e ∷ es) = λ i. event_same version setup before e i ++ events_same version setup (before ++ e ∷ []) es i

pub rows_are : (t : Traced) → title_row t.setup (length t.events) ∷ setup_row t.setup ∷ flat_map event_rows t.events ≡ trace_rows t
rows_are t =
    let others : flat_map event_rows t.events ≡ all_rows (event LATEST t.setup) with_next [] t.events ++ [] = sym (append-nil (all_rows (event LATEST t.setup) with_next [] t.events) ∙ events_same LATEST t.setup [] t.events) in
    λ i. title_row t.setup (length t.events) ∷ setup_row t.setup ∷ others i

-- as many records as a version has of them, after the title and the setup
pub size_is : (version : ℕ) (setup : Setup) (t : Traced) → length (trace_rows t) ≡ 2 + size_of (event version setup) t.events
size_is version setup t =
    let rows = ap length (rows_are t) in
    let same = ap length (events_same version setup [] t.events) in
    omega (arith, rows, same)

-- a legal trace spells

fits_bio : (b : Bio) → BioFits b → FitsCells (bio_cells (2 ^ 8)) b
fits_bio b h =
    let in_range = h.2.in_range in
    ((omega arith, omega (arith, h.0)), ((omega arith, omega (arith, h.1)), (tt, ((omega arith, omega (arith, in_range)), ((omega arith, omega (arith, in_range)), tt)))))

-- a bio of a request joins those before it
tile_of : (limits : Limits) (before rest : List Bio) (b : Bio) → IsRequest (before ++ b ∷ rest) → IsWithin limits (before ++ b ∷ rest) → Tiles limits before b
tile_of limits [] rest b r w = tt
tile_of limits (a ∷ bs) rest b r w = record { same_direction = way; abuts = touch; within = few w }
  where
    up : length (a ∷ bs) ≡ length bs + 1
    up = omega arith

    seam : get_or ((a ∷ bs) ++ b ∷ rest) (length (a ∷ bs)) b ≡ b
    seam = get_or-append_seam (a ∷ bs) b rest b

    long : length ((a ∷ bs) ++ b ∷ rest) ≡ length (a ∷ bs) + length (b ∷ rest)
    long = length-append (a ∷ bs) (b ∷ rest)

    way : b.dir ≡ a.dir
    way = ap (λ (x : Bio). x.dir) (sym seam) ∙ r.one_direction (length (a ∷ bs)) b (omega (arith, long))

    touch : b.first ≡ last_of (a ∷ bs)
    touch =
        ap (λ (x : Bio). x.first) (sym seam) ∙ ap (λ k. (get_or ((a ∷ bs) ++ b ∷ rest) k b).first) up ∙ r.tiles (length bs) b (omega (arith, long))
        ∙ ap end_of (get_or-append (a ∷ bs) (b ∷ rest) b (length bs) (omega arith)) ∙ last_at (a ∷ bs) (length bs) b refl

    all : (a ∷ bs) ++ b ∷ rest ≡ ((a ∷ bs) ++ b ∷ []) ++ rest
    all = sym (append_assoc (a ∷ bs) (b ∷ []) rest)

    few : IsWithin limits ((a ∷ bs) ++ b ∷ rest) → IsWithin limits ((a ∷ bs) ++ b ∷ [])
    few (inl one) = absurd (omega (arith, one, long))
    few (inr h) =
        let total : sectors_of ((a ∷ bs) ++ b ∷ rest) ≡ sectors_of ((a ∷ bs) ++ b ∷ []) + sectors_of rest = ap sectors_of all ∙ sum_by-append (λ (x : Bio). x.sectors) ((a ∷ bs) ++ b ∷ []) rest in
        let count : length ((a ∷ bs) ++ b ∷ rest) ≡ length ((a ∷ bs) ++ b ∷ []) + length rest = ap length all ∙ length-append ((a ∷ bs) ++ b ∷ []) rest in
        let sectors = h.0 in
        let segments = h.1 in
        inr (omega (arith, total, sectors), omega (arith, count, segments))

group_fits : (version : ℕ) (limits : Limits) (before bios : List Bio) → IsRequest (before ++ bios) → IsWithin limits (before ++ bios) → All BioFits bios → AllFit (group_bio version limits) with_next before bios
group_fits version limits before [] r w h = tt
group_fits version limits before (b ∷ bs) r w h =
    let fits = head_of BioFits b bs h in
    let same = sym (append_assoc before (b ∷ []) bs) in
    (((fits_bio b fits, fits.2), tile_of limits before bs b r w), group_fits version limits (before ++ b ∷ []) bs (subst IsRequest same r) (subst (IsWithin limits) same w) (tail_of BioFits b bs h))

-- the bios that join a request within the limits are within them
newcomer_within : (limits : Limits) (old more : List Bio) (s : Side) → 0 < length more → IsWithin limits (joined old more s) → IsWithin limits more
newcomer_within limits old more side.Back some (inl one) = let long = length-append old more in inl (omega (arith, one, long, some))
newcomer_within limits old more side.Back some (inr h) =
    let long = length-append old more in
    let total = sum_by-append (λ (x : Bio). x.sectors) old more in
    let sectors = h.0 in
    let segments = h.1 in
    inr (omega (arith, total, sectors), omega (arith, long, segments))
newcomer_within limits old more side.Front some (inl one) = let long = length-append more old in inl (omega (arith, one, long, some))
newcomer_within limits old more side.Front some (inr h) =
    let long = length-append more old in
    let total = sum_by-append (λ (x : Bio). x.sectors) more old in
    let sectors = h.0 in
    let segments = h.1 in
    inr (omega (arith, total, sectors), omega (arith, long, segments))

last_event : (es : List Happened) (e : Happened) → At (es ++ e ∷ []) (length es) e
last_event [] e = refl
last_event (x ∷ es) e = last_event es e

event_fits : (version : ℕ) (setup : Setup) (es : List Happened) (e : Happened) → IsLegalTrace setup (es ++ e ∷ []) → RowStandsIn event_table version (said (event_told e).0).0 → EventFits e → (plain_event version setup.limits).Fits e
event_fits version setup es Tick legal v h = ((v, (tt, (tt, (tt, (tt, (tt, tt)))))), (tt, refl))
event_fits version setup es (Release id bios) legal v h =
    let at = last_event es (Release id bios) in
    let g = h.0 in
    ((v, ((omega arith, omega (arith, g.0)), ((g.1, g.2), (tt, (tt, (tt, tt)))))), (group_fits version setup.limits [] bios (legal.are_requests _ _ at) (legal.release_within _ id bios at) g.3, refl))
event_fits version setup es (Join id bios) legal v h =
    let at = last_event es (Join id bios) in
    let fit = legal.join_fits _ id bios at in
    let g = h.0 in
    let some = g.1 in
    ((v, ((omega arith, omega (arith, g.0)), ((g.1, g.2), (tt, (tt, (tt, tt)))))), (group_fits version setup.limits [] bios (legal.are_requests _ _ at) (newcomer_within setup.limits _ bios fit.0 (omega (arith, some)) fit.1.within) g.3, refl))
event_fits version setup es (Issue id tag) legal v h =
    let i = h.1 in
    ((v, ((omega arith, omega (arith, i.0)), ((omega arith, omega (arith, i.1)), (tt, (tt, (tt, tt)))))), (tt, refl))
event_fits version setup es (Done tag) legal v h = let t = h.2 in ((v, ((omega arith, omega (arith, t)), (tt, (tt, (tt, (tt, tt)))))), (tt, refl))
event_fits version setup es (Back tag) legal v h = let t = h.2 in ((v, ((omega arith, omega (arith, t)), (tt, (tt, (tt, (tt, tt)))))), (tt, refl))
event_fits version setup es (Depth depth) legal v h = let d = h.3 in ((v, ((omega arith, omega (arith, d)), (tt, (tt, (tt, (tt, tt)))))), (tt, refl))

-- of a list with one more, the others have it, and so has the last
all_before : (P : Happened → Type 0) (es : List Happened) (e : Happened) → All P (es ++ e ∷ []) → All P es × P e
all_before P [] e h = (All-nil P, head_of P e [] h)
all_before P (x ∷ es) e h = let r = all_before P es e (tail_of P x (es ++ e ∷ []) h) in (all_cons P x es (head_of P x (es ++ e ∷ []) h) r.0, r.1)

pub legal_fits : (version : ℕ) (setup : Setup) (es : List Happened) → IsLegalTrace setup es → All (IsEventOf version) es → All EventFits es → AllFit (event version setup) with_next [] es
legal_fits version setup es legal = by_legal setup (λ l. All (IsEventOf version) l → All EventFits l → AllFit (event version setup) with_next [] l) (λ v h. tt)
    (λ l e now before unbroken fit v h. (
    let vs = all_before (IsEventOf version) l e v in
    let hs = all_before EventFits l e h in
    fit_more (event version setup) with_next [] l e (fit vs.0 hs.0) (rw (after_all [] l) (event_fits version setup l e now (said_in (event_told e).0, vs.1) hs.1, unbroken))
    ))
    es legal

pub spells_in : (version : ℕ) (t : Traced) → IsTrace t → IsTraceOf version t → SpellsTraceIn version (trace_form.rows_of (trace_value version t)) t
spells_in version t h v =
    let is = h.setup.is_setup in
    let few = h.legal.not_too_long in
    begins_itself trace_form (trace_value version t) (
      (v.is_version, record { depth = (is.some_tags, v.tags); hw = (is.some_queues, is.few_queues); count = omega (arith, few) }),
      ((refl, refl, h.setup), ((legal_fits version t.setup t.events h.legal v.kinds h.events, refl), tt)),
    )
    (tt, (tt, (refl, refl)))

-- the latest version has all
latest_kind : (e : Happened) → IsEventOf LATEST e
latest_kind (Depth depth) = omega arith
latest_kind e = tt

pub rows_spell : (t : Traced) → IsTrace t → SpellsTraceIn LATEST (trace_rows t) t
rows_spell t h = spells_in LATEST t h (record { is_version = (omega arith, omega arith); tags = h.setup.is_setup.few_tags; kinds = λ k d l. latest_kind _ })

-- what is written reads back

bios_back : (bios : List Bio) → map read_back (map bio_row bios) ≡ map bio_row bios
bios_back [] = refl
bios_back (b ∷ bs) = ap (λ (t : List Row). bio_row b ∷ t) (bios_back bs)

event_back : (h : Happened) → map read_back (event_rows h) ≡ event_rows h
event_back (Release id bios) = rw (bios_back bios) refl
event_back (Join id bios) = rw (bios_back bios) refl
event_back h = refl

events_back : (hs : List Happened) → map read_back (flat_map event_rows hs) ≡ flat_map event_rows hs
events_back [] = refl
events_back (h ∷ hs) = map-append read_back (event_rows h) (flat_map event_rows hs) ∙ (λ i. event_back h i ++ events_back hs i)

all_back : (version : ℕ) (t : Traced) → map read_back (all_rows (event version t.setup) with_next [] t.events ++ []) ≡ all_rows (event version t.setup) with_next [] t.events ++ []
all_back version t = rw (append-nil (all_rows (event version t.setup) with_next [] t.events), events_same version t.setup [] t.events) (events_back t.events)

pub read_back_is : (version : ℕ) (t : Traced) → IsTrace t → IsTraceOf version t → SpellsTraceIn version (records default_config (strip_bom (rows_text (trace_form.rows_of (trace_value version t))))) t
unfolding rows_text
read_back_is version t h v = rw (text_back (trace_form.rows_of (trace_value version t)) _ refl (rw (all_back version t) refl)) (spells_in version t h v)

pub written_back : (t : Traced) → records default_config (strip_bom (rows_text (trace_rows t))) ≡ trace_rows t
unfolding rows_text
written_back t = text_back (trace_rows t) _ refl (rw (all_back LATEST t) refl)

-- a trace is spelled once, in one version

pub spelled_once : (rows : List Row) (version other : ℕ) (t u : Traced) → SpellsTraceIn version rows t → SpellsTraceIn other rows u → (version ≡ other) × (t.setup ≡ u.setup) × (t.events ≡ u.events)
spelled_once rows version other t u p q =
    let e = (once trace_tells rows (trace_value version t) (trace_value other u) [] [] p q).0 in
    ((λ i. (e i).0.0), (λ i. (e i).1.0), (λ i. (e i).1.1))

pub spelled_apart : (rows : List Row) (t : Traced) (at : ℕ) (w : TextReason) → SpellsTrace rows t → TraceTextFault rows at w → ⊥
spelled_apart rows t at w p = apart trace_tells rows (trace_value p.0 t) [] at w p.1

pub fault_once : (rows : List Row) (at other : ℕ) (w v : TextReason) → TraceTextFault rows at w → TraceTextFault rows other v → (at ≡ other) × (w ≡ v)
fault_once = first trace_tells

-- reading

bio_fits : (b : Bio) (version : ℕ) (limits : Limits) (before : List Bio) → (group_bio version limits before).Fits b → BioFits b
bio_fits b version limits before f = let low = f.0.0.0.1 in let serial = f.0.0.1.0.1 in (omega (arith, low), omega (arith, serial), f.0.1)

bios_fit : (version : ℕ) (limits : Limits) (before bios : List Bio) → AllFit (group_bio version limits) with_next before bios → All BioFits bios
bios_fit version limits before [] f = All-nil BioFits
bios_fit version limits before (b ∷ bs) f = all_cons BioFits b bs (bio_fits b version limits before f.0) (bios_fit version limits (before ++ b ∷ []) bs f.1)

fits_event : (version : ℕ) (limits : Limits) (e : Happened) → (plain_event version limits).Fits e → EventFits e
fits_event version limits Tick f = (tt, tt, tt, tt)
fits_event version limits (Release id bios) f = let id_in = f.0.1.0.1 in ((omega (arith, id_in), f.0.1.1.0.0, f.0.1.1.0.1, bios_fit version limits [] bios f.1.0), tt, tt, tt)
fits_event version limits (Join id bios) f = let id_in = f.0.1.0.1 in ((omega (arith, id_in), f.0.1.1.0.0, f.0.1.1.0.1, bios_fit version limits [] bios f.1.0), tt, tt, tt)
fits_event version limits (Issue id tag) f = let id_in = f.0.1.0.1 in let tag_in = f.0.1.1.0.1 in (tt, (omega (arith, id_in), omega (arith, tag_in)), tt, tt)
fits_event version limits (Done tag) f = let tag_in = f.0.1.0.1 in (tt, tt, omega (arith, tag_in), tt)
fits_event version limits (Back tag) f = let tag_in = f.0.1.0.1 in (tt, tt, omega (arith, tag_in), tt)
fits_event version limits (Depth depth) f = let depth_in = f.0.1.0.1 in (tt, tt, tt, omega (arith, depth_in))

events_fit : (version : ℕ) (setup : Setup) (before es : List Happened) → AllFit (event version setup) with_next before es → All EventFits es
events_fit version setup before [] f = All-nil EventFits
events_fit version setup before (e ∷ es) f = all_cons EventFits e es (fits_event version setup.limits e f.0.0) (events_fit version setup (before ++ e ∷ []) es f.1)

-- what is spelled is legal

one_bio : (b : Bio) → IsBio b → IsRequest (b ∷ [])
one_bio b i = record {
  not_empty = omega arith;
  each_bio = all_cons IsBio b [] i (All-nil IsBio);
  one_direction = one_way;
  tiles = λ k d l. absurd (omega (arith, l));
}
  where
    one_way : (k : ℕ) (d : Bio) → k < length (b ∷ []) → (get_or (b ∷ []) k d).dir ≡ b.dir
    one_way zero d l = refl
    one_way (suc k) d l = absurd (omega (arith, l))

-- a bio that tiles makes a request of those before it
grown_request : (version : ℕ) (limits : Limits) (before : List Bio) (b : Bio) → (before ≡ []) ⊎ IsRequest before → (group_bio version limits before).Fits b → IsRequest (before ++ b ∷ [])
grown_request version limits [] b r f = one_bio b f.0.1
grown_request version limits (a ∷ bs) b (inl e) f = absurd (cc e)
grown_request version limits (a ∷ bs) b (inr r) f = joins (a ∷ bs) (b ∷ []) r (one_bio b f.0.1) f.1.same_direction f.1.abuts

group_request : (version : ℕ) (limits : Limits) (before bios : List Bio) → IsRequest before → AllFit (group_bio version limits) with_next before bios → IsRequest (before ++ bios)
group_request version limits before [] r f = rw (append-nil before) r
group_request version limits before (b ∷ bs) r f =
    subst IsRequest (append_assoc before (b ∷ []) bs) (group_request version limits (before ++ b ∷ []) bs (grown_request version limits before b (inr r) f.0) f.1)

some_request : (version : ℕ) (limits : Limits) (bios : List Bio) → 1 ≤ length bios → AllFit (group_bio version limits) with_next [] bios → IsRequest bios
some_request version limits [] l f = absurd (omega (arith, l))
some_request version limits (b ∷ bs) l f = group_request version limits (b ∷ []) bs (grown_request version limits [] b (inl refl) f.0) f.1

enters_request : (version : ℕ) (limits : Limits) (e : Happened) → (plain_event version limits).Fits e → EntersRequest e
enters_request version limits (Release id bios) f = some_request version limits bios f.0.1.1.0.0 f.1.0
enters_request version limits (Join id bios) f = some_request version limits bios f.0.1.1.0.0 f.1.0
enters_request version limits e f = tt

events_legal : (version : ℕ) (setup : Setup) (before es : List Happened) → IsLegalTrace setup before → AllFit (event version setup) with_next before es → IsLegalTrace setup (before ++ es)
events_legal version setup before [] l f = rw (append-nil before) l
events_legal version setup before (e ∷ es) l f =
    subst (IsLegalTrace setup) (append_assoc before (e ∷ []) es)
    (events_legal version setup (before ++ e ∷ []) es (push_legal setup before e l f.0.1 (enters_request version setup.limits e f.0.0)) f.1)

pub spelled_legal : (rows : List Row) (t : Traced) → SpellsTrace rows t → IsTrace t
spelled_legal rows t h =
    let fits = h.1.fits.1 in
    record { setup = fits.0.2; events = events_fit h.0 t.setup [] t.events fits.1.0.0; legal = events_legal h.0 t.setup [] t.events (empty_legal t.setup) fits.1.0.0 }

pub trace_in : (t : Traced) (version depth hw count : ℕ) (n s : Setup) → t.setup ≡ n → n ≡ s → FitsSetup depth hw s → AreItems (repeats.Exactly count) (event version n) t.events → IsLegalTrace t.setup t.events → IsTrace t
trace_in t version depth hw count n s d e f a l = record { setup = subst IsWholeSetup (sym (d ∙ e)) f.2; events = events_fit version n [] t.events a.0; legal = l }

-- the value that was read, as that of a trace
value_is : (t : Traced) (v : ℕ × TraceTitle) (s : Setup) → t.setup ≡ s → FitsSetup v.1.depth v.1.hw s → length t.events ≡ v.1.count → (v, (s, t.events)) ≡ trace_value v.0 t
value_is t v s e f c = λ i. ((v.0, record { depth = (sym f.0 ∙ ap (λ (x : Setup). x.depth) (sym e)) i; hw = (sym f.1 ∙ ap (λ (x : Setup). x.hw) (sym e)) i; count = sym c i }), (sym e i, t.events))

pub spelled_or_wrong : (rows : List Row) → ((t : Traced) × SpellsTrace rows t) ⊎ ((at : ℕ) × (w : TextReason) × TraceTextFault rows at w)
spelled_or_wrong rows = elim (decided trace_tells rows) [
  | inl h ↦ (let f = h.2.fits.1 in
      let t : Traced = record { setup = h.0.1.0; events = h.0.1.1; prepared = Nothing } in
      let whole : Spells trace_form rows h.0 = rw h.2.follows.1.1.1 at h.2 in
      inl (t, (h.0.0.0, subst (Spells trace_form rows) (value_is t h.0.0 t.setup refl f.0 f.1.0.1) whole)))
  | inr f ↦ inr f
]

-- reading

pub trace_read : (left mid next : Option (List Row)) (t : ℕ × TraceTitle) (n s : Setup) (r : Traced) → r.setup ≡ n → n ≡ s → FitsSetup t.1.depth t.1.hw s → length r.events ≡ t.1.count → Reads trace_title_part left mid t
    → Reads (setup t.1.depth t.1.hw) mid next s → IfSome next (λ rows. Begins (events_of t.0 n t.1.count) rows r.events []) → IfSome left (λ rows. SpellsTrace rows r)
trace_read None mid next t n s r d e f c h k b = tt
trace_read (Some rows) mid next t n s r d e f c h k b =
    let events = subst (λ z. IfSome next (λ rows. Begins (events_of t.0 z t.1.count) rows r.events [])) e b in
    let body = then_reads (setup t.1.depth t.1.hw) (λ s. events_of t.0 s t.1.count) mid next s r.events k events in
    (t.0, subst (Spells trace_form rows) (value_is r t s (d ∙ e) f c) (then_reads trace_title_part trace_body (Some rows) mid t (s, r.events) h body))

-- where reading stops

pub events_fail : (failed : Bool) (left mid next : Option (List Row)) (t : ℕ × TraceTitle) (s : Setup) (middle at : ℕ) (w : TextReason) → middle ≡ 1 → Reads trace_title_part left mid t → Reads (setup t.1.depth t.1.hw) mid next s
    → Fails failed (events_of t.0 s t.1.count) next 2 at w → Fails failed trace_form left 0 at w
events_fail failed left mid next t s middle at w e r k h =
    second_fails failed trace_title_part trace_body left mid t 0 middle at w r (omega (arith, e))
    (second_fails failed (setup t.1.depth t.1.hw) (λ s. events_of t.0 s t.1.count) mid next s middle 2 at w k (omega (arith, e)) h)

pub fails_err : (failed : Bool) (left : Option (List Row)) (at : ℕ) (w : TextReason) → Fails failed trace_form left 0 at w → IfSome left (λ rows. IsOutside failed w ⊎ TraceTextFault rows at w)
fails_err failed None at w f = tt
fails_err failed (Some rows) at w f = elim f [
  | inl o ↦ inl o
  | inr k ↦ (let is = k.1 in let same : k.0 ≡ at = omega (arith, is) in inr (rw same at k.2))
]

-- at the setup
pub setup_fails : (failed : Bool) (left mid : Option (List Row)) (t : ℕ × TraceTitle) (middle at : ℕ) (w : TextReason) → middle ≡ 1 → Reads trace_title_part left mid t → Halts failed (setup t.1.depth t.1.hw) mid middle at w
    → IfSome left (λ rows. IsOutside failed w ⊎ TraceTextFault rows at w)
setup_fails failed left mid t middle at w e r h =
    halts_err failed trace_form left at w (second_halts failed trace_title_part trace_body left mid t 0 middle at w trace_title_tells r (omega (arith, e))
    (first_halts failed (setup t.1.depth t.1.hw) (λ s. events_of t.0 s t.1.count) mid middle at w (λ s fit. events_tell t.0 s t.1.count) h))

-- no memory for a trace without events
pub none_held : (left mid : Option (List Row)) (t : ℕ × TraceTitle) (at last : ℕ) → IsTraceTitle t.0 t.1 → Reads trace_title_part left mid t → at ≡ 2 → last ≡ 2 → IsHeldAt trace_form left MAX_SEGMENTS at last
none_held None mid t at last i r e f = (2, omega (arith, e), omega (arith, e, f), omega (arith, f), tt)
none_held (Some rows) mid t at last i r e f = (2, omega (arith, e), omega (arith, e, f), omega (arith, f), reached_second trace_title_part trace_body trace_title_tells rows r.0 t 1 r.2 (at_first (trace_body t) (body_tells t i) r.0))

pub events_held : (left mid next : Option (List Row)) (t : ℕ × TraceTitle) (s : Setup) (at last : ℕ) → IsTraceTitle t.0 t.1 → Reads trace_title_part left mid t → Reads (setup t.1.depth t.1.hw) mid next s
    → IsStopped (repeats.Exactly t.1.count) (event t.0 s) next 2 MAX_SEGMENTS at last → IsHeldAt trace_form left MAX_SEGMENTS at last
events_held None mid next t s at last i r k h = let low = h.1 in let high = h.3 in (2 + h.0, omega (arith, low), h.2, omega (arith, high), tt)
events_held (Some rows) mid next t s at last i r k h =
    let low = h.1 in
    let high = h.3 in
    let second = rw r.1 at k in
    let good = rw second.1 at h.4 in
    let reached = ended_reached (repeats.Exactly t.1.count) why.Count (event t.0 s) (one_more t.0 s) with_next (event_item t.0 s) (more_tells t.0 s) [] second.0 h.0 good in
    let in_body = reached_second (setup t.1.depth t.1.hw) (λ s. events_of t.0 s t.1.count) (setup_one t.1.depth t.1.hw (setup_depth t i) i.hw).tells r.0 second.0 s h.0 second.2 reached in
    (1 + (1 + h.0), omega (arith, low), h.2, omega (arith, high), reached_second trace_title_part trace_body trace_title_tells rows r.0 t (1 + h.0) r.2 in_body)

-- of events that were read into a trace whose setup is this one

pub events_fail_of : (failed : Bool) (left mid next : Option (List Row)) (t : ℕ × TraceTitle) (n s : Setup) (middle at : ℕ) (w : TextReason) → n ≡ s → middle ≡ 1 → Reads trace_title_part left mid t → Reads (setup t.1.depth t.1.hw) mid next s
    → Fails failed (events_of t.0 n t.1.count) next 2 at w → IfSome left (λ rows. IsOutside failed w ⊎ TraceTextFault rows at w)
events_fail_of failed left mid next t n s middle at w is e r k h = fails_err failed left at w (events_fail failed left mid next t s middle at w e r k (rw is at h))

pub events_held_of : (left mid next : Option (List Row)) (t : ℕ × TraceTitle) (n s : Setup) (at last : ℕ) → n ≡ s → IsTraceTitle t.0 t.1 → Reads trace_title_part left mid t → Reads (setup t.1.depth t.1.hw) mid next s
    → IsStopped (repeats.Exactly t.1.count) (event t.0 n) next 2 MAX_SEGMENTS at last → IsHeldAt trace_form left MAX_SEGMENTS at last
events_held_of left mid next t n s at last is i r k h = events_held left mid next t s at last i r k (rw is at h)
