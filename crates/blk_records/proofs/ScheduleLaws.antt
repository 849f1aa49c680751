-- The laws of schedules.
use Rattle.std.proofs.Common.{◌≡◌, ◌≢◌, ◌+◌, ◌-◌, ◌<◌, ◌≤◌, ◌∙◌, ℕ, List, [], ◌∷◌, ◌++◌, length, map, take, append-nil, append_assoc, Bool, true, false, cond, Option, Some, None, refl, sym, ap, subst, inl, inr, arith, get_or}
use Rattle.std.specs.Prelude.{IfSome, All, ◌⊎◌, not, slice_get}
use Rattle.std.specs.Bool.{OnTrue, MatchBool}
use Rattle.std.specs.List.{zip, list_any}
use Rattle.std.specs.Ordering.{nat_cmp}
use Rattle.std.specs.BTreeMap.{is_at}
use Rattle.std.specs.BTreeSet.{BTreeSet, contains, Updates}
use Rattle.std.proofs.lemmas.Bool.{cases_lt}
use Rattle.std.proofs.lemmas.Bool.Decides.{nat_tests}
use Rattle.std.proofs.lemmas.List.{length-map, length-append, length_push, get_or-map, get_or_append_left, get_or-append_right, get_or_push, take_more}
use Rattle.std.proofs.lemmas.Option.{slice_get-get_or, get_or_from_slice_get}
use Rattle.csv.specs.Reading.{default_config, records, strip_bom}
use Rattle.csv.specs.Writing.{read_back}
use Rattle.edd_commands.specs.declared.Command.{Command}
use Rattle.edd_commands.specs.declared.TheConstants.{MAX_ROUNDS}
use Rattle.blk_records.specs.Sources.{Row, TakesRecord}
use Rattle.blk_records.specs.Texts.{rows_text}
use Rattle.blk_records.specs.Commands.{IsCommandInRange}
use Rattle.blk_records.specs.Reads.{IsOutside, Reads, Halts, Fails, HandFails, IsOne, IsRowOf, IsWrongRecord, IsStopped, AreGathered, Gathers, with_next, size_of, repeated}
use Rattle.blk_records.specs.Tables.{row_by}
use Rattle.blk_records.specs.Titles.{IsVersion, IsCounted, counted_numbers, title_by, TakesTitle, StopsAtTitle}
use Rattle.blk_records.specs.Certificate.{served_cells, served_record, IsServed}
use Rattle.blk_records.specs.Schedule.{ScheduleView, AreDistinct, IsScheduleView, IsNew, IsRepeated, new_record, schedule_title, schedule_body, schedule_form, schedule_value, schedule_rows, SpellsSchedule, ScheduleFault}
use Rattle.blk_records.specs.Inside.Schedule.{AreFit, AreIds, DoRise}
use Rattle.blk_records.specs.declared.schedule.TheConstants.{SCHEDULE}
use Rattle.blk_records.specs.declared.fault.TextReason.{TextReason}
use Rattle.blk_records.specs.declared.fault.TextReason.TheVariants as why
use Rattle.text_grammar.specs.declared.Repeats.TheVariants as repeats
use Rattle.text_grammar.specs.Parts.{Begins, Spells, AllFit, all_rows, over}
use Rattle.text_grammar.specs.Laws.{Tells}
use Rattle.text_grammar.proofs.Then.{once, decided, then_tells, tested_tells, tested_plain}
use Rattle.text_grammar.proofs.Many.{ended_tells}
use Rattle.blk_records.proofs.Lists.{head_of, tail_of, all_cons}
use Rattle.blk_records.proofs.Lacking.{same_number}
use Rattle.blk_records.proofs.Each.{size_is, one_item, rows_map, one_version}
use Rattle.blk_records.proofs.Reading.{then_reads, end_halts, first_halts, second_halts, many_fails, many_ends, full_ends, full_stopped, lines_halt, outside_fails, past_wrong, hand_reads}
use Rattle.blk_records.proofs.TitleLaws.{is_schedule_title, title_tells, title_reads, title_stops}
use Rattle.blk_records.proofs.Texts.{text_back, parts_back, begins_itself}
use Rattle.blk_records.proofs.ClaimLaws.{served_one, firsts, seconds, all_zip, all_first, all_second, firsts_zip, seconds_zip, length_zip, zipped}

-- one command

new_or_not : (before : List (Command × ℕ)) (s : Command × ℕ) → IsNew before s ⊎ ¬ IsNew before s
new_or_not [] s = inl (λ k d l. absurd (omega arith))
new_or_not (b ∷ before) s = elim (same_number b.0.id s.0.id) [
  | inl e ↦ inr (λ h. head_of (λ (b : Command × ℕ). b.0.id ≢ s.0.id) b before h e)
  | inr n ↦ elim (new_or_not before s) [
    | inl r ↦ inl (all_cons (λ (b : Command × ℕ). b.0.id ≢ s.0.id) b before n r)
    | inr m ↦ inr (λ h. m (tail_of (λ (b : Command × ℕ). b.0.id ≢ s.0.id) b before h))
  ]
]

pub new_one : (before : List (Command × ℕ)) → IsOne (new_record before)
new_one before = record {
  tells = tested_tells (IsNew before) (IsRepeated before) served_one.tells (λ v k j w x fit a b. (a.0 ∙ sym b.0, a.1 ∙ sym b.1)) (λ v k w good a. a.2 good) (λ v k w a. (let one = a.0 in (omega (arith, one), omega (arith, one)))) (λ v fit. new_or_old v (new_or_not before v));
  plain = tested_plain served_record (IsNew before) (IsRepeated before) served_one.plain;
  one = λ v. refl;
}
  where
    new_or_old : (v : Command × ℕ) → IsNew before v ⊎ ¬ IsNew before v → IsNew before v ⊎ ((k : ℕ) × (w : TextReason) × IsRepeated before v k w)
    new_or_old v (inl new) = inl new
    new_or_old v (inr old) = inr (1, why.RepeatedId, (refl, refl, old))

pub new_gone : (before : List (Command × ℕ)) → (new_record before).Wrong [] 1 why.Count
new_gone before = inl (refl, refl)

body_tells : (count : ℕ) → Tells (schedule_body count)
body_tells count = ended_tells (repeats.Exactly count) why.Count with_next (λ s. one_item (new_one s)) (λ s. (new_one s).tells) []

pub schedule_tells : Tells schedule_form
schedule_tells = then_tells (title_tells is_schedule_title) (λ t fit. body_tells t.1.1)

-- the records of commands

same_rows : (s vs : List (Command × ℕ)) → all_rows new_record with_next s vs ≡ all_rows (λ _. served_record) with_next s vs
same_rows s [] = refl
same_rows s (v ∷ vs) = ap (λ (t : List Row). row_by served_cells v ∷ t) (same_rows (s ++ v ∷ []) vs)

size_new : (vs : List (Command × ℕ)) → size_of new_record vs ≡ length vs
size_new vs = ap length (same_rows [] vs) ∙ size_is served_record served_one vs

-- commands that fit are in range, and no two have the same id

ids_differ : (xs : List (Command × ℕ)) (low : ℕ) → Type 0
ids_differ xs low = (j k : ℕ) (d : Command × ℕ) → j < k → low ≤ k → k < length xs → (get_or xs j d).0.id ≢ (get_or xs k d).0.id

fit_served : (s vs : List (Command × ℕ)) → AllFit new_record with_next s vs → All IsServed vs
fit_served s [] f = λ k d l. absurd (omega arith)
fit_served s (v ∷ vs) f = all_cons IsServed v vs f.0.0 (fit_served (s ++ v ∷ []) vs f.1)

new_differs : (s vs : List (Command × ℕ)) (v : Command × ℕ) → IsNew s v → (j k : ℕ) (d : Command × ℕ) → j < k → k ≡ length s → (get_or (s ++ v ∷ vs) j d).0.id ≢ (get_or (s ++ v ∷ vs) k d).0.id
new_differs s vs v new j k d lt is =
    let here : get_or (s ++ v ∷ vs) k d ≡ v = get_or-append_right s (v ∷ vs) k k d (sym is) (omega arith) ∙ zero_at k in
    let there : get_or (s ++ v ∷ vs) j d ≡ get_or s j d = get_or_append_left s (v ∷ vs) d j (omega (arith, lt, is)) in
    rw (here, there) (new j d (omega (arith, lt, is)))
  where
    zero_at : (k : ℕ) → get_or (v ∷ vs) (k - k) d ≡ v
    zero_at k = let none : k - k ≡ 0 = omega arith in rw none refl

fit_differs : (s vs : List (Command × ℕ)) → AllFit new_record with_next s vs → ids_differ (s ++ vs) (length s)
unfolding ids_differ
fit_differs s [] f j k d lt low top = absurd (omega (arith, low, top, length-append s []))
fit_differs s (v ∷ vs) f j k d lt low top = elim (cases_lt (length s) k) [
  | inl past ↦
      let all : (s ++ v ∷ []) ++ vs ≡ s ++ v ∷ vs = append_assoc s (v ∷ []) vs in
      rw all at (fit_differs (s ++ v ∷ []) vs f.1) j k d lt (omega (arith, past, length-append s (v ∷ []))) top
  | inr at ↦ new_differs s vs v f.0.1 j k d lt (omega (arith, at, low))
]

differ_fits : (s vs : List (Command × ℕ)) → All IsServed vs → ids_differ (s ++ vs) (length s) → AllFit new_record with_next s vs
unfolding ids_differ
differ_fits s [] f h = tt
differ_fits s (v ∷ vs) f h = (
  (head_of IsServed v vs f, new),
  differ_fits (s ++ v ∷ []) vs (tail_of IsServed v vs f) (λ j k d lt low top.
      (let all : (s ++ v ∷ []) ++ vs ≡ s ++ v ∷ vs = append_assoc s (v ∷ []) vs in
      rw all (h j k d lt (omega (arith, low, length-append s (v ∷ []))) (rw all at top)))),
)
  where
    zero_at : (d : Command × ℕ) → get_or (v ∷ vs) (length s - length s) d ≡ v
    zero_at d = let none : length s - length s ≡ 0 = omega arith in rw none refl

    new : IsNew s v
    new j d l =
        let long : length s < length (s ++ v ∷ vs) = omega (arith, length-append s (v ∷ vs)) in
        let here : get_or (s ++ v ∷ vs) (length s) d ≡ v = get_or-append_right s (v ∷ vs) (length s) (length s) d refl (omega arith) ∙ zero_at d in
        let there : get_or (s ++ v ∷ vs) j d ≡ get_or s j d = get_or_append_left s (v ∷ vs) d j l in
        rw (here, there) at (h j (length s) d l (omega arith) long)

pub fit_distinct : (vs : List (Command × ℕ)) → AreFit vs → AreDistinct (firsts vs)
unfolding ids_differ
fit_distinct vs f j k d lt top =
    let within : k < length vs = omega (arith, top, length-map vs (λ (s : Command × ℕ). s.0)) in
    let at_j : get_or (firsts vs) j d ≡ (get_or vs j (d, 0)).0 = get_or-map (λ (s : Command × ℕ). s.0) vs j (d, 0) d (omega (arith, lt, within)) in
    let at_k : get_or (firsts vs) k d ≡ (get_or vs k (d, 0)).0 = get_or-map (λ (s : Command × ℕ). s.0) vs k (d, 0) d within in
    rw (at_j, at_k) (fit_differs [] vs f j k (d, 0) lt (omega arith) within)

distinct_fits : (cs : List Command) (rs : List ℕ) → length rs ≡ length cs → All IsCommandInRange cs → All (λ x. x < MAX_ROUNDS) rs → AreDistinct cs → AreFit (zip cs rs)
unfolding ids_differ
distinct_fits cs rs n p q h = differ_fits [] (zip cs rs) (all_zip cs rs p q) (λ j k d lt low top.
    (let within : k < length cs = omega (arith, top, length_zip cs rs n) in
    let is : firsts (zip cs rs) ≡ cs = firsts_zip cs rs n in
    let at_j : get_or cs j d.0 ≡ (get_or (zip cs rs) j d).0 = ap (λ (x : List Command). get_or x j d.0) (sym is) ∙ get_or-map (λ (s : Command × ℕ). s.0) (zip cs rs) j d d.0 (omega (arith, lt, top)) in
    let at_k : get_or cs k d.0 ≡ (get_or (zip cs rs) k d).0 = ap (λ (x : List Command). get_or x k d.0) (sym is) ∙ get_or-map (λ (s : Command × ℕ). s.0) (zip cs rs) k d d.0 top in
    rw (at_j, at_k) at (h j k d.0 lt within)))

-- whole schedules

same_schedule : (c d : ScheduleView) → c.depth ≡ d.depth → c.commands ≡ d.commands → c.rounds ≡ d.rounds → c ≡ d
same_schedule c d p q r i = record { depth = p i; commands = q i; rounds = r i }

pub spelled_once : (rows : List Row) (c d : ScheduleView) → SpellsSchedule rows c → SpellsSchedule rows d → c ≡ d
spelled_once rows c d s t =
    let e = (once schedule_tells rows (schedule_value c) (schedule_value d) [] [] s.1 t.1).0 in
    let both : zip c.commands c.rounds ≡ zip d.commands d.rounds = λ i. (e i).1 in
    same_schedule c d (λ i. (e i).0.1.0)
    (sym (firsts_zip c.commands c.rounds s.0) ∙ ap (map (λ (k : Command × ℕ). k.0)) both ∙ firsts_zip d.commands d.rounds t.0)
    (sym (seconds_zip c.commands c.rounds s.0) ∙ ap (map (λ (k : Command × ℕ). k.1)) both ∙ seconds_zip d.commands d.rounds t.0)

-- the records of a schedule spell it
pub rows_spell : (c : ScheduleView) → IsScheduleView c → SpellsSchedule (schedule_rows c) c
rows_spell c h = (
  h.one_each,
  begins_itself schedule_form (schedule_value c) (
    ((omega arith, omega arith), (h.depth.0, h.depth.1, h.few)),
    ((distinct_fits c.commands c.rounds h.one_each h.commands h.rounds h.distinct, length_zip c.commands c.rounds h.one_each), tt),
  )
      (tt, (length_zip c.commands c.rounds h.one_each, refl)),
)

-- the records of a schedule, one by one
pub rows_are : (c : ScheduleView) → schedule_rows c ≡ title_by SCHEDULE counted_numbers (SCHEDULE.latest, (c.depth, length c.commands)) ∷ map (row_by served_cells) (zip c.commands c.rounds)
rows_are c = rw (append-nil (all_rows new_record with_next [] (zip c.commands c.rounds)), same_rows [] (zip c.commands c.rounds), rows_map served_record (row_by served_cells) (λ v. refl) [] (zip c.commands c.rounds)) refl

pub read_back_is : (c : ScheduleView) → IsScheduleView c → SpellsSchedule (records default_config (strip_bom (rows_text (schedule_rows c)))) c
unfolding rows_text
read_back_is c h =
    let lines = (schedule_body (length c.commands)).rows_of (zip c.commands c.rounds) in
    let same : map read_back lines ≡ lines = rw (same_rows [] (zip c.commands c.rounds)) (parts_back served_record (λ s. refl) (zip c.commands c.rounds)) in
    let back : map read_back (schedule_rows c) ≡ schedule_rows c = ap (λ (t : List Row). title_by SCHEDULE counted_numbers (SCHEDULE.latest, (c.depth, length c.commands)) ∷ t) same in
    rw (text_back (schedule_rows c) _ refl back) (rows_spell c h)

-- records that were taken for a title and commands spell them
schedule_spelled : (rows : List Row) (version depth count : ℕ) (lines : List (Command × ℕ)) (cs : List Command) (rs : List ℕ) → IsVersion 1 version → length lines ≡ count
    → cs ≡ map (λ s. s.0) lines → rs ≡ map (λ s. s.1) lines → Spells schedule_form rows ((version, (depth, count)), lines) → SpellsSchedule rows record { depth = depth; commands = cs; rounds = rs }
schedule_spelled rows version depth count lines cs rs v n p q h =
    let c : length (firsts lines) ≡ length lines = length-map lines (λ s. s.0) in
    let d : length (seconds lines) ≡ length lines = length-map lines (λ s. s.1) in
    let one = one_version version v in
    let number : count ≡ length (firsts lines) = omega (arith, c, n) in
    rw (p, q) (d ∙ sym c, subst (λ v. Spells schedule_form rows v) (λ i. ((one i, (depth, number i)), sym (zipped lines) i)) h)

pub spelled_or_wrong : (rows : List Row) → ((c : ScheduleView) × SpellsSchedule rows c) ⊎ ((at : ℕ) × (w : TextReason) × ScheduleFault rows at w)
spelled_or_wrong rows = elim (decided schedule_tells rows) [
  | inl h ↦ (let f = h.2.fits in let t = h.0.0 in let lines = h.0.1 in
      inl (record { depth = t.1.0; commands = firsts lines; rounds = seconds lines }, schedule_spelled rows t.0 t.1.0 t.1.1 lines (firsts lines) (seconds lines) f.0.0 f.1.0.1 refl refl (rw h.2.follows.1.1 at h.2)))
  | inr f ↦ inr f
]

-- reading

-- what was read
pub schedule_in : (depth count : ℕ) (lines : List (Command × ℕ)) (cs : List Command) (rs : List ℕ) → IsCounted (depth, count) → AreFit lines → length lines ≡ count
    → cs ≡ map (λ s. s.0) lines → rs ≡ map (λ s. s.1) lines → IsScheduleView record { depth = depth; commands = cs; rounds = rs }
schedule_in depth count lines cs rs r fit n p q =
    let c : length (firsts lines) ≡ length lines = length-map lines (λ s. s.0) in
    let d : length (seconds lines) ≡ length lines = length-map lines (λ s. s.1) in
    let few = r.2 in
    let all = fit_served [] lines fit in
    rw (p, q) (record { depth = (r.0, r.1); few = omega (arith, few, c, n); one_each = d ∙ sym c; commands = all_first lines all; rounds = all_second lines all; distinct = fit_distinct lines fit })

pub schedule_read : (left mid : Option (List Row)) (version depth count : ℕ) (lines : List (Command × ℕ)) (cs : List Command) (rs : List ℕ) → Reads schedule_title left mid (version, (depth, count)) → IsVersion 1 version
    → IfSome mid (λ rows. Begins (schedule_body count) rows lines []) → length lines ≡ count → cs ≡ map (λ s. s.0) lines → rs ≡ map (λ s. s.1) lines
    → IfSome left (λ rows. SpellsSchedule rows record { depth = depth; commands = cs; rounds = rs })
schedule_read None mid version depth count lines cs rs t v u n p q = tt
schedule_read (Some rows) mid version depth count lines cs rs t v u n p q =
    schedule_spelled rows version depth count lines cs rs v n p q (then_reads schedule_title (λ t. schedule_body t.1.1) (Some rows) mid (version, (depth, count)) lines t u)

-- the ids that are known

at_same : (a b : ℕ) → is_at (nat_cmp a) b ≡ true → a ≡ b
at_same a b e = grind (arith, nat_tests)

cond_some : (b x : Bool) → cond b true x ≡ true → (b ≡ true) ⊎ (x ≡ true)
cond_some true x e = inl refl
cond_some false x e = inr e

cond_either : (b x : Bool) → x ≡ true → cond b true x ≡ true
cond_either true x e = refl
cond_either false x e = e

pub fresh_id : (new known : Bool) → new ≡ not known → new ≡ true → known ≡ false
fresh_id new true is_new e = absurd (cc)
fresh_id new false is_new e = refl

pub known_id : (new known : Bool) → new ≡ not known → new ≡ false → known ≡ true
known_id new true is_new e = refl
known_id new false is_new e = absurd (cc)

pub is_new : (served : List (Command × ℕ)) (ids : BTreeSet ℕ) (v : Command × ℕ) → AreIds served ids → contains nat_cmp ids v.0.id ≡ false → IsNew served v
is_new served ids v h fresh j d l same = let clash : true ≡ false = sym (h.held j d l) ∙ ap (λ q. contains nat_cmp ids q) same ∙ fresh in cc clash

pub is_old : (served : List (Command × ℕ)) (ids : BTreeSet ℕ) (v : Command × ℕ) → AreIds served ids → contains nat_cmp ids v.0.id ≡ true → ¬ IsNew served v
is_old served ids v h there new = let known = h.named v.0.id there in new known.0 v known.1 (known.2 v)

pub next_ids : (served : List (Command × ℕ)) (s t : BTreeSet ℕ) (v : Command × ℕ) → AreIds served s → Updates nat_cmp s t v.0.id true → AreIds (served ++ v ∷ []) t
next_ids served s t v h updates = record { held = held; named = named }
  where
    zero_at : (n : ℕ) (d : Command × ℕ) → get_or (v ∷ []) (n - n) d ≡ v
    zero_at n d = let none : n - n ≡ 0 = omega arith in rw none refl

    last : (d : Command × ℕ) → get_or (served ++ v ∷ []) (length served) d ≡ v
    last d = get_or-append_right served (v ∷ []) (length served) (length served) d refl (omega arith) ∙ zero_at (length served) d

    before : (j : ℕ) (d : Command × ℕ) → j < length served → get_or (served ++ v ∷ []) j d ≡ get_or served j d
    before j d l = get_or_append_left served (v ∷ []) d j l

    held : (j : ℕ) (d : Command × ℕ) → j < length (served ++ v ∷ []) → contains nat_cmp t (get_or (served ++ v ∷ []) j d).0.id ≡ true
    held j d l = elim (cases_lt j (length served)) [
      | inl below ↦ rw (before j d below) (updates.0 (get_or served j d).0.id ∙ cond_either (is_at (nat_cmp v.0.id) (get_or served j d).0.id) (contains nat_cmp s (get_or served j d).0.id) (h.held j d below))
      | inr above ↦ (let is : j ≡ length served = omega (arith, above, l, length-append served (v ∷ [])) in rw (is, last d) updates.1)
    ]

    named : (id : ℕ) → contains nat_cmp t id ≡ true → (j : ℕ) × (j < length (served ++ v ∷ [])) × ((d : Command × ℕ) → (get_or (served ++ v ∷ []) j d).0.id ≡ id)
    named id has = elim (cond_some (is_at (nat_cmp v.0.id) id) (contains nat_cmp s id) (sym (updates.0 id) ∙ has)) [
      | inl new ↦ (length served, omega (arith, length-append served (v ∷ [])), λ d. ap (λ (c : Command × ℕ). c.0.id) (last d) ∙ at_same v.0.id id new)
      | inr old ↦ (let known = h.named id old in let low = known.1 in
          (known.0, omega (arith, low, length-append served (v ∷ [])), λ d. ap (λ (c : Command × ℕ). c.0.id) (before known.0 d known.1) ∙ known.2 d))
    ]

-- no ids, and those of one command more
pub no_ids : (served : List (Command × ℕ)) (ids : BTreeSet ℕ) → ids.keys ≡ [] → AreIds (take 0 served) ids
no_ids served ids none = record {
  held = λ j d l. absurd (omega (arith, l));
  named = λ id has. absurd (let clash : true ≡ false = sym has ∙ ap (list_any (is_at (nat_cmp id))) none in cc);
}

pub ids_more : (served : List (Command × ℕ)) (i : ℕ) (e : Command × ℕ) (s t : BTreeSet ℕ) → i < length served → AreIds (take i served) s → Updates nat_cmp s t (get_or served i e).0.id true → AreIds (take (i + 1) served) t
ids_more served i e s t l h updates = rw (take_more served i e l) (next_ids (take i served) s t (get_or served i e) h updates)

-- ids that rise, with one above them
pub above_rises : (served : List (Command × ℕ)) (v : Command × ℕ) → DoRise served → All (λ (s : Command × ℕ). s.0.id < v.0.id) served → DoRise (served ++ v ∷ [])
above_rises served v rise above j k d lt top = elim (cases_lt k (length served)) [
  | inl below ↦ rw (before j (omega (arith, lt, below)), before k below) (rise j k d lt below)
  | inr at ↦ (let is : k ≡ length served = omega (arith, at, top, length_push served v) in
      let low : j < length served = omega (arith, lt, is) in
      rw (before j low, get_or_push served v d k (sym is)) (above j d low))
]
  where
    before : (i : ℕ) → i < length served → get_or (served ++ v ∷ []) i d ≡ get_or served i d
    before i l = get_or_append_left served (v ∷ []) d i l

pub above_is_new : (served : List (Command × ℕ)) (v : Command × ℕ) → All (λ (s : Command × ℕ). s.0.id < v.0.id) served → IsNew served v
above_is_new served v above j d l same = let low = above j d l in omega (arith, low, same)

-- all ids are below one that is above the last
pub above_last : (served : List (Command × ℕ)) (v : Command × ℕ) (id : ℕ) → DoRise served → Some v ≡ slice_get served (length served - 1) → v.0.id < id → All (λ (s : Command × ℕ). s.0.id < id) served
above_last served v id rise is low j d l = elim (cases_lt j (length served - 1)) [
  | inl sooner ↦ (let up = rise j (length served - 1) d sooner (omega (arith, l)) in omega (arith, up, here, low))
  | inr next ↦ (let at : j ≡ length served - 1 = omega (arith, next, l) in
      let same : (get_or served j d).0.id ≡ (get_or served (length served - 1) d).0.id = ap (λ (i : ℕ). (get_or served i d).0.id) at in
      omega (arith, same, here, low))
]
  where
    here : (get_or served (length served - 1) d).0.id ≡ v.0.id
    here = ap (λ (c : Command × ℕ). c.0.id) (get_or_from_slice_get served (length served - 1) v d (sym is))

pub above_none : (served : List (Command × ℕ)) (id : ℕ) → None ≡ slice_get served (length served - 1) → All (λ (s : Command × ℕ). s.0.id < id) served
above_none served id is j d l = absurd (let clash : None ≡ Some (get_or served (length served - 1) d) = is ∙ slice_get-get_or served (length served - 1) d (omega (arith, l)) in cc)

pub on_true : {P : Type 0} (b : Bool) → (b ≡ true → P) → OnTrue b P
on_true true f = f refl
on_true false f = tt

pub when_rising : (P Q : Type 0) (b : Bool) → b ≡ true → MatchBool b P Q → P
when_rising P Q true e h = h
when_rising P Q false e h = absurd (cc)

pub when_not : (P Q : Type 0) (b : Bool) → b ≡ false → MatchBool b P Q → Q
when_not P Q false e h = h
when_not P Q true e h = absurd (cc)

-- one command in hand

pub new_row : (before : List (Command × ℕ)) (row : Row) (v : Command × ℕ) → IsRowOf served_record row v → IsNew before v → IsRowOf (new_record before) row v
new_row before row v h new rest = let b = h rest in record { fits = (b.fits, new); made = b.made; follows = b.follows }

pub old_line : (before : List (Command × ℕ)) (row : Row) (v : Command × ℕ) → IsRowOf served_record row v → ¬ IsNew before v → IsWrongRecord (new_record before) row why.RepeatedId
old_line before row v h old rest = inr (v, rest, h rest, (refl, refl, old))

pub wrong_line : (before : List (Command × ℕ)) (row : Row) (w : TextReason) → IsWrongRecord served_record row w → IsWrongRecord (new_record before) row w
wrong_line before row w h rest = inl (h rest)

hand_wrong : (failed : Bool) (before : List (Command × ℕ)) (left : Option (List Row)) (row : Row) (start at : ℕ) (w : TextReason) → at ≡ start → IsWrongRecord (new_record before) row w → HandFails failed (new_record before) left row start at w
hand_wrong failed before None row start at w e h = tt
hand_wrong failed before (Some rows) row start at w e h = inr (1, omega (arith, e), h rows)

hand_outside : (failed : Bool) (before : List (Command × ℕ)) (left : Option (List Row)) (row : Row) (start at : ℕ) (w : TextReason) → IsOutside failed w → HandFails failed (new_record before) left row start at w
hand_outside failed before None row start at w o = tt
hand_outside failed before (Some rows) row start at w o = inl o

-- a record that is wrong by itself
pub line_fails : (failed : Bool) (before : List (Command × ℕ)) (left : Option (List Row)) (row : Row) (start at : ℕ) (w : TextReason) → at ≡ start → IsWrongRecord served_record row w → HandFails failed (new_record before) left row start at w
line_fails failed before left row start at w e h = hand_wrong failed before left row start at w e (wrong_line before row w h)

-- one whose id stood before, or for which memory ran out
pub old_fails : (failed : Bool) (before : List (Command × ℕ)) (left : Option (List Row)) (row : Row) (v : Command × ℕ) (start at : ℕ) (w : TextReason) → at ≡ start → IsRowOf served_record row v
    → (w ≡ why.Memory) ⊎ ((w ≡ why.RepeatedId) × ¬ IsNew before v) → HandFails failed (new_record before) left row start at w
old_fails failed before left row v start at w e h (inl m) = hand_outside failed before left row start at w (inr m)
old_fails failed before left row v start at w e h (inr o) = rw o.0 (hand_wrong failed before left row start at why.RepeatedId e (old_line before row v h o.1))

-- a good one
pub new_gathers : (before now : List (Command × ℕ)) (left : Option (List Row)) (row : Row) (v : Command × ℕ) (at : ℕ) → IsRowOf served_record row v → IsNew before v → now ≡ before ++ v ∷ [] → Gathers new_record before now left row left at at
new_gathers before now left row v at h new e = record {
  item = v;
  gathered = e;
  fits = ((h []).fits, new);
  read = hand_reads (new_record before) left row v (new_row before row v h new);
  end = omega arith;
}

-- one past the last

abbrev IsOver : List (Command × ℕ) → Row → TextReason → Type 0
IsOver before row w = (rest : List Row) → (over why.Count (new_record before)).Wrong (row ∷ rest) 1 w

pub past_line : (before : List (Command × ℕ)) (row : Row) (w : TextReason) → IsWrongRecord served_record row w → IsOver before row w
past_line before row w h rest = (λ e. (cc e), inl (inl (h rest)))

pub past_new : (before : List (Command × ℕ)) (row : Row) (v : Command × ℕ) → IsRowOf served_record row v → IsNew before v → IsOver before row why.Count
past_new before row v h new rest = (λ e. (cc e), inr (refl, refl, (v, rest, new_row before row v h new rest)))

pub past_old : (before : List (Command × ℕ)) (row : Row) (v : Command × ℕ) (w : TextReason) → IsRowOf served_record row v → (w ≡ why.Memory) ⊎ ((w ≡ why.RepeatedId) × ¬ IsNew before v)
    → (w ≡ why.Memory) ⊎ IsOver before row w
past_old before row v w h (inl m) = inl m
past_old before row v w h (inr o) = inr (rw o.0 (λ rest. (λ e. (cc e), inl (old_line before row v h o.1 rest))))

-- this number of commands, to the end of the text

abbrev Counted : ℕ → Option (List Row) → Option (List Row) → ℕ → ℕ → List (Command × ℕ) → Type 0
Counted count left new start at vs = AreGathered (repeats.Exactly count) new_record left new start at vs false

pub new_ends : (count : ℕ) (left mid new : Option (List Row)) (start at : ℕ) (vs : List (Command × ℕ)) (row : Row) → Counted count left mid start at vs → TakesRecord mid new row false
    → IfSome left (λ rows. Begins (schedule_body count) rows vs [])
new_ends count left mid new start at vs row got taken = many_ends new_record new_record (repeats.Exactly count) left vs (full_ends new_record (repeats.Exactly count) left mid new vs row got.0 taken)

pub new_fit : (count : ℕ) (left mid : Option (List Row)) (start at : ℕ) (vs : List (Command × ℕ)) → Counted count left mid start at vs → AreFit vs × (length vs ≡ count)
new_fit count left mid start at vs got = (got.1.0, got.1.1)

pub new_size : (count : ℕ) (left mid : Option (List Row)) (start at : ℕ) (vs : List (Command × ℕ)) → Counted count left mid start at vs → at ≡ start + length vs
new_size count left mid start at vs got = let e = got.3 in omega (arith, e, size_new vs)

halted : (failed : Bool) (count : ℕ) (left : Option (List Row)) (start at last : ℕ) (w : TextReason) → IsStopped (repeats.Exactly count) new_record left start 0 at last → Fails failed (schedule_body count) left start at w → Halts failed (schedule_body count) left start at w
halted failed count left start at last w = lines_halt failed new_record (repeats.Exactly count) left start at last w (λ s. one_item (new_one s))

pub new_halts : (failed : Bool) (count : ℕ) (left : Option (List Row)) (start at last : ℕ) (w : TextReason) → IsStopped (repeats.Exactly count) new_record left start 0 at last → Fails failed (repeated (repeats.Exactly count) new_record) left start at w
    → Halts failed (schedule_body count) left start at w
new_halts failed count left start at last w s f = halted failed count left start at last w s (many_fails failed new_record new_record (repeats.Exactly count) left start at w f)

full : (count : ℕ) (left mid : Option (List Row)) (start at now : ℕ) (vs : List (Command × ℕ)) → Counted count left mid start now vs → at ≡ now + 1 → IsStopped (repeats.Exactly count) new_record left start 0 at at
full count left mid start at now vs got e = let is = got.3 in full_stopped new_record (repeats.Exactly count) left mid vs start 0 at got.0 got.2 (omega (arith, is, e))

pub end_outside : (failed : Bool) (count : ℕ) (left mid : Option (List Row)) (start at now : ℕ) (vs : List (Command × ℕ)) (w : TextReason) → Counted count left mid start now vs → at ≡ now + 1 → IsOutside failed w → Halts failed (schedule_body count) left start at w
end_outside failed count left mid start at now vs w got e o = halted failed count left start at at w (full count left mid start at now vs got e) (outside_fails failed (schedule_body count) left start at w o)

pub past_halts : (failed : Bool) (count : ℕ) (left mid new : Option (List Row)) (start at now : ℕ) (vs : List (Command × ℕ)) (row : Row) (w : TextReason) → Counted count left mid start now vs → TakesRecord mid new row true → at ≡ now + 1
    → (w ≡ why.Memory) ⊎ IsOver vs row w → Halts failed (schedule_body count) left start at w
past_halts failed count left mid new start at now vs row w got taken e (inl m) = end_outside failed count left mid start at now vs w got e (inr m)
past_halts failed count left mid new start at now vs row w got taken e (inr bad) =
    let is = got.3 in
    halted failed count left start at at w (full count left mid start at now vs got e)
    (past_wrong failed new_record new_record (repeats.Exactly count) left mid new vs row start at w got.0 taken (omega (arith, is, e)) bad)

-- where reading halts

-- the title that a record tells by these numbers
pub title_told : (left mid : Option (List Row)) (t : ℕ × List ℕ) → TakesTitle SCHEDULE left mid t.0 t.1
    → Reads schedule_title left mid (t.0, (get_or t.1 2 0, get_or t.1 3 0)) × (IsVersion SCHEDULE.latest t.0 × IsCounted (get_or t.1 2 0, get_or t.1 3 0))
title_told left mid t h = title_reads SCHEDULE counted_numbers (λ _. IsCounted) is_schedule_title left mid t.0 (get_or t.1 2 0, get_or t.1 3 0) t.1 h (refl, (refl, tt))

pub title_halts : (failed : Bool) (left : Option (List Row)) (at : ℕ) (w : TextReason) → at ≡ 1 → StopsAtTitle SCHEDULE failed left w → Halts failed schedule_form left 0 at w
title_halts failed left at w e h =
    first_halts failed schedule_title (λ t. schedule_body t.1.1) left 0 at w (λ t fit. body_tells t.1.1) (title_stops SCHEDULE counted_numbers (λ _. IsCounted) is_schedule_title failed left 0 at w (omega (arith, e)) h)

pub body_halts : (failed : Bool) (left mid : Option (List Row)) (t : ℕ × (ℕ × ℕ)) (middle at : ℕ) (w : TextReason) → middle ≡ 1 → Reads schedule_title left mid t → Halts failed (schedule_body t.1.1) mid middle at w → Halts failed schedule_form left 0 at w
body_halts failed left mid t middle at w e r h = second_halts failed schedule_title (λ t. schedule_body t.1.1) left mid t 0 middle at w (title_tells is_schedule_title) r (omega (arith, e)) h

-- past the last record
pub whole_halts : (failed : Bool) (left mid : Option (List Row)) (t : ℕ × (ℕ × ℕ)) (lines : List (Command × ℕ)) (at : ℕ) (w : TextReason) → Reads schedule_title left mid t → IfSome mid (λ rows. Begins (schedule_body t.1.1) rows lines [])
    → at ≡ length lines + 2 → IsOutside failed w → Halts failed schedule_form left 0 at w
whole_halts failed left mid t lines at w r b e o =
    end_halts failed schedule_form left (t, lines) at w schedule_tells (then_reads schedule_title (λ t. schedule_body t.1.1) left mid t lines r b) long o
  where
    long : at ≡ length (schedule_form.rows_of (t, lines)) + 1
    long =
        let all : length ((schedule_body t.1.1).rows_of lines) ≡ length lines = ap length (append-nil _) ∙ size_new lines in
        omega (arith, e, all)
