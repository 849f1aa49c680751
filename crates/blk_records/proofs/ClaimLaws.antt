-- The laws of certificates.
use Rattle.std.proofs.Common.{◌≡◌, ◌+◌, ◌-◌, ◌<◌, ◌^◌, ◌∙◌, ℕ, ℤ, zero, suc, pos, negsuc, List, [], ◌∷◌, ◌++◌, length, map, append-nil, Option, Some, None, refl, sym, ap, subst, inl, inr, arith, codes, get_or, decimal}
use Rattle.std.specs.Prelude.{IfSome, All, ◌⊎◌, Bool, Ok, Err}
use Rattle.std.specs.Fmt.{signed_decimal}
use Rattle.std.proofs.lemmas.Slice.Zip.{get_or-zip}
use Rattle.std.specs.List.{zip}
use Rattle.std.proofs.lemmas.List.{length-map, length-append, map-append}
use Rattle.std.proofs.lemmas.List.Elements.{All-map}
use Rattle.csv.specs.Reading.{default_config, records, strip_bom}
use Rattle.csv.specs.Writing.{read_back}
use Rattle.edd_commands.specs.declared.Command.{Command}
use Rattle.edd_check.specs.declared.Window.{Window}
use Rattle.blk_records.specs.Sources.{Row}
use Rattle.blk_records.specs.Texts.{rows_text}
use Rattle.blk_records.specs.Fields.{Lacks, IsSized}
use Rattle.blk_records.specs.Words.{StartsWith, HasNoWord}
use Rattle.blk_records.specs.Commands.{IsCommandInRange}
use Rattle.blk_records.specs.Reads.{IsOutside, Reads, Halts, IsWrongRecord, IsOne, items_of, with_next}
use Rattle.blk_records.specs.Tables.{IsUpTo, FitsCells, row_by, slots_by}
use Rattle.blk_records.specs.Titles.{IsVersion, IsCounted, counted_numbers, title_by, TakesTitle, StopsAtTitle}
use Rattle.blk_records.specs.Certificate.{Claim, claim_rows, certificate_title_part, Bounded, NoBound, SomeBound, BoundSaid, TellsBound, bound_kind, kind_of, bound_cells, no_bound_row, last_round, bound, served_cells, served_record, IsServed, IsLateness, IsBound, IsClaim, claim_body, claim_told, claim_form, claim_value, SpellsClaim, ClaimFault}
use Rattle.blk_records.specs.Inside.Certificate.{bound_row}
use Rattle.blk_records.specs.declared.certificate.TheConstants.{CERTIFICATE}
use Rattle.blk_records.specs.declared.fault.TextReason.{TextReason}
use Rattle.blk_records.specs.declared.fault.TextReason.TheVariants as why
use Rattle.blk_records.specs.declared.fields.Slot.TheVariants as slot
use Rattle.blk_records.proofs.Decimals.{no_minus}
use Rattle.text_grammar.specs.declared.Repeats.TheVariants as repeats
use Rattle.text_grammar.specs.Parts.{Begins, Took, IsTaken, NextWrong, Spells, all_rows}
use Rattle.text_grammar.specs.Laws.{Told, Tells}
use Rattle.text_grammar.proofs.Then.{once, decided, record_tells, by_word_tells, seen_tells, then_tells}
use Rattle.blk_records.proofs.Lists.{head_of, tail_of, all_cons, cons_same}
use Rattle.blk_records.proofs.Lacking.{both, same_number, same_row, no_word_lacks, word_decided}
use Rattle.blk_records.proofs.TableLaws.{IsTable, table_tells, word_tells, next_starts, next_once}
use Rattle.blk_records.proofs.Each.{size_is, rows_map, all_fit, each_tells, one_record, one_version}
use Rattle.blk_records.proofs.Reading.{then_reads, ends_halt, first_halts, second_halts}
use Rattle.blk_records.proofs.TitleLaws.{is_certificate_title, title_tells, title_reads, title_stops}
use Rattle.blk_records.proofs.Texts.{text_back, parts_back, begins_itself}
use Rattle.edd_commands.specs.declared.TheConstants.{MAX_ROUNDS}

-- the tables

pub served_fits : (s : Command × ℕ) → FitsCells served_cells s → IsServed s
served_fits s f = let id = f.0.1 in let release = f.1.0.1 in let due = f.1.1.0.1 in let round = f.1.1.1.0.1 in ((omega (arith, id), omega (arith, release), omega (arith, due)), omega (arith, round))

pub served_table : IsTable served_cells IsServed
served_table = record {
  sized = (omega arith, (omega arith, (omega arith, (omega arith, tt))));
  within = λ s f. (let id = f.0.0 in let release = f.0.1 in let due = f.0.2 in let round = f.1 in
      ((omega arith, omega (arith, id)), ((omega arith, omega (arith, release)), ((omega arith, omega (arith, due)), ((omega arith, omega (arith, round)), tt)))));
  made = λ x. (record { id = x.0; release = x.1.0; due = x.1.1.0 }, x.1.1.1.0);
  back = λ s f. refl;
  forth = λ x. refl;
  fits = λ x f. served_fits _ f;
}

last_small : (count : ℕ) → last_round count < 2 ^ 64
last_small zero = omega arith
last_small (suc n) = omega arith

bound_table : (count : ℕ) → IsTable (bound_cells count) (FitsCells (bound_cells count))
bound_table count = record {
  sized = (omega arith, (last_small count, (last_small count, tt)));
  within = λ b f. f;
  made = λ x. (x.0, record { from = x.1.0; due = x.1.1.0 });
  back = λ b f. refl;
  forth = λ x. refl;
  fits = λ x f. f;
}

certificate_title_tells : Tells certificate_title_part
certificate_title_tells = title_tells is_certificate_title

pub served_one : IsOne served_record
served_one = one_record why.Count (table_tells served_table)

-- the bound

one_kind : (count : ℕ) (j k : Bounded) (rows : List Row) → TellsBound count j rows → TellsBound count k rows → j ≡ k
one_kind count NoBound NoBound rows s t = refl
one_kind count NoBound SomeBound rows s t = absurd (t.1 s)
one_kind count SomeBound NoBound rows s t = absurd (s.1 t)
one_kind count SomeBound SomeBound rows s t = refl

-- beside no commands no window is in range
no_window : (count : ℕ) (b : ℤ × Window) → count ≡ 0 → FitsCells (bound_cells count) b → ⊥
no_window zero b e f = let low = f.1.0.0 in let high = f.1.0.1 in omega (arith, low, high)
no_window (suc n) b e f = omega (arith, e)

kind_starts : (count : ℕ) (k : Bounded) (rows : List Row) (v : BoundSaid k) (a : List Row) → Begins (bound_kind count k) rows v a → TellsBound count k rows
kind_starts count NoBound rows v a h = (h.fits, (a, h.made))
kind_starts count SomeBound rows v a h = (next_starts (codes "bound") (row_by (bound_cells count) v) rows a h.made, λ n. no_window count v n.0 h.fits)

kind_told : (count : ℕ) (k : Bounded) (rows : List Row) → TellsBound count k rows → Told (bound_kind count k) rows
kind_told count NoBound rows s = (Ok (tt, s.1.0), record { fits = s.0; made = s.1.1; follows = tt }, tt, only)
  where
    only : (t : Took Row TextReason (Unit {0})) → IsTaken (bound_kind count NoBound) rows t → Ok (tt, s.1.0) ≡ t
    only (Ok t) h = let same = (cons_same _ _ _ _ (sym s.1.1 ∙ h.made)).1 in λ i. Ok (tt, same i)
    only (Err f) h = absurd (rw s.1.1 at h.1)
kind_told count SomeBound rows s = (record_tells why.Word (word_tells (codes "bound") (bound_table count))).told rows

-- a record that does not begin with its word is of no kind
pub no_kind : (count : ℕ) (row : Row) (rows : List Row) → ¬ StartsWith (codes "bound") row → (k : Bounded) → ¬ TellsBound count k (row ∷ rows)
no_kind count row rows n NoBound t = n (_, (cons_same _ _ _ _ t.1.1).0)
no_kind count row rows n SomeBound t = n t.0

no_kinds : (count : ℕ) (k : Bounded) → ¬ TellsBound count k []
no_kinds count NoBound t = let e : [] ≡ no_bound_row ∷ t.1.0 = t.1.1 in cc e
no_kinds count SomeBound t = t.0

kind_found : (count : ℕ) (rows : List Row) → ((k : Bounded) × TellsBound count k rows) ⊎ (((k : Bounded) → ¬ TellsBound count k rows) × ((w : TextReason) × NextWrong why.Word (HasNoWord 4) rows w))
kind_found count [] = inr (no_kinds count, (why.Word, refl))
kind_found count (row ∷ rows) = elim (both (same_number count 0) (same_row row no_bound_row)) [
  | inl d ↦ inl (NoBound, (d.0, (rows, ap (λ (r : Row). r ∷ rows) d.1)))
  | inr n ↦ elim (word_decided (codes "bound") row) [
    | inl s ↦ inl (SomeBound, (s, λ t. n (t.0, (cons_same _ _ _ _ t.1.1).0)))
    | inr m ↦ inr (no_kind count row rows m, no_word_lacks 4 row)
  ]
]

-- the bound of a kind
bound_of : (k : Bounded) → BoundSaid k → Option (ℤ × Window)
bound_of NoBound b = None
bound_of SomeBound b = Some b

kind_back : (b : Option (ℤ × Window)) → bound_of (kind_of b).0 (kind_of b).1 ≡ b
unfolding bound_of
kind_back None = refl
kind_back (Some b) = refl

bound_back : (k : Bounded) (b : BoundSaid k) → kind_of (bound_of k b) ≡ (k, b)
unfolding bound_of
bound_back NoBound b = refl
bound_back SomeBound b = refl

pub bound_one : (count : ℕ) → IsOne (bound count)
bound_one count = record {
  tells = seen_tells kind_of (λ b c e. sym (kind_back b) ∙ ap (λ (k : (k : Bounded) × BoundSaid k). bound_of k.0 k.1) e ∙ kind_back c) (λ v f. (bound_of v.0 v.1, bound_back v.0 v.1))
      (by_word_tells BoundSaid (TellsBound count) (bound_kind count) (NextWrong why.Word (HasNoWord 4)) (kind_told count) (one_kind count) (kind_starts count) (next_once why.Word 4) (kind_found count));
  plain = plain;
  one = one;
}
  where
    plain : (b : Option (ℤ × Window)) (rest : List Row) → (bound count).Fits b → (bound count).Follows b rest
    plain None rest f = tt
    plain (Some b) rest f = tt

    one : (b : Option (ℤ × Window)) → length ((bound count).rows_of b) ≡ 1
    one None = refl
    one (Some b) = refl

late_in : (z : ℤ) → IsLateness z → IsUpTo (MAX_ROUNDS - 1) z
late_in (pos n) h = omega (arith, h)
late_in (negsuc n) h = omega (arith, h)

late_out : (z : ℤ) → IsUpTo (MAX_ROUNDS - 1) z → IsLateness z
late_out (pos n) h = omega (arith, h)
late_out (negsuc n) h = omega (arith, h)

bound_fits : (count : ℕ) (b : Option (ℤ × Window)) → IsBound count b → (bound count).Fits b
bound_fits count None i = i
bound_fits zero (Some b) i = absurd (let some = i.0 in omega (arith, some))
bound_fits (suc n) (Some b) i = let from = i.2 in let due = i.3 in (late_in b.0 i.1, ((omega arith, omega (arith, from)), ((omega arith, omega (arith, due)), tt)))

bound_in : (count : ℕ) (b : Option (ℤ × Window)) → (bound count).Fits b → IsBound count b
bound_in count None f = f
bound_in zero (Some b) f = absurd (no_window zero b refl f)
bound_in (suc n) (Some b) f = let from = f.1.0.1 in let due = f.1.1.0.1 in (omega arith, late_out b.0 f.0, omega (arith, from), omega (arith, due))

-- whole certificates

pub items_tell : (count : ℕ) → Tells (items_of (repeats.Exactly count) (λ _. served_record))
items_tell count = each_tells served_one (repeats.Exactly count)

pub body_tells : (count : ℕ) → Tells (claim_body count)
body_tells count = then_tells (bound_one count).tells (λ b fit. items_tell count)

pub claim_tells : Tells claim_form
claim_tells = then_tells certificate_title_tells (λ t fit. body_tells t.1.1)

pub all_zip : (cs : List Command) (rs : List ℕ) → All IsCommandInRange cs → All (λ x. x < MAX_ROUNDS) rs → All IsServed (zip cs rs)
all_zip [] rs p q = λ k d l. absurd (omega arith)
all_zip (c ∷ cs) [] p q = λ k d l. absurd (omega arith)
all_zip (c ∷ cs) (r ∷ rs) p q =
    all_cons IsServed (c, r) (zip cs rs) (head_of IsCommandInRange c cs p, head_of (λ x. x < MAX_ROUNDS) r rs q) (all_zip cs rs (tail_of IsCommandInRange c cs p) (tail_of (λ x. x < MAX_ROUNDS) r rs q))

pub firsts_zip : (cs : List Command) (rs : List ℕ) → length rs ≡ length cs → map (λ (s : Command × ℕ). s.0) (zip cs rs) ≡ cs
firsts_zip [] rs e = refl
firsts_zip (c ∷ cs) [] e = absurd (omega (arith, e))
firsts_zip (c ∷ cs) (r ∷ rs) e = ap (λ (k : List Command). c ∷ k) (firsts_zip cs rs (omega (arith, e)))

pub seconds_zip : (cs : List Command) (rs : List ℕ) → length rs ≡ length cs → map (λ (s : Command × ℕ). s.1) (zip cs rs) ≡ rs
seconds_zip [] [] e = refl
seconds_zip [] (r ∷ rs) e = absurd (omega (arith, e))
seconds_zip (c ∷ cs) [] e = absurd (omega (arith, e))
seconds_zip (c ∷ cs) (r ∷ rs) e = ap (λ (k : List ℕ). r ∷ k) (seconds_zip cs rs (omega (arith, e)))

same_claim : (c d : Claim) → c.depth ≡ d.depth → c.commands ≡ d.commands → c.rounds ≡ d.rounds → c.bound ≡ d.bound → c ≡ d
same_claim c d p q r s i = record { depth = p i; commands = q i; rounds = r i; bound = s i }

pub spelled_once : (rows : List Row) (c d : Claim) → SpellsClaim rows c → SpellsClaim rows d → c ≡ d
spelled_once rows c d s t =
    let e = (once claim_tells rows (claim_value c) (claim_value d) [] [] s.1 t.1).0 in
    let both : zip c.commands c.rounds ≡ zip d.commands d.rounds = λ i. (e i).1.1 in
    same_claim c d (λ i. (e i).0.1.0)
    (sym (firsts_zip c.commands c.rounds s.0) ∙ ap (map (λ (k : Command × ℕ). k.0)) both ∙ firsts_zip d.commands d.rounds t.0)
    (sym (seconds_zip c.commands c.rounds s.0) ∙ ap (map (λ (k : Command × ℕ). k.1)) both ∙ seconds_zip d.commands d.rounds t.0)
    (λ i. (e i).1.0)

pub length_zip : (cs : List Command) (rs : List ℕ) → length rs ≡ length cs → length (zip cs rs) ≡ length cs
length_zip [] rs e = refl
length_zip (c ∷ cs) [] e = absurd (omega (arith, e))
length_zip (c ∷ cs) (r ∷ rs) e = ap suc (length_zip cs rs (omega (arith, e)))

-- the records of a certificate spell it
pub rows_spell : (c : Claim) → IsClaim c → SpellsClaim (claim_rows c) c
rows_spell c h = (
  h.one_each,
  begins_itself claim_form (claim_value c) (
    ((omega arith, omega arith), (h.depth.0, h.depth.1, h.few)),
    (
      bound_fits (length c.commands) c.bound h.bound,
      ((all_fit served_record [] (zip c.commands c.rounds) (all_zip c.commands c.rounds h.commands h.rounds), length_zip c.commands c.rounds h.one_each), tt),
    ),
  )
      (tt, ((bound_one (length c.commands)).plain c.bound _ (bound_fits (length c.commands) c.bound h.bound), (length_zip c.commands c.rounds h.one_each, refl))),
)

-- the records of a certificate, one by one
bound_rows : (count : ℕ) (b : Option (ℤ × Window)) → (bound count).rows_of b ≡ bound_row b ∷ []
bound_rows count None = refl
bound_rows count (Some b) = refl

pub rows_are : (c : Claim) → claim_rows c ≡ (title_by CERTIFICATE counted_numbers (CERTIFICATE.latest, (c.depth, length c.commands)) ∷ bound_row c.bound ∷ []) ++ map (row_by served_cells) (zip c.commands c.rounds)
rows_are c = rw (bound_rows (length c.commands) c.bound, append-nil (all_rows (λ _. served_record) with_next [] (zip c.commands c.rounds)), rows_map served_record (row_by served_cells) (λ v. refl) [] (zip c.commands c.rounds)) refl

bound_back_is : (count : ℕ) (b : Option (ℤ × Window)) → map read_back ((bound count).rows_of b) ≡ (bound count).rows_of b
bound_back_is count None = refl
bound_back_is count (Some b) = refl

pub read_back_is : (c : Claim) → IsClaim c → SpellsClaim (records default_config (strip_bom (rows_text (claim_rows c)))) c
unfolding rows_text
read_back_is c h =
    let body = (bound (length c.commands)).rows_of c.bound in
    let lines = (items_of (repeats.Exactly (length c.commands)) (λ _. served_record)).rows_of (zip c.commands c.rounds) in
    let same : map read_back (body ++ lines) ≡ body ++ lines = rw (map-append read_back body lines, bound_back_is (length c.commands) c.bound, parts_back served_record (λ s. refl) (zip c.commands c.rounds)) refl in
    let back : map read_back (claim_rows c) ≡ claim_rows c = ap (λ (t : List Row). title_by CERTIFICATE counted_numbers (CERTIFICATE.latest, (c.depth, length c.commands)) ∷ t) same in
    rw (text_back (claim_rows c) _ refl back) (rows_spell c h)

-- reading

abbrev pub firsts : List (Command × ℕ) → List Command
firsts = map (λ s. s.0)

abbrev pub seconds : List (Command × ℕ) → List ℕ
seconds = map (λ s. s.1)

pub all_first : (served : List (Command × ℕ)) → All IsServed served → All IsCommandInRange (firsts served)
all_first served h = All-map IsCommandInRange (λ s. s.0) served (λ k d l. (h k d l).0)

pub all_second : (served : List (Command × ℕ)) → All IsServed served → All (λ x. x < MAX_ROUNDS) (seconds served)
all_second served h = All-map (λ x. x < MAX_ROUNDS) (λ s. s.1) served (λ k d l. (h k d l).1)

pub zipped : (served : List (Command × ℕ)) → zip (firsts served) (seconds served) ≡ served
zipped [] = refl
zipped (s ∷ ss) = ap (λ (k : List (Command × ℕ)). s ∷ k) (zipped ss)

-- records that were taken for a title, a bound and commands spell them
pub claim_spelled : (rows : List Row) (version depth count : ℕ) (b : Option (ℤ × Window)) (lines : List (Command × ℕ)) (cs : List Command) (rs : List ℕ) → IsVersion 1 version → length lines ≡ count
    → cs ≡ map (λ s. s.0) lines → rs ≡ map (λ s. s.1) lines → Spells claim_form rows ((version, (depth, count)), (b, lines)) → SpellsClaim rows record { depth = depth; commands = cs; rounds = rs; bound = b }
claim_spelled rows version depth count b lines cs rs v n p q h =
    let c : length (firsts lines) ≡ length lines = length-map lines (λ s. s.0) in
    let d : length (seconds lines) ≡ length lines = length-map lines (λ s. s.1) in
    let one = one_version version v in
    let number : count ≡ length (firsts lines) = omega (arith, c, n) in
    rw (p, q) (d ∙ sym c, subst (λ v. Spells claim_form rows v) (λ i. ((one i, (depth, number i)), (b, sym (zipped lines) i))) h)

pub spelled_or_wrong : (rows : List Row) → ((c : Claim) × SpellsClaim rows c) ⊎ ((at : ℕ) × (w : TextReason) × ClaimFault rows at w)
spelled_or_wrong rows = elim (decided claim_tells rows) [
  | inl h ↦ (let f = h.2.fits in let t = h.0.0 in let lines = h.0.1.1 in
      inl (
        record { depth = t.1.0; commands = firsts lines; rounds = seconds lines; bound = h.0.1.0 },
        claim_spelled rows t.0 t.1.0 t.1.1 h.0.1.0 lines (firsts lines) (seconds lines) f.0.0 f.1.1.0.1 refl refl (rw h.2.follows.1.1.1 at h.2),
      ))
  | inr f ↦ inr f
]

-- what was read after the title
pub claim_in : (depth count : ℕ) (b : Option (ℤ × Window)) (lines : List (Command × ℕ)) (cs : List Command) (rs : List ℕ)
    → IsCounted (depth, count) → (bound count).Fits b → All IsServed lines → length lines ≡ count
    → cs ≡ map (λ s. s.0) lines → rs ≡ map (λ s. s.1) lines → IsClaim record { depth = depth; commands = cs; rounds = rs; bound = b }
claim_in depth count b lines cs rs r f fit n p q =
    let c : length (firsts lines) ≡ length lines = length-map lines (λ s. s.0) in
    let d : length (seconds lines) ≡ length lines = length-map lines (λ s. s.1) in
    let same : count ≡ length (firsts lines) = omega (arith, c, n) in
    let few = r.2 in
    rw (p, q) (record { depth = (r.0, r.1); few = omega (arith, few, same); one_each = d ∙ sym c; bound = rw same at (bound_in count b f); commands = all_first lines fit; rounds = all_second lines fit })

pub body_read : (left mid : Option (List Row)) (count : ℕ) (b : Option (ℤ × Window)) (lines : List (Command × ℕ)) (cs : List Command) (rs : List ℕ) → Reads (bound count) left mid b
    → IfSome mid (λ rows. Begins (items_of (repeats.Exactly count) (λ _. served_record)) rows lines []) → cs ≡ map (λ s. s.0) lines → rs ≡ map (λ s. s.1) lines
    → IfSome left (λ rows. Begins (claim_body count) rows (b, zip cs rs) [])
body_read left mid count b lines cs rs k e p q =
    rw (p, q) (subst (λ l. IfSome left (λ rows. Begins (claim_body count) rows (b, l) [])) (sym (zipped lines)) (then_reads (bound count) (λ b. items_of (repeats.Exactly count) (λ _. served_record)) left mid b lines k e))

-- a title and what comes after it
pub claim_whole : (left mid : Option (List Row)) (version depth count : ℕ) (c : Claim) → Reads certificate_title_part left mid (version, (depth, count)) → IsVersion 1 version
    → IfSome mid (λ rows. Begins (claim_body count) rows (claim_told c) []) → c.depth ≡ depth → length c.commands ≡ count → length c.rounds ≡ length c.commands → IfSome left (λ rows. SpellsClaim rows c)
claim_whole None mid version depth count c t v u d n o = tt
claim_whole (Some rows) mid version depth count c t v u d n o =
    let one = one_version version v in
    (o, subst (λ t. Spells claim_form rows (t, claim_told c)) (λ i. (one i, (sym d i, sym n i))) (then_reads certificate_title_part (λ t. claim_body t.1.1) (Some rows) mid (version, (depth, count)) (claim_told c) t u))

-- a size after a minus is that of a number below 0
pub negative_text : (f ds : List ℕ) (n : ℕ) (z : ℤ) → f ≡ 45 ∷ ds → IsSized f n → n < MAX_ROUNDS → (0 < n → z ≡ negsuc (n - 1)) → f ≡ signed_decimal z
negative_text f ds n z e (inl a) h k = absurd (no_minus n (omega (arith, h)) ds (sym e ∙ a))
negative_text f ds n z e (inr b) h k =
    let up : n ≡ suc (n - 1) = omega (arith, b.0) in
    rw (k b.0) (b.1 ∙ ap (λ (m : ℕ). 45 ∷ decimal m) up)

-- a command and its round, of two lists
pub paired : (cs : List Command) (rs : List ℕ) (i : ℕ) (d : Command) → length rs ≡ length cs → i < length cs → get_or (zip cs rs) i (d, 0) ≡ (get_or cs i d, get_or rs i 0)
paired cs rs i d e l = get_or-zip cs rs i (d, 0) l (omega (arith, e, l))

-- a record of a bound

pub bound_lacks : (count : ℕ) (row : Row) (w : TextReason) → StartsWith (codes "bound") row → ¬ ((count ≡ 0) × (row ≡ no_bound_row)) → Lacks (slot.Given ∷ slots_by (bound_cells count)) row w → IsWrongRecord (bound count) row w
bound_lacks count row w t n l = λ rest. inl (SomeBound, (t, λ s. n (s.0, (cons_same _ _ _ _ s.1.1).0)), (refl, inl (t, l)))

pub bound_gone : (count : ℕ) → (bound count).Wrong [] 1 why.Word
bound_gone count = inr (refl, no_kinds count, refl)

-- where reading halts

-- the title that a record tells by these numbers
pub title_told : (left mid : Option (List Row)) (t : ℕ × List ℕ) → TakesTitle CERTIFICATE left mid t.0 t.1
    → Reads certificate_title_part left mid (t.0, (get_or t.1 2 0, get_or t.1 3 0)) × (IsVersion CERTIFICATE.latest t.0 × IsCounted (get_or t.1 2 0, get_or t.1 3 0))
title_told left mid t h = title_reads CERTIFICATE counted_numbers (λ _. IsCounted) is_certificate_title left mid t.0 (get_or t.1 2 0, get_or t.1 3 0) t.1 h (refl, (refl, tt))

pub title_halts : (failed : Bool) (left : Option (List Row)) (at : ℕ) (w : TextReason) → at ≡ 1 → StopsAtTitle CERTIFICATE failed left w → Halts failed claim_form left 0 at w
title_halts failed left at w e h =
    first_halts failed certificate_title_part (λ t. claim_body t.1.1) left 0 at w (λ t fit. body_tells t.1.1) (title_stops CERTIFICATE counted_numbers (λ _. IsCounted) is_certificate_title failed left 0 at w (omega (arith, e)) h)

pub body_halts : (failed : Bool) (left mid : Option (List Row)) (t : ℕ × (ℕ × ℕ)) (at : ℕ) (w : TextReason) → Reads certificate_title_part left mid t → Halts failed (claim_body t.1.1) mid 1 at w → Halts failed claim_form left 0 at w
body_halts failed left mid t at w r h = second_halts failed certificate_title_part (λ t. claim_body t.1.1) left mid t 0 1 at w certificate_title_tells r refl h

pub bound_halts : (failed : Bool) (left : Option (List Row)) (count start at : ℕ) (w : TextReason) → start ≡ 1 → Halts failed (bound count) left start at w → Halts failed (claim_body count) left 1 at w
bound_halts failed left count start at w e h = first_halts failed (bound count) (λ b. items_of (repeats.Exactly count) (λ _. served_record)) left 1 at w (λ b fit. items_tell count) (rw e at h)

pub served_halts : (failed : Bool) (left mid : Option (List Row)) (count : ℕ) (b : Option (ℤ × Window)) (start at : ℕ) (w : TextReason) → start ≡ 2 → Reads (bound count) left mid b
    → Halts failed (items_of (repeats.Exactly count) (λ _. served_record)) mid start at w → Halts failed (claim_body count) left 1 at w
served_halts failed left mid count b start at w e k h =
    second_halts failed (bound count) (λ b. items_of (repeats.Exactly count) (λ _. served_record)) left mid b 1 start at w (bound_one count).tells k (omega (arith, e, (bound_one count).one b)) h

-- past the last record
pub whole_halts : (failed : Bool) (left mid : Option (List Row)) (count : ℕ) (b : Option (ℤ × Window)) (lines : List (Command × ℕ)) (at : ℕ) (w : TextReason) → Reads (bound count) left mid b
    → IfSome mid (λ rows. Begins (items_of (repeats.Exactly count) (λ _. served_record)) rows lines []) → at ≡ length lines + 3 → IsOutside failed w → Halts failed (claim_body count) left 1 at w
whole_halts failed left mid count b lines at w k e a o =
    ends_halt failed (claim_body count) left (b, lines) 1 at w (body_tells count) (then_reads (bound count) (λ b. items_of (repeats.Exactly count) (λ _. served_record)) left mid b lines k e) long o
  where
    long : at ≡ 1 + (length ((claim_body count).rows_of (b, lines)) + 1)
    long =
        let all : length ((items_of (repeats.Exactly count) (λ _. served_record)).rows_of lines) ≡ length lines = ap length (append-nil _) ∙ size_is served_record served_one lines in
        let two = length-append ((bound count).rows_of b) ((items_of (repeats.Exactly count) (λ _. served_record)).rows_of lines) in
        omega (arith, a, all, two, (bound_one count).one b)
