-- The laws of certificates of the greatest number of commands on time.
use Rattle.std.proofs.Common.{get_or, ◌≡◌, ◌+◌, ◌∙◌, ℕ, List, [], ◌∷◌, ◌++◌, length, map, append-nil, Option, Some, None, refl, sym, ap, subst, inl, inr, arith, codes}
use Rattle.std.specs.Prelude.{IfSome, All, ◌⊎◌, Bool}
use Rattle.std.specs.List.{zip}
use Rattle.std.proofs.lemmas.List.{length-map, length-append, map-append}
use Rattle.csv.specs.Reading.{default_config, records, strip_bom}
use Rattle.csv.specs.Writing.{read_back}
use Rattle.edd_commands.specs.declared.Command.{Command}
use Rattle.edd_check.specs.declared.Window.{Window}
use Rattle.edd_check.specs.Window.{WindowInRange}
use Rattle.blk_records.specs.Sources.{Row}
use Rattle.blk_records.specs.Texts.{rows_text}
use Rattle.blk_records.specs.Reads.{IsOutside, Reads, Halts, IsOne, items_of, with_next}
use Rattle.blk_records.specs.Tables.{FitsCells, row_by}
use Rattle.blk_records.specs.Titles.{IsVersion, IsCounted, counted_numbers, title_by, TakesTitle, StopsAtTitle}
use Rattle.blk_records.specs.Certificate.{served_cells, served_record, IsServed}
use Rattle.blk_records.specs.OnTime.{OnTimeClaim, IsOnTimeClaim, AreFew, on_time_cells, window_cells, on_time_title, on_time_numbers, window, windows, cover_body, on_time_body, on_time_form, on_time_told, on_time_value, on_time_rows, SpellsOnTime, OnTimeClaimFault}
use Rattle.blk_records.specs.declared.on_time.TheConstants.{ON_TIME}
use Rattle.blk_records.specs.declared.fault.TextReason.{TextReason}
use Rattle.blk_records.specs.declared.fault.TextReason.TheVariants as why
use Rattle.text_grammar.specs.declared.Repeats.TheVariants as repeats
use Rattle.text_grammar.specs.Parts.{Begins, Spells, all_rows}
use Rattle.text_grammar.specs.Laws.{Tells}
use Rattle.text_grammar.proofs.Then.{once, decided, then_tells}
use Rattle.blk_records.proofs.TableLaws.{IsTable, word_tells}
use Rattle.blk_records.proofs.Each.{size_is, rows_map, all_fit, repeated_tells, one_record, one_version}
use Rattle.blk_records.proofs.Reading.{then_reads, ends_halt, first_halts, second_halts}
use Rattle.blk_records.proofs.Texts.{text_back, items_back, parts_back, begins_itself}
use Rattle.blk_records.proofs.TitleLaws.{is_on_time_title, title_tells, title_reads, title_stops}
use Rattle.blk_records.proofs.ClaimLaws.{served_one, items_tell, firsts, seconds, all_zip, all_first, all_second, firsts_zip, seconds_zip, length_zip, zipped}

-- the tables

on_time_table : IsTable on_time_cells AreFew
on_time_table = record {
  sized = (omega arith, (omega arith, (tt, tt)));
  within = λ n f. ((omega arith, f.0), ((omega arith, f.1), (tt, tt)));
  made = λ x. (x.0, x.1.0);
  back = λ n f. refl;
  forth = λ x. refl;
  fits = λ x f. (f.0.1, f.1.0.1);
}

pub window_fits : (w : Window) → FitsCells window_cells w → WindowInRange w
window_fits w f = let from = f.0.1 in let due = f.1.0.1 in (omega (arith, from), omega (arith, due))

window_table : IsTable window_cells WindowInRange
window_table = record {
  sized = (omega arith, (omega arith, (tt, tt)));
  within = λ w f. (let from = f.0 in let due = f.1 in ((omega arith, omega (arith, from)), ((omega arith, omega (arith, due)), (tt, tt))));
  made = λ x. record { from = x.0; due = x.1.0 };
  back = λ w f. refl;
  forth = λ x. refl;
  fits = λ x f. window_fits _ f;
}

abbrev pub numbers_row : ℕ × ℕ → Row
numbers_row n = codes "met" ∷ row_by on_time_cells n

abbrev pub window_row : Window → Row
window_row w = codes "window" ∷ row_by window_cells w

pub numbers_one : IsOne on_time_numbers
numbers_one = one_record why.Word (word_tells (codes "met") on_time_table)

pub window_one : IsOne window
window_one = one_record why.Count (word_tells (codes "window") window_table)

-- whole certificates

windows_tell : (most : ℕ) → Tells (windows most)
windows_tell most = repeated_tells window_one (repeats.Exactly most)

cover_tells : (most count : ℕ) → Tells (cover_body most count)
cover_tells most count = then_tells (windows_tell most) (λ ws fit. items_tell count)

pub body_tells : (count : ℕ) → Tells (on_time_body count)
body_tells count = then_tells numbers_one.tells (λ n fit. cover_tells n.1 count)

pub on_time_tells : Tells on_time_form
on_time_tells = then_tells (title_tells is_on_time_title) (λ t fit. body_tells t.1.1)

same_on_time : (c d : OnTimeClaim) → c.depth ≡ d.depth → c.commands ≡ d.commands → c.rounds ≡ d.rounds → c.on_time ≡ d.on_time → c.cover ≡ d.cover → c ≡ d
same_on_time c d p q r s t i = record { depth = p i; commands = q i; rounds = r i; on_time = s i; cover = t i }

pub spelled_once : (rows : List Row) (c d : OnTimeClaim) → SpellsOnTime rows c → SpellsOnTime rows d → c ≡ d
spelled_once rows c d s t =
    let e = (once on_time_tells rows (on_time_value c) (on_time_value d) [] [] s.1 t.1).0 in
    let both : zip c.commands c.rounds ≡ zip d.commands d.rounds = λ i. (e i).1.1.1 in
    same_on_time c d (λ i. (e i).0.1.0)
    (sym (firsts_zip c.commands c.rounds s.0) ∙ ap (map (λ (k : Command × ℕ). k.0)) both ∙ firsts_zip d.commands d.rounds t.0)
    (sym (seconds_zip c.commands c.rounds s.0) ∙ ap (map (λ (k : Command × ℕ). k.1)) both ∙ seconds_zip d.commands d.rounds t.0)
    (λ i. (e i).1.0.0)
    (λ i. (e i).1.1.0)

-- the records of a certificate spell it
pub rows_spell : (c : OnTimeClaim) → IsOnTimeClaim c → SpellsOnTime (on_time_rows c) c
rows_spell c h = (
  h.one_each,
  begins_itself on_time_form (on_time_value c) (
    ((omega arith, omega arith), (h.depth.0, h.depth.1, h.few)),
    (
      h.numbers,
      (
        (all_fit window [] c.cover h.cover, refl),
        ((all_fit served_record [] (zip c.commands c.rounds) (all_zip c.commands c.rounds h.commands h.rounds), length_zip c.commands c.rounds h.one_each), tt),
      ),
    ),
  )
      (tt, (tt, (refl, (length_zip c.commands c.rounds h.one_each, refl)))),
)

-- the records of a certificate, one by one
pub rows_are : (c : OnTimeClaim)
    → on_time_rows c ≡ title_by ON_TIME counted_numbers (ON_TIME.latest, (c.depth, length c.commands)) ∷ numbers_row (c.on_time, length c.cover) ∷ (map window_row c.cover ++ map (row_by served_cells) (zip c.commands c.rounds))
rows_are c =
    rw (append-nil (all_rows (λ _. served_record) with_next [] (zip c.commands c.rounds)), rows_map served_record (row_by served_cells) (λ v. refl) [] (zip c.commands c.rounds), rows_map window window_row (λ v. refl) [] c.cover) refl

pub read_back_is : (c : OnTimeClaim) → IsOnTimeClaim c → SpellsOnTime (records default_config (strip_bom (rows_text (on_time_rows c)))) c
unfolding rows_text
read_back_is c h =
    let body = all_rows (λ _. window) with_next [] c.cover in
    let lines = (items_of (repeats.Exactly (length c.commands)) (λ _. served_record)).rows_of (zip c.commands c.rounds) in
    let same : map read_back (body ++ lines) ≡ body ++ lines = rw (map-append read_back body lines, items_back window (λ w. refl) [] c.cover, parts_back served_record (λ s. refl) (zip c.commands c.rounds)) refl in
    let back : map read_back (on_time_rows c) ≡ on_time_rows c = ap (λ (t : List Row). title_by ON_TIME counted_numbers (ON_TIME.latest, (c.depth, length c.commands)) ∷ numbers_row (c.on_time, length c.cover) ∷ t) same in
    rw (text_back (on_time_rows c) _ refl back) (rows_spell c h)

-- records that were taken for a title, numbers, windows and commands spell them
on_time_spelled : (rows : List Row) (version depth count on_time many : ℕ) (ws : List Window) (lines : List (Command × ℕ)) → IsVersion 1 version → length ws ≡ many → length lines ≡ count
    → Spells on_time_form rows ((version, (depth, count)), ((on_time, many), (ws, lines))) → SpellsOnTime rows record { depth = depth; commands = firsts lines; rounds = seconds lines; on_time = on_time; cover = ws }
on_time_spelled rows version depth count on_time many ws lines v m n h =
    let c : length (firsts lines) ≡ length lines = length-map lines (λ s. s.0) in
    let d : length (seconds lines) ≡ length lines = length-map lines (λ s. s.1) in
    let one = one_version version v in
    let number : count ≡ length (firsts lines) = omega (arith, c, n) in
    (d ∙ sym c, subst (λ v. Spells on_time_form rows v) (λ i. ((one i, (depth, number i)), ((on_time, sym m i), (ws, sym (zipped lines) i)))) h)

pub spelled_or_wrong : (rows : List Row) → ((c : OnTimeClaim) × SpellsOnTime rows c) ⊎ ((at : ℕ) × (w : TextReason) × OnTimeClaimFault rows at w)
spelled_or_wrong rows = elim (decided on_time_tells rows) [
  | inl h ↦ (let f = h.2.fits in let t = h.0.0 in let n = h.0.1.0 in let ws = h.0.1.1.0 in let lines = h.0.1.1.1 in
      inl (
        record { depth = t.1.0; commands = firsts lines; rounds = seconds lines; on_time = n.0; cover = ws },
        on_time_spelled rows t.0 t.1.0 t.1.1 n.0 n.1 ws lines f.0.0 f.1.1.0.1 f.1.1.1.0.1 (rw h.2.follows.1.1.1.1 at h.2),
      ))
  | inr f ↦ inr f
]

-- reading

-- what was read after the title
pub on_time_in : (depth count on_time many : ℕ) (ws : List Window) (lines : List (Command × ℕ)) (cs : List Command) (rs : List ℕ)
    → IsCounted (depth, count) → AreFew (on_time, many) → All WindowInRange ws → length ws ≡ many → All IsServed lines → length lines ≡ count
    → cs ≡ map (λ s. s.0) lines → rs ≡ map (λ s. s.1) lines → IsOnTimeClaim record { depth = depth; commands = cs; rounds = rs; on_time = on_time; cover = ws }
on_time_in depth count on_time many ws lines cs rs r f all m fit n p q =
    let c : length (firsts lines) ≡ length lines = length-map lines (λ s. s.0) in
    let d : length (seconds lines) ≡ length lines = length-map lines (λ s. s.1) in
    let few = r.2 in
    let fewer = f.1 in
    rw (p, q) (record { depth = (r.0, r.1); few = omega (arith, few, c, n); one_each = d ∙ sym c; numbers = (f.0, omega (arith, fewer, m)); cover = all; commands = all_first lines fit; rounds = all_second lines fit })

pub body_read : (left mid after : Option (List Row)) (count on_time many : ℕ) (ws : List Window) (lines : List (Command × ℕ)) (cs : List Command) (rs : List ℕ) → Reads on_time_numbers left mid (on_time, many) → Reads (windows many) mid after ws
    → IfSome after (λ rows. Begins (items_of (repeats.Exactly count) (λ _. served_record)) rows lines []) → length ws ≡ many → cs ≡ map (λ s. s.0) lines → rs ≡ map (λ s. s.1) lines
    → IfSome left (λ rows. Begins (on_time_body count) rows ((on_time, length ws), (ws, zip cs rs)) [])
body_read left mid after count on_time many ws lines cs rs a b e m p q =
    rw (p, q) (subst (λ v. IfSome left (λ rows. Begins (on_time_body count) rows v [])) (λ i. ((on_time, sym m i), (ws, sym (zipped lines) i)))
    (then_reads on_time_numbers (λ n. cover_body n.1 count) left mid (on_time, many) (ws, lines) a
    (then_reads (windows many) (λ _. items_of (repeats.Exactly count) (λ _. served_record)) mid after ws lines b e)))

-- a title and what comes after it
pub on_time_whole : (left mid : Option (List Row)) (version depth count : ℕ) (c : OnTimeClaim) → Reads on_time_title left mid (version, (depth, count)) → IsVersion 1 version
    → IfSome mid (λ rows. Begins (on_time_body count) rows (on_time_told c) []) → c.depth ≡ depth → length c.commands ≡ count → length c.rounds ≡ length c.commands → IfSome left (λ rows. SpellsOnTime rows c)
on_time_whole None mid version depth count c t v u d n o = tt
on_time_whole (Some rows) mid version depth count c t v u d n o =
    let one = one_version version v in
    (o, subst (λ t. Spells on_time_form rows (t, on_time_told c)) (λ i. (one i, (sym d i, sym n i))) (then_reads on_time_title (λ t. on_time_body t.1.1) (Some rows) mid (version, (depth, count)) (on_time_told c) t u))

-- where reading halts

pub numbers_halt : (failed : Bool) (left : Option (List Row)) (count start at : ℕ) (w : TextReason) → start ≡ 1 → Halts failed on_time_numbers left start at w → Halts failed (on_time_body count) left 1 at w
numbers_halt failed left count start at w e h = first_halts failed on_time_numbers (λ n. cover_body n.1 count) left 1 at w (λ n fit. cover_tells n.1 count) (rw e at h)

pub windows_halt : (failed : Bool) (left mid : Option (List Row)) (count : ℕ) (n : ℕ × ℕ) (start at : ℕ) (w : TextReason) → start ≡ 2 → Reads on_time_numbers left mid n → Halts failed (windows n.1) mid start at w
    → Halts failed (on_time_body count) left 1 at w
windows_halt failed left mid count n start at w e r h =
    second_halts failed on_time_numbers (λ n. cover_body n.1 count) left mid n 1 start at w numbers_one.tells r (omega (arith, e))
    (first_halts failed (windows n.1) (λ _. items_of (repeats.Exactly count) (λ _. served_record)) mid start at w (λ ws fit. items_tell count) h)

pub served_halt : (failed : Bool) (left mid after : Option (List Row)) (count : ℕ) (n : ℕ × ℕ) (ws : List Window) (middle start at : ℕ) (w : TextReason) → middle ≡ 2 → start ≡ middle + length ws → Reads on_time_numbers left mid n
    → Reads (windows n.1) mid after ws → Halts failed (items_of (repeats.Exactly count) (λ _. served_record)) after start at w → Halts failed (on_time_body count) left 1 at w
served_halt failed left mid after count n ws middle start at w e f r k h =
    second_halts failed on_time_numbers (λ n. cover_body n.1 count) left mid n 1 middle at w numbers_one.tells r (omega (arith, e))
    (second_halts failed (windows n.1) (λ _. items_of (repeats.Exactly count) (λ _. served_record)) mid after ws middle start at w (windows_tell n.1) k (omega (arith, f, size_is window window_one ws)) h)

-- past the last record
pub whole_halt : (failed : Bool) (left mid after : Option (List Row)) (count : ℕ) (n : ℕ × ℕ) (ws : List Window) (lines : List (Command × ℕ)) (at : ℕ) (w : TextReason) → Reads on_time_numbers left mid n → Reads (windows n.1) mid after ws
    → IfSome after (λ rows. Begins (items_of (repeats.Exactly count) (λ _. served_record)) rows lines []) → at ≡ length ws + length lines + 3 → IsOutside failed w → Halts failed (on_time_body count) left 1 at w
whole_halt failed left mid after count n ws lines at w a b c e o =
    ends_halt failed (on_time_body count) left (n, (ws, lines)) 1 at w (body_tells count)
    (then_reads on_time_numbers (λ n. cover_body n.1 count) left mid n (ws, lines) a (then_reads (windows n.1) (λ _. items_of (repeats.Exactly count) (λ _. served_record)) mid after ws lines b c)) long o
  where
    long : at ≡ 1 + (length ((on_time_body count).rows_of (n, (ws, lines))) + 1)
    long =
        let all : length ((items_of (repeats.Exactly count) (λ _. served_record)).rows_of lines) ≡ length lines = ap length (append-nil _) ∙ size_is served_record served_one lines in
        let two = length-append ((windows n.1).rows_of ws) ((items_of (repeats.Exactly count) (λ _. served_record)).rows_of lines) in
        omega (arith, e, all, two, size_is window window_one ws)

-- the title that a record tells by these numbers
pub title_told : (left mid : Option (List Row)) (t : ℕ × List ℕ) → TakesTitle ON_TIME left mid t.0 t.1
    → Reads on_time_title left mid (t.0, (get_or t.1 2 0, get_or t.1 3 0)) × (IsVersion ON_TIME.latest t.0 × IsCounted (get_or t.1 2 0, get_or t.1 3 0))
title_told left mid t h = title_reads ON_TIME counted_numbers (λ _. IsCounted) is_on_time_title left mid t.0 (get_or t.1 2 0, get_or t.1 3 0) t.1 h (refl, (refl, tt))

pub title_halts : (failed : Bool) (left : Option (List Row)) (at : ℕ) (w : TextReason) → at ≡ 1 → StopsAtTitle ON_TIME failed left w → Halts failed on_time_form left 0 at w
title_halts failed left at w e h =
    first_halts failed on_time_title (λ t. on_time_body t.1.1) left 0 at w (λ t fit. body_tells t.1.1) (title_stops ON_TIME counted_numbers (λ _. IsCounted) is_on_time_title failed left 0 at w (omega (arith, e)) h)

pub body_halts : (failed : Bool) (left mid : Option (List Row)) (t : ℕ × (ℕ × ℕ)) (at : ℕ) (w : TextReason) → Reads on_time_title left mid t → Halts failed (on_time_body t.1.1) mid 1 at w → Halts failed on_time_form left 0 at w
body_halts failed left mid t at w r h = second_halts failed on_time_title (λ t. on_time_body t.1.1) left mid t 0 1 at w (title_tells is_on_time_title) r refl h
