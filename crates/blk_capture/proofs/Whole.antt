-- All that is taken, as it is told, of which no list is made.
use Rattle.std.proofs.Common.{◌≡◌, ◌<◌, ◌≤◌, ◌+◌, ◌-◌, ◌∙◌, ℕ, zero, suc, List, [], ◌∷◌, length, get_or, map, count_by, take, drop, min, Option, None, Some, refl, sym, ap, subst, arith}
use Rattle.std.specs.Option.{option_and_then}
use Rattle.std.specs.Prelude.{IfSome, nat_lt}
use Rattle.std.proofs.lemmas.List.{length-map, length-drop, length-take, get_or-map}
use Rattle.std.proofs.lemmas.List.Sums.{count_by-le-length}
use Rattle.blk_capture.specs.Fates.{told, is_taken, is_matched, opened_by, made_by}
use Rattle.blk_capture.specs.Parting.{gone_before, part, fate_in, bio_in}
use Rattle.blk_capture.specs.Requests.{AreTimed, AreGone, went_with}
use Rattle.blk_capture.specs.Rules.{Known}
use Rattle.blk_capture.specs.Running.{of_merges, fate_so_far, HasRun, IsRunSummary, run_options}
use Rattle.blk_capture.specs.Settled.{uncounted, all_taken, all_bios, captured_bio, place_in_end, fate_by, is_absorbed}
use Rattle.blk_capture.specs.Summaries.{all_merges, is_dispatched, IsSummary}
use Rattle.blk_capture.specs.Inside.Coherent.{AreLaidOut}
use Rattle.blk_capture.specs.Inside.Matchings.{all_known}
use Rattle.blk_capture.specs.Inside.Members.{request_into}
use Rattle.blk_capture.specs.Inside.Partly.{all_before, all_in_part, fate_with, is_counted_in, IsWhole, IsLeftOut}
use Rattle.blk_capture.specs.Inside.Taken.{ArePlacedBios, AreWithin, IsTalliedFrom}
use Rattle.blk_capture.specs.declared.fates.Fate.{Fate}
use Rattle.blk_capture.specs.declared.matching.Role.{Role}
use Rattle.blk_capture.specs.declared.members.QueuedBio.{QueuedBio}
use Rattle.blk_capture.specs.declared.record.Record.{Record}
use Rattle.blk_capture.specs.declared.requests.CapturedBio.{CapturedBio}
use Rattle.blk_capture.specs.declared.requests.CapturedRequest.{CapturedRequest}
use Rattle.blk_capture.specs.declared.requests.MergeRoot.{MergeRoot}
use Rattle.blk_capture.specs.declared.requests.Options.{Options}
use Rattle.blk_capture.specs.declared.running.Running.{Running}
use Rattle.blk_capture.specs.declared.running.RunSummary.{RunSummary}
use Rattle.blk_capture.proofs.Adding.{merges_mapped, merges_counted, all_matched, all_passed, all_so_far, all_within, fate_within, request_within}
use Rattle.blk_capture.proofs.Figured.{counted_map, gone_of, length_of_part}
use Rattle.blk_capture.proofs.Parted.{part_is, part_timed}
use Rattle.blk_capture.proofs.Placing.{place_is}
use Rattle.blk_capture.proofs.Settling.{have_bios, tallied_timed, tallied_due, uncounted_all}
use Rattle.blk_capture.proofs.Telling.{told_alike}

-- ---- requests with the numbers of their bios, from a place on
pub tallied_from : ℕ → List CapturedBio → List CapturedRequest → List CapturedRequest
tallied_from a bios [] = []
tallied_from a bios (q ∷ qs) = record q { bios = count_by (λ b. went_with a b.request) bios } ∷ tallied_from (suc a) bios qs

tallied_each : (a : ℕ) (bios : List CapturedBio) (qs : List CapturedRequest) → length (tallied_from a bios qs) ≡ length qs
unfolding tallied_from
tallied_each a bios [] = refl
tallied_each a bios (q ∷ qs) = ap suc (tallied_each (suc a) bios qs)

tallied_here : (a : ℕ) (bios : List CapturedBio) (qs : List CapturedRequest) (k : ℕ) (d : CapturedRequest) → k < length qs → (get_or (tallied_from a bios qs) k d).bios ≡ count_by (λ b. went_with (a + k) b.request) bios
unfolding tallied_from
tallied_here a bios [] k d h = absurd (omega (arith, h))
tallied_here a bios (q ∷ qs) zero d h = ap (λ n. count_by (λ b. went_with n b.request) bios) (let e : a ≡ a + 0 = omega arith in e)
tallied_here a bios (q ∷ qs) (suc k) d h = tallied_here (suc a) bios qs k d (omega (arith, h)) ∙ ap (λ n. count_by (λ b. went_with n b.request) bios) (let e : suc a + k ≡ a + suc k = omega arith in e)

tallied_rest : (a : ℕ) (bios : List CapturedBio) (qs : List CapturedRequest) (k : ℕ) (d : CapturedRequest) → get_or (tallied_from a bios qs) k d ≡ record (get_or qs k d) { bios = (get_or (tallied_from a bios qs) k d).bios }
unfolding tallied_from
tallied_rest a bios [] k d = refl
tallied_rest a bios (q ∷ qs) zero d = refl
tallied_rest a bios (q ∷ qs) (suc k) d = tallied_rest (suc a) bios qs k d

pub all_tallied : (bios : List CapturedBio) (qs : List CapturedRequest) → IsTalliedFrom qs (tallied_from 0 bios qs) bios
all_tallied bios qs = record {
  each = tallied_each 0 bios qs;
  tallied = λ k d h. tallied_here 0 bios qs k d (let n = tallied_each 0 bios qs in omega (arith, h, n)) ∙ ap (λ n. count_by (λ b. went_with n b.request) bios) (let e : 0 + k ≡ k = omega arith in e);
  rest = tallied_rest 0 bios qs;
}

-- ---- bios with the places of their requests
bio_gone : (o : Options) (m : Known) (lives : List MergeRoot) (places : List (Option ℕ)) (n : ℕ) (r : Option ℕ) → AreLaidOut o m lives places → AreWithin n places → IfSome (option_and_then (place_in_end o m) r) (λ k. k < n)
bio_gone o m lives places n None laid within = tt
bio_gone o m lives places n (Some r) laid within = request_within o m lives places n r laid within

bios_gone : (o : Options) (m : Known) (lives : List MergeRoot) (places : List (Option ℕ)) (n : ℕ) (bios : List QueuedBio) → AreLaidOut o m lives places → AreWithin n places → AreGone n (map (captured_bio o m) bios)
bios_gone o m lives places n [] laid within k d h = absurd (omega (arith, h))
bios_gone o m lives places n (b ∷ bios) laid within zero d h = bio_gone o m lives places n (request_into b.stage) laid within
bios_gone o m lives places n (b ∷ bios) laid within (suc k) d h = bios_gone o m lives places n bios laid within k d (omega (arith, h))

bios_placed : (o : Options) (m : Known) (lives : List MergeRoot) (places : List (Option ℕ)) → AreLaidOut o m lives places → ArePlacedBios lives places m.bios (length m.bios) (all_bios o m)
bios_placed o m lives places laid = record {
  each = length-map m.bios (captured_bio o m);
  place = λ b r d e h into own there.
      let l : MergeRoot = record { root = 0 } in
      ap (λ (x : CapturedBio). x.request) (get_or-map (captured_bio o m) m.bios b d e h)
      ∙ ap (option_and_then (place_in_end o m)) into
      ∙ sym (place_is o m lives places r l laid own.in_list)
      ∙ ap (λ k. get_or places k None) (own.root l);
}

-- ---- counts
bios_counted : (from n : ℕ) (o : Options) (m : Known) → count_by is_dispatched (map (bio_in from n) (all_bios o m)) ≡ count_by (is_counted_in from n o m) m.bios
bios_counted from n o m =
    counted_map is_dispatched (bio_in from n) (all_bios o m)
    ∙ counted_map (λ (b : CapturedBio). is_dispatched (bio_in from n b)) (captured_bio o m) m.bios

merges_told : (from n : ℕ) (o : Options) (m : Known) (records : List Record) (roles merges : List Role) → merges ≡ of_merges records roles → count_by (λ r. is_taken (fate_with from n o m r)) merges ≡ all_merges records (map (fate_in from n) (map (fate_by o m) roles))
merges_told from n o m records roles merges is =
    ap (count_by (λ r. is_taken (fate_with from n o m r))) is
    ∙ sym (counted_map (λ (f : Fate). is_taken (fate_in from n f)) (fate_by o m) (of_merges records roles))
    ∙ sym (counted_map is_taken (fate_in from n) (map (fate_by o m) (of_merges records roles)))
    ∙ ap (λ (fs : List Fate). count_by is_taken (map (fate_in from n) fs)) (sym (merges_mapped (fate_by o m) records roles))
    ∙ ap (count_by is_taken) (sym (merges_mapped (fate_in from n) records (map (fate_by o m) roles)))
    ∙ merges_counted records (map (fate_in from n) (map (fate_by o m) roles))

-- ---- a part stands in order, and is no longer than all
pub part_in_order : (begin first : ℕ) (requests : List CapturedRequest) → AreTimed requests → AreTimed (part begin first requests)
part_in_order begin first requests timed =
    let from : ℕ = gone_before begin requests in
    let few : from ≤ length requests = count_by-le-length (λ (q : CapturedRequest). nat_lt q.dispatched begin) requests in
    let count : ℕ = min (length requests - from) first in
    subst AreTimed (part_is begin first requests from count refl few refl) (part_timed requests from count (omega (arith, few)) timed)

pub part_few : (begin first : ℕ) (requests : List CapturedRequest) → length (part begin first requests) ≤ length requests
part_few begin first requests =
    let rest : List CapturedRequest = drop (gone_before begin requests) requests in
    let n : length rest ≡ length requests - gone_before begin requests = length-drop (gone_before begin requests) requests in
    let m : length (take first rest) ≡ min first (length rest) = length-take first rest in
    omega (arith, n, m)

pub part_length : (begin first : ℕ) (requests : List CapturedRequest) → length (part begin first requests) ≡ min (length requests - gone_before begin requests) first
part_length begin first requests =
    let rest : List CapturedRequest = drop (gone_before begin requests) requests in
    let n : length rest ≡ length requests - gone_before begin requests = length-drop (gone_before begin requests) requests in
    let m : length (take first rest) ≡ min first (length rest) = length-take first rest in
    omega (arith, n, m)

pub gone_few : (begin : ℕ) (requests : List CapturedRequest) → gone_before begin requests ≤ length requests
gone_few begin requests = count_by-le-length (λ (q : CapturedRequest). nat_lt q.dispatched begin) requests

-- ---- the numbers of records that were taken in one by one
pub summed : {A : Type 0} (r : Running A) (records : List Record) (roles : List Role) (before : List Fate) (begin first : ℕ) (s : RunSummary)
    → HasRun records roles r → before ≡ map fate_so_far roles → IsWhole (run_options r) (all_known r.matching) → IsLeftOut (run_options r) (all_known r.matching) (all_in_part begin first (run_options r) (all_known r.matching)) s.left_out
    → ((qs : List CapturedRequest) (bs : List CapturedBio) (fs : List Fate) → map uncounted qs ≡ all_taken (run_options r) (all_known r.matching) → AreTimed qs
    → count_by (is_counted_in (all_before begin (run_options r) (all_known r.matching)) (all_in_part begin first (run_options r) (all_known r.matching)) (run_options r) (all_known r.matching)) r.matching.members.bios.items ≡ count_by is_dispatched bs
    → count_by (λ p. is_taken (fate_with (all_before begin (run_options r) (all_known r.matching)) (all_in_part begin first (run_options r) (all_known r.matching)) (run_options r) (all_known r.matching) p)) r.merges.items ≡ all_merges records fs
    → IsSummary records (part begin first qs) bs fs s.summary)
    → IsRunSummary (run_options r) records before begin first s
summed r records roles before begin first s run known whole out figures =
    let o : Options = run_options r in
    let m : Known = all_known r.matching in
    let old : List CapturedRequest = all_taken o m in
    let bios : List CapturedBio = all_bios o m in
    let new : List CapturedRequest = tallied_from 0 bios old in
    let fates : List Fate = map (fate_by o m) roles in
    let tallied : IsTalliedFrom old new bios = all_tallied bios old in
    let each : length new ≡ length old = tallied.each in
    let within : AreWithin (length new) whole.places = subst (λ n. AreWithin n whole.places) (sym each) whole.whole.within in
    let gone : AreGone (length new) bios = bios_gone o m whole.lives whole.places (length new) m.bios whole.laid within in
    let same : map uncounted new ≡ old = uncounted_all old new bios whole.whole.untallied tallied in
    let timed : AreTimed new = tallied_timed old new bios whole.whole.timed tallied in
    let from : gone_before begin new ≡ all_before begin o m = gone_of begin new old same in
    let n : length (part begin first new) ≡ all_in_part begin first o m = length_of_part begin first new old same in
    let parted : List CapturedBio = map (bio_in (gone_before begin new) (length (part begin first new))) bios in
    let parted_fates : List Fate = map (fate_in (gone_before begin new) (length (part begin first new))) fates in
    let matched = all_matched o m roles in
    record {
      requests = new;
      bios = bios;
      fates = fates;
      absorbed = count_by (λ q. is_absorbed q.stage) m.requests;
      left = out.left;
      timed = timed;
      due = tallied_due o old new bios whole.whole.due tallied;
      have_bios = have_bios whole.lives m.openers whole.places old new m.bios bios whole.whole.placed tallied (bios_placed o m whole.lives whole.places whole.laid) r.matching.members.opened;
      tallied = tallied.tallied;
      gone = gone;
      each = length-map roles (fate_by o m) ∙ run.each;
      passed = all_passed o m roles ∙ run.passed;
      below = all_within o m (length new) roles (λ p. fate_within o m whole.lives whole.places bios (length new) p whole.laid within refl gone);
      opened = let sum = out.sum in let told_is : length m.requests ≡ told (λ a f. opened_by a (is_matched f)) records fates = run.opened ∙ sym (told_alike opened_by records fates roles matched) in omega (arith, sum, each, told_is);
      made = length-map m.bios (captured_bio o m) ∙ run.made ∙ sym (told_alike made_by records fates roles matched);
      matching = record { known = m; roles = roles; by_rules = run.by_rules; requests_are = same; bios_are = refl; fates_are = refl; absorbed_are = refl };
      known = all_so_far o m roles ∙ sym known;
      left_are = let is = out.out_is in omega (arith, is, n, each);
      is_summary =
          figures new parted parted_fates same timed
          (sym (ap (λ k. count_by is_dispatched (map (bio_in k (length (part begin first new))) bios)) from ∙ ap (λ k. count_by is_dispatched (map (bio_in (all_before begin o m) k) bios)) n ∙ bios_counted (all_before begin o m) (all_in_part begin first o m) o m))
          (merges_told (all_before begin o m) (all_in_part begin first o m) o m records roles r.merges.items run.merges
          ∙ sym (ap (λ k. all_merges records (map (fate_in k (length (part begin first new))) fates)) from ∙ ap (λ k. all_merges records (map (fate_in (all_before begin o m) k) fates)) n));
    }
