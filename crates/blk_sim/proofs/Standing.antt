-- What a step does to a book, and that the plugs, the software queues and the core follow it.
use Rattle.std.proofs.Common.{arith, ◌≡◌, ◌+◌, ◌<◌, ◌==◌, ◌%◌, ◌&&◌, ◌||◌, not, ◌∙◌, ℕ, List, [], ◌∷◌, ◌++◌, Bool, true, false, cond, Some, map, length, take, refl, sym, ap, subst, inl, inr, set, append_assoc}
use Rattle.std.specs.Prelude.{slice_get, All, IsPermutation}
use Rattle.std.specs.List.{sum_by}
use Rattle.std.proofs.lemmas.List.Sums.{sum_by_push}
use Rattle.std.proofs.lemmas.Bool.{cases_Bool, eqb-true, eq-eqb}
use Rattle.std.proofs.lemmas.Option.{slice_get_within, get_or_from_slice_get}
use Rattle.std.proofs.lemmas.List.{append-nil, map-append, take_more as take_more_at}
use Rattle.std.proofs.lemmas.List.Concat.{flat_map-append}
use Rattle.std.proofs.lemmas.List.Elements.{All-append, All-map, All-nil, All-cons}
use Rattle.std.proofs.lemmas.List.Sorted.{IsPermutation-refl, IsPermutation-append, IsPermutation-cons, IsPermutation-to_front, IsPermutation-trans, IsPermutation-sym}
use Rattle.blk_bio.specs.Bios.{Bio}
use Rattle.blk_bio.specs.Limits.{Limits}
use Rattle.blk_trace.specs.Happened.{Happened}
use Rattle.blk_trace.specs.Events.{entered}
use Rattle.blk_queues.specs.Plugs.{Plug}
use Rattle.blk_queues.specs.Queues.{Queue}
use Rattle.blk_text.specs.declared.script.Line.{Line}
use Rattle.blk_text.specs.declared.script.Line.TheVariants as line
use Rattle.blk_sim.specs.Simulation.{Where, Plugged, Staged, Released, moved, place_after, is_where, bio_at, bios_at, ticks_of}
use Rattle.blk_sim.specs.Moves.{bios_in}
use Rattle.blk_sim.specs.Simulated.{Placing, placed_by, moved_by, stepped, picked, is_in, is_bio_at, ArePlugged, AreStaged, AreDrained, nobody, Stands}
use Rattle.blk_sim.specs.Inside.Places.{placings}
use Rattle.blk_sim.proofs.Where.{one_more}
use Rattle.blk_sim.proofs.Picking.{picked-append, picked-moved, picked-same, picked-same_in, picked-none, picked-both, IsSplit, set_cases}

picked-nil : (t : Placing → Bool) → picked t [] ≡ []
unfolding picked
picked-nil t = refl

picked-one : (t : Placing → Bool) (p : Placing) → picked t (p ∷ []) ≡ cond (t p) (p.bio ∷ []) []
unfolding picked
picked-one t p = refl

picked-stepped : (t : Placing → Bool) (hw : ℕ) (l : Line) (book : List Placing) → picked t (stepped hw l book) ≡ picked (λ p. t (moved_by hw l p)) book ++ picked t (placed_by hw l [])
picked-stepped t hw l book = picked-append t (map (moved_by hw l) book) (placed_by hw l []) ∙ ap (λ r. r ++ picked t (placed_by hw l [])) (picked-moved t hw l book)

picked-quiet : (t : Placing → Bool) (hw : ℕ) (l : Line) (book : List Placing) → placed_by hw l [] ≡ [] → picked t (stepped hw l book) ≡ picked (λ p. t (moved_by hw l p)) book
picked-quiet t hw l book e = picked-stepped t hw l book ∙ ap (λ r. picked (λ p. t (moved_by hw l p)) book ++ picked t r) e ∙ ap (λ r. picked (λ p. t (moved_by hw l p)) book ++ r) (picked-nil t) ∙ append-nil _

-- every bio of the book has one of n submitters
abbrev pub AreKnown : ℕ → List Placing → Type 0
AreKnown n book = All (λ (p : Placing). p.bio.id.submitter < n) book

known_moved : (n hw : ℕ) (l : Line) (book : List Placing) → AreKnown n book → AreKnown n (map (moved_by hw l) book)
known_moved n hw l book h = All-map (λ (p : Placing). p.bio.id.submitter < n) (moved_by hw l) book h

known_quiet : (n hw : ℕ) (l : Line) (book : List Placing) → placed_by hw l [] ≡ [] → AreKnown n book → AreKnown n (stepped hw l book)
known_quiet n hw l book e h = subst (λ r. AreKnown n (map (moved_by hw l) book ++ r)) (sym e) (All-append (λ (p : Placing). p.bio.id.submitter < n) _ [] (known_moved n hw l book h) (All-nil (λ (p : Placing). p.bio.id.submitter < n)))

-- where a bio is after a step that releases the staged ones for which the test is true
abbrev let_go : Where → Bool → Where
let_go Plugged b = Plugged
let_go Staged b = cond b Released Staged
let_go Released b = Released

-- the step adds no bio, flushes nothing and releases the staged bios of the submitters that pass the test
pub record LetsGo (hw : ℕ) (l : Line) (u : ℕ → Bool) : Type 0 where
  pub quiet : placed_by hw l [] ≡ []
  pub moves : (s : ℕ) (w : Where) → moved hw s w l ≡ let_go w (u s)

plugged_point : (w : Where) (a e : Bool) → (is_where Plugged (let_go w a) && e) ≡ (is_where Plugged w && e)
plugged_point Plugged a e = refl
plugged_point Staged true e = refl
plugged_point Staged false e = refl
plugged_point Released a e = refl

staged_point : (w : Where) (a e d : Bool) → (e ≡ true → a ≡ d) → ((is_where Staged (let_go w a) && e) && true) ≡ ((is_where Staged w && e) && not d)
staged_point Plugged a e d h = refl
staged_point Released a e d h = refl
staged_point Staged true false d h = refl
staged_point Staged false false d h = refl
staged_point Staged true true d h = ap not (h refl)
staged_point Staged false true d h = ap not (h refl)

released_point : (w : Where) (a d : Bool) → a ≡ d → (is_where Released (let_go w a) || (is_where Staged (let_go w a) && false)) ≡ (is_where Released w || (is_where Staged w && d))
released_point Plugged a d h = refl
released_point Released a d h = refl
released_point Staged true d h = h
released_point Staged false d h = h

pub let_go_stands : (hw : ℕ) (l : Line) (u t : ℕ → Bool) (book : List Placing) (plugs : List Plug) (queues : List Queue) (events : List Happened) → LetsGo hw l u → length queues ≡ length plugs → ((s : ℕ) → s < length plugs → u s ≡ t s) → AreKnown (length plugs) book → ArePlugged book plugs → AreDrained t book queues events → Stands (stepped hw l book) plugs queues events
let_go_stands hw l u t book plugs queues events go counts agree known plugged drained = record {
  known = known_quiet (length plugs) hw l book go.quiet known;
  plugged = λ s plug at. subst (λ r. IsPermutation (bios_in plug.requests) r)
      (sym (picked-quiet (is_bio_at Plugged s) hw l book go.quiet
      ∙ picked-same (λ p. is_bio_at Plugged s (moved_by hw l p)) (is_bio_at Plugged s) (λ p. ap (λ w. is_where Plugged w && (p.bio.id.submitter == s)) (go.moves p.bio.id.submitter p.place) ∙ plugged_point p.place (u p.bio.id.submitter) (p.bio.id.submitter == s)) book))
      (plugged s plug at);
  drained = record {
    staged = λ s queue at.
        let within : s < length queues = slice_get_within queues s queue at in
        let lt : s < length plugs = omega arith in
        subst (λ r. IsPermutation (bios_in queue.requests) r)
        (sym (picked-quiet (λ p. is_bio_at Staged s p && true) hw l book go.quiet
        ∙ picked-same (λ p. is_bio_at Staged s (moved_by hw l p) && true) (λ p. is_bio_at Staged s p && not (t s)) (λ p. ap (λ w. (is_where Staged w && (p.bio.id.submitter == s)) && true) (go.moves p.bio.id.submitter p.place) ∙ staged_point p.place (u p.bio.id.submitter) (p.bio.id.submitter == s) (t s) (λ e. ap u (eqb-true p.bio.id.submitter s e) ∙ agree s lt)) book))
        (drained.staged s queue at);
    released = subst (λ r. IsPermutation (entered events) r)
        (sym (picked-quiet (λ p. is_in Released p || (is_in Staged p && false)) hw l book go.quiet
        ∙ picked-same_in (λ p. p.bio.id.submitter < length plugs) (λ p. is_in Released (moved_by hw l p) || (is_in Staged (moved_by hw l p) && false)) (λ p. is_in Released p || (is_in Staged p && t p.bio.id.submitter)) (λ p k. ap (λ w. is_where Released w || (is_where Staged w && false)) (go.moves p.bio.id.submitter p.place) ∙ released_point p.place (u p.bio.id.submitter) (t p.bio.id.submitter) (agree p.bio.id.submitter k)) book known))
        drained.released;
  };
}

pub issue_goes : (hw h tag : ℕ) → LetsGo hw (line.Issue h tag) nobody
issue_goes hw h tag = record { quiet = refl; moves = λ s. elim [ Plugged ↦ refl | Staged ↦ refl | Released ↦ refl ] }

pub done_goes : (hw tag : ℕ) → LetsGo hw (line.Done tag) nobody
done_goes hw tag = record { quiet = refl; moves = λ s. elim [ Plugged ↦ refl | Staged ↦ refl | Released ↦ refl ] }

pub back_goes : (hw tag : ℕ) → LetsGo hw (line.Back tag) nobody
back_goes hw tag = record { quiet = refl; moves = λ s. elim [ Plugged ↦ refl | Staged ↦ refl | Released ↦ refl ] }

pub depth_goes : (hw n : ℕ) → LetsGo hw (line.Depth n) nobody
depth_goes hw n = record { quiet = refl; moves = λ s. elim [ Plugged ↦ refl | Staged ↦ refl | Released ↦ refl ] }

pub tick_goes : (hw : ℕ) → LetsGo hw line.Tick nobody
tick_goes hw = record { quiet = refl; moves = λ s. elim [ Plugged ↦ refl | Staged ↦ refl | Released ↦ refl ] }

pub drain_goes : (hw h : ℕ) → LetsGo hw (line.Drain h) (λ s. (s % hw) == h)
drain_goes hw h = record { quiet = refl; moves = λ s. elim [ Plugged ↦ refl | Staged ↦ refl | Released ↦ refl ] }

pub run_goes : (hw n : ℕ) → LetsGo hw (line.Run n) (λ s. true)
run_goes hw n = record { quiet = refl; moves = λ s. elim [ Plugged ↦ refl | Staged ↦ refl | Released ↦ refl ] }

-- a bio is added to a plug
same_place : (hw s : ℕ) (b : Bio) (w : Where) → moved hw s w (line.Bio b) ≡ w
same_place hw s b Plugged = refl
same_place hw s b Staged = refl
same_place hw s b Released = refl

picked-bio : (t : Where → ℕ → Bool) (hw : ℕ) (b : Bio) (book : List Placing) → picked (λ p. t p.place p.bio.id.submitter) (stepped hw (line.Bio b) book) ≡ picked (λ p. t p.place p.bio.id.submitter) book ++ cond (t Plugged b.id.submitter) (b ∷ []) []
unfolding place_after
picked-bio t hw b book = picked-stepped (λ p. t p.place p.bio.id.submitter) hw (line.Bio b) book
    ∙ ap (λ r. r ++ picked (λ p. t p.place p.bio.id.submitter) (placed_by hw (line.Bio b) [])) (picked-same (λ p. t (moved hw p.bio.id.submitter p.place (line.Bio b)) p.bio.id.submitter) (λ p. t p.place p.bio.id.submitter) (λ p. ap (λ w. t w p.bio.id.submitter) (same_place hw p.bio.id.submitter b p.place)) book)
    ∙ ap (λ r. picked (λ p. t p.place p.bio.id.submitter) book ++ r) (picked-one (λ p. t p.place p.bio.id.submitter) (record { bio = b; place = Plugged }))

pub add_plugged : (hw : ℕ) (b : Bio) (book : List Placing) (plugs : List Plug) (plug plug' : Plug) (s : ℕ) → s ≡ b.id.submitter → ArePlugged book plugs → slice_get plugs s ≡ Some plug → IsPermutation (b ∷ bios_in plug.requests) (bios_in plug'.requests) → ArePlugged (stepped hw (line.Bio b) book) (set plugs s plug')
add_plugged hw b book plugs plug plug' s mine plugged at more r q here = elim (set_cases plugs s r plug' q here) [
  | inl a ↦
      let own : (b.id.submitter == r) ≡ true = eq-eqb b.id.submitter r (sym mine ∙ sym (eqb-true r s a.0)) in
      let list : picked (is_bio_at Plugged r) (stepped hw (line.Bio b) book) ≡ picked (is_bio_at Plugged r) book ++ b ∷ [] = picked-bio (λ w k. is_where Plugged w && (k == r)) hw b book ∙ ap (λ c. picked (is_bio_at Plugged r) book ++ cond c (b ∷ []) []) own in
      let old : IsPermutation (bios_in plug.requests) (picked (is_bio_at Plugged r) book) = plugged r plug (ap (slice_get plugs) (eqb-true r s a.0) ∙ at) in
      subst (λ l. IsPermutation (bios_in q.requests) l) (sym list)
      (subst (λ (x : Plug). IsPermutation (bios_in x.requests) (picked (is_bio_at Plugged r) book ++ b ∷ [])) (sym a.1)
      (IsPermutation-trans _ _ _ (IsPermutation-sym _ _ more) (IsPermutation-trans _ _ _ (IsPermutation-cons b _ _ old) (IsPermutation-sym _ _ (IsPermutation-to_front (picked (is_bio_at Plugged r) book) b)))))
  | inr a ↦
      let other : (b.id.submitter == r) ≡ false = elim (cases_Bool (b.id.submitter == r)) [ inl y ↦ absurd (not_both r s a.0 (sym (eqb-true b.id.submitter r y) ∙ sym mine)) | inr n ↦ n ] in
      let list : picked (is_bio_at Plugged r) (stepped hw (line.Bio b) book) ≡ picked (is_bio_at Plugged r) book = picked-bio (λ w k. is_where Plugged w && (k == r)) hw b book ∙ ap (λ c. picked (is_bio_at Plugged r) book ++ cond c (b ∷ []) []) other ∙ append-nil _ in
      subst (λ l. IsPermutation (bios_in q.requests) l) (sym list) (plugged r q a.1)
]
  where
    not_both : (r s : ℕ) → (r == s) ≡ false → r ≡ s → ⊥
    not_both r s f e = let y : (r == s) ≡ true = eq-eqb r s e in cc (y, f)

pub bio_stands : (hw : ℕ) (b : Bio) (book : List Placing) (plugs plugs' : List Plug) (queues : List Queue) (events : List Happened) → Stands book plugs queues events → b.id.submitter < length plugs → length plugs' ≡ length plugs → ArePlugged (stepped hw (line.Bio b) book) plugs' → Stands (stepped hw (line.Bio b) book) plugs' queues events
bio_stands hw b book plugs plugs' queues events st lt count plugged = record {
  known = subst (λ n. AreKnown n (stepped hw (line.Bio b) book)) (sym count) (All-append (λ (p : Placing). p.bio.id.submitter < length plugs) _ _ (known_moved (length plugs) hw (line.Bio b) book st.known) (All-cons (λ (p : Placing). p.bio.id.submitter < length plugs) _ [] lt (All-nil (λ (p : Placing). p.bio.id.submitter < length plugs))));
  plugged = plugged;
  drained = record {
    staged = λ s queue at. subst (λ r. IsPermutation (bios_in queue.requests) r) (sym (picked-bio (λ w k. (is_where Staged w && (k == s)) && true) hw b book ∙ append-nil _)) (st.drained.staged s queue at);
    released = subst (λ r. IsPermutation (entered events) r) (sym (picked-bio (λ w k. is_where Released w || (is_where Staged w && false)) hw b book ∙ append-nil _)) st.drained.released;
  };
}

-- a plug is flushed into its software queue
abbrev flushed : Where → Bool → Where
flushed Plugged e = cond e Staged Plugged
flushed Staged e = Staged
flushed Released e = Released

flush_moves : (hw s r : ℕ) (w : Where) → moved hw s w (line.Flush r) ≡ flushed w (s == r)
flush_moves hw s r Plugged = refl
flush_moves hw s r Staged = refl
flush_moves hw s r Released = refl

picked-flush : (t : Where → ℕ → Bool) (hw s : ℕ) (book : List Placing) → picked (λ p. t p.place p.bio.id.submitter) (stepped hw (line.Flush s) book) ≡ picked (λ p. t (flushed p.place (p.bio.id.submitter == s)) p.bio.id.submitter) book
picked-flush t hw s book = picked-quiet (λ p. t p.place p.bio.id.submitter) hw (line.Flush s) book refl
    ∙ picked-same (λ p. t (moved hw p.bio.id.submitter p.place (line.Flush s)) p.bio.id.submitter) (λ p. t (flushed p.place (p.bio.id.submitter == s)) p.bio.id.submitter) (λ p. ap (λ w. t w p.bio.id.submitter) (flush_moves hw p.bio.id.submitter s p.place)) book

gone_point : (w : Where) (e : Bool) → (is_where Plugged (flushed w e) && e) ≡ false
gone_point Plugged true = refl
gone_point Plugged false = refl
gone_point Staged e = refl
gone_point Released e = refl

kept_point : (w : Where) (e f : Bool) → (e ≡ true → f ≡ false) → (is_where Plugged (flushed w e) && f) ≡ (is_where Plugged w && f)
kept_point Plugged true f h = sym (h refl)
kept_point Plugged false f h = refl
kept_point Staged e f h = refl
kept_point Released e f h = refl

kept_staged_point : (w : Where) (e f : Bool) → (e ≡ true → f ≡ false) → ((is_where Staged (flushed w e) && f) && true) ≡ ((is_where Staged w && f) && true)
kept_staged_point Plugged true f h = ap (λ b. b && true) (h refl)
kept_staged_point Plugged false f h = refl
kept_staged_point Staged e f h = refl
kept_staged_point Released e f h = refl

join_point : (w : Where) (e : Bool) → IsSplit ((is_where Staged (flushed w e) && e) && true) ((is_where Staged w && e) && true) (is_where Plugged w && e)
join_point Plugged true = inr (refl, refl)
join_point Plugged false = inl (refl, refl)
join_point Staged e = inl (refl, refl)
join_point Released e = inl (refl, refl)

flush_released_point : (w : Where) (e : Bool) → (is_where Released (flushed w e) || (is_where Staged (flushed w e) && false)) ≡ (is_where Released w || (is_where Staged w && false))
flush_released_point Plugged true = refl
flush_released_point Plugged false = refl
flush_released_point Staged e = refl
flush_released_point Released e = refl

-- a submitter is one alone
apart : (k s r : ℕ) → (r == s) ≡ false → (k == s) ≡ true → (k == r) ≡ false
apart k s r n y = elim (cases_Bool (k == r)) [
  | inl z ↦ let e : r ≡ s = sym (eqb-true k r z) ∙ eqb-true k s y in let t : (r == s) ≡ true = eq-eqb r s e in cc (t, n)
  | inr z ↦ z
]

pub flush_plugged : (hw s : ℕ) (book : List Placing) (plugs : List Plug) (plug' : Plug) → ArePlugged book plugs → plug'.requests ≡ [] → ArePlugged (stepped hw (line.Flush s) book) (set plugs s plug')
flush_plugged hw s book plugs plug' plugged none r q here = elim (set_cases plugs s r plug' q here) [
  | inl a ↦
      let same : r ≡ s = eqb-true r s a.0 in
      let list : picked (is_bio_at Plugged r) (stepped hw (line.Flush s) book) ≡ [] = ap (λ k. picked (is_bio_at Plugged k) (stepped hw (line.Flush s) book)) same ∙ picked-flush (λ w k. is_where Plugged w && (k == s)) hw s book ∙ picked-none (λ p. is_where Plugged (flushed p.place (p.bio.id.submitter == s)) && (p.bio.id.submitter == s)) (λ p. gone_point p.place (p.bio.id.submitter == s)) book in
      subst (λ l. IsPermutation (bios_in q.requests) l) (sym list)
      (subst (λ l. IsPermutation l []) (sym (ap (λ (x : Plug). bios_in x.requests) a.1 ∙ ap bios_in none)) (IsPermutation-refl []))
  | inr a ↦
      let list : picked (is_bio_at Plugged r) (stepped hw (line.Flush s) book) ≡ picked (is_bio_at Plugged r) book = picked-flush (λ w k. is_where Plugged w && (k == r)) hw s book ∙ picked-same (λ p. is_where Plugged (flushed p.place (p.bio.id.submitter == s)) && (p.bio.id.submitter == r)) (is_bio_at Plugged r) (λ p. kept_point p.place (p.bio.id.submitter == s) (p.bio.id.submitter == r) (apart p.bio.id.submitter s r a.0)) book in
      subst (λ l. IsPermutation (bios_in q.requests) l) (sym list) (plugged r q a.1)
]

pub flush_staged : (hw s : ℕ) (book : List Placing) (plugs : List Plug) (queues : List Queue) (plug : Plug) (queue queue' : Queue) → ArePlugged book plugs → AreStaged nobody book queues → slice_get plugs s ≡ Some plug → slice_get queues s ≡ Some queue → queue'.requests ≡ queue.requests ++ plug.requests → AreStaged nobody (stepped hw (line.Flush s) book) (set queues s queue')
flush_staged hw s book plugs queues plug queue queue' plugged staged plug_at queue_at more r q here = elim (set_cases queues s r queue' q here) [
  | inl a ↦
      let same : r ≡ s = eqb-true r s a.0 in
      let list : picked (λ p. is_bio_at Staged r p && true) (stepped hw (line.Flush s) book) ≡ picked (λ p. (is_where Staged (flushed p.place (p.bio.id.submitter == s)) && (p.bio.id.submitter == s)) && true) book = ap (λ k. picked (λ p. is_bio_at Staged k p && true) (stepped hw (line.Flush s) book)) same ∙ picked-flush (λ w k. (is_where Staged w && (k == s)) && true) hw s book in
      let bios : bios_in q.requests ≡ bios_in queue.requests ++ bios_in plug.requests = ap (λ (x : Queue). bios_in x.requests) a.1 ∙ ap bios_in more ∙ flat_map-append (λ (bios : List Bio). bios) queue.requests plug.requests in
      subst (λ l. IsPermutation (bios_in q.requests) l) (sym list)
      (subst (λ l. IsPermutation l (picked (λ p. (is_where Staged (flushed p.place (p.bio.id.submitter == s)) && (p.bio.id.submitter == s)) && true) book)) (sym bios)
      (IsPermutation-trans _ _ _ (IsPermutation-append _ _ _ _ (staged s queue queue_at) (plugged s plug plug_at))
      (picked-both (λ p. (is_where Staged (flushed p.place (p.bio.id.submitter == s)) && (p.bio.id.submitter == s)) && true) (λ p. is_bio_at Staged s p && true) (is_bio_at Plugged s) (λ p. join_point p.place (p.bio.id.submitter == s)) book)))
  | inr a ↦
      let list : picked (λ p. is_bio_at Staged r p && true) (stepped hw (line.Flush s) book) ≡ picked (λ p. is_bio_at Staged r p && true) book = picked-flush (λ w k. (is_where Staged w && (k == r)) && true) hw s book ∙ picked-same (λ p. (is_where Staged (flushed p.place (p.bio.id.submitter == s)) && (p.bio.id.submitter == r)) && true) (λ p. is_bio_at Staged r p && true) (λ p. kept_staged_point p.place (p.bio.id.submitter == s) (p.bio.id.submitter == r) (apart p.bio.id.submitter s r a.0)) book in
      subst (λ l. IsPermutation (bios_in q.requests) l) (sym list) (staged r q a.1)
]

pub flush_stands : (hw s : ℕ) (book : List Placing) (plugs plugs' : List Plug) (queues queues' : List Queue) (events : List Happened) → Stands book plugs queues events → length plugs' ≡ length plugs → ArePlugged (stepped hw (line.Flush s) book) plugs' → AreStaged nobody (stepped hw (line.Flush s) book) queues' → Stands (stepped hw (line.Flush s) book) plugs' queues' events
flush_stands hw s book plugs plugs' queues queues' events st count plugged staged = record {
  known = subst (λ n. AreKnown n (stepped hw (line.Flush s) book)) (sym count) (known_quiet (length plugs) hw (line.Flush s) book refl st.known);
  plugged = plugged;
  drained = record {
    staged = staged;
    released = subst (λ r. IsPermutation (entered events) r) (sym (picked-flush (λ w k. is_where Released w || (is_where Staged w && false)) hw s book ∙ picked-same (λ p. is_where Released (flushed p.place (p.bio.id.submitter == s)) || (is_where Staged (flushed p.place (p.bio.id.submitter == s)) && false)) (λ p. is_in Released p || (is_in Staged p && false)) (λ p. flush_released_point p.place (p.bio.id.submitter == s)) book)) st.drained.released;
  };
}

-- the book of one more line
placed_more : (hw : ℕ) (k : Line) (ls : List Line) (l : Line) → placed_by hw k (ls ++ l ∷ []) ≡ map (moved_by hw l) (placed_by hw k ls)
placed_more hw (line.Bio b) ls l = ap (λ w. record { bio = b; place = w } ∷ []) (one_more hw b.id.submitter Plugged ls l)
placed_more hw (line.Flush t) ls l = refl
placed_more hw (line.Drain h) ls l = refl
placed_more hw (line.Issue h tag) ls l = refl
placed_more hw (line.Done tag) ls l = refl
placed_more hw (line.Back tag) ls l = refl
placed_more hw (line.Depth n) ls l = refl
placed_more hw line.Tick ls l = refl
placed_more hw (line.Run n) ls l = refl

pub placings_more : (hw : ℕ) (ls : List Line) (l : Line) → placings hw (ls ++ l ∷ []) ≡ stepped hw l (placings hw ls)
unfolding placings
placings_more hw [] l = append-nil (placed_by hw l [])
placings_more hw (k ∷ ls) l =
    ap (λ r. r ++ placings hw (ls ++ l ∷ [])) (placed_more hw k ls l)
    ∙ ap (λ r. map (moved_by hw l) (placed_by hw k ls) ++ r) (placings_more hw ls l)
    ∙ sym (append_assoc (map (moved_by hw l) (placed_by hw k ls)) (map (moved_by hw l) (placings hw ls)) (placed_by hw l []))
    ∙ ap (λ r. r ++ placed_by hw l []) (sym (map-append (moved_by hw l) (placed_by hw k ls) (placings hw ls)))

picked-placed : (hw : ℕ) (w : Where) (l : Line) (ls : List Line) → picked (is_in w) (placed_by hw l ls) ≡ bio_at hw w l ls
unfolding picked
picked-placed hw w (line.Bio b) ls = refl
picked-placed hw w (line.Flush t) ls = refl
picked-placed hw w (line.Drain h) ls = refl
picked-placed hw w (line.Issue h tag) ls = refl
picked-placed hw w (line.Done tag) ls = refl
picked-placed hw w (line.Back tag) ls = refl
picked-placed hw w (line.Depth n) ls = refl
picked-placed hw w line.Tick ls = refl
picked-placed hw w (line.Run n) ls = refl

pub bios_picked : (hw : ℕ) (w : Where) (ls : List Line) → picked (is_in w) (placings hw ls) ≡ bios_at hw w ls
unfolding placings bios_at
bios_picked hw w [] = picked-nil (is_in w)
bios_picked hw w (l ∷ ls) = picked-append (is_in w) (placed_by hw l ls) (placings hw ls) ∙ ap (λ r. r ++ picked (is_in w) (placings hw ls)) (picked-placed hw w l ls) ∙ ap (λ r. bio_at hw w l ls ++ r) (bios_picked hw w ls)

end_point : (w : Where) → (is_where Released w || (is_where Staged w && false)) ≡ is_where Released w
end_point Plugged = refl
end_point Staged = refl
end_point Released = refl

pub all_released : (hw : ℕ) (ls : List Line) (plugs : List Plug) (queues : List Queue) (events : List Happened) → Stands (placings hw ls) plugs queues events → IsPermutation (entered events) (bios_at hw Released ls)
all_released hw ls plugs queues events st = subst (λ r. IsPermutation (entered events) r) (picked-same (λ p. is_in Released p || (is_in Staged p && false)) (is_in Released) (λ p. end_point p.place) (placings hw ls) ∙ bios_picked hw Released ls) st.drained.released

pub placings_nil : (hw : ℕ) → placings hw [] ≡ []
unfolding placings
placings_nil hw = refl

-- before the first line nothing is anywhere
pub nothing_stands : (plugs : List Plug) (queues : List Queue) (events : List Happened) → ((s : ℕ) (p : Plug) → slice_get plugs s ≡ Some p → p.requests ≡ []) → ((s : ℕ) (q : Queue) → slice_get queues s ≡ Some q → q.requests ≡ []) → events ≡ [] → Stands [] plugs queues events
unfolding picked entered
nothing_stands plugs queues events no_plugged no_staged none = record {
  known = All-nil (λ (p : Placing). p.bio.id.submitter < length plugs);
  plugged = λ s p at. subst (λ r. IsPermutation (bios_in r) []) (sym (no_plugged s p at)) (IsPermutation-refl []);
  drained = record {
    staged = λ s q at. subst (λ r. IsPermutation (bios_in r) []) (sym (no_staged s q at)) (IsPermutation-refl []);
    released = subst (λ r. IsPermutation (entered r) []) (sym none) (IsPermutation-refl []);
  };
}

-- what all elements of a list are, one of them is
pub all_at : {X : Type 0} (P : X → Type 0) (xs : List X) (s : ℕ) (x : X) → All P xs → slice_get xs s ≡ Some x → P x
all_at P xs s x all at = subst P (get_or_from_slice_get xs s x x at) (all s x (slice_get_within xs s x at))

-- one more line
pub take_more : {X : Type 0} (xs : List X) (k : ℕ) (x : X) → slice_get xs k ≡ Some x → take (k + 1) xs ≡ take k xs ++ x ∷ []
take_more xs k x at = take_more_at xs k x (slice_get_within xs k x at) ∙ ap (λ y. take k xs ++ y ∷ []) (get_or_from_slice_get xs k x x at)

pub stands_more : (hw k : ℕ) (lines : List Line) (l : Line) (plugs : List Plug) (queues : List Queue) (events : List Happened) → slice_get lines k ≡ Some l → Stands (stepped hw l (placings hw (take k lines))) plugs queues events → Stands (placings hw (take (k + 1) lines)) plugs queues events
stands_more hw k lines l plugs queues events at st = subst (λ book. Stands book plugs queues events) (sym (ap (placings hw) (take_more lines k l at) ∙ placings_more hw (take k lines) l)) st

pub ticks_more : (k : ℕ) (lines : List Line) (l : Line) → slice_get lines k ≡ Some l → sum_by ticks_of (take (k + 1) lines) ≡ sum_by ticks_of (take k lines) + ticks_of l
ticks_more k lines l at = ap (sum_by ticks_of) (take_more lines k l at) ∙ sum_by_push ticks_of (take k lines) l

-- plugs and software queues that were just made
pub fresh_stands : (made : Limits) (depth : ℕ) (plugs : List Plug) (queues : List Queue) (events : List Happened) → events ≡ [] → All (λ (p : Plug). p ≡ record { limits = made; requests = [] }) plugs → All (λ (q : Queue). q ≡ record { depth = depth; limits = made; requests = []; bios_in = 0; bios_out = 0 }) queues → Stands [] plugs queues events
fresh_stands made depth plugs queues events none p q = nothing_stands plugs queues events
    (λ s x at. ap (λ (y : Plug). y.requests) (all_at (λ (y : Plug). y ≡ record { limits = made; requests = [] }) plugs s x p at))
    (λ s x at. ap (λ (y : Queue). y.requests) (all_at (λ (y : Queue). y ≡ record { depth = depth; limits = made; requests = []; bios_in = 0; bios_out = 0 }) queues s x q at))
    none
