-- Figures of requests.
use Rattle.std.proofs.Common.{◌≡◌, ◌<◌, ◌≤◌, ◌+◌, ◌-◌, ◌++◌, ◌∙◌, ℕ, Bool, List, [], ◌∷◌, length, get_or, map, take, drop, cond, count_by, nat_le, Option, refl, sym, ap, subst, arith}
use Rattle.std.specs.List.{filter_map, cons_option}
use Rattle.std.specs.List.Sorted.{IsNonDecreasingBy}
use Rattle.std.specs.Prelude.{nat_lt}
use Rattle.std.proofs.lemmas.List.{get_or-map, length-map, map_push, take-map, drop-map}
use Rattle.std.proofs.lemmas.List.Elements.{filter_map-append}
use Rattle.std.proofs.lemmas.List.Sums.{sum_by-cons}
use Rattle.blk_capture.specs.Parting.{gone_before, part}
use Rattle.blk_capture.specs.Requests.{AreTimed}
use Rattle.blk_capture.specs.Settled.{uncounted}
use Rattle.blk_capture.specs.Summaries.{time_in, out_by, back_by, in_flight_at, in_flight_with, AreWith, IsMostInFlight}
use Rattle.blk_capture.specs.Inside.Figures.{flight_of, AreFiguresOf}
use Rattle.blk_capture.specs.Inside.Partly.{plain}
use Rattle.blk_capture.specs.declared.figures.Figures.{Figures}
use Rattle.blk_capture.specs.declared.figures.Flight.{Flight}
use Rattle.blk_capture.specs.declared.requests.CapturedRequest.{CapturedRequest}
use Rattle.blk_capture.specs.declared.summary.Phase.TheVariants.{Tag, Scheduler, Device}
use Rattle.blk_capture.proofs.Flying.{few_known, flying, bound_more, at_last}
use Rattle.blk_capture.proofs.Settling.{no_request}

-- one more that may be known
pub known_more : {X : Type 0} (h : X → Option ℕ) (qs : List X) (q : X) (old new : List ℕ) (v : Option ℕ) → old ≡ filter_map h qs → v ≡ h q → new ≡ old ++ cons_option v [] → new ≡ filter_map h (qs ++ q ∷ [])
known_more h qs q old new v was same is =
    is ∙ ap (λ xs. xs ++ cons_option v []) was ∙ ap (λ w. filter_map h qs ++ cons_option w []) same ∙ sym (filter_map-append h qs (q ∷ []))

pub flight_more : (qs : List CapturedRequest) (q : CapturedRequest) (old new : List Flight) (f : Flight) → old ≡ map flight_of qs → f ≡ flight_of q → new ≡ old ++ f ∷ [] → new ≡ map flight_of (qs ++ q ∷ [])
flight_more qs q old new f was same is = is ∙ ap (λ xs. xs ++ f ∷ []) was ∙ ap (λ x. map flight_of qs ++ x ∷ []) same ∙ sym (map_push flight_of qs q)

pub few_times : {X : Type 0} (h : X → Option ℕ) (qs : List X) (xs : List ℕ) (n : ℕ) → xs ≡ filter_map h qs → length qs ≤ n → length xs ≤ n
few_times h qs xs n is few = let known = few_known h qs in let long = ap length is in omega (arith, known, long, few)

-- ---- what is made of one list by way of another
pub counted_map : {X Y : Type 0} (p : Y → Bool) (g : X → Y) (xs : List X) → count_by p (map g xs) ≡ count_by (λ x. p (g x)) xs
counted_map p g [] = refl
counted_map p g (x ∷ xs) =
    let rest : count_by p (map g xs) ≡ count_by (λ y. p (g y)) xs = counted_map p g xs in
    omega (arith, rest, sum_by-cons (λ y. cond (p y) 1 0) (g x) (map g xs), sum_by-cons (λ y. cond (p (g y)) 1 0) x xs)

pub mapped_map : {X Y Z : Type 0} (f : Y → Z) (g : X → Y) (h : X → Z) → ((x : X) → f (g x) ≡ h x) → (xs : List X) → map f (map g xs) ≡ map h xs
mapped_map f g h same [] = refl
mapped_map f g h same (x ∷ xs) = ap (λ z. z ∷ map f (map g xs)) (same x) ∙ ap (λ zs. h x ∷ zs) (mapped_map f g h same xs)

filtered_map : {X Y Z : Type 0} (f : Y → Option Z) (g : X → Y) (h : X → Option Z) → ((x : X) → f (g x) ≡ h x) → (xs : List X) → filter_map f (map g xs) ≡ filter_map h xs
filtered_map f g h same [] = refl
filtered_map f g h same (x ∷ xs) = ap (λ z. cons_option z (filter_map f (map g xs))) (same x) ∙ ap (λ zs. cons_option (h x) zs) (filtered_map f g h same xs)

-- the bio that a request was opened for, and how many it has, are in no figure
pub of_plain : {A : Type 0} (qs : List CapturedRequest) (f : Figures A) → AreFiguresOf (map plain qs) f → AreFiguresOf qs f
of_plain qs f are = record {
  flights = are.flights ∙ mapped_map flight_of plain flight_of (λ q. refl) qs;
  tag = are.tag ∙ filtered_map (time_in Tag) plain (time_in Tag) (λ q. refl) qs;
  scheduler = are.scheduler ∙ filtered_map (time_in Scheduler) plain (time_in Scheduler) (λ q. refl) qs;
  device = are.device ∙ filtered_map (time_in Device) plain (time_in Device) (λ q. refl) qs;
  completions = are.completions ∙ filtered_map (λ (q : CapturedRequest). q.completed) plain (λ (q : CapturedRequest). q.completed) (λ q. refl) qs;
}

gone_uncounted : (begin : ℕ) (qs : List CapturedRequest) → gone_before begin (map uncounted qs) ≡ gone_before begin qs
gone_uncounted begin qs = counted_map (λ (q : CapturedRequest). nat_lt q.dispatched begin) uncounted qs

part_uncounted : (begin first : ℕ) (qs : List CapturedRequest) → part begin first (map uncounted qs) ≡ map uncounted (part begin first qs)
part_uncounted begin first qs =
    ap (λ n. take first (drop n (map uncounted qs))) (gone_uncounted begin qs)
    ∙ ap (take first) (drop-map uncounted (gone_before begin qs) qs)
    ∙ take-map uncounted first (drop (gone_before begin qs) qs)

pub gone_of : (begin : ℕ) (new old : List CapturedRequest) → map uncounted new ≡ old → gone_before begin new ≡ gone_before begin old
gone_of begin new old same = sym (gone_uncounted begin new) ∙ ap (gone_before begin) same

pub part_of_uncounted : (begin first : ℕ) (new old : List CapturedRequest) → map uncounted new ≡ old → part begin first old ≡ map uncounted (part begin first new)
part_of_uncounted begin first new old same = ap (part begin first) (sym same) ∙ part_uncounted begin first new

pub length_of_part : (begin first : ℕ) (new old : List CapturedRequest) → map uncounted new ≡ old → length (part begin first new) ≡ length (part begin first old)
length_of_part begin first new old same = sym (ap length (part_of_uncounted begin first new old same) ∙ length-map (part begin first new) uncounted)

pub figures_of_counted : {A : Type 0} (begin first : ℕ) (new old : List CapturedRequest) (f : Figures A) → map uncounted new ≡ old → AreFiguresOf (map plain (part begin first old)) f → AreFiguresOf (part begin first new) f
figures_of_counted begin first new old f same are =
    of_plain (part begin first new) f
    (subst (λ (xs : List CapturedRequest). AreFiguresOf xs f) (ap (map plain) (part_of_uncounted begin first new old same) ∙ mapped_map plain uncounted plain (λ q. refl) (part begin first new)) are)

-- ---- flights stand as their requests
pub flights_rise : (qs : List CapturedRequest) (fs : List Flight) → fs ≡ map flight_of qs → AreTimed qs → IsNonDecreasingBy (λ f. f.time) fs
flights_rise qs fs is timed i j d low h =
    let n : length fs ≡ length qs = ap length is ∙ length-map qs flight_of in
    let here : j < length qs = omega (arith, h, n) in
    let q : CapturedRequest = no_request in
    let at_i = ap (λ (f : Flight). f.time) (ap (λ (xs : List Flight). get_or xs i d) is ∙ get_or-map flight_of qs i q d (omega (arith, low, here))) in
    let at_j = ap (λ (f : Flight). f.time) (ap (λ (xs : List Flight). get_or xs j d) is ∙ get_or-map flight_of qs j q d here) in
    let up = timed.rising i j q low here in
    omega (arith, up, at_i, at_j)

-- times of completion, in order
abbrev pub AreCounted : List ℕ → List CapturedRequest → Type 0
AreCounted times qs = (t : ℕ) → count_by (λ x. nat_le x t) times ≡ count_by (back_by t) qs

-- the most that were there at one of the first n dispatches
pub record IsMostUpto (qs : List CapturedRequest) (n most : ℕ) : Type 0 where
  pub bound : (k : ℕ) (d : CapturedRequest) → k < n → k < length qs → in_flight_with qs (get_or qs k d) ≤ most
  pub reached : 0 < most → (k : ℕ) × AreWith qs most k

pub most_none : (qs : List CapturedRequest) (n most : ℕ) → n ≡ 0 → most ≡ 0 → IsMostUpto qs n most
most_none qs n most e none = record {
  bound = λ k d low h. absurd (omega (arith, low, e));
  reached = λ some. absurd (omega (arith, some, none));
}

flight_here : (qs : List CapturedRequest) (fs : List Flight) (n : ℕ) (f : Flight) → fs ≡ map flight_of qs → n < length fs → f ≡ get_or fs n f → f ≡ flight_of (get_or qs n no_request)
flight_here qs fs n f is here at =
    let m : length fs ≡ length qs = ap length is ∙ length-map qs flight_of in
    at ∙ ap (λ (xs : List Flight). get_or xs n f) is ∙ get_or-map flight_of qs n no_request f (omega (arith, here, m))

-- one more dispatch, at which more were, or not
pub most_more : (qs : List CapturedRequest) (fs : List Flight) (n most new count : ℕ) (f : Flight) → fs ≡ map flight_of qs → n < length fs → f ≡ get_or fs n f → ((q : CapturedRequest) → f ≡ flight_of q → count ≡ in_flight_with qs q)
    → most ≤ count → new ≡ count → IsMostUpto qs n most → IsMostUpto qs (n + 1) new
most_more qs fs n most new count f is here at counted rise same old =
    let m : length fs ≡ length qs = ap length is ∙ length-map qs flight_of in
    let there : n < length qs = omega (arith, here, m) in
    let is_count : count ≡ in_flight_with qs (get_or qs n no_request) = counted (get_or qs n no_request) (flight_here qs fs n f is here at) in
    record {
      bound = bound_more qs n most new count no_request old.bound (omega (arith, rise, same)) there is_count (omega (arith, same));
      reached = λ some. (n, record { in_list = there; at = λ d. at_last qs n count no_request there is_count d ∙ sym same });
    }

pub most_same : (qs : List CapturedRequest) (fs : List Flight) (n most new count : ℕ) (f : Flight) → fs ≡ map flight_of qs → n < length fs → f ≡ get_or fs n f → ((q : CapturedRequest) → f ≡ flight_of q → count ≡ in_flight_with qs q)
    → count ≤ most → new ≡ most → IsMostUpto qs n most → IsMostUpto qs (n + 1) new
most_same qs fs n most new count f is here at counted few same old =
    let m : length fs ≡ length qs = ap length is ∙ length-map qs flight_of in
    let there : n < length qs = omega (arith, here, m) in
    let is_count : count ≡ in_flight_with qs (get_or qs n no_request) = counted (get_or qs n no_request) (flight_here qs fs n f is here at) in
    record {
      bound = bound_more qs n most new count no_request old.bound (omega (arith, same)) there is_count (omega (arith, same, few));
      reached = λ some. subst (λ k. (j : ℕ) × AreWith qs k j) (sym same) (old.reached (omega (arith, some, same)));
    }

pub most_all : (qs : List CapturedRequest) (fs : List Flight) (n most : ℕ) → fs ≡ map flight_of qs → length fs ≤ n → IsMostUpto qs n most → IsMostInFlight qs most
most_all qs fs n most is all old =
    let m : length fs ≡ length qs = ap length is ∙ length-map qs flight_of in
    record {
      bound = λ k d h. old.bound k d (omega (arith, all, h, m)) h;
      reached = old.reached;
    }

abbrev one_if : Bool → ℕ
one_if b = cond b 1 0

-- how many are there at a dispatch, by how many are out and how many back
pub flying_with : (qs : List CapturedRequest) (fs : List Flight) (times : List ℕ) (out back n : ℕ) (b : Bool) (f : Flight) (q : CapturedRequest) → fs ≡ map flight_of qs → AreTimed qs → AreCounted times qs → f ≡ flight_of q
    → out ≡ count_by (λ x. nat_le x.time f.time) fs → back ≡ count_by (λ x. nat_le x f.time) times → f.is_back ≡ b → n ≡ out - back + cond b 1 0 → n ≡ in_flight_with qs q
flying_with qs fs times out back n b f q is timed counted same out_is back_is at_once n_is =
    let time : f.time ≡ q.dispatched = ap (λ (x : Flight). x.time) same in
    let outs : count_by (λ x. nat_le x.time f.time) fs ≡ count_by (out_by q.dispatched) qs =
    ap (λ (xs : List Flight). count_by (λ x. nat_le x.time f.time) xs) is ∙ ap (λ t. count_by (λ (x : Flight). nat_le x.time t) (map flight_of qs)) time ∙ counted_map (λ (x : Flight). nat_le x.time q.dispatched) flight_of qs in
    let backs : count_by (λ x. nat_le x f.time) times ≡ count_by (back_by q.dispatched) qs = ap (λ t. count_by (λ x. nat_le x t) times) time ∙ counted q.dispatched in
    let all : in_flight_at qs q.dispatched + count_by (back_by q.dispatched) qs ≡ count_by (out_by q.dispatched) qs = flying qs q.dispatched timed.came_back in
    let own : one_if b ≡ one_if (back_by q.dispatched q) = ap one_if (sym at_once ∙ ap (λ (x : Flight). x.is_back) same) in
    omega (arith, outs, backs, all, own, out_is, back_is, n_is)
