-- Texts that hold more and more facts.
use Rattle.std.proofs.Common.{◌≡◌, ◌<◌, ◌+◌, ◌++◌, ◌∷◌, [], ◌∙◌, ℕ, List, length, map, take, get_or, sym, ap, subst, append_assoc, append-nil}
use Rattle.std.specs.Prelude.{flat_map}
use Rattle.std.proofs.lemmas.List.{take_more, map_push, flat_map_more}
use Rattle.std.specs.List.{filter_map}
use Rattle.blk_lanes.specs.declared.bars.Bar.{Bar}
use Rattle.blk_lanes.specs.declared.bars.Interval.{Interval}
use Rattle.blk_lanes.specs.declared.bars.Span.{Span}
use Rattle.blk_lanes.specs.declared.bars.Unit.{Unit}
use Rattle.blk_lanes.specs.declared.panel.TheConstants.{MAX_BARS}
use Rattle.blk_lanes.specs.Shown.{bar_within, span_within}
use Rattle.blk_lanes.specs.Facts.{bar_fact, span_fact}
use Rattle.blk_lanes.specs.Held.{Holds, Says, panel_facts}

holds_longer : (fs : List (List ℕ)) (t u : List ℕ) → Holds fs t → Holds fs (t ++ u)
unfolding Holds
holds_longer [] t u h = tt
holds_longer (f ∷ fs) t u h = (h.0, h.1 ++ u, ap (λ x. x ++ u) h.2 ∙ append_assoc (h.0 ++ f) h.1 u, holds_longer fs h.1 u h.3)

holds_behind : (fs : List (List ℕ)) (s t : List ℕ) → Holds fs t → Holds fs (s ++ t)
unfolding Holds
holds_behind [] s t h = tt
holds_behind (f ∷ fs) s t h = (
  s ++ h.0,
  h.1,
  ap (λ x. s ++ x) h.2 ∙ sym (append_assoc s (h.0 ++ f) h.1) ∙ ap (λ x. x ++ h.1) (sym (append_assoc s h.0 f)),
  h.3,
)

holds_both : (fs gs : List (List ℕ)) (t u : List ℕ) → Holds fs t → Holds gs u → Holds (fs ++ gs) (t ++ u)
unfolding Holds
holds_both [] gs t u h k = holds_behind gs t u k
holds_both (f ∷ fs) gs t u h k = (h.0, h.1 ++ u, ap (λ x. x ++ u) h.2 ∙ append_assoc (h.0 ++ f) h.1 u, holds_both fs gs h.1 u h.3 k)

pub says_more : (fs gs : List (List ℕ)) (old mid new : List ℕ) → Says fs old mid → Says gs mid new → Says (fs ++ gs) old new
says_more fs gs old mid new h k = (h.0 ++ k.0, k.1 ∙ ap (λ x. x ++ k.0) h.1 ∙ append_assoc old h.0 k.0, holds_both fs gs h.0 k.0 h.2 k.2)

-- a piece of no fact, a fact, and nothing
pub says_none : (t old new : List ℕ) → new ≡ old ++ t → Says [] old new
unfolding Holds
says_none t old new e = (t, e, tt)

pub says_fact : (f old new : List ℕ) → new ≡ old ++ f → Says (f ∷ []) old new
unfolding Holds
says_fact f old new e = (f, e, ([], [], sym (append-nil f), tt))

pub says_same : (old : List ℕ) → Says [] old old
says_same old = says_none [] old old (sym (append-nil old))

-- a fact before which there is a piece, and behind which there are three
pub says_framed : (a f b c d old p q r s new : List ℕ) → p ≡ old ++ a → q ≡ p ++ f → r ≡ q ++ b → s ≡ r ++ c → new ≡ s ++ d → Says (f ∷ []) old new
says_framed a f b c d old p q r s new e g h i j =
    let one : Says (f ∷ []) old q = says_more [] (f ∷ []) old p q (says_none a old p e) (says_fact f p q g) in
    let two : Says (f ∷ []) old r = says_more (f ∷ []) [] old q r one (says_none b q r h) in
    let three : Says (f ∷ []) old s = says_more (f ∷ []) [] old r s two (says_none c r s i) in
    says_more (f ∷ []) [] old s new three (says_none d s new j)

-- one more of a list
pub says_map : {X : Type 0} (f : X → List ℕ) (xs : List X) (i : ℕ) (d : X) (old mid new : List ℕ) → i < length xs → Says (map f (take i xs)) old mid → Says (f (get_or xs i d) ∷ []) mid new → Says (map f (take (i + 1) xs)) old new
says_map f xs i d old mid new l h k =
    subst (λ fs. Says fs old new) (sym (ap (map f) (take_more xs i d l) ∙ map_push f (take i xs) (get_or xs i d))) (says_more (map f (take i xs)) (f (get_or xs i d) ∷ []) old mid new h k)

pub says_flat : {X : Type 0} (f : X → List (List ℕ)) (xs : List X) (i : ℕ) (d : X) (old mid new : List ℕ) → i < length xs → Says (flat_map f (take i xs)) old mid → Says (f (get_or xs i d)) mid new → Says (flat_map f (take (i + 1) xs)) old new
says_flat f xs i d old mid new l h k =
    subst (λ fs. Says fs old new) (flat_map_more f [] (take i xs) (get_or xs i d) ∙ ap (flat_map f) (sym (take_more xs i d l))) (says_more (flat_map f (take i xs)) (f (get_or xs i d)) old mid new h k)

-- a text that was made apart
pub says_moved : (facts : List (List ℕ)) (body old new : List ℕ) → Says facts [] body → new ≡ old ++ body → Says facts old new
says_moved facts body old new h e = (h.0, e ∙ ap (λ x. old ++ x) h.1, h.2)

-- the same where it began with nothing
pub says_made : (facts : List (List ℕ)) (empty draft text : List ℕ) → empty ≡ [] → Says facts empty draft → text ≡ draft → Says facts [] text
says_made facts empty draft text e h i = (h.0, i ∙ h.1 ∙ ap (λ x. x ++ h.0) e, h.2)

-- a panel: a beginning, what is said of times and of requests, and an end
pub says_panel : (u w : Unit) (bars drawn : List Bar) (spans some : List Span) (p : Interval) (a b old q r s new : List ℕ) → w ≡ u → some ≡ filter_map (span_within p) spans → drawn ≡ take MAX_BARS (filter_map (bar_within p) bars) → q ≡ old ++ a → Says (map (span_fact w) some) q r → Says (map (bar_fact w) drawn) r s → new ≡ s ++ b → Says (panel_facts u bars spans p) old new
unfolding panel_facts
says_panel u w bars drawn spans some p a b old q r s new same some_is drawn_is begin of_spans of_bars end =
    let first : Says (map (span_fact u) (filter_map (span_within p) spans)) q r = subst (λ x. Says (map (span_fact u) x) q r) some_is (subst (λ x. Says (map (span_fact x) some) q r) same of_spans) in
    let second : Says (map (bar_fact u) (take MAX_BARS (filter_map (bar_within p) bars))) r s = subst (λ x. Says (map (bar_fact u) x) r s) drawn_is (subst (λ x. Says (map (bar_fact x) drawn) r s) same of_bars) in
    let both = says_more (map (span_fact u) (filter_map (span_within p) spans)) (map (bar_fact u) (take MAX_BARS (filter_map (bar_within p) bars))) old r s (says_more [] (map (span_fact u) (filter_map (span_within p) spans)) old q r (says_none a old q begin) first) second in
    let whole = says_more (panel_facts u bars spans p) [] old s new both (says_none b s new end) in
    subst (λ fs. Says fs old new) (append-nil (panel_facts u bars spans p)) whole

-- a picture: its beginning, its heading, the colours, its panels, and its end
pub holds_drawn : (facts : List (List ℕ)) (head heading legend body end p q r s t text : List ℕ) → p ≡ head → q ≡ p ++ heading → r ≡ q ++ legend → Says facts [] body → s ≡ r ++ body → t ≡ s ++ end → text ≡ t → Holds (heading ∷ facts) text
unfolding Holds
holds_drawn facts head heading legend body end p q r s t text e f g h i j k =
    let one : Says (heading ∷ []) [] q = says_more [] (heading ∷ []) [] p q (says_none head [] p e) (says_fact heading p q f) in
    let two : Says (heading ∷ []) [] r = says_more (heading ∷ []) [] [] q r one (says_none legend q r g) in
    let three : Says (heading ∷ facts) [] s = says_more (heading ∷ []) facts [] r s two (says_moved facts body r s h i) in
    let four : Says ((heading ∷ facts) ++ []) [] t = says_more (heading ∷ facts) [] [] s t three (says_none end s t j) in
    let all : Says (heading ∷ facts) [] t = subst (λ fs. Says fs [] t) (append-nil (heading ∷ facts)) four in
    subst (Holds (heading ∷ facts)) (sym (k ∙ all.1)) all.2
