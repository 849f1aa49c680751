-- What is kept of a request that another joins.
use Rattle.std.proofs.Common.{◌≡◌, ◌<◌, ◌+◌, ◌++◌, ◌==◌, ℕ, List, [], ◌∷◌, length, refl, sym, ◌∙◌, ap, subst, arith, length-append, cond, true, false, ne_eqb, eq-eqb}
use Rattle.blk_bio.specs.declared.bio.Dir.{Dir}
use Rattle.blk_bio.specs.declared.request.Side.{Side}
use Rattle.blk_bio.specs.declared.request.Side.TheVariants.{Back, Front}
use Rattle.blk_bio.specs.Bios.{Bio}
use Rattle.blk_bio.specs.Limits.{Limits}
use Rattle.blk_bio.specs.Requests.{IsRequest, dir_of, first_of, last_of, Fits}
use Rattle.blk_bio.specs.Extents.{Extent, extent_of, extent_joined}
use Rattle.blk_bio.proofs.Tiles.{last-append, joins, range_of}
use Rattle.blk_trace.specs.declared.known.Entry.{Entry}
use Rattle.blk_trace.specs.Events.{join_up}
use Rattle.blk_trace.specs.Waits.{Entered, summary}

same_extent : (d d' : Dir) (f f' e e' b b' : ℕ) → d ≡ d' → f ≡ f' → e ≡ e' → b ≡ b'
    → (let x : Extent = record { dir = d; first = f; end = e; bios = b } in x) ≡ (let y : Extent = record { dir = d'; first = f'; end = e'; bios = b' } in y)
same_extent d d' f f' e e' b b' hd hf he hb =
    ap (λ (x : Dir). let y : Extent = record { dir = x; first = f; end = e; bios = b } in y) hd
    ∙ ap (λ (x : ℕ). let y : Extent = record { dir = d'; first = x; end = e; bios = b } in y) hf
    ∙ ap (λ (x : ℕ). let y : Extent = record { dir = d'; first = f'; end = x; bios = b } in y) he
    ∙ ap (λ (x : ℕ). let y : Extent = record { dir = d'; first = f'; end = e'; bios = x } in y) hb

last_of_second : (a n : List Bio) → 0 < length n → last_of (a ++ n) ≡ last_of n
last_of_second a [] h = absurd (omega arith)
last_of_second a (x ∷ n) h = last-append a x n

first_of_first : (a n : List Bio) → 0 < length a → (first_of (a ++ n) ≡ first_of a) × (dir_of (a ++ n) ≡ dir_of a)
first_of_first [] n h = absurd (omega arith)
first_of_first (x ∷ a) n h = (refl, refl)

joins_back : (a n : List Bio) → 0 < length a → first_of n ≡ last_of a → join_up a n ≡ a ++ n
joins_back [] n h same = absurd (omega arith)
joins_back (x ∷ a) n h same = let t : (first_of n == last_of (x ∷ a)) ≡ true = eq-eqb _ _ same in ap (λ b. cond b ((x ∷ a) ++ n) (n ++ (x ∷ a))) t

joins_front : (a n : List Bio) → 0 < length a → (first_of n ≡ last_of a → ⊥) → join_up a n ≡ n ++ a
joins_front [] n h other = absurd (omega arith)
joins_front (x ∷ a) n h other = let t : (first_of n == last_of (x ∷ a)) ≡ false = ne_eqb _ _ other in ap (λ b. cond b ((x ∷ a) ++ n) (n ++ (x ∷ a))) t

-- the side at which a newcomer stands that fits
stands_front : (limits : Limits) (a n : List Bio) → IsRequest a → IsRequest n → Fits limits a n Front → join_up a n ≡ n ++ a
stands_front limits a n ra rn f = joins_front a n ra.not_empty (λ e. absurd (omega (arith, e, f.abuts, (range_of a ra).0, (range_of n rn).0)))

-- a request that another joins is one
pub join_request : (limits : Limits) (a n : List Bio) (side : Side) → IsRequest a → IsRequest n → Fits limits a n side → IsRequest (join_up a n)
join_request limits a n Back ra rn f = subst IsRequest (sym (joins_back a n ra.not_empty f.abuts)) (joins a n ra rn f.same_direction f.abuts)
join_request limits a n Front ra rn f = subst IsRequest (sym (stands_front limits a n ra rn f)) (joins n a rn ra (sym f.same_direction) (sym f.abuts))

-- its extent
pub together_is : (limits : Limits) (a n : List Bio) (side : Side) → IsRequest a → IsRequest n → Fits limits a n side → extent_joined (extent_of a) (extent_of n) side ≡ extent_of (join_up a n)
together_is limits a n Back ra rn f =
    let fs = first_of_first a n ra.not_empty in
    same_extent _ _ _ _ _ _ _ _ (sym fs.1) (sym fs.0) (sym (last_of_second a n rn.not_empty)) (sym (length-append a n)) ∙ ap extent_of (sym (joins_back a n ra.not_empty f.abuts))
together_is limits a n Front ra rn f =
    let fs = first_of_first n a rn.not_empty in
    let count : length a + length n ≡ length (n ++ a) = omega (arith, length-append n a) in
    same_extent _ _ _ _ _ _ _ _ (sym f.same_direction ∙ sym fs.1) (sym fs.0) (sym (last_of_second n a ra.not_empty)) count ∙ ap extent_of (sym (stands_front limits a n ra rn f))

-- what is kept once another has joined
pub joined_is : (limits : Limits) (old : Entry) (w : Entered) (n : List Bio) (round : ℕ) (side : Side) (extent newcomer : Extent) → old ≡ summary w → IsRequest w.bios → IsRequest n → Fits limits w.bios n side
    → newcomer ≡ extent_of n → extent ≡ extent_joined old.extent newcomer side
    → (let x : Entry = record { extent = extent; release = round; due = old.due } in x) ≡ summary record { release = round; due = w.due; bios = join_up w.bios n }
joined_is limits old w n round side extent newcomer is ra rn f hn he =
    let e : extent ≡ extent_of (join_up w.bios n) = he ∙ ap (λ (x : Entry). extent_joined x.extent newcomer side) is ∙ ap (λ (x : Extent). extent_joined (extent_of w.bios) x side) hn ∙ together_is limits w.bios n side ra rn f in
    ap (λ (x : Extent). let y : Entry = record { extent = x; release = round; due = old.due } in y) e
    ∙ ap (λ (x : Entry). let y : Entry = record { extent = extent_of (join_up w.bios n); release = round; due = x.due } in y) is

pub fits_to : (l l' : Limits) (a b n : List Bio) → l ≡ l' → a ≡ b → (x : Side) × Fits l a n x → (x : Side) × Fits l' b n x
fits_to l l' a b n hl ha f = (f.0, subst (λ (m : Limits). Fits m b n f.0) hl (subst (λ (c : List Bio). Fits l c n f.0) ha f.1))
