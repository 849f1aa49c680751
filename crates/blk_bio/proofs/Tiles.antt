-- Lists of bios that tile a range.
use Rattle.std.proofs.Common.{suc, zero, ◌≡◌, ◌<◌, ◌≤◌, ◌+◌, ◌++◌, ◌^◌, ℕ, List, [], ◌∷◌, length, get_or, refl, sym, ◌∙◌, arith, add-one, subst}
use Rattle.std.specs.Prelude.{OnOk, OnErr, Result, Ok, Err}
use Rattle.std.proofs.lemmas.List.Sums.{sum_by-cons}
use Rattle.blk_bio.specs.declared.request.Side.{Side}
use Rattle.blk_bio.specs.declared.request.Side.TheVariants.{Back, Front}
use Rattle.blk_bio.specs.Bios.{Bio, IsBio, end_of}
use Rattle.blk_bio.specs.Requests.{IsRequest, Abuts, dir_of, first_of, last_of, sectors_of}

-- the rest of a request is a request, which begins where the first bio ends
pub rest_request : (b c : Bio) (bs : List Bio) → IsRequest (b ∷ c ∷ bs) → IsRequest (c ∷ bs)
rest_request b c bs r = record {
  not_empty = omega arith;
  each_bio = λ k d h. r.each_bio (suc k) d (omega arith);
  one_direction = λ k d h. r.one_direction (suc k) d (omega arith) ∙ sym (r.one_direction 1 d (omega arith));
  tiles = λ k d h. rw add-one (rw add-one at (r.tiles (suc k) d (omega arith)));
}

-- a request's sectors fill its range
pub fills : (bs : List Bio) → IsRequest bs → first_of bs + sectors_of bs ≡ last_of bs
unfolding last_of
fills [] r = absurd (omega (arith, r.not_empty))
fills (b ∷ []) r = omega arith
fills (b ∷ c ∷ bs) r =
    let next : c.first ≡ end_of b = r.tiles 0 b (omega arith) in
    let ih : c.first + sectors_of (c ∷ bs) ≡ last_of (c ∷ bs) = fills (c ∷ bs) (rest_request b c bs r) in
    let s : sectors_of (b ∷ c ∷ bs) ≡ b.sectors + sectors_of (c ∷ bs) = sum_by-cons (λ x. x.sectors) b (c ∷ bs) in
    omega (arith, next, ih, s)

-- and each of its bios has a sector at least
pub counted : (bs : List Bio) → IsRequest bs → length bs ≤ sectors_of bs
counted [] r = absurd (omega (arith, r.not_empty))
counted (b ∷ []) r =
    let one : IsBio b = r.each_bio 0 b (omega arith) in
    omega (arith, one.not_empty)
counted (b ∷ c ∷ bs) r =
    let one : IsBio b = r.each_bio 0 b (omega arith) in
    let ih : length (c ∷ bs) ≤ sectors_of (c ∷ bs) = counted (c ∷ bs) (rest_request b c bs r) in
    let s : sectors_of (b ∷ c ∷ bs) ≡ b.sectors + sectors_of (c ∷ bs) = sum_by-cons (λ x. x.sectors) b (c ∷ bs) in
    omega (arith, one.not_empty, ih, s)

-- the end of a list of bios is its last one's
pub last_at : (bs : List Bio) (n : ℕ) (d : Bio) → length bs ≡ suc n → end_of (get_or bs n d) ≡ last_of bs
unfolding last_of
last_at [] n d h = absurd (omega arith)
last_at (b ∷ []) zero d h = refl
last_at (b ∷ []) (suc n) d h = absurd (omega arith)
last_at (b ∷ c ∷ bs) zero d h = absurd (omega arith)
last_at (b ∷ c ∷ bs) (suc n) d h = last_at (c ∷ bs) n d (omega arith)

-- a list of bios joined to one before it ends where it does
pub last-append : (xs : List Bio) (y : Bio) (ys : List Bio) → last_of (xs ++ y ∷ ys) ≡ last_of (y ∷ ys)
unfolding last_of
last-append [] y ys = refl
last-append (x ∷ []) y ys = refl
last-append (x ∷ c ∷ xs) y ys = last-append (c ∷ xs) y ys

-- a request begins below its end, which is in range
pub range_of : (bs : List Bio) → IsRequest bs → (first_of bs < last_of bs) × (last_of bs ≤ 2 ^ 48)
unfolding last_of
range_of [] r = absurd (omega (arith, r.not_empty))
range_of (b ∷ []) r =
    let one : IsBio b = r.each_bio 0 b (omega arith) in
    (omega (arith, one.not_empty), one.in_range)
range_of (b ∷ c ∷ bs) r =
    let one : IsBio b = r.each_bio 0 b (omega arith) in
    let next : c.first ≡ end_of b = r.tiles 0 b (omega arith) in
    let ih = range_of (c ∷ bs) (rest_request b c bs r) in
    (omega (arith, one.not_empty, next, ih.0), ih.1)

each_before : (x y : Bio) (ys : List Bio) → IsBio x → IsRequest (y ∷ ys) → (k : ℕ) (d : Bio) → k < length (x ∷ y ∷ ys) → IsBio (get_or (x ∷ y ∷ ys) k d)
each_before x y ys one r zero d h = one
each_before x y ys one r (suc k) d h = r.each_bio k d (omega arith)

dir_before : (x y : Bio) (ys : List Bio) → x.dir ≡ y.dir → IsRequest (y ∷ ys) → (k : ℕ) (d : Bio) → k < length (x ∷ y ∷ ys) → (get_or (x ∷ y ∷ ys) k d).dir ≡ x.dir
dir_before x y ys same r zero d h = refl
dir_before x y ys same r (suc k) d h = r.one_direction k d (omega arith) ∙ sym same

tiles_before : (x y : Bio) (ys : List Bio) → y.first ≡ end_of x → IsRequest (y ∷ ys) → (k : ℕ) (d : Bio) → suc k < length (x ∷ y ∷ ys) → (get_or (x ∷ y ∷ ys) (suc k) d).first ≡ end_of (get_or (x ∷ y ∷ ys) k d)
tiles_before x y ys next r zero d h = next
tiles_before x y ys next r (suc k) d h = rw add-one at (r.tiles k d (omega arith))

-- a bio before a request
pub put_before : (x y : Bio) (ys : List Bio) → IsBio x → x.dir ≡ y.dir → y.first ≡ end_of x → IsRequest (y ∷ ys) → IsRequest (x ∷ y ∷ ys)
put_before x y ys one same next r = record {
  not_empty = omega arith;
  each_bio = each_before x y ys one r;
  one_direction = dir_before x y ys same r;
  tiles = λ k d h. rw add-one (tiles_before x y ys next r k d (omega arith));
}

joins_cons : (xs : List Bio) (y : Bio) (ys : List Bio) → IsRequest xs → IsRequest (y ∷ ys) → dir_of xs ≡ y.dir → y.first ≡ last_of xs → IsRequest (xs ++ y ∷ ys)
unfolding last_of
joins_cons [] y ys p q same next = q
joins_cons (x ∷ []) y ys p q same next = put_before x y ys (p.each_bio 0 x (omega arith)) same next q
joins_cons (x ∷ c ∷ xs) y ys p q same next =
    let c_dir : c.dir ≡ x.dir = p.one_direction 1 x (omega arith) in
    let ih = joins_cons (c ∷ xs) y ys (rest_request x c xs p) q (c_dir ∙ same) next in
    put_before x c (xs ++ y ∷ ys) (p.each_bio 0 x (omega arith)) (sym c_dir) (p.tiles 0 x (omega arith)) ih

-- two requests of one direction, the second beginning where the first ends, make one
pub joins : (xs ys : List Bio) → IsRequest xs → IsRequest ys → dir_of ys ≡ dir_of xs → first_of ys ≡ last_of xs → IsRequest (xs ++ ys)
joins xs [] p q same next = absurd (omega (arith, q.not_empty))
joins xs (y ∷ ys) p q same next = joins_cons xs y ys p q (sym same) next

-- bios that grew to a request, or stayed one
pub either_way : {E : Type 0} (r : Result (Unit {0}) E) (xs zs new : List Bio) → IsRequest xs → IsRequest zs → OnOk r (new ≡ zs) → OnErr r (new ≡ xs) → IsRequest new
either_way (Ok x) xs zs new p q grew same = subst IsRequest (sym grew) q
either_way (Err e) xs zs new p q grew same = subst IsRequest (sym same) p
