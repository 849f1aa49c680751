use Rattle.std.proofs.Common.{◌≡◌, sym, subst, arith, List, IsPermutation}
use Rattle.blk_bio.specs.Bios.{Bio}
use Rattle.blk_layer.specs.Inside.Closing.{HasEach}
use Rattle.blk_layer.proofs.Agreed.{bio_equal, equal_exact, bio_more, agree, moved_both}
use Rattle.blk_layer.proofs.closing.differing_bio.Goals as goal

pub returns-in-Some-clause-some : goal.returns-in-Some-clause-some
returns-in-Some-clause-some g c =
    let x : Bio = c.in-Some.bio in
    let p : IsPermutation c.args.accepted.items c.as_slice.result.now = subst (IsPermutation c.args.accepted.items) (sym c.as_slice.ensures.value) c.sort_unstable.ensures.permutation in
    let q : IsPermutation c.args.stored.items c.as_slice-2.result.now = subst (IsPermutation c.args.stored.items) (sym c.as_slice-2.ensures.value) c.sort_unstable-2.ensures.permutation in
    let more = bio_more c.args.accepted.items c.args.stored.items c.as_slice.result.now c.as_slice-2.result.now x p q c.in-Some.ensures.some.1 in
    (x, sym c.id.ensures, λ same. omega (arith, more, same))

pub returns-in-Some-first_extra-clause-some : goal.returns-in-Some-first_extra-clause-some
returns-in-Some-first_extra-clause-some g c =
    let x : Bio = c.in-Some-first_extra.bio in
    let p : IsPermutation c.args.stored.items c.as_slice-3.result.now = subst (IsPermutation c.args.stored.items) (sym c.as_slice-3.ensures.value) c.sort_unstable-2.ensures.permutation in
    let q : IsPermutation c.args.accepted.items c.as_slice-4.result.now = subst (IsPermutation c.args.accepted.items) (sym c.as_slice-4.ensures.value) c.sort_unstable.ensures.permutation in
    let more = bio_more c.args.stored.items c.args.accepted.items c.as_slice-3.result.now c.as_slice-4.result.now x p q c.in-Some-first_extra.ensures.some.1 in
    (x, sym c.id-in-Some-first_extra.ensures, λ same. omega (arith, more, same))

pub returns-clause-none : goal.returns-clause-none
returns-clause-none g c =
    let xs = c.sort_unstable.new.self.items in
    let ys = c.sort_unstable-2.new.self.items in
    let le : HasEach bio_equal ys xs = subst2 (c.as_slice-2.ensures.value) (c.as_slice.ensures.value) c.in_default.ensures.none in
    let ge : HasEach bio_equal xs ys = subst2 (c.as_slice-4.ensures.value) (c.as_slice-3.ensures.value) c.in-None.ensures.none in
    moved_both c.args.accepted.items c.args.stored.items xs ys c.sort_unstable.ensures.permutation c.sort_unstable-2.ensures.permutation (agree bio_equal equal_exact xs ys le ge)
  where
    subst2 : {a b c d : List Bio} → a ≡ c → b ≡ d → HasEach bio_equal a b → HasEach bio_equal c d
    subst2 {a} {b} {c} {d} e f h = subst (λ l. HasEach bio_equal c l) f (subst (λ l. HasEach bio_equal l b) e h)
