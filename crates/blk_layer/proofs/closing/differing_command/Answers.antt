use Rattle.std.proofs.Common.{sym, subst, arith, IsPermutation}
use Rattle.std.proofs.lemmas.List.Sorted.{IsPermutation-sym, Contains-permutation, length_permutation}
use Rattle.blk_layer.specs.Closing.{is_command}
use Rattle.blk_layer.specs.Inside.Closing.{HasEach, IsExtra, DiffersInCommand}
use Rattle.blk_layer.proofs.Agreed.{command_exact, moved_more, moved_both, agree_long, some_map, none_map}
use Rattle.blk_layer.proofs.closing.differing_command.Goals as goal

pub returns-clause-some : goal.returns-clause-some
returns-clause-some g c =
    let done = c.args.done.items in
    let ran = c.args.ran.items in
    let xs = c.as_slice.result.now in
    let ys = c.as_slice-2.result.now in
    let p : IsPermutation done xs = subst (IsPermutation done) (sym c.as_slice.ensures.value) c.sort_unstable.ensures.permutation in
    let q : IsPermutation ran ys = subst (IsPermutation ran) (sym c.as_slice-2.ensures.value) c.sort_unstable-2.ensures.permutation in
    some_map c.first_extra.result (IsExtra is_command xs ys) (DiffersInCommand done ran)
    (λ x extra. (Contains-permutation xs done x (IsPermutation-sym done xs p) extra.0, λ same. (let more = moved_more is_command done ran xs ys x p q extra.1 in omega (arith, more, same))))
    c.first_extra.ensures.some

pub returns-clause-none : goal.returns-clause-none
returns-clause-none g c =
    let done = c.args.done.items in
    let ran = c.args.ran.items in
    let xs = c.as_slice.result.now in
    let ys = c.as_slice-2.result.now in
    let p : IsPermutation done xs = subst (IsPermutation done) (sym c.as_slice.ensures.value) c.sort_unstable.ensures.permutation in
    let q : IsPermutation ran ys = subst (IsPermutation ran) (sym c.as_slice-2.ensures.value) c.sort_unstable-2.ensures.permutation in
    none_map c.first_extra.result (HasEach is_command ys xs) (IsPermutation ran done)
    (λ le. moved_both ran done ys xs q p (agree_long is_command command_exact xs ys le (omega (arith, c.requires, length_permutation done xs p, length_permutation ran ys q))))
    c.first_extra.ensures.none
