use Rattle.std.proofs.Common.{◌≡◌, ◌≤◌, ◌+◌, ◌-◌, ◌/◌, ◌∙◌, ℕ, List, length, map, refl, sym, ap, subst, arith}
use Rattle.std.specs.List.{All}
use Rattle.edd_commands.specs.declared.TheConstants.{MAX_COMMANDS}
use Rattle.blk_report.specs.declared.below.CountAsk.{CountAsk}
use Rattle.blk_report.specs.Inside.Below.{AreBelow, halves, half_of, answer_of, IsAskWithin}
use Rattle.blk_report.proofs.Halving.{halves_many, half_limit, all_halved, all_answered, all_asks}
use Rattle.blk_report.proofs.below.count_below.Goals as goal

pub loop-limit-init : goal.loop-limit-init
loop-limit-init g c = record {
  few = c.requires.few;
  asks = subst (All (IsAskWithin c.args.numbers.items c.args.limit)) (sym c.in_ok-left.ensures.items) c.requires.asks;
  same = ap (map (answer_of c.args.numbers.items)) c.in_ok-left.ensures.items;
}

pub halves_of-requires : goal.halves_of-requires
halves_of-requires g c =
    let limit : ℕ = c.loop-limit.limit in
    let pivot : ℕ = limit - limit / 2 in
    let xs : List ℕ = c.loop-limit.numbers.items in
    let old = c.loop-limit.invariant in
    record {
      counts =
          subst (λ l. AreBelow l pivot c.as_slice-in-loop-limit-3.result.now) (sym c.as_slice-in-loop-limit-2.ensures.value)
          (subst (AreBelow xs pivot) (sym c.as_slice-in-loop-limit-3.ensures.value) (subst (λ l. AreBelow l pivot c.in_ok-counts.counts.items) c.as_slice.ensures.value c.in_ok-counts.ensures));
      few = subst (λ l. length l ≤ MAX_COMMANDS) (sym c.as_slice-in-loop-limit-2.ensures.value) old.few;
      asks =
          subst (λ l. All (IsAskWithin l (pivot + pivot)) c.as_slice-in-loop-limit.result.now) (sym c.as_slice-in-loop-limit-2.ensures.value)
          (subst (All (IsAskWithin xs (pivot + pivot))) (sym c.as_slice-in-loop-limit.ensures.value) (all_asks xs limit c.loop-limit.left.items old.asks));
    }

pub loop-limit-preserved : goal.loop-limit-preserved
loop-limit-preserved g c =
    let limit : ℕ = c.loop-limit.limit in
    let pivot : ℕ = limit - limit / 2 in
    let xs : List ℕ = c.loop-limit.numbers.items in
    let left : List CountAsk = c.loop-limit.left.items in
    let old = c.loop-limit.invariant in
    let numbers : c.in_ok-numbers.numbers.items ≡ halves pivot xs = c.in_ok-numbers.ensures ∙ ap (halves pivot) c.as_slice-in-loop-limit-4.ensures.value in
    let asks : c.in_ok-left-2.left.items ≡ map (half_of xs pivot) left =
    c.in_ok-left-2.ensures
    ∙ ap (λ l. map (half_of l pivot) c.as_slice-in-loop-limit.result.now) c.as_slice-in-loop-limit-2.ensures.value
    ∙ ap (map (half_of xs pivot)) c.as_slice-in-loop-limit.ensures.value in
    record {
      few = omega (arith, ap length numbers, halves_many xs pivot, old.few);
      asks = subst (λ l. All (IsAskWithin l (limit / 2)) c.in_ok-left-2.left.items) (sym numbers) (subst (All (IsAskWithin (halves pivot xs) (limit / 2))) (sym asks) (all_halved xs pivot limit left refl old.asks));
      same =
          ap (λ l. map (answer_of l) c.in_ok-left-2.left.items) numbers
          ∙ ap (map (answer_of (halves pivot xs))) asks
          ∙ half_limit xs pivot limit left old.asks
          ∙ old.same;
    }

pub returns : goal.returns
returns g c =
    let none : c.loop-limit.limit ≡ 0 = let e = c.loop-limit-test.false in omega (arith, e) in
    sym (all_answered c.loop-limit.numbers.items c.loop-limit.left.items (subst (λ n. All (IsAskWithin c.loop-limit.numbers.items n) c.loop-limit.left.items) none c.loop-limit.invariant.asks))
    ∙ c.loop-limit.invariant.same
