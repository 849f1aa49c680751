use Rattle.std.proofs.Common.{◌≡◌, ◌∙◌, ◌++◌, ◌∷◌, [], ◌+◌, ℕ, List, None, Some, true, false, length, drop, refl, sym, ap, lit<, rules}
use Rattle.std.proofs.lemmas.Iterator.Consumers.{YieldsList-end, YieldsList-turn}
use Rattle.std.proofs.lemmas.Iterator.Splits.{YieldsList-from_str_split}
use Rattle.std.proofs.lemmas.List.{length-append}
use Rattle.blk_schedulers.specs.Lists.{parts}
use Rattle.blk_args.specs.Lists.{part_in, is_listed, list_by}
use Rattle.blk_args.proofs.Listed.{all_taken, gathered, gathers, goes_no_further, goes_over, takes_part}
use Rattle.blk_args.proofs.lists.listed.Goals as goal

pub loop-part-init : goal.loop-part-init
loop-part-init c =
    let none : c.new-numbers.result.items ≡ [] = c.new-numbers.ensures in
    record {
      rest = ap (λ (ns : List ℕ). gathered (part_in c.args.parts) ns (parts c.args.text.now)) none ∙ gathers (part_in c.args.parts) c.args.text.now;
      still = ap is_listed none;
    }

pub returns-in_err-number : goal.returns-in_err-number
returns-in_err-number c =
    let all = YieldsList-from_str_split {s = c.into_iter-part-iterator.result} 44 c.args.text.now (lit< tt) (search rules) (search rules) (search rules) in
    let t = YieldsList-turn all c.loop-part.yielded _ c.loop-part.yielded_by _ _ c.in-Some.part c.in-Some.is c.next.ensures.steps in
    let none : list_by (part_in c.args.parts) c.args.text.now ≡ None = sym c.loop-part.invariant.rest
    ∙ takes_part (part_in c.args.parts) c.loop-part.numbers.items (parts c.args.text.now) (length c.loop-part.yielded) c.in-Some.part.now None t c.in_err-number.ensures in
    rw (none, c.from_residual.ensures) refl

pub returns-then-not-goes_on : goal.returns-then-not-goes_on
returns-then-not-goes_on c =
    let all = YieldsList-from_str_split {s = c.into_iter-part-iterator.result} 44 c.args.text.now (lit< tt) (search rules) (search rules) (search rules) in
    let t = YieldsList-turn all c.loop-part.yielded _ c.loop-part.yielded_by _ _ c.in-Some.part c.in-Some.is c.next.ensures.steps in
    let ns = c.loop-part.numbers.items in
    let n = c.in_ok-number.number in
    let no : is_listed (ns ++ n ∷ []) ≡ false = search rules in
    sym (sym c.loop-part.invariant.rest
    ∙ takes_part (part_in c.args.parts) ns (parts c.args.text.now) (length c.loop-part.yielded) c.in-Some.part.now (Some n) t c.in_ok-number.ensures
    ∙ goes_no_further (part_in c.args.parts) ns (drop (length c.loop-part.yielded + 1) (parts c.args.text.now)) n no)

pub loop-part-preserved : goal.loop-part-preserved
loop-part-preserved c =
    let all = YieldsList-from_str_split {s = c.into_iter-part-iterator.result} 44 c.args.text.now (lit< tt) (search rules) (search rules) (search rules) in
    let t = YieldsList-turn all c.loop-part.yielded _ c.loop-part.yielded_by _ _ c.in-Some.part c.in-Some.is c.next.ensures.steps in
    let ns = c.loop-part.numbers.items in
    let n = c.in_ok-number.number in
    let yes : is_listed (ns ++ n ∷ []) ≡ true = search rules in
    let rest : gathered (part_in c.args.parts) (ns ++ n ∷ []) (drop (length c.loop-part.yielded + 1) (parts c.args.text.now)) ≡ list_by (part_in c.args.parts) c.args.text.now =
    sym (goes_over (part_in c.args.parts) ns (drop (length c.loop-part.yielded + 1) (parts c.args.text.now)) n yes) ∙ sym (takes_part (part_in c.args.parts) ns (parts c.args.text.now) (length c.loop-part.yielded) c.in-Some.part.now (Some n) t c.in_ok-number.ensures)
    ∙ c.loop-part.invariant.rest in
    record {
      rest = rw (c.push.ensures.items, length-append c.loop-part.yielded (c.in-Some.part ∷ [])) rest;
      still = ap is_listed c.push.ensures.items ∙ yes;
    }

pub returns : goal.returns
returns c =
    let all = YieldsList-from_str_split {s = c.into_iter-part-iterator.result} 44 c.args.text.now (lit< tt) (search rules) (search rules) (search rules) in
    let e = YieldsList-end all c.loop-part.yielded _ c.loop-part.yielded_by _ _ c.in-None.is c.next.ensures.steps in
    sym (all_taken (part_in c.args.parts) c.loop-part.numbers.items (parts c.args.text.now) (length c.loop-part.yielded) e.1) ∙ c.loop-part.invariant.rest
