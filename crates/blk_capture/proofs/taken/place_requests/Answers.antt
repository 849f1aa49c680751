use Rattle.std.proofs.Common.{◌≡◌, ◌<◌, ◌≤◌, ◌+◌, ◌∙◌, ℕ, List, length, None, replicate, sym, ap, subst, refl, arith, rules}
use Rattle.std.specs.List.Sorted.{IsNonDecreasingBy}
use Rattle.std.proofs.lemmas.List.{get_or_default, take_all}
use Rattle.blk_capture.specs.Parting.{gone_before}
use Rattle.blk_capture.specs.Rules.{Known}
use Rattle.blk_capture.specs.Settled.{taken_from}
use Rattle.blk_capture.specs.Inside.Matchings.{all_known}
use Rattle.blk_capture.specs.declared.clock.Dispatch.{Dispatch}
use Rattle.blk_capture.specs.declared.requests.Options.{Options}
use Rattle.blk_capture.specs.declared.taken.Placing.{Placing}
use Rattle.blk_capture.proofs.Placed.{IsPlacedUpto, placed_none, placed_same, placed_more, placed_whole}
use Rattle.blk_capture.proofs.Placing.{sent_there, laid_out}
use Rattle.blk_capture.proofs.taken.place_requests.Goals as goal
use Rattle.blk_capture.proofs.taken.place_requests.Goals.{in-Some, in_default}

pub loop-number-init : goal.loop-number-init
loop-number-init g c =
    let blank : c.in_ok-places.places.items ≡ replicate (length c.args.lives.now) None = search rules in
    placed_none c.args.begin c.args.options.now (all_known c.args.matching.now) c.args.lives.now c.as_slice-dispatches.result.now _ blank refl refl

pub loop-number-preserved : goal.loop-number-preserved
loop-number-preserved g c =
    let ds : List Dispatch = c.as_slice-dispatches.result.now in
    let n : ℕ = c.loop-number.number in
    let m : Known = all_known c.args.matching.now in
    let o : Options = c.args.options.now in
    let t : ℕ = c.args.matching.now.clock.now in
    let here : n < length ds = omega arith in
    let is : ds ≡ m.dispatches = c.as_slice-dispatches.ensures.value in
    let up : IsNonDecreasingBy (λ (y : Dispatch). y.time) ds = subst (IsNonDecreasingBy (λ (y : Dispatch). y.time)) (sym is) c.args.matching.now.clock.rising in
    elim c.match-request_of.branch [
      | in-Some w ↦
          subst (λ (u : Placing _). IsPlacedUpto c.args.begin o m c.args.lives.now ds u (n + 1)) (sym w.taken-is)
          (placed_more c.args.begin o t m c.args.lives.now ds c.loop-number.taken w.put.new.self n _ w.in-Some.request c.requires.coherent c.requires.each_life c.requires.roots is up here (get_or_default ds n _ _ here)
          (sent_there ds m.dispatches n _ is here) (sym w.in-Some.ensures.taken) w.in-Some.ensures.last w.in-Some.ensures.of w.in-Some.ensures.due w.put.ensures c.loop-number.invariant)
      | in_default w ↦
          subst (λ (u : Placing _). IsPlacedUpto c.args.begin o m c.args.lives.now ds u (n + 1)) (sym w.taken-is)
          (placed_same c.args.begin o t m c.args.lives.now ds c.loop-number.taken n _ c.requires.coherent (sent_there ds m.dispatches n _ is here) (sym w.in_default.ensures.taken) c.loop-number.invariant)
    ]

pub returns-clause-laid : goal.returns-clause-laid
returns-clause-laid g c =
    let m : Known = all_known c.args.matching.now in
    let all : length m.dispatches ≤ c.loop-number.number = (let same = ap length c.as_slice-dispatches.ensures.value in omega (arith, same)) in
    laid_out c.args.options.now c.args.matching.now.clock.now m c.args.lives.now c.loop-number.taken.places.items _ c.loop-number.number c.requires.coherent c.requires.each_life c.loop-number.invariant.listed.each c.requires.roots all c.loop-number.invariant.so

pub returns-clause-whole : goal.returns-clause-whole
returns-clause-whole g c =
    let m : Known = all_known c.args.matching.now in
    let all : length m.dispatches ≤ c.loop-number.number = (let same = ap length c.as_slice-dispatches.ensures.value in omega (arith, same)) in
    placed_whole c.args.begin c.args.options.now m c.args.lives.now c.as_slice-dispatches.result.now c.loop-number.taken c.loop-number.number all c.loop-number.invariant

pub returns-clause-count : goal.returns-clause-count
returns-clause-count g c =
    let m : Known = all_known c.args.matching.now in
    let all : length m.dispatches ≤ c.loop-number.number = (let same = ap length c.as_slice-dispatches.ensures.value in omega (arith, same)) in
    c.loop-number.invariant.count ∙ ap (λ (ds : List Dispatch). length (taken_from c.args.options.now m ds)) (take_all c.loop-number.number m.dispatches all)

pub returns-clause-before : goal.returns-clause-before
returns-clause-before g c =
    let m : Known = all_known c.args.matching.now in
    let all : length m.dispatches ≤ c.loop-number.number = (let same = ap length c.as_slice-dispatches.ensures.value in omega (arith, same)) in
    c.loop-number.invariant.before ∙ ap (λ (ds : List Dispatch). gone_before c.args.begin (taken_from c.args.options.now m ds)) (take_all c.loop-number.number m.dispatches all)
