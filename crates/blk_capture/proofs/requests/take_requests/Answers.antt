use Rattle.std.proofs.Common.{◌≡◌, ◌<◌, ◌≤◌, ◌+◌, ◌∙◌, ℕ, List, length, None, replicate, sym, ap, subst, arith, rules}
use Rattle.std.specs.List.Sorted.{IsNonDecreasingBy}
use Rattle.std.proofs.lemmas.List.{get_or_default, take_all}
use Rattle.blk_capture.specs.Requests.{IsDue}
use Rattle.blk_capture.specs.Rules.{Known}
use Rattle.blk_capture.specs.Settled.{taken_from}
use Rattle.blk_capture.specs.Inside.Matchings.{all_known}
use Rattle.blk_capture.specs.declared.clock.Dispatch.{Dispatch}
use Rattle.blk_capture.specs.declared.requests.MergeRoot.{MergeRoot}
use Rattle.blk_capture.specs.declared.requests.Options.{Options}
use Rattle.blk_capture.specs.declared.requests.Taken.{Taken}
use Rattle.blk_capture.proofs.Taking.{taken_none, taken_same, taken_put}
use Rattle.blk_capture.proofs.Placing.{IsTakenUpto, sent_there, taken_so_none, taken_so_same, taken_so_put, laid_out, is_own, is_free}
use Rattle.blk_capture.proofs.requests.take_requests.Goals as goal
use Rattle.blk_capture.proofs.requests.take_requests.Goals.{in-Some+in_ok-put, in_default}

pub loop-number-init : goal.loop-number-init
loop-number-init g c =
    let blank : c.in_ok-places.places.items ≡ replicate (length c.args.lives.now) None = search rules in
    record {
      listed = taken_none (IsDue c.args.options.now) c.args.lives.now c.args.matching.now.members.openers.items c.as_slice-dispatches.result.now c.in_ok-places.places.items c.new.result.items c.new.ensures.items blank;
      so = taken_so_none c.args.options.now (all_known c.args.matching.now) c.in_ok-places.places.items c.new.result.items (length c.args.lives.now) c.new.ensures.items blank;
    }

pub loop-number-preserved : goal.loop-number-preserved
loop-number-preserved g c =
    let ds : List Dispatch = c.as_slice-dispatches.result.now in
    let n : ℕ = c.loop-number.number in
    let lives : List MergeRoot = c.args.lives.now in
    let openers : List ℕ = c.args.matching.now.members.openers.items in
    let m : Known = all_known c.args.matching.now in
    let o : Options = c.args.options.now in
    let t : ℕ = c.args.matching.now.clock.now in
    let here : n < length ds = omega arith in
    let is : ds ≡ m.dispatches = c.as_slice-dispatches.ensures.value in
    let up : IsNonDecreasingBy (λ (y : Dispatch). y.time) ds = subst (IsNonDecreasingBy (λ (y : Dispatch). y.time)) (sym is) c.args.matching.now.clock.rising in
    let old = c.loop-number.invariant in
    elim c.match-request_of.branch [
      | in-Some+in_ok-put w ↦
          let last = w.in-Some.ensures.last in
          let own = is_own o t m lives n _ c.requires.coherent c.requires.each_life c.requires.roots last in
          let free = is_free o m c.loop-number.taken.places.items c.loop-number.taken.requests.items n _ last old.so in
          let within : _ < length c.loop-number.taken.places.items = (let in_list = own.in_list in let each = old.listed.each in omega (arith, in_list, each)) in
          subst (λ (u : Taken _). IsTakenUpto o m lives ds u (n + 1)) (sym w.taken-is) (record {
            listed = taken_put (IsDue o) lives openers ds c.loop-number.taken w.put.new.self n _ w.in-Some.request old.listed own w.in-Some.ensures.of w.in-Some.ensures.due w.in_ok-put.ensures within free up here (get_or_default ds n _ _ here);
            so = taken_so_put o t m c.loop-number.taken w.put.new.self n _ w.in-Some.request c.requires.coherent (sent_there ds m.dispatches n _ is here) (sym w.in-Some.ensures.taken) last w.in_ok-put.ensures within old.so;
          })
      | in_default w ↦
          subst (λ (u : Taken _). IsTakenUpto o m lives ds u (n + 1)) (sym w.taken-is) (record {
            listed = taken_same (IsDue o) lives openers ds c.loop-number.taken.places.items c.loop-number.taken.requests.items n old.listed;
            so = taken_so_same o t m c.loop-number.taken.places.items c.loop-number.taken.requests.items n _ c.requires.coherent (sent_there ds m.dispatches n _ is here) (sym w.in_default.ensures.taken) old.so;
          })
    ]

pub returns-clause-taken : goal.returns-clause-taken
returns-clause-taken g c =
    let m : Known = all_known c.args.matching.now in
    let all : length m.dispatches ≤ c.loop-number.number = (let same = ap length c.as_slice-dispatches.ensures.value in omega (arith, same)) in
    c.loop-number.invariant.so.taken ∙ ap (taken_from c.args.options.now m) (take_all c.loop-number.number m.dispatches all)

pub returns-clause-laid : goal.returns-clause-laid
returns-clause-laid g c =
    let m : Known = all_known c.args.matching.now in
    let all : length m.dispatches ≤ c.loop-number.number = (let same = ap length c.as_slice-dispatches.ensures.value in omega (arith, same)) in
    laid_out c.args.options.now c.args.matching.now.clock.now m c.args.lives.now c.loop-number.taken.places.items c.loop-number.taken.requests.items c.loop-number.number c.requires.coherent c.requires.each_life c.loop-number.invariant.listed.each c.requires.roots all c.loop-number.invariant.so
