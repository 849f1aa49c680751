use Rattle.std.proofs.Common.{◌≡◌, ◌<◌, ◌∙◌, sym, ap, subst, List, length}
use Rattle.std.specs.Prelude.{All}
use Rattle.std.proofs.lemmas.Result.{IfOk-weaker}
use Rattle.edd_commands.specs.Capacity.{fixed}
use Rattle.edd_commands.specs.Schedule.{IsLegal}
use Rattle.blk_replay.specs.declared.Arrived.{Arrived}
use Rattle.blk_replay.specs.declared.requests.Entrant.{Entrant}
use Rattle.blk_replay.specs.Replay.{CanReplay, commands_by_arrival}
use Rattle.blk_replay.specs.Requests.{AreByRelease, ArePut, AreRounds, AreLateByTheClock}
use Rattle.blk_replay.proofs.Entrants.{can_replay, within, long, apart, legal, in_range, late}
use Rattle.blk_replay.proofs.requests.replay_requests.Goals as goal

pub arrivals-requires-clause-within : goal.arrivals-requires-clause-within
arrivals-requires-clause-within g c =
    let sorted = subst (AreByRelease c.in_ok-placed.placed.items) (sym c.as_slice-entrants.ensures.value) c.in_ok-put_by_release.ensures in
    within c.args.requests.now c.in_ok-placed.placed.items c.as_slice-entrants.result.now c.in_ok-placed.ensures sorted

pub replay-requires-clause-can : goal.replay-requires-clause-can
replay-requires-clause-can g c =
    let sorted = subst (AreByRelease c.in_ok-placed.placed.items) (sym c.as_slice-entrants.ensures.value) c.in_ok-put_by_release.ensures in
    subst CanReplay (sym c.as_slice.ensures.value)
    (can_replay c.args.requests.now c.args.commands.now c.requires.counted.0 c.args.by c.in_ok-placed.placed.items c.as_slice-entrants.result.now c.in_ok-arrived.arrived.items c.requires.timed c.requires.few c.requires.counted.1 c.in_ok-placed.ensures sorted
    c.in_ok-arrived.ensures)

pub put_in_places-requires-clause-each : goal.put_in_places-requires-clause-each
put_in_places-requires-clause-each g c =
    ap length c.as_slice-2.ensures.value ∙ c.in_ok-own.ensures.replay.one_each ∙ ap length c.as_slice.ensures.value ∙ c.in_ok-arrived.ensures.each

pub put_in_places-requires-clause-within : goal.put_in_places-requires-clause-within
put_in_places-requires-clause-within g c =
    let sorted = subst (AreByRelease c.in_ok-placed.placed.items) (sym c.as_slice-entrants.ensures.value) c.in_ok-put_by_release.ensures in
    subst (λ n. All (λ (e : Entrant). e.place < n) c.as_slice-entrants.result.now) (sym (long c.args.requests.now c.in_ok-placed.placed.items c.as_slice-entrants.result.now c.in_ok-placed.ensures sorted))
    (within c.args.requests.now c.in_ok-placed.placed.items c.as_slice-entrants.result.now c.in_ok-placed.ensures sorted)

pub put_in_places-requires-clause-apart : goal.put_in_places-requires-clause-apart
put_in_places-requires-clause-apart g c =
    let sorted = subst (AreByRelease c.in_ok-placed.placed.items) (sym c.as_slice-entrants.ensures.value) c.in_ok-put_by_release.ensures in
    apart c.args.requests.now c.in_ok-placed.placed.items c.as_slice-entrants.result.now c.in_ok-placed.ensures sorted

pub returns-clause-legal : goal.returns-clause-legal
returns-clause-legal g c =
    let entrants = c.as_slice-entrants.result.now in
    let arrived = c.in_ok-arrived.arrived.items in
    let own = c.in_ok-own.own.items in
    let sorted = subst (AreByRelease c.in_ok-placed.placed.items) (sym c.as_slice-entrants.ensures.value) c.in_ok-put_by_release.ensures in
    let own_legal : IsLegal (commands_by_arrival arrived) own (fixed 1) = subst (λ (rs : List Arrived). IsLegal (commands_by_arrival rs) own (fixed 1)) c.as_slice.ensures.value c.in_ok-own.ensures.legal in
    let same : length own ≡ length arrived = c.in_ok-own.ensures.replay.one_each ∙ ap length c.as_slice.ensures.value in
    IfOk-weaker c.put_in_places.result (λ v. ArePut entrants c.as_slice-2.result.now v.items) (λ v. IsLegal c.args.commands.now v.items (fixed 1))
    (λ v put. legal c.args.requests.now c.args.commands.now c.requires.counted.0 c.args.by c.in_ok-placed.placed.items entrants arrived c.requires.timed c.requires.few c.requires.counted.1 c.in_ok-placed.ensures sorted c.in_ok-arrived.ensures
    own v.items own_legal c.in_ok-own.ensures.replay.own_rounds same (subst (λ xs. ArePut entrants xs v.items) c.as_slice-2.ensures.value put))
    c.put_in_places.ensures

-- the rounds by place
pub returns-clause-in_range : goal.returns-clause-in_range
returns-clause-in_range g c =
    let entrants = c.as_slice-entrants.result.now in
    let arrived = c.in_ok-arrived.arrived.items in
    let own = c.in_ok-own.own.items in
    let sorted = subst (AreByRelease c.in_ok-placed.placed.items) (sym c.as_slice-entrants.ensures.value) c.in_ok-put_by_release.ensures in
    let same : length own ≡ length arrived = c.in_ok-own.ensures.replay.one_each ∙ ap length c.as_slice.ensures.value in
    IfOk-weaker c.put_in_places.result (λ v. ArePut entrants c.as_slice-2.result.now v.items) (λ v. AreRounds (length c.args.requests.now) v.items)
    (λ v put. in_range c.args.requests.now c.args.commands.now c.requires.counted.0 c.args.by c.in_ok-placed.placed.items entrants arrived c.requires.timed c.requires.few c.requires.counted.1 c.in_ok-placed.ensures sorted c.in_ok-arrived.ensures
    own v.items c.in_ok-own.ensures.replay.own_rounds same (subst (λ xs. ArePut entrants xs v.items) c.as_slice-2.ensures.value put))
    c.put_in_places.ensures

pub returns-clause-late : goal.returns-clause-late
returns-clause-late g c =
    let entrants = c.as_slice-entrants.result.now in
    let arrived = c.in_ok-arrived.arrived.items in
    let own = c.in_ok-own.own.items in
    let sorted = subst (AreByRelease c.in_ok-placed.placed.items) (sym c.as_slice-entrants.ensures.value) c.in_ok-put_by_release.ensures in
    let same : length own ≡ length arrived = c.in_ok-own.ensures.replay.one_each ∙ ap length c.as_slice.ensures.value in
    IfOk-weaker c.put_in_places.result (λ v. ArePut entrants c.as_slice-2.result.now v.items) (λ v. AreLateByTheClock c.args.requests.now c.args.commands.now v.items)
    (λ v put.
    let all : ArePut entrants own v.items = subst (λ xs. ArePut entrants xs v.items) c.as_slice-2.ensures.value put in
    late c.args.requests.now c.args.commands.now c.requires.counted.0 c.args.by c.in_ok-placed.placed.items entrants arrived c.requires.timed c.requires.few c.requires.counted.1 c.in_ok-placed.ensures sorted c.in_ok-arrived.ensures
    v.items (all.each ∙ long c.args.requests.now c.in_ok-placed.placed.items entrants c.in_ok-placed.ensures sorted)
    (in_range c.args.requests.now c.args.commands.now c.requires.counted.0 c.args.by c.in_ok-placed.placed.items entrants arrived c.requires.timed c.requires.few c.requires.counted.1 c.in_ok-placed.ensures sorted c.in_ok-arrived.ensures
    own v.items c.in_ok-own.ensures.replay.own_rounds same all))
    c.put_in_places.ensures
