use Rattle.std.proofs.Common.{◌≡◌, ◌∙◌, ◌<◌, subst, sym, ap}
use Rattle.std.specs.Prelude.{slice_get, slice_set, Some, None}
use Rattle.std.proofs.lemmas.Option.{get_or_from_slice_get}
use Rattle.blk_bio.specs.Extents.{TouchesAt}
use Rattle.blk_sched.specs.Meaning.{Waiting, JoinsAt, joined_waiting}
use Rattle.blk_lifo.proofs.Lists.{distinct_changed}
use Rattle.blk_lifo.proofs.Stack.{stands, stands_there, joins, view}
use Rattle.blk_lifo.proofs.lifo.LifoScheduler.join.Given.{Over}
use Rattle.blk_lifo.proofs.lifo.LifoScheduler.join.Goals as goal

pub unreachable-requires : goal.unreachable-requires
unreachable-requires g c =
    let there = stands c.self.inside.requests.items c.as_slice.result.now c.self.inside.open_picks c.args.self.now c.args.newcomer.now c.args.hw c.args.id c.args.side c.place_of.result c.self.view_is c.as_slice.ensures.value c.place_of.ensures c.requires.stands in
    let both : None ≡ Some there.0 = sym c.in_default.is ∙ there.1 in
    absurd (cc)

pub index_mut-queued-requires : goal.index_mut-queued-requires
index_mut-queued-requires g c = subst (λ n. c.in-Some.place < n) c.as_slice.ensures.len
    (stands_there c.self.inside.requests.items c.as_slice.result.now c.self.inside.open_picks c.args.self.now c.args.newcomer.now c.args.hw c.args.id c.in-Some.place c.args.side c.place_of.result c.self.view_is c.as_slice.ensures.value c.place_of.ensures c.in-Some.is c.requires.stands).0

pub joined-requires : goal.joined-requires
joined-requires g c =
    let w : Waiting = c.requires.stands.0 in
    let at = (stands_there c.self.inside.requests.items c.as_slice.result.now c.self.inside.open_picks c.args.self.now c.args.newcomer.now c.args.hw c.args.id c.in-Some.place c.args.side c.place_of.result c.self.view_is c.as_slice.ensures.value c.place_of.ensures c.in-Some.is c.requires.stands).1 in
    let read : c.index_mut-queued.result.now ≡ w = c.index_mut-queued.ensures.value ∙ get_or_from_slice_get c.self.inside.requests.items c.in-Some.place w c.index_mut-queued.result.now at in
    subst (λ (q : Waiting). TouchesAt q.extent c.args.newcomer.now c.args.side) (sym read) c.requires.stands.3

-- what is joined stands at the place, and is written there joined
proven : (g : Over) (c : goal.After-self-1 g) → (slice_get c.self.inside.requests.items c.in-Some.place ≡ Some c.requires.stands.0) × (c.joined.result ≡ joined_waiting c.args.side c.args.now c.args.newcomer.now c.requires.stands.0)
proven g c =
    let w : Waiting = c.requires.stands.0 in
    let at = (stands_there c.self.inside.requests.items c.as_slice.result.now c.self.inside.open_picks c.args.self.now c.args.newcomer.now c.args.hw c.args.id c.in-Some.place c.args.side c.place_of.result c.self.view_is c.as_slice.ensures.value c.place_of.ensures c.in-Some.is c.requires.stands).1 in
    let read : c.index_mut-queued.result.now ≡ w = c.index_mut-queued.ensures.value ∙ get_or_from_slice_get c.self.inside.requests.items c.in-Some.place w c.index_mut-queued.result.now at in
    (at, c.joined.ensures ∙ ap (joined_waiting c.args.side c.args.now c.args.newcomer.now) read)

pub invariant_of-self : goal.invariant_of-self
invariant_of-self g c =
    let there = proven g c in
    distinct_changed c.self.inside.requests.items c.in-Some.place c.requires.stands.0 c.joined.result c.self.invariant there.0 (ap (λ (q : Waiting). q.id) there.1)

pub returns-clause-joined : goal.returns-clause-joined
returns-clause-joined g c =
    let there = proven g c in
    subst (λ (q : Waiting). JoinsAt c.args.now c.args.newcomer.now c.args.self.now c.args.id c.args.side (view (slice_set c.self.inside.requests.items c.in-Some.place q) c.self.inside.open_picks)) (sym there.1)
    (joins c.self.inside.requests.items c.self.inside.open_picks c.args.self.now c.args.newcomer.now c.args.now c.in-Some.place c.args.id c.args.side c.requires.stands.0 c.self.view_is c.self.invariant c.requires.stands.1 there.0)
