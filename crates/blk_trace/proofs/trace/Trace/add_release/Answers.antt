use Rattle.std.proofs.Common.{◌≡◌, ◌+◌, ◌++◌, ◌∙◌, ℕ, List, [], ◌∷◌, length, length-append, ap, sym, arith, subst, refl}
use Rattle.std.specs.Prelude.{◌||◌}
use Rattle.blk_bio.specs.Bios.{Bio}
use Rattle.blk_ids.specs.ById as by_id
use Rattle.blk_ids.specs.IdSet as id_set
use Rattle.blk_bio.specs.Requests.{dir_of}
use Rattle.blk_bio.specs.declared.rule.TraceRule.TheVariants as rule
use Rattle.blk_trace.proofs.Knowing.{known_not}
use Rattle.blk_trace.specs.Happened.{Happened, Release}
use Rattle.blk_trace.specs.Setups.{expire_of}
use Rattle.blk_trace.specs.Legal.{IsLegalTrace}
use Rattle.blk_trace.specs.Rules.{BreaksNoRule}
use Rattle.blk_trace.proofs.Pushing.{push_legal}
use Rattle.blk_trace.specs.Traces.{Traced, IsPreparedFor}
use Rattle.blk_trace.specs.Waits.{summary}
use Rattle.blk_trace.specs.Inside.Kept.{has_named, has_bio_id}
use Rattle.blk_trace.proofs.More.{rounds_within}
use Rattle.blk_trace.proofs.Capacities.{depths_kept}
use Rattle.blk_trace.proofs.TagUses.{unused_kept}
use Rattle.blk_trace.proofs.Keeping.{kept_release, room_after_entry, entry_room}
use Rattle.blk_trace.proofs.trace.Trace.add_release.Goals as goal

pub entered-entry-requires : goal.entered-entry-requires
entered-entry-requires g c =
    omega (arith, c.self.invariant.0.round_is, rounds_within c.self.inside.events.items, c.self.invariant.0.legal.not_too_long, c.expire-expire.ensures.small)

pub insert-requires-clause-new : goal.insert-requires-clause-new
insert-requires-clause-new g c =
    let s = c.self.inside in
    let all : BreaksNoRule s.setup s.events.items (Release c.args.id c.args.request) = subst (λ (v : Traced). BreaksNoRule v.setup v.events (Release c.args.id c.args.request)) (sym c.self.view_is) c.requires.unbroken in
    c.self.invariant.0.known_are c.args.id ∙ known_not s.setup s.events.items c.args.id (all rule.ReleasedTwice)

pub insert-requires-clause-room : goal.insert-requires-clause-room
insert-requires-clause-room g c =
    let s = c.self.inside in
    let ready : IsPreparedFor s.prepared (Release c.args.id c.args.request) = subst (λ (v : Traced). IsPreparedFor v.prepared (Release c.args.id c.args.request)) (sym c.self.view_is) c.requires.prepared in
    omega (arith, (entry_room s.prepared c.args.id c.args.request ready).1, c.self.invariant.1.for_request)

pub invariant_of-self : goal.invariant_of-self
invariant_of-self g c =
    let s = c.self.inside in
    let es : List Happened = c.self.inside.events.items in
    let k = c.self.invariant.0 in
    let room = c.self.invariant.1 in
    let all : BreaksNoRule s.setup es (Release c.args.id c.args.request) = subst (λ (v : Traced). BreaksNoRule v.setup v.events (Release c.args.id c.args.request)) (sym c.self.view_is) c.requires.unbroken in
    let ready : IsPreparedFor s.prepared (Release c.args.id c.args.request) = subst (λ (v : Traced). IsPreparedFor v.prepared (Release c.args.id c.args.request)) (sym c.self.view_is) c.requires.prepared in
    let hz : c.append.new.list.items ≡ es ++ (Release c.args.id c.args.request) ∷ [] = c.append.ensures.items in
    let n : length c.append.new.list.items ≡ length s.events.items + 1 = ap length c.append.ensures.items ∙ length-append s.events.items (Release c.args.id c.args.request ∷ []) in
    let hs : c.entered-entry.result ≡ summary record { release = s.round; due = s.round + expire_of s.setup (dir_of c.args.request); bios = c.args.request } = c.entered-entry.ensures ∙ ap (λ (e : ℕ). summary record { release = s.round; due = s.round + e; bios = c.args.request }) (c.expire-expire.ensures.value ∙ ap (expire_of s.setup) c.dir.ensures) in
    (kept_release _ es _ c.args.id c.args.request c.entered-entry.result _ _ _ (by_id.kept_at s.known) _ (has_named (id_set.set_has s.ids)) _ _ k all hz c.bios.ensures.is_request hs c.insert.ensures (λ b. c.insert_ids.ensures.ids b ∙ ap (λ (l : List Bio). has_named (id_set.set_has s.ids) b || has_bio_id l b) c.bios.ensures.bios), room_after_entry s.prepared _ _ _ _ _ _ _ _ _ _ _ (entry_room s.prepared c.args.id c.args.request ready).0 room n c.append.ensures.room, depths_kept s.setup es _ (Release c.args.id c.args.request) s.depth s.next_depth c.self.invariant.2 refl refl hz, unused_kept es _ (Release c.args.id c.args.request) s.setup.depth s.unused_from refl refl hz c.self.invariant.3)

pub returns-clause-legal : goal.returns-clause-legal
returns-clause-legal g c = push_legal _ _ _ (subst (λ (v : Traced). IsLegalTrace v.setup v.events) c.self.view_is c.self.invariant.0.legal) c.requires.unbroken c.bios.ensures.is_request
