use Rattle.std.proofs.Common.{◌<◌, ◌∙◌, sym, ap, arith, None, length, get_or, [], ◌∷◌, ◌+◌, inl, inr}
use Rattle.std.proofs.lemmas.Bool.{cases_eq}
use Rattle.std.proofs.lemmas.List.{length_push, get_or_push, get_or_append_left, get_or_default}
use Rattle.edd_commands.specs.declared.Command.{Command}
use Rattle.blk_bio.specs.Bios.{Bio}
use Rattle.blk_bio.specs.declared.bio.Dir.TheVariants.{Read}
use Rattle.blk_capture.specs.declared.requests.CapturedRequest.{CapturedRequest}
use Rattle.blk_replay.specs.declared.Arrived.{Arrived}
use Rattle.blk_replay.specs.declared.requests.Entrant.{Entrant}
use Rattle.blk_replay.specs.Requests.{arrived_of}
use Rattle.blk_replay.proofs.requests.arrivals.Goals as goal

pub loop-entrant-preserved : goal.loop-entrant-preserved
loop-entrant-preserved g c =
    let requests = c.args.requests.now in
    let commands = c.args.commands.now in
    let es = c.args.entrants.now in
    let k = c.loop-entrant.entrant-index in
    let old = c.loop-entrant.arrived.items in
    let z : Entrant = record { place = 0; released = 0 } in
    let no_command : Command = record { id = 0; release = 0; due = 0 } in
    let no_request : CapturedRequest = record {
      dir = Read;
      first = 0;
      sectors = 0;
      bios = 0;
      bio = 0;
      pid = 0;
      cpu = 0;
      queued = 0;
      got = 0;
      inserted = None;
      merged = None;
      entry = 0;
      released = 0;
      earlier = None;
      deadline = 0;
      dispatched = 0;
      completed = None;
    } in
    let p = (get_or es k z).place in
    let release = (get_or commands p no_command).release in
    let new : Arrived = record { release = release; due = c.due_round.result; bio = c.as_one_bio.result } in
    let inside : p < length requests = c.requires.within k z c.loop-entrant-test.true in
    record {
      each = ap length c.in_ok-push.ensures.items ∙ length_push old new ∙ ap (λ n. n + 1) c.loop-entrant.invariant.each;
      are = λ j a e q d lt. elim (cases_eq j k) [
        | inl same ↦
            ap (λ l. get_or l j a) c.in_ok-push.ensures.items
            ∙ get_or_push old new a j (c.loop-entrant.invariant.each ∙ sym same)
            ∙ ap (λ n. let r : Arrived = record { release = release; due = n; bio = c.as_one_bio.result } in r) c.due_round.ensures
            ∙ ap (λ (b : Bio). let r : Arrived = record { release = release; due = (arrived_of requests c.args.by p (get_or requests p no_request) (get_or commands p no_command)).due; bio = b } in r) c.as_one_bio.ensures
            ∙ ap (λ (it : CapturedRequest). arrived_of requests c.args.by p it (get_or commands p no_command)) (get_or_default requests p no_request q inside)
            ∙ ap (λ (it : Command). arrived_of requests c.args.by p (get_or requests p q) it) (get_or_default commands p no_command d (omega (arith, inside, c.requires.each)))
            ∙ ap (λ (x : Entrant). arrived_of requests c.args.by x.place (get_or requests x.place q) (get_or commands x.place d)) (get_or_default es k z e c.loop-entrant-test.true ∙ ap (λ i. get_or es i e) (sym same))
        | inr other ↦
            let below : j < k = omega arith in
            ap (λ l. get_or l j a) c.in_ok-push.ensures.items
            ∙ get_or_append_left old (new ∷ []) a j (omega (arith, below, c.loop-entrant.invariant.each))
            ∙ c.loop-entrant.invariant.are j a e q d below
      ];
    }
