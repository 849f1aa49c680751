use Rattle.std.proofs.Common.{◌≡◌, ◌∙◌, ℕ, List, [], None, ap, refl, sym, subst, arith, length}
use Rattle.std.specs.Prelude.{replicate}
use Rattle.blk_ids.specs.ById as by_id
use Rattle.blk_ids.specs.IdSet as id_set
use Rattle.blk_trace.specs.Inside.Kept.{IsUnusedFrom, has_named}
use Rattle.blk_bio.specs.declared.bio.BioId.{BioId}
use Rattle.blk_trace.specs.Happened.{Happened}
use Rattle.blk_trace.proofs.Capacities.{depths_empty, depths_same}
use Rattle.blk_trace.proofs.TagUses.{unused_empty}
use Rattle.blk_trace.proofs.Keeping.{kept_empty, kept_same, kept_tags, filled}
use Rattle.blk_trace.proofs.trace.Trace.empty.Goals as goal

pub invariant_of-result : goal.invariant_of-result
invariant_of-result g c =
    let hk = λ (q : ℕ). c.in_ok-known.ensures q in
    let hb = λ (b : BioId). c.in_ok-ids.ensures b.submitter b.serial in
    let ht : c.resize.new.self.items ≡ replicate c.depth-depth.result None = c.in_ok-resize.ensures.items ∙ filled c.depth-depth.result _ _ None c.new-tags.ensures.items c.new-tags.ensures.len in (
      kept_tags c.args.setup _ _ _ _ (by_id.kept_at c.in_ok-known.known) (has_named (id_set.set_has c.in_ok-ids.ids)) (replicate c.depth-depth.result None) _ (kept_same c.args.setup [] _ [] _ 0 0 _ (by_id.kept_at c.in_ok-known.known) _ (has_named (id_set.set_has c.in_ok-ids.ids)) (replicate c.depth-depth.result None) (kept_empty c.args.setup (by_id.kept_at c.in_ok-known.known) (has_named (id_set.set_has c.in_ok-ids.ids)) c.depth-depth.result hk hb c.depth-depth.ensures.value c.depth-depth.ensures.is_setup) (c.new-events.ensures.items) c.new-issued.ensures.items (λ q. refl) (λ b. refl)) ht,
      record {
        for_events = omega (arith, ap length c.new-events.ensures.items);
        for_issue = omega (arith, ap length c.new-issued.ensures.items);
        for_request = omega arith;
        for_bios = omega arith;
      },
      depths_same c.args.setup [] _ c.depth-depth.result c.depth-depth.result (depths_empty c.args.setup _ _ c.depth-depth.ensures.value c.depth-depth.ensures.value) (c.new-events.ensures.items),
      subst (λ (l : List Happened). IsUnusedFrom l c.args.setup.depth 0) (sym c.new-events.ensures.items) (unused_empty c.args.setup.depth),
    )
