use Rattle.std.proofs.Common.{List, sym, subst}
use Rattle.std.specs.List.{All}
use Rattle.std.proofs.lemmas.List.Elements.{All-push}
use Rattle.blk_capture.specs.Fates.{is_matched, passed_by, IsTakenBelow}
use Rattle.blk_capture.specs.Inside.Roles.{is_known, passed_role}
use Rattle.blk_capture.specs.declared.fates.Fate.{Fate}
use Rattle.blk_capture.specs.Settled.{fate_by}
use Rattle.blk_capture.proofs.Telling.{mapped_more}
use Rattle.blk_capture.proofs.Placing.{mapped_next}
use Rattle.blk_capture.proofs.requests.fates_of.Goals as goal

pub loop-role-preserved : goal.loop-role-preserved
loop-role-preserved g c = record {
  matched = mapped_more is_matched is_known c.loop-role.fates.items c.push.new.self.items c.args.roles.now c.loop-role.role-index c.fate_of.result _ c.loop-role.invariant.matched c.loop-role-test.true c.fate_of.ensures.matched c.in_ok-push.ensures.items;
  passed = mapped_more passed_by passed_role c.loop-role.fates.items c.push.new.self.items c.args.roles.now c.loop-role.role-index c.fate_of.result _ c.loop-role.invariant.passed c.loop-role-test.true c.fate_of.ensures.passed c.in_ok-push.ensures.items;
  are =
      λ o m laid same.
      mapped_next (fate_by o m) c.loop-role.fates.items c.push.new.self.items c.args.roles.now c.loop-role.role-index c.fate_of.result _ (c.loop-role.invariant.are o m laid same) c.loop-role-test.true (c.fate_of.ensures.fate o m laid same) c.in_ok-push.ensures.items;
  below =
      λ n within gone.
      subst (λ (fs : List Fate). All (IsTakenBelow n) fs) (sym c.in_ok-push.ensures.items)
      (All-push (IsTakenBelow n) c.loop-role.fates.items c.fate_of.result (c.loop-role.invariant.below n within gone) (c.fate_of.ensures.below n within gone));
}
