use Rattle.std.proofs.Common.{◌+◌, ◌∙◌, ◌++◌, ◌∷◌, [], ℕ, List, length, map, sym, ap, subst}
use Rattle.std.proofs.lemmas.List.{length_push, map_push}
use Rattle.blk_capture.specs.Inside.Coherent.{IsCoherent}
use Rattle.blk_capture.specs.Inside.Matchings.{all_known}
use Rattle.blk_capture.specs.Inside.Roles.{opens_role, makes_role, passed_role}
use Rattle.blk_capture.specs.Passing.{passed_over}
use Rattle.blk_capture.specs.Rules.{Known, IsTold, AreTold}
use Rattle.blk_capture.specs.Running.{fate_so_far, run_options}
use Rattle.blk_capture.specs.declared.fates.Fate.{Fate}
use Rattle.blk_capture.specs.declared.matching.Role.{Role}
use Rattle.blk_capture.specs.declared.record.Record.{Record}
use Rattle.blk_capture.specs.declared.requests.Options.{Options}
use Rattle.blk_capture.proofs.Cohering.{coherent_told}
use Rattle.blk_capture.proofs.Folding.{rule_of}
use Rattle.blk_capture.proofs.Growing.{told_grows}
use Rattle.blk_capture.proofs.Adding.{at_most_one, told_on, told_next_of, mapped_both, merge_kept}
use Rattle.blk_capture.proofs.running.Running.take.Goals as goal

pub returns-clause-ready : goal.returns-clause-ready
returns-clause-ready g c =
    let o : Options = run_options c.args.self.now in
    let n : ℕ = c.args.self.now.count in
    let r : Record = c.args.next.now in
    let before : Known = all_known c.args.self.now.matching in
    let after : Known = all_known c.take.new.self in
    let role : Role = c.in_ok-role.role in
    let rule : IsTold o n r before (after, role) = rule_of o c.set_time.new.self.options n r before (all_known c.set_time.new.self) (after, role) c.set_time.ensures.options c.set_time.ensures.known c.in_ok-role.ensures.told in
    record {
      sound = c.in_ok-role.ensures.sound;
      coherent =
          subst (λ p. IsCoherent p c.take.new.self.clock.now after) (sym (c.in_ok-role.ensures.rest.options ∙ c.set_time.ensures.options))
          (subst (λ t. IsCoherent o t after) (sym (c.in_ok-role.ensures.rest.now ∙ c.set_time.ensures.now))
          (coherent_told o n c.args.self.now.matching.clock.now r before (after, role) c.requires.time c.requires.ready.coherent rule));
      few = let few = c.requires.ready.few in at_most_one _ (length before.requests) n (length after.requests) few (told_grows (passed_over r) o n r before (after, role) rule).0;
    }

pub returns-clause-taken : goal.returns-clause-taken
returns-clause-taken g c = λ records fates taken.
    let o : Options = run_options c.args.self.now in
    let n : ℕ = c.args.self.now.count in
    let r : Record = c.args.next.now in
    let before : Known = all_known c.args.self.now.matching in
    let after : Known = all_known c.take.new.self in
    let role : Role = c.in_ok-role.role in
    let run = taken.run in
    let roles : List Role = taken.roles in
    let rule : IsTold o n r before (after, role) = rule_of o c.set_time.new.self.options n r before (all_known c.set_time.new.self) (after, role) c.set_time.ensures.options c.set_time.ensures.known c.in_ok-role.ensures.told in
    let grows = told_grows (passed_over r) o n r before (after, role) rule in
    record {
      roles = roles ++ role ∷ [];
      run = record {
        each = length_push roles role ∙ ap (λ k. k + 1) run.each ∙ sym (length_push records r);
        counted = ap (λ k. k + 1) run.counted ∙ sym (length_push records r);
        by_rules =
            subst (λ p. AreTold p (records ++ r ∷ []) (roles ++ role ∷ []) (length (records ++ r ∷ [])) after) (sym (c.in_ok-role.ensures.rest.options ∙ c.set_time.ensures.options))
            (told_on o records roles n r role before after run.counted run.each run.by_rules rule);
        opened = told_next_of opens_role records roles r role (length before.requests) (length after.requests) run.each run.opened grows.0;
        made = told_next_of makes_role records roles r role (length before.bios) (length after.bios) run.each run.made grows.1;
        passed = mapped_both passed_role passed_over roles records role r run.passed c.in_ok-role.ensures.passed;
        merges = merge_kept records roles c.args.self.now.merges.items _ r role run.each run.merges c.in_ok-keep_merge.ensures;
      };
      so_far_are = ap (λ (fs : List Fate). fs ++ c.fate_so_far.result ∷ []) taken.so_far_are ∙ ap (λ (f : Fate). map fate_so_far roles ++ f ∷ []) c.fate_so_far.ensures ∙ sym (map_push fate_so_far roles role);
    }
