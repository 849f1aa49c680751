use Rattle.std.proofs.Common.{◌≡◌, ◌+◌, ◌<◌, ◌≤◌, ◌∙◌, ℕ, List, length, get_or, map, count_by, sym, ap, subst, arith}
use Rattle.std.proofs.lemmas.Option.{slice_get-get_or}
use Rattle.std.proofs.lemmas.List.{length_push, take_all}
use Rattle.std.proofs.lemmas.Result.{IfOk-weaker}
use Rattle.blk_capture.specs.Fates.{opened_by, made_by, told, opens, makes, is_matched, passed_by, ArePassed}
use Rattle.blk_capture.specs.Inside.Roles.{is_known, opens_role, makes_role, passed_role}
use Rattle.blk_capture.specs.Passing.{passed_over}
use Rattle.blk_capture.proofs.Telling.{told_none, told_next, told_alike, mapped_more, fates_each, both_ok, four_ok}
use Rattle.blk_capture.specs.Inside.Coherent.{IsCoherent}
use Rattle.blk_capture.proofs.Cohering.{coherent_none, coherent_told}
use Rattle.blk_capture.specs.Settled.{uncounted, taken_from, captured_bio, fate_by, is_absorbed, IsMatching}
use Rattle.blk_capture.specs.Rules.{Known, IsTold, AreTold}
use Rattle.blk_capture.specs.Inside.Matchings.{all_known}
use Rattle.blk_capture.specs.declared.matching.Role.{Role}
use Rattle.blk_capture.specs.declared.record.Record.{Record}
use Rattle.blk_capture.specs.declared.requests.Options.{Options}
use Rattle.blk_capture.proofs.Growing.{told_grows}
use Rattle.blk_capture.proofs.Folding.{no_record, rule_of, told_more, later_record}
use Rattle.blk_capture.proofs.requests.match_in_order.Goals as goal

pub loop-place-init : goal.loop-place-init
loop-place-init g c =
    let known = c.in_ok-matching.ensures.known in
    record {
      each = ap length c.in_ok-roles.ensures.items;
      opened = ap (λ (k : Known). length k.requests) known ∙ sym (ap (told opens_role c.args.records.now) c.in_ok-roles.ensures.items ∙ told_none opens_role c.args.records.now);
      made = ap (λ (k : Known). length k.bios) known ∙ sym (ap (told makes_role c.args.records.now) c.in_ok-roles.ensures.items ∙ told_none makes_role c.args.records.now);
      passed = ap (map passed_role) c.in_ok-roles.ensures.items;
      told = known;
      sound = c.in_ok-matching.ensures.sound;
      coherent = subst (IsCoherent c.args.options.now c.in_ok-matching.matching.clock.now) (sym known) (coherent_none c.args.options.now c.in_ok-matching.matching.clock.now);
      options = c.in_ok-matching.ensures.options;
      now = λ d some. omega (arith, c.in_ok-matching.ensures.now);
    }

pub set_time-requires : goal.set_time-requires
set_time-requires g c = c.loop-place.invariant.now no_record c.loop-place-test.true

pub loop-place-preserved : goal.loop-place-preserved
loop-place-preserved g c =
    let records : List Record = c.args.records.now in
    let roles : List Role = c.loop-place.roles.items in
    let new : List Role = c.push.new.self.items in
    let role : Role = c.in_ok-role.role in
    let n : ℕ = c.loop-place.place in
    let here : n < length records = c.loop-place-test.true in
    let r : Record = get_or records n no_record in
    let o : Options = c.args.options.now in
    let before : Known = all_known c.loop-place.matching in
    let after : Known = all_known c.take.new.self in
    let same : c.set_time.new.self.options ≡ o = c.set_time.ensures.options ∙ c.loop-place.invariant.options in
    let rule : IsTold o n r before (after, role) = rule_of o c.set_time.new.self.options n r before (all_known c.set_time.new.self) (after, role) same c.set_time.ensures.known c.in_ok-role.ensures.told in
    let grows = told_grows (passed_over r) o n r before (after, role) rule in
    record {
      each = ap length c.in_ok-push.ensures.items ∙ length_push roles role ∙ ap (λ k. k + 1) c.loop-place.invariant.each;
      opened = told_next opens_role records roles new role n (length before.requests) (length after.requests) no_record c.loop-place.invariant.each here c.loop-place.invariant.opened grows.0 c.in_ok-push.ensures.items;
      made = told_next makes_role records roles new role n (length before.bios) (length after.bios) no_record c.loop-place.invariant.each here c.loop-place.invariant.made grows.1 c.in_ok-push.ensures.items;
      passed = mapped_more passed_role passed_over roles new records n role no_record c.loop-place.invariant.passed here c.in_ok-role.ensures.passed c.in_ok-push.ensures.items;
      told = told_more o records roles new role n r before after c.loop-place.invariant.told c.loop-place.invariant.each (slice_get-get_or records n no_record here) c.in_ok-push.ensures.items rule;
      sound = c.in_ok-role.ensures.sound;
      coherent =
          subst (λ t. IsCoherent o t after) (sym (c.in_ok-role.ensures.rest.now ∙ c.set_time.ensures.now))
          (coherent_told o n c.loop-place.matching.clock.now r before (after, role) (c.loop-place.invariant.now no_record here) c.loop-place.invariant.coherent rule);
      options = c.in_ok-role.ensures.rest.options ∙ same;
      now = λ d some. later_record records n no_record d c.take.new.self.clock.now here (c.in_ok-role.ensures.rest.now ∙ c.set_time.ensures.now) (c.requires n d some);
    }

pub returns-clause-fates : goal.returns-clause-fates
returns-clause-fates g c =
    let all : length c.loop-place.roles.items ≡ length c.args.records.now = c.loop-place.invariant.each ∙ omega arith in
    IfOk-weaker c.settle.result (λ m. map is_matched m.fates.items ≡ map is_known c.loop-place.roles.items) (λ m. length m.fates.items ≡ length c.args.records.now)
    (λ m same. fates_each m.fates.items c.loop-place.roles.items same ∙ all)
    c.settle.ensures.matched

pub returns-clause-passed : goal.returns-clause-passed
returns-clause-passed g c =
    let past : length c.args.records.now ≤ c.loop-place.place = omega arith in
    IfOk-weaker c.settle.result (λ m. map passed_by m.fates.items ≡ map passed_role c.loop-place.roles.items) (λ m. ArePassed c.args.records.now m.fates.items)
    (λ m same. same ∙ c.loop-place.invariant.passed ∙ ap (map passed_over) (take_all c.loop-place.place c.args.records.now past))
    c.settle.ensures.passed

pub returns-clause-opened : goal.returns-clause-opened
returns-clause-opened g c =
    both_ok c.settle.result (λ m. map is_matched m.fates.items ≡ map is_known c.loop-place.roles.items) (λ m. length m.requests.items + m.absorbed + m.left_out ≡ length c.loop-place.matching.requests.items)
    (λ m. length m.requests.items + m.absorbed + m.left_out ≡ told opens c.args.records.now m.fates.items)
    (λ m same opened.
    opened
    ∙ c.loop-place.invariant.opened
    ∙ sym (told_alike opened_by c.args.records.now m.fates.items c.loop-place.roles.items same))
    c.settle.ensures.matched c.settle.ensures.opened

pub returns-clause-made : goal.returns-clause-made
returns-clause-made g c =
    both_ok c.settle.result (λ m. map is_matched m.fates.items ≡ map is_known c.loop-place.roles.items) (λ m. length m.bios.items ≡ length c.loop-place.matching.members.bios.items)
    (λ m. length m.bios.items ≡ told makes c.args.records.now m.fates.items)
    (λ m same made.
    made
    ∙ c.loop-place.invariant.made
    ∙ sym (told_alike made_by c.args.records.now m.fates.items c.loop-place.roles.items same))
    c.settle.ensures.matched c.settle.ensures.made

pub returns-clause-matching : goal.returns-clause-matching
returns-clause-matching g c =
    let o : Options = c.args.options.now in
    let m : Known = all_known c.loop-place.matching in
    let roles : List Role = c.loop-place.roles.items in
    let all : c.loop-place.place ≡ length c.args.records.now = omega arith in
    let rules : AreTold o c.args.records.now roles (length c.args.records.now) m = subst (λ n. AreTold o c.args.records.now roles n m) all c.loop-place.invariant.told in
    four_ok c.settle.result (λ t. map uncounted t.requests.items ≡ taken_from o m m.dispatches) (λ t. t.bios.items ≡ map (captured_bio o m) m.bios) (λ t. t.fates.items ≡ map (fate_by o m) c.loop-place.roles.items) (λ t. t.absorbed ≡ count_by (λ q. is_absorbed q.stage) m.requests)
    (λ t. IsMatching o c.args.records.now t.requests.items t.bios.items t.fates.items t.absorbed)
    (λ t taken bios fates gone. record { known = m; roles = roles; by_rules = rules; requests_are = taken; bios_are = bios; fates_are = fates; absorbed_are = gone })
    c.settle.ensures.taken c.settle.ensures.bios_are c.settle.ensures.fates_are c.settle.ensures.absorbed
