use Rattle.std.proofs.Common.{◌≡◌, ◌<◌, ℕ, List, length, get_or, sym, ◌∙◌, subst}
use Rattle.std.specs.List.{All}
use Rattle.std.proofs.lemmas.List.{get_or_default}
use Rattle.edd_commands.specs.declared.TheConstants.{MAX_ROUNDS}
use Rattle.edd_oracle.specs.Plan.{due_at}
use Rattle.edd_oracle.specs.OnTime.{IsPassedCover}
use Rattle.edd_oracle.specs.Inside.Cover.{served_at, IsPassedDue}
use Rattle.edd_oracle.proofs.Joined.{passed_cover, cover_in, dues_small}
use Rattle.edd_oracle.proofs.cover.cover.Given.{Over}
use Rattle.edd_oracle.proofs.cover.cover.Goals as goal

pub past-requires-clause-in_range : goal.past-requires-clause-in_range
past-requires-clause-in_range g c =
    subst (λ xs. All (λ x. x < MAX_ROUNDS) xs) (sym c.as_slice-dues.ensures.value)
    (dues_small c.args.commands.now c.args.rounds.now c.in_ok-passed.passed.items c.requires.commands_in c.in_ok-passed.ensures.some)

pub windows-requires-clause-in_range : goal.windows-requires-clause-in_range
windows-requires-clause-in_range g c =
    subst (λ xs. All (λ x. x < MAX_ROUNDS) xs) (sym c.as_slice-dues.ensures.value)
    (dues_small c.args.commands.now c.args.rounds.now c.in_ok-passed.passed.items c.requires.commands_in c.in_ok-passed.ensures.some)

found : (g : Over) (c : goal.After-drop-passed-2 g) → IsPassedCover c.args.commands.now c.args.rounds.now c.args.capacity.now c.reverse.new.self.items
found g c =
    let dues : List ℕ = c.as_slice-dues.result.now in
    passed_cover c.args.commands.now c.args.rounds.now c.args.capacity.now dues c.as_slice.result.now c.past.result c.in_ok-cover.cover.items c.reverse.new.self.items record {
      one_each = c.requires.legal.one_each;
      first = c.requires.first;
      each = λ k d out.
          let there = c.in_ok-passed.ensures.each k d out in
          subst (λ xs. (j : ℕ) × (j < length xs) × (get_or xs j 0 ≡ (get_or c.args.commands.now k d).due)) (sym c.as_slice-dues.ensures.value)
          (there.0, there.1, get_or_default c.in_ok-passed.passed.items there.0 0 (get_or c.args.commands.now k d).due there.1 ∙ there.2);
      some = subst (λ xs. All (IsPassedDue c.args.commands.now c.args.rounds.now) xs) (sym c.as_slice-dues.ensures.value) c.in_ok-passed.ensures.some;
      within = λ j h. c.past.ensures j 0 h;
      same = subst (λ xs. (y due : ℕ) → y < c.past.result → served_at xs y due ≡ due_at c.args.commands.now c.args.rounds.now y due) (sym c.as_slice.ensures.value) c.in_ok-served.ensures.same;
    } c.in_ok-cover.ensures c.reverse.ensures.items

pub returns-clause-passed : goal.returns-clause-passed
returns-clause-passed g c = found g c

pub returns-clause-in_range : goal.returns-clause-in_range
returns-clause-in_range g c =
    cover_in c.args.commands.now c.args.rounds.now c.args.capacity.now c.reverse.new.self.items c.requires.legal.one_each c.requires.first c.requires.commands_in (found g c)
