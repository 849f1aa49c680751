use Rattle.std.proofs.Common.{◌≡◌, ◌↔◌, ◌∙◌, List, IsTrue, Bool, true, false, ap, sym, subst, refl}
use Rattle.std.specs.Prelude.{is_some, not}
use Rattle.std.specs.List.{list_any}
use Rattle.edd_commands.specs.Capacity.{fixed}
use Rattle.blk_trace.specs.Happened.{Happened}
use Rattle.blk_trace.specs.Kinds.{sets_depth}
use Rattle.blk_trace.specs.Depths.{IsFixed, capacity_of}
use Rattle.blk_trace.specs.Traces.{Traced}
use Rattle.blk_trace.proofs.Changes.{is_fixed, fixed_none, capacity_fixed}
use Rattle.blk_trace.proofs.trace.Trace.is_fixed.Goals as goal

none_set : (b : Bool) → not b ≡ true → b ≡ false
none_set true h = absurd (cc)
none_set false h = refl

none_back : (b : Bool) → b ≡ false → not b ≡ true
none_back true h = absurd (cc)
none_back false h = refl

pub returns-clause-exactly : goal.returns-clause-exactly
returns-clause-exactly g c =
    let es : List Happened = c.self.inside.events.items in
    let told : c.any_sets.result ≡ list_any (λ e. is_some (sets_depth e)) es = c.any_sets.ensures ∙ ap (list_any (λ e. is_some (sets_depth e))) c.as_slice.ensures.value in
    let P : Traced → Type 0 = λ v. IsTrue (not c.any_sets.result) ↔ IsFixed v.events in
    let inner : P record { setup = c.self.inside.setup; events = es; prepared = c.self.inside.prepared } = (
      λ t. is_fixed es (sym told ∙ none_set c.any_sets.result t),
      λ f. none_back c.any_sets.result (told ∙ fixed_none es f),
    ) in
    subst P c.self.view_is inner

pub returns-clause-one_depth : goal.returns-clause-one_depth
returns-clause-one_depth g c =
    let es : List Happened = c.self.inside.events.items in
    let told : c.any_sets.result ≡ list_any (λ e. is_some (sets_depth e)) es = c.any_sets.ensures ∙ ap (list_any (λ e. is_some (sets_depth e))) c.as_slice.ensures.value in
    let P : Traced → Type 0 = λ v. IsTrue (not c.any_sets.result) → capacity_of v.setup v.events ≡ fixed v.setup.depth in
    let inner : P record { setup = c.self.inside.setup; events = es; prepared = c.self.inside.prepared } = λ t. capacity_fixed c.self.inside.setup es (is_fixed es (sym told ∙ none_set c.any_sets.result t)) in
    subst P c.self.view_is inner
