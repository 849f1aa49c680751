-- A worker that tries tags for a command: how many steps its seat made, and what a try under a used-up tag leaves.
use Rattle.std.proofs.Common.{◌≡◌, ◌∙◌, ◌+◌, ◌≤◌, ◌%◌, ℕ, zero, suc, List, [], ◌∷◌, Some, None, length, ap, refl, subst, inr, arith, length-append}
use Rattle.blk_tags.specs.Tags.{tried_from, TriesUpTo}
use Rattle.blk_sched.specs.Policies.{Policy}
use Rattle.blk_core.specs.State.{CoreState}
use Rattle.blk_core.specs.Tries.{IsNoneIssued}
use Rattle.blk_core.specs.declared.trying.NoneIssued.{NoneIssued}
use Rattle.blk_core.specs.declared.trying.NoneIssued.TheVariants as none
use Rattle.blk_layer.specs.declared.seats.NoNext.TheVariants.{Tried}
use Rattle.blk_layer.specs.Inside.Next.{WantsTag, IsNoNext}

tried_count : (depth first n : ℕ) → length (tried_from depth first n) ≡ n
tried_count depth first zero = omega arith
tried_count depth first (suc n) = omega (arith, tried_count depth first n, length-append (tried_from depth first n) ((first + n) % depth ∷ []))

-- each tag was tried, and none taken
pub each_tried : (depth first : ℕ) (before after : List ℕ) → TriesUpTo depth first None before after → length after ≡ length before + depth
each_tried depth first before after is = ap length is ∙ omega (arith, length-append before (tried_from depth first depth), tried_count depth first depth)

-- at least one was, where one was taken
pub one_tried : (depth first t : ℕ) (before after : List ℕ) → TriesUpTo depth first (Some t) before after → length before + 1 ≤ length after
one_tried depth first t before after (n, less, tag, is) = omega (arith, ap length is, length-append before (tried_from depth first (n + 1)), tried_count depth first (n + 1))

-- a try whose tag is used up in a round that carries more leaves the core as it was, and is one in vain
pub used_up : (policy : Policy) (start old : CoreState) (hw tag : ℕ) (why : NoneIssued) (new : CoreState) → old ≡ start
    → IsNoneIssued policy.serves policy.chooses policy.told_tick old hw tag why new → WantsTag (Tried why) → (new ≡ start) × IsNoNext policy start hw (Tried why) start
used_up policy start old hw tag (none.Issue why) new same f is =
    (f.2 ∙ same, inr (tag, subst (λ (c : CoreState). IsNoneIssued policy.serves policy.chooses policy.told_tick c hw tag (none.Issue why) c) same (f.0, f.1, refl)))
used_up policy start old hw tag _ new same f is = absurd is
