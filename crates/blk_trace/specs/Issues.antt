-- What became of each Issue.
use Rattle.std.specs.Prelude.{ℕ, ◌+◌, Bool, true, false, not, cond, List, [], ◌∷◌, filter, is_some, option_map}
use Rattle.std.specs.List.{cons_option}
use Rattle.blk_trace.specs.declared.issued.Outcome.{Outcome}
use Rattle.blk_trace.specs.declared.issued.Outcome.TheVariants as outcome
use Rattle.blk_trace.specs.declared.issued.Issued.{Issued}
use Rattle.blk_trace.specs.Happened.{Happened}
use Rattle.blk_trace.specs.Kinds.{issues, is_tick, is_done_of, requeues}

-- what an event makes of an Issue that it ends
abbrev pub end_of : Happened → Outcome
end_of e = cond (is_some (requeues e)) outcome.Back outcome.Done

-- what the first of these events that ends the tag's Issue makes of it
unfoldable pub outcome_of : ℕ → List Happened → Outcome
outcome_of tag [] = outcome.Flying
outcome_of tag (e ∷ es) = cond (is_done_of tag e) (end_of e) (outcome_of tag es)

-- the Issue of an id under a tag in a round, which these events follow
abbrev pub issue_in : ℕ → List Happened → ℕ × ℕ → Issued
issue_in round later p = record { round = round; id = p.0; tag = p.1; outcome = outcome_of p.1 later }

-- the Issues of these events, the first of which stands in the round
unfoldable pub issues_from : ℕ → List Happened → List Issued
issues_from round [] = []
issues_from round (e ∷ es) = cons_option (option_map (issue_in round es) (issues e)) (issues_from (cond (is_tick e) (round + 1) round) es)

abbrev pub issues_of : List Happened → List Issued
issues_of events = issues_from 0 events

-- whether its command is in flight; whether it was requeued
abbrev pub flies : Outcome → Bool
flies outcome.Flying = true
flies outcome.Done = false
flies outcome.Back = false

abbrev pub was_requeued : Outcome → Bool
was_requeued outcome.Flying = false
was_requeued outcome.Done = false
was_requeued outcome.Back = true

-- the Issues whose commands are in flight; those that were not requeued
abbrev pub flying : List Issued → List Issued
flying xs = filter (λ i. flies i.outcome) xs

abbrev pub kept_of : List Issued → List Issued
kept_of xs = filter (λ i. not (was_requeued i.outcome)) xs
