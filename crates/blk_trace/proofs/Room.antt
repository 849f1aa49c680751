-- How many places an event takes.
use Rattle.std.proofs.Common.{◌≡◌, ◌≤◌, ◌+◌, ◌-◌, ◌++◌, ℕ, List, [], ◌∷◌, length, length-append, arith, ap, Some, None, is_some}
use Rattle.blk_trace.specs.declared.trace.TheConstants.{MAX_EVENTS}
use Rattle.blk_trace.specs.Happened.{Happened, Issue}
use Rattle.blk_trace.specs.Kinds.{issues, ends, is_issue, is_end}
use Rattle.blk_trace.specs.Setups.{Setup}
use Rattle.blk_trace.specs.Events.{open_count, IsOpen}
use Rattle.blk_trace.specs.Legal.{IsLegalTrace}
use Rattle.blk_bio.specs.declared.rule.TraceRule.TheVariants.{TooLong}
use Rattle.blk_trace.specs.Rules.{Obeys}
use Rattle.blk_trace.proofs.Words.{only_ends}
use Rattle.blk_trace.proofs.More.{more_of}
use Rattle.blk_trace.proofs.Counting.{one_if}
use Rattle.blk_trace.proofs.Opening.{open_issues, open_positive}

-- how many Issues are open with one more event
pub open_kept : (es : List Happened) (e : Happened) → issues e ≡ None → ends e ≡ None → open_count (es ++ e ∷ []) ≡ open_count es
unfolding open_count
open_kept es e i n =
    let no_end : one_if (is_end e) ≡ 0 = ap (λ o. one_if (is_some o)) n in
    let no_issue : one_if (is_issue e) ≡ 0 = ap (λ o. one_if (is_some o)) i in
    omega (arith, no_end, no_issue, more_of is_issue es e, more_of is_end es e)

pub open_issue : (setup : Setup) (es : List Happened) (id tag : ℕ) → IsLegalTrace setup es → open_count (es ++ Issue id tag ∷ []) ≡ open_count es + 1
unfolding open_count
open_issue setup es id tag legal = omega (arith, more_of is_issue es (Issue id tag), more_of is_end es (Issue id tag), open_issues setup es legal)

pub open_end : (es : List Happened) (e : Happened) (tag : ℕ) → ends e ≡ Some tag → open_count (es ++ e ∷ []) ≡ open_count es - 1
unfolding open_count
open_end es e tag end =
    let one_end : one_if (is_end e) ≡ 1 = ap (λ o. one_if (is_some o)) end in
    let no_issue : one_if (is_issue e) ≡ 0 = ap (λ o. one_if (is_some o)) (only_ends e tag end).no_issue in
    omega (arith, one_end, no_issue, more_of is_issue es e, more_of is_end es e)

-- one more event is one more
pub longer : (es : List Happened) (e : Happened) → length (es ++ e ∷ []) ≡ length es + 1
longer es e = length-append es (e ∷ [])

-- whether there is a place
pub room_kept : (setup : Setup) (es : List Happened) (e : Happened) → issues e ≡ None → ends e ≡ None → length es + open_count es + 1 ≤ MAX_EVENTS → Obeys setup es e TooLong
room_kept setup es e i n h = omega (arith, h, longer es e, open_kept es e i n)

pub full_kept : (setup : Setup) (es : List Happened) (e : Happened) → issues e ≡ None → ends e ≡ None → (length es + open_count es + 1 ≤ MAX_EVENTS → ⊥) → Obeys setup es e TooLong → ⊥
full_kept setup es e i n h l = h (omega (arith, l, longer es e, open_kept es e i n))

pub room_issue : (setup : Setup) (es : List Happened) (id tag : ℕ) → IsLegalTrace setup es → length es + open_count es + 2 ≤ MAX_EVENTS → Obeys setup es (Issue id tag) TooLong
room_issue setup es id tag legal h = omega (arith, h, longer es (Issue id tag), open_issue setup es id tag legal)

pub full_issue : (setup : Setup) (es : List Happened) (id tag : ℕ) → IsLegalTrace setup es → (length es + open_count es + 2 ≤ MAX_EVENTS → ⊥) → Obeys setup es (Issue id tag) TooLong → ⊥
full_issue setup es id tag legal h l = h (omega (arith, l, longer es (Issue id tag), open_issue setup es id tag legal))

pub room_end : (setup : Setup) (es : List Happened) (e : Happened) (tag : ℕ) → ends e ≡ Some tag → IsLegalTrace setup es → IsOpen es tag → Obeys setup es e TooLong
room_end setup es e tag end legal o = omega (arith, legal.not_too_long, longer es e, open_end es e tag end, open_positive setup es tag legal o)
