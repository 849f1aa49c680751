-- Requests that are due later: no more of them are late at least.
use Rattle.std.proofs.Common.{◌≡◌, ◌≤◌, ◌<◌, ◌+◌, ◌-◌, ◌∙◌, ℕ, Bool, true, false, not, cond, nat_le, nat_lt, List, [], ◌∷◌, map, length, get_or, filter, inl, inr, arith, refl, ap, sym, subst}
use Rattle.std.specs.Prelude.{min, None}
use Rattle.std.specs.List.{All, range_with_len}
use Rattle.std.proofs.lemmas.Bool.{cases_Bool, lt-ltb, ltb-true, leb-true, le-leb, not-true, cond-true, cond-false}
use Rattle.std.proofs.lemmas.List.{get_or_default, get_or-map, length-map}
use Rattle.std.proofs.lemmas.List.Elements.{filter_passes}
use Rattle.std.proofs.lemmas.List.Sums.{sum_by-cons}
use Rattle.edd_commands.specs.Capacity.{fixed}
use Rattle.edd_commands.specs.declared.Command.{Command}
use Rattle.edd_commands.specs.declared.steps.Step.{Step}
use Rattle.edd_commands.specs.Schedule.{IsLegal}
use Rattle.edd_oracle.proofs.Counting.{count_along}
use Rattle.edd_blame.specs.Parts.{ArePlaces, command_here, is_late_at, number_late_at, IsLeastLateAt, IsLeastLateBeside, marked_places, other_places}
use Rattle.edd_blame.proofs.Marking.{marked_are, other_are}
use Rattle.blk_capture.specs.Counting.{AreInRounds, dispatched_before, dispatched_by}
use Rattle.blk_capture.specs.Summaries.{goes}
use Rattle.blk_capture.specs.declared.counting.TimedRequest.{TimedRequest}
use Rattle.blk_capture.specs.declared.record.TheConstants.{MAX_TIME}
use Rattle.blk_capture.specs.declared.requests.CapturedRequest.{CapturedRequest}
use Rattle.blk_blame.specs.Tightest.{due_after, timed_after, marks_of, IsFewestOf, IsFewestAfter, allowed_of, IsShort, IsTooSoon}
use Rattle.blk_blame.specs.declared.tightest.OnTimeTarget.{OnTimeTarget}
use Rattle.blk_blame.specs.declared.tightest.OtherDirection.{OtherDirection}
use Rattle.blk_blame.specs.declared.tightest.OtherDirection.TheVariants.{Best, Any}
use Rattle.blk_blame.proofs.Glue.{no_request, nobody}

abbrev no_command : Command
no_command = record { id = 0; release = 0; due = 0 }

-- commands of the same releases, each due no sooner, and those that aren't marked as before
record AreLaxer (commands laxer : List Command) (marks : List Bool) : Type 0 where
  one_each : length laxer ≡ length commands
  marked : length marks ≡ length commands
  released : (k : ℕ) (d e : Command) → k < length commands → (get_or laxer k d).release ≡ (get_or commands k e).release
  later : (k : ℕ) (d e : Command) → k < length commands → (get_or commands k d).due ≤ (get_or laxer k e).due
  others : (k : ℕ) (d e : Command) → k < length commands → get_or marks k false ≡ false → (get_or laxer k d).due ≡ (get_or commands k e).due

module _ (commands laxer : List Command) (marks : List Bool) (steps : List Step) (lax : AreLaxer commands laxer marks) where
  -- the same schedules are legal
  legal_in : (rounds : List ℕ) → IsLegal commands rounds steps → IsLegal laxer rounds steps
  legal_in rounds legal = record {
    one_each = legal.one_each ∙ sym lax.one_each;
    released =
        λ k d h.
        let low : k < length commands = omega (arith, h, lax.one_each) in
        omega (arith, lax.released k d no_command low, legal.released k no_command low);
    within_depth = legal.within_depth;
  }

  legal_back : (rounds : List ℕ) → IsLegal laxer rounds steps → IsLegal commands rounds steps
  legal_back rounds legal = record {
    one_each = legal.one_each ∙ lax.one_each;
    released = λ k d h. omega (arith, lax.released k no_command d h, legal.released k no_command (omega (arith, h, lax.one_each)));
    within_depth = legal.within_depth;
  }

  -- no more are late in one
  fewer : (rounds places : List ℕ) → All (λ k. k < length commands) places → number_late_at laxer rounds places ≤ number_late_at commands rounds places
  unfolding number_late_at
  fewer rounds places within =
      count_along (is_late_at laxer rounds) (is_late_at commands rounds) places places refl
      (λ i d e h late.
      let k : ℕ = get_or places i d in
      let same : k ≡ get_or places i e = get_or_default places i d e h in
      let after : (command_here laxer k).due < get_or rounds k 0 = ltb-true (command_here laxer k).due (get_or rounds k 0) late in
      let sooner : (command_here commands k).due ≤ (command_here laxer k).due = lax.later k no_command no_command (within i d h) in
      subst (λ n. is_late_at commands rounds n ≡ true) same
      (lt-ltb (command_here commands k).due (get_or rounds k 0) (omega (arith, after, sooner))))

  -- of those that aren't marked, as many
  as_many : (rounds : List ℕ) → number_late_at commands rounds (other_places marks) ≤ number_late_at laxer rounds (other_places marks)
  unfolding number_late_at other_places
  as_many rounds =
      let places : List ℕ = filter (λ k. not (get_or marks k false)) (range_with_len 0 (length marks)) in
      let within = (other_are marks (length commands) lax.marked).within in
      count_along (is_late_at commands rounds) (is_late_at laxer rounds) places places refl
      (λ i d e h late.
      let k : ℕ = get_or places i d in
      let same : k ≡ get_or places i e = get_or_default places i d e h in
      let out : get_or marks k false ≡ false = not-true (get_or marks k false) (filter_passes (λ x. not (get_or marks x false)) (range_with_len 0 (length marks)) i d h) in
      let after : (command_here commands k).due < get_or rounds k 0 = ltb-true (command_here commands k).due (get_or rounds k 0) late in
      let alike : (command_here laxer k).due ≡ (command_here commands k).due = lax.others k no_command no_command (within i d h) out in
      subst (λ n. is_late_at laxer rounds n ≡ true) same
      (lt-ltb (command_here laxer k).due (get_or rounds k 0) (omega (arith, after, alike))))

  same_others : (rounds : List ℕ) → number_late_at laxer rounds (other_places marks) ≡ number_late_at commands rounds (other_places marks)
  same_others rounds = omega (arith, as_many rounds, fewer rounds (other_places marks) (other_are marks (length commands) lax.marked).within)

  any_falls : (n m : ℕ) → IsLeastLateAt commands steps (marked_places marks) n → IsLeastLateAt laxer steps (marked_places marks) m → m ≤ n
  any_falls n m more few =
      let s : List ℕ = more.schedule in
      omega (arith, few.least s (legal_in s more.legal), fewer s (marked_places marks) (marked_are marks (length commands) lax.marked).within, more.reached)

  best_falls : (n m : ℕ) → IsLeastLateBeside commands steps (marked_places marks) (other_places marks) n → IsLeastLateBeside laxer steps (marked_places marks) (other_places marks) m → m ≤ n
  best_falls n m more few =
      let s : List ℕ = more.schedule in
      let o : List ℕ = more.others_least.schedule in
      let p : List ℕ = few.others_least.schedule in
      let down : few.fewest ≤ more.fewest = omega (arith, few.others_least.least o (legal_in o more.others_least.legal), same_others o, more.others_least.reached) in
      let up : more.fewest ≤ few.fewest = omega (arith, more.others_least.least p (legal_back p few.others_least.legal), same_others p, few.others_least.reached) in
      let kept : number_late_at laxer s (other_places marks) ≡ few.fewest = omega (arith, same_others s, more.others_keep, down, up) in
      omega (arith, few.least s (legal_in s more.legal) kept, fewer s (marked_places marks) (marked_are marks (length commands) lax.marked).within, more.reached)

-- dispatches are counted alike
before_same : (aim : OnTimeTarget) (a b : ℕ) (qs : List CapturedRequest) (t : ℕ) → dispatched_before (map (timed_after aim a) qs) t ≡ dispatched_before (map (timed_after aim b) qs) t
unfolding dispatched_before
before_same aim a b [] t = refl
before_same aim a b (q ∷ qs) t =
    omega (arith, before_same aim a b qs t, sum_by-cons (λ (r : TimedRequest). cond (nat_lt r.dispatch t) 1 0) (timed_after aim a q) (map (timed_after aim a) qs), sum_by-cons (λ (r : TimedRequest). cond (nat_lt r.dispatch t) 1 0) (timed_after aim b q) (map (timed_after aim b) qs))

by_same : (aim : OnTimeTarget) (a b : ℕ) (qs : List CapturedRequest) (t : ℕ) → dispatched_by (map (timed_after aim a) qs) t ≡ dispatched_by (map (timed_after aim b) qs) t
unfolding dispatched_by
by_same aim a b [] t = refl
by_same aim a b (q ∷ qs) t =
    omega (arith, by_same aim a b qs t, sum_by-cons (λ (r : TimedRequest). cond (nat_le r.dispatch t) 1 0) (timed_after aim a q) (map (timed_after aim a) qs), sum_by-cons (λ (r : TimedRequest). cond (nat_le r.dispatch t) 1 0) (timed_after aim b q) (map (timed_after aim b) qs))

by_later : (rs : List TimedRequest) (t u : ℕ) → t ≤ u → dispatched_by rs t ≤ dispatched_by rs u
unfolding dispatched_by
by_later rs t u later =
    count_along (λ (r : TimedRequest). nat_le r.dispatch t) (λ (r : TimedRequest). nat_le r.dispatch u) rs rs refl
    (λ i d e h by.
    let r : TimedRequest = get_or rs i d in
    let same : r ≡ get_or rs i e = get_or_default rs i d e h in
    subst (λ (x : TimedRequest). nat_le x.dispatch u ≡ true) same (le-leb r.dispatch u (omega (arith, later, leb-true r.dispatch t by))))

-- each is due later
min_later : (x y m : ℕ) → x ≤ y → min x m ≤ min y m
min_later x y m later = omega (arith, later)

due_later : (aim : OnTimeTarget) (a b : ℕ) (q : CapturedRequest) → a ≤ b → due_after aim a q ≤ due_after aim b q
due_later aim a b q later =
    elim (cases_Bool (goes q.dir aim.dir)) [
      | inl own ↦
          omega (
            arith,
            later,
            min_later (q.deadline - aim.expire + a) (q.deadline - aim.expire + b) MAX_TIME (omega (arith, later)),
            cond-true (goes q.dir aim.dir) (min (q.deadline - aim.expire + a) MAX_TIME) q.deadline own,
            cond-true (goes q.dir aim.dir) (min (q.deadline - aim.expire + b) MAX_TIME) q.deadline own,
          )
      | inr other ↦
          omega (arith, cond-false (goes q.dir aim.dir) (min (q.deadline - aim.expire + a) MAX_TIME) q.deadline other, cond-false (goes q.dir aim.dir) (min (q.deadline - aim.expire + b) MAX_TIME) q.deadline other)
    ]

due_same : (aim : OnTimeTarget) (a b : ℕ) (q : CapturedRequest) → goes q.dir aim.dir ≡ false → due_after aim a q ≡ due_after aim b q
due_same aim a b q other =
    cond-false (goes q.dir aim.dir) (min (q.deadline - aim.expire + a) MAX_TIME) q.deadline other
    ∙ sym (cond-false (goes q.dir aim.dir) (min (q.deadline - aim.expire + b) MAX_TIME) q.deadline other)

module _ (qs : List CapturedRequest) (aim : OnTimeTarget) (a b : ℕ) (commands laxer : List Command) (rounds others : List ℕ) (later : a ≤ b) (one : AreInRounds (map (timed_after aim a) qs) commands rounds) (two : AreInRounds (map (timed_after aim b) qs) laxer others) where
  long : length commands ≡ length qs
  long = one.a_command ∙ length-map qs (timed_after aim a)

  long_two : length laxer ≡ length qs
  long_two = two.a_command ∙ length-map qs (timed_after aim b)

  release_one : (k : ℕ) (d : Command) → k < length qs → (get_or commands k d).release ≡ dispatched_before (map (timed_after aim a) qs) (get_or qs k nobody).released + 1
  release_one k d h =
      ap (λ (c : Command). c.release) (one.commands_are k no_request d (omega (arith, h, length-map qs (timed_after aim a))))
      ∙ ap (λ (r : TimedRequest). dispatched_before (map (timed_after aim a) qs) r.release + 1) (get_or-map (timed_after aim a) qs k nobody no_request h)

  release_two : (k : ℕ) (d : Command) → k < length qs → (get_or laxer k d).release ≡ dispatched_before (map (timed_after aim b) qs) (get_or qs k nobody).released + 1
  release_two k d h =
      ap (λ (c : Command). c.release) (two.commands_are k no_request d (omega (arith, h, length-map qs (timed_after aim b))))
      ∙ ap (λ (r : TimedRequest). dispatched_before (map (timed_after aim b) qs) r.release + 1) (get_or-map (timed_after aim b) qs k nobody no_request h)

  due_one : (k : ℕ) (d : Command) → k < length qs → (get_or commands k d).due ≡ dispatched_by (map (timed_after aim a) qs) (due_after aim a (get_or qs k nobody))
  due_one k d h =
      ap (λ (c : Command). c.due) (one.commands_are k no_request d (omega (arith, h, length-map qs (timed_after aim a))))
      ∙ ap (λ (r : TimedRequest). dispatched_by (map (timed_after aim a) qs) r.deadline) (get_or-map (timed_after aim a) qs k nobody no_request h)

  due_two : (k : ℕ) (d : Command) → k < length qs → (get_or laxer k d).due ≡ dispatched_by (map (timed_after aim b) qs) (due_after aim b (get_or qs k nobody))
  due_two k d h =
      ap (λ (c : Command). c.due) (two.commands_are k no_request d (omega (arith, h, length-map qs (timed_after aim b))))
      ∙ ap (λ (r : TimedRequest). dispatched_by (map (timed_after aim b) qs) r.deadline) (get_or-map (timed_after aim b) qs k nobody no_request h)

  are_laxer : AreLaxer commands laxer (marks_of aim.dir qs)
  are_laxer = record {
    one_each = long_two ∙ sym long;
    marked = length-map qs (λ (q : CapturedRequest). goes q.dir aim.dir) ∙ sym long;
    released =
        λ k d e h.
        let low : k < length qs = omega (arith, h, long) in
        omega (arith, release_one k e low, release_two k d low, before_same aim a b qs (get_or qs k nobody).released);
    later =
        λ k d e h.
        let low : k < length qs = omega (arith, h, long) in
        let q : CapturedRequest = get_or qs k nobody in
        omega (arith, due_one k d low, due_two k e low, by_same aim a b qs (due_after aim a q), by_later (map (timed_after aim b) qs) (due_after aim a q) (due_after aim b q) (due_later aim a b q later));
    others =
        λ k d e h out.
        let low : k < length qs = omega (arith, h, long) in
        let q : CapturedRequest = get_or qs k nobody in
        let other : goes q.dir aim.dir ≡ false = sym (get_or-map (λ (q : CapturedRequest). goes q.dir aim.dir) qs k nobody false low) ∙ out in
        due_two k d low ∙ ap (λ t. dispatched_by (map (timed_after aim b) qs) t) (due_same aim b a q other) ∙ sym (by_same aim a b qs (due_after aim a q)) ∙ sym (due_one k e low);
  }

-- no more are late at least
falls_by : (others : OtherDirection) (commands laxer : List Command) (marks : List Bool) (n m : ℕ) → AreLaxer commands laxer marks → IsFewestOf others commands marks n → IsFewestOf others laxer marks m → m ≤ n
falls_by Best commands laxer marks n m lax more few = best_falls commands laxer marks (fixed 1) lax n m more few
falls_by Any commands laxer marks n m lax more few = any_falls commands laxer marks (fixed 1) lax n m more few

pub falls : (qs : List CapturedRequest) (aim : OnTimeTarget) (others : OtherDirection) (a b n m : ℕ) → a ≤ b → IsFewestAfter qs aim others a n → IsFewestAfter qs aim others b m → m ≤ n
falls qs aim others a b n m later more few =
    falls_by others more.commands few.commands (marks_of aim.dir qs) n m (are_laxer qs aim a b more.commands few.commands more.rounds few.rounds later more.counted few.counted) more.fewest few.fewest

-- where more than may be are late, more are where they are due sooner
pub sooner_too : (qs : List CapturedRequest) (aim : OnTimeTarget) (others : OtherDirection) (own : ℕ) → IsShort qs aim others own → (sooner : ℕ) → sooner ≤ own → IsTooSoon qs aim others sooner
sooner_too qs aim others own short sooner before n fewest = omega (arith, short.many, falls qs aim others sooner own n short.late before fewest short.fewest)
