use Rattle.std.proofs.Common.{◌≡◌, ◌∙◌, ℕ, sym, ap, take, List, Bool}
use Rattle.std.proofs.lemmas.List.{take_all}
use Rattle.std.specs.Map.{lookup}
use Rattle.blk_ids.specs.ById as by_id
use Rattle.std.specs.Ordering.{nat_cmp}
use Rattle.std.specs.BTreeMap.{get, is_at}
use Rattle.blk_trace.specs.Happened.{Happened}
use Rattle.blk_trace.specs.Meaning.{issued_ids}
use Rattle.blk_trace.specs.Waits.{has_id}
use Rattle.blk_trace.specs.Inside.Gathered.{bios_unless, enters_to_stay}
use Rattle.blk_trace.proofs.Gathering.{nothing_gathered, gathers, passes, one_more, stays_by, at_the_end}
use Rattle.blk_trace.proofs.trace.waiting.gathered.Goals as goal
use Rattle.blk_trace.proofs.trace.waiting.gathered.Goals.{then-stays+in_ok-gather, else-stays}

pub loop-event-init : goal.loop-event-init
loop-event-init g c = λ id. ap (lookup (is_at (nat_cmp id))) c.new-requests.ensures.empty ∙ sym (nothing_gathered (λ i. has_id (issued_ids c.args.events.now) i) id)

pub loop-event-preserved : goal.loop-event-preserved
loop-event-preserved g c = λ id.
    let all : List Happened = c.args.events.now in
    let gone : ℕ → Bool = λ i. has_id (issued_ids all) i in
    let es : List Happened = take c.loop-event.event-index c.args.events.now in
    let p = one_more c.args.setup c.args.events.now c.loop-event.event-index c.event-item.result c.loop-event-test.true c.event-item.is c.requires.legal in
    let told : enters_to_stay gone c.event-item.result ≡ c.stays.result = sym (c.stays.ensures ∙ stays_by c.args.setup all (by_id.kept_at c.args.known.now) c.event-item.result c.requires.legal c.requires.kept) in
    elim c.if-stays.branch [
      | then-stays+in_ok-gather w ↦
          ap (λ m. get nat_cmp m id) w.requests-is
          ∙ w.in_ok-gather.ensures id
          ∙ gathers c.args.setup gone es c.event-item.result (get nat_cmp c.loop-event.requests) p.1 (told ∙ w.if-stays.true) c.loop-event.invariant id
          ∙ ap (λ (l : List Happened). bios_unless gone l id) (sym p.0)
      | else-stays w ↦
          ap (λ m. get nat_cmp m id) w.requests-is
          ∙ c.loop-event.invariant id
          ∙ sym (passes c.args.setup gone es c.event-item.result (told ∙ w.if-stays.false) id)
          ∙ ap (λ (l : List Happened). bios_unless gone l id) (sym p.0)
    ]

pub returns : goal.returns
returns g c = λ id.
    let all : List Happened = c.args.events.now in
    c.loop-event.invariant id
    ∙ ap (λ l. bios_unless (λ i. has_id (issued_ids all) i) l id) (take_all c.loop-event.event-index c.args.events.now c.loop-event-test.false)
    ∙ at_the_end c.args.setup all id
