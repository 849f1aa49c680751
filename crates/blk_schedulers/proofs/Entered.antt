-- How many of the bios that entered the commands have, and what comes of a load by these numbers.
use Rattle.std.proofs.Common.{◌≡◌, ◌∙◌, ◌-◌, ℕ, sym, ap, arith, List, ◌++◌, length, length-append}
use Rattle.std.proofs.lemmas.List.Sorted.{length_permutation}
use Rattle.std.specs.Prelude.{Option, Some, None, IfSome, IfNone}
use Rattle.blk_trace.specs.Happened.{Happened}
use Rattle.blk_trace.specs.Events.{entered}
use Rattle.blk_trace.specs.Laws.{IsAccounted}
use Rattle.blk_trace.specs.Meaning.{waiting_of}
use Rattle.blk_trace.specs.Events.{open_count}
use Rattle.blk_trace.specs.Traces.{Traced}
use Rattle.blk_schedulers.specs.Settles.{served_bios, load_setup, AreEven, AreEvenIn, IsSettled}
use Rattle.blk_schedulers.specs.declared.Settled.{Settled}
use Rattle.blk_schedulers.specs.declared.numbers.Load.{Load}

-- the bios in commands are those that entered and don't wait
pub served_count : (es : List Happened) (n w : ℕ) → IsAccounted es → n ≡ length (entered es) → w ≡ length (waiting_of es) → n - w ≡ length (served_bios es)
served_count es n w all is waits =
    let both = length_permutation (served_bios es ++ waiting_of es) (entered es) all in
    let parts = length-append (served_bios es) (waiting_of es) in
    omega (arith, both, parts, is, waits)

-- numbers that are even settle a load, and numbers that aren't don't
pub settles : (l : Load) (t : Traced) (accepted served in_flight waits left : ℕ) (s : Settled) → t.setup ≡ load_setup l → s ≡ record { accepted = accepted; served = served; left = left }
    → AreEven l accepted served in_flight waits left → served ≡ length (served_bios t.events) → in_flight ≡ open_count t.events → waits ≡ length (waiting_of t.events) → IsSettled l t s
settles l t accepted served in_flight waits left s setup is even n o w = record {
  setup = setup;
  even = record {
    all = ap (λ (x : Settled). x.accepted) is ∙ even.all;
    each_served = sym n ∙ even.each_served ∙ sym (ap (λ (x : Settled). x.accepted) is);
    none_in_flight = sym o ∙ even.none_in_flight;
    none_waits = sym w ∙ even.none_waits;
    none_left = ap (λ (x : Settled). x.left) is ∙ even.none_left;
  };
  served = ap (λ (x : Settled). x.served) is ∙ n;
}

pub differs : (l : Load) (es : List Happened) (accepted served in_flight waits left : ℕ) → (AreEven l accepted served in_flight waits left → ⊥)
    → served ≡ length (served_bios es) → in_flight ≡ open_count es → waits ≡ length (waiting_of es) → AreEvenIn l es accepted left → ⊥
differs l es accepted served in_flight waits left uneven n o w h = uneven (record {
  all = h.all;
  each_served = n ∙ h.each_served;
  none_in_flight = o ∙ h.none_in_flight;
  none_waits = w ∙ h.none_waits;
  none_left = h.none_left;
})

-- the same of an account that may not be there
pub settled_if : (l : Load) (t : Traced) (accepted served in_flight waits left : ℕ) (o : Option Settled) → t.setup ≡ load_setup l → IfSome o (λ s. s ≡ record { accepted = accepted; served = served; left = left })
    → IfSome o (λ s. AreEven l accepted served in_flight waits left) → served ≡ length (served_bios t.events) → in_flight ≡ open_count t.events → waits ≡ length (waiting_of t.events) → IfSome o (IsSettled l t)
settled_if l t accepted served in_flight waits left None setup is even n o w = tt
settled_if l t accepted served in_flight waits left (Some s) setup is even n o w = settles l t accepted served in_flight waits left s setup is even n o w

pub differs_if : (l : Load) (es : List Happened) (accepted served in_flight waits left : ℕ) (o : Option Settled) → IfNone o (AreEven l accepted served in_flight waits left → ⊥)
    → served ≡ length (served_bios es) → in_flight ≡ open_count es → waits ≡ length (waiting_of es) → IfNone o (AreEvenIn l es accepted left → ⊥)
differs_if l es accepted served in_flight waits left None uneven n o w = differs l es accepted served in_flight waits left uneven n o w
differs_if l es accepted served in_flight waits left (Some s) uneven n o w = tt
