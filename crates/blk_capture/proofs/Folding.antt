-- One record more.
use Rattle.std.proofs.lemmas.List.{get_or_default}
use Rattle.std.proofs.Common.{get_or, ◌≡◌, ◌≢◌, ◌<◌, ◌≤◌, ◌+◌, ◌++◌, ◌∙◌, ℕ, zero, suc, List, [], ◌∷◌, length, Some, sym, ap, subst, arith}
use Rattle.std.specs.List.{slice_get}
use Rattle.blk_capture.specs.Rules.{Known, Outcome, IsTold, AreTold}
use Rattle.blk_capture.specs.declared.record.Action.TheVariants.{Queue}
use Rattle.blk_capture.specs.declared.record.Op.TheVariants.{Read}
use Rattle.blk_capture.specs.declared.matching.Role.{Role}
use Rattle.blk_capture.specs.declared.record.Record.{Record}
use Rattle.blk_capture.specs.declared.requests.Options.{Options}
use Rattle.blk_capture.proofs.Indexed.{get_pushed, get_but_last}

told_before : (o : Options) (records : List Record) (roles : List Role) (role : Role) (n : ℕ) (m : Known) → n ≤ length roles → AreTold o records roles n m → AreTold o records (roles ++ role ∷ []) n m
told_before o records roles role zero m few h = h
told_before o records roles role (suc n) m few h =
    let at = h.1.1 in
    let other : n ≢ length roles = λ e. (let bad : ⊥ = omega (arith, e, few) in bad) in (
      h.0,
      (
        told_before o records roles role n h.0 (omega (arith, few)) h.1.0,
        record {
          read = at.read;
          role = at.role;
          there = at.there;
          of = get_but_last roles role n other ∙ at.of;
          told = at.told;
        },
      ),
    )

pub told_more : (o : Options) (records : List Record) (roles new : List Role) (role : Role) (n : ℕ) (r : Record) (before m : Known) → AreTold o records roles n before → length roles ≡ n → slice_get records n ≡ Some r → new ≡ roles ++ role ∷ [] → IsTold o n r before (m, role) → AreTold o records new (n + 1) m
told_more o records roles new role n r before m h each at is told =
    let last : slice_get (roles ++ role ∷ []) n ≡ Some role = subst (λ k. slice_get (roles ++ role ∷ []) k ≡ Some role) each (get_pushed roles role) in
    let all : AreTold o records (roles ++ role ∷ []) (suc n) m = (before, (told_before o records roles role n before (omega (arith, each)) h, record { read = r; role = role; there = at; of = last; told = told })) in
    let next : suc n ≡ n + 1 = omega arith in
    subst (λ k. AreTold o records new k m) next (subst (λ (l : List Role). AreTold o records l (suc n) m) (sym is) all)

abbrev pub no_record : Record
no_record = record { time = 0; cpu = 0; action = Queue; pid = 0; op = Read; first = 0; sectors = 0 }

-- the rule is asked of what was known, by the options
pub rule_of : (o p : Options) (n : ℕ) (r : Record) (m k : Known) (t : Outcome) → p ≡ o → k ≡ m → IsTold p n r k t → IsTold o n r m t
rule_of o p n r m k t e f h = subst (λ (x : Known). IsTold o n r x t) f (subst (λ (x : Options). IsTold x n r k t) e h)

-- a record's time is no later than that of the next
pub later_record : (records : List Record) (n : ℕ) (c d : Record) (now : ℕ) → n < length records → now ≡ (get_or records n c).time → (get_or records n d).time ≤ (get_or records (n + 1) d).time → now ≤ (get_or records (n + 1) d).time
later_record records n c d now here at up = let same = ap (λ (r : Record). r.time) (get_or_default records n c d here) in omega (arith, at, same, up)
