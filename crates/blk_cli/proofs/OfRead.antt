-- What comes of a value that was read, from what a call made of it.
use Rattle.std.proofs.Common.{ℕ, Bool, List, Option, Result, Ok, Err, IfOk, inr}
use Rattle.std.specs.Prelude.{IfErr, IfSome}
use Rattle.blk_records.specs.declared.fault.TextReason.{TextReason}
use Rattle.blk_records.specs.Sources.{Row}
use Rattle.blk_cli.specs.declared.failure.Failure.{Failure}
use Rattle.blk_cli.specs.Inputs.{Of, FailsOver}

pub told : {V A X E : Type 0} (Spells : List Row → V → Type 0) (Is : V → A → Type 0) (input : Option (List Row)) (v : V) (text : X → A) (r : Result X E) → IfSome input (λ rows. Spells rows v)
    → IfOk r (λ x. Is v (text x)) → IfOk r (λ x. Of Spells Is input (text x))
told Spells Is input v text (Ok x) read h = (v, read, h)
told Spells Is input v text (Err e) read h = tt

pub refused : {V X : Type 0} (Spells : List Row → V → Type 0) (Wrong : List Row → ℕ → TextReason → Type 0) (Refused : V → Failure → Type 0) (input : Option (List Row)) (failed : Bool) (v : V) (r : Result X Failure)
    → IfSome input (λ rows. Spells rows v) → IfErr r (Refused v) → IfErr r (FailsOver Spells Wrong Refused input failed)
refused Spells Wrong Refused input failed v (Ok x) read h = tt
refused Spells Wrong Refused input failed v (Err f) read h = inr (v, read, h)
