-- Why words get no text, by the failure of the job that they ask for.
use Rattle.std.proofs.Common.{◌≡◌, ℕ, Bool, List, Option, subst, sym, inl, inr}
use Rattle.blk_records.specs.Sources.{Row}
use Rattle.blk_args.specs.declared.words.Job.{Job}
use Rattle.blk_args.specs.Asked.{Asks}
use Rattle.blk_cli.specs.Gives.{HasNoAnswer}
use Rattle.blk_cli.specs.Ends.{IsFailureOf, IsWithout, IsWithoutAnswer}
use Rattle.blk_cli.specs.declared.NoText.{NoText}
use Rattle.blk_cli.specs.declared.NoText.TheVariants as none
use Rattle.blk_cli.specs.declared.failure.Failure.{Failure}

pub without_by : (words : List (List ℕ)) (input : Option (List Row)) (bytes : Option (List ℕ)) (failed : Bool) (j : Job) (f : Failure) (n : NoText) → Asks words j → HasNoAnswer words j input bytes failed f → IsFailureOf f n → IsWithout words input bytes failed n
without_by words input bytes failed j f (none.Failure g) asks fails is = elim is [
  | inl same ↦ inl (j, asks, subst (HasNoAnswer words j input bytes failed) (sym same) fails)
  | inr memory ↦ inr memory
]
without_by words input bytes failed j f (none.Told fault text) asks fails is = (j, asks, f, fails, is.0, is.1)
without_by words input bytes failed j f (none.Usage text) asks fails is = absurd is
without_by words input bytes failed j f none.Excluded asks fails is = absurd is

pub without_of : (words : List (List ℕ)) (input : Option (List Row)) (bytes : Option (List ℕ)) (failed : Bool) (j : Job) (n : NoText) → Asks words j → IsWithoutAnswer words j input bytes failed n → IsWithout words input bytes failed n
without_of words input bytes failed j n asks w = without_by words input bytes failed j w.0 n asks w.1 w.2
