-- What is said about bytes that are known.
use Rattle.std.proofs.Common.{◌≡◌, ◌∙◌, ℕ, List, Option, Some, refl, sym}
use Rattle.std.specs.Prelude.{None, IfSome}
use Rattle.blk_cli.specs.Said.{Said}
use Rattle.blk_cli.specs.Explaining.{IsTextExplained}

is_given : (input : Option (List ℕ)) (bytes other : List ℕ) → IfSome input (λ known. bytes ≡ known) → other ≡ bytes → IfSome input (λ known. other ≡ known)
is_given None bytes other h e = tt
is_given (Some known) bytes other h e = e ∙ h

pub given_of : (input : Option (List ℕ)) (bytes : List ℕ) (s : Said) → IfSome input (λ known. bytes ≡ known) → IsTextExplained (Some bytes) s → IsTextExplained input s
given_of input bytes s h x = record {
  bytes = x.bytes;
  given = is_given input bytes x.bytes h x.given;
  explained = x.explained;
}
