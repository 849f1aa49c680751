-- A signed number is written in one way alone.
use Rattle.std.proofs.Common.{◌≡◌, ◌<◌, ◌^◌, ◌∙◌, ℕ, List, ◌∷◌, sym, inl, inr}
use Rattle.std.specs.Prelude.{decimal}
use Rattle.std.proofs.lemmas.Fmt.{decimal_injective}
use Rattle.blk_records.specs.Fields.{IsSized}
use Rattle.blk_records.proofs.Decimals.{no_minus}

pub sized_once : (f : List ℕ) (m n : ℕ) → m < 2 ^ 64 → n < 2 ^ 64 → IsSized f m → IsSized f n → m ≡ n
sized_once f m n h k (inl a) (inl b) = decimal_injective m n h k (sym a ∙ b)
sized_once f m n h k (inl a) (inr b) = absurd (no_minus m h (decimal n) (sym b.1 ∙ a))
sized_once f m n h k (inr a) (inl b) = absurd (no_minus n k (decimal m) (sym a.1 ∙ b))
sized_once f m n h k (inr a) (inr b) = decimal_injective m n h k (let q : 45 ∷ decimal m ≡ 45 ∷ decimal n = sym a.1 ∙ b.1 in cc q)
