-- What a reader has left after reads that were interrupted and one that was not.
use Rattle.std.proofs.Common.{◌≡◌, ◌∙◌, ◌<◌, ℕ, List, length, take, sym, refl, Option, Some, None}
use Rattle.std.specs.Io.KnownBytes.{Consumes, IsAtEnd, Keeps}

pub kept_same : (a : Option (List ℕ)) → Keeps a a
kept_same None = tt
kept_same (Some x) = refl

pub kept_on : (a b c : Option (List ℕ)) → Keeps a b → Keeps b c → Keeps a c
kept_on None b c p q = tt
kept_on (Some x) None c p q = absurd p
kept_on (Some x) (Some y) None p q = absurd q
kept_on (Some x) (Some y) (Some z) p q = q ∙ p

pub consumed_then : (a b c : Option (List ℕ)) (n : ℕ) (buf : List ℕ) → Keeps a b → Consumes b c (take n buf) × (n ≡ 0 → 0 < length buf → IsAtEnd c) → Consumes a c (take n buf) × (n ≡ 0 → 0 < length buf → IsAtEnd c)
consumed_then None b c n buf p q = (tt, q.1)
consumed_then (Some x) None c n buf p q = absurd p
consumed_then (Some x) (Some y) None n buf p q = absurd q.0
consumed_then (Some x) (Some y) (Some z) n buf p q = (sym p ∙ q.0, q.1)
