-- What a test that answers a question says of it.
use Rattle.std.proofs.Common.{◌≡◌, ◌↔◌, IsTrue, Bool, true, false, Some, None, refl}
use Rattle.std.specs.Prelude.{Option, is_some}
use Rattle.std.specs.Option.{IfSome, IfNone}

pub holds : {P : Type 0} (b : Bool) → b ≡ true → (IsTrue b ↔ P) → P
holds b t h = h.0 t

pub fails : {P : Type 0} (b : Bool) → b ≡ false → (IsTrue b ↔ P) → P → ⊥
fails b f h p = let t : b ≡ true = h.1 p in absurd (cc)

pub no_some : {X : Type 0} (o : Option X) → is_some o ≡ false → o ≡ None
no_some None h = refl
no_some (Some x) h = absurd (cc)

pub is_there : {X : Type 0} (o : Option X) → is_some o ≡ true → (x : X) × (o ≡ Some x)
is_there None h = absurd (cc)
is_there (Some x) h = (x, refl)

pub some_found : {X : Type 0} (o : Option X) (P : X → Type 0) → is_some o ≡ true → IfSome o P → (x : X) × ((o ≡ Some x) × P x)
some_found None P n h = absurd (cc)
some_found (Some x) P n h = (x, (refl, h))

pub none_found : {X : Type 0} (o : Option X) (P : Type 0) → is_some o ≡ false → IfNone o P → P
none_found None P n h = h
none_found (Some x) P n h = absurd (cc)
