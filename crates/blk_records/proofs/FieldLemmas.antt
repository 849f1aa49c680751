use Rattle.std.proofs.Common.{◌≡◌, ◌≤◌, ℕ, zero, suc, List, [], ◌∷◌, get_or, length, Some, None, refl, arith}
use Rattle.csv.specs.Records.{field_at}
use Rattle.blk_records.specs.Sources.{Row}

-- the field at a place, by either word
pub field_is : (fs : Row) (i : ℕ) (x : List ℕ) → Some x ≡ field_at fs i → x ≡ get_or fs i []
unfolding field_at
field_is [] i x h = cc h
field_is (f ∷ fs) zero x h = cc h
field_is (f ∷ fs) (suc i) x h = field_is fs i x h

pub no_field : (fs : Row) (i : ℕ) → None ≡ field_at fs i → [] ≡ get_or fs i []
unfolding field_at
no_field [] i h = refl
no_field (f ∷ fs) zero h = cc h
no_field (f ∷ fs) (suc i) h = no_field fs i h

pub titled : (name one : List ℕ) (cells : Row) → 2 ≤ length cells → get_or cells 0 [] ≡ name → get_or cells 1 [] ≡ one → (more : Row) × (cells ≡ name ∷ one ∷ more)
titled name one [] h a b = absurd (omega arith)
titled name one (f ∷ []) h a b = absurd (omega arith)
titled name one (f ∷ g ∷ more) h a b = (more, rw (a, b) refl)

pub four : (cells : Row) (a b c d : List ℕ) → length cells ≡ 4 → get_or cells 0 [] ≡ a → get_or cells 1 [] ≡ b → get_or cells 2 [] ≡ c → get_or cells 3 [] ≡ d → cells ≡ a ∷ b ∷ c ∷ d ∷ []
four (x ∷ y ∷ z ∷ v ∷ []) a b c d h p q r s = rw (p, q, r, s) refl
four cells a b c d h p q r s = absurd (omega (arith, h))

pub not_titled : (name one : List ℕ) (cells : Row) → ((more : Row) × (cells ≡ name ∷ one ∷ more)) → (2 ≤ length cells) × (get_or cells 0 [] ≡ name) × (get_or cells 1 [] ≡ one)
not_titled name one cells h = rw h.1 (omega arith, refl, refl)
