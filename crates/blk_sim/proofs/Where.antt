-- Where a bio is after the steps of a script.
use Rattle.std.proofs.Common.{rules, ◌≡◌, ◌<◌, ◌%◌, ◌==◌, ℕ, zero, suc, List, [], ◌∷◌, ◌++◌, true, Some, refl, sym, ap, inl, inr, arith}
use Rattle.std.specs.Prelude.{◌⊎◌, slice_get, ◌↔◌}
use Rattle.std.proofs.lemmas.Bool.{cases_Bool, eqb-true}
use Rattle.blk_text.specs.declared.script.Line.{Line}
use Rattle.blk_text.specs.declared.script.Line.TheVariants as line
use Rattle.blk_sim.specs.Simulation.{Where, Plugged, Staged, Released, moved, place_after, IsFlushedAndMoved}

pub one_more : (hw s : ℕ) (w : Where) (ls : List Line) (l : Line) → place_after hw s w (ls ++ l ∷ []) ≡ moved hw s (place_after hw s w ls) l
unfolding place_after
one_more hw s w [] l = refl
one_more hw s w (k ∷ ls) l = one_more hw s (moved hw s w k) ls l

-- a drain of the submitter's hardware queue, or a run
abbrev pub IsMoveAt : ℕ → ℕ → List Line → ℕ → Type 0
IsMoveAt hw s ls k = (slice_get ls k ≡ Some (line.Drain (s % hw))) ⊎ ((n : ℕ) × (slice_get ls k ≡ Some (line.Run n)))

later : (hw s : ℕ) (l : Line) (ls : List Line) → ((k : ℕ) × IsMoveAt hw s ls k) → (k : ℕ) × IsMoveAt hw s (l ∷ ls) k
later hw s l ls h = (suc h.0, h.1)

staged_moves : (hw s : ℕ) (ls : List Line) → place_after hw s Staged ls ≡ Released → (k : ℕ) × IsMoveAt hw s ls k
unfolding place_after
staged_moves hw s [] e = cc e
staged_moves hw s (line.Bio b ∷ ls) e = later hw s _ ls (staged_moves hw s ls e)
staged_moves hw s (line.Flush t ∷ ls) e = later hw s _ ls (staged_moves hw s ls e)
staged_moves hw s (line.Drain h ∷ ls) e = elim (cases_Bool ((s % hw) == h)) [
  | inl t ↦ (zero, inl (ap (λ (k : ℕ). Some (line.Drain k)) (sym (eqb-true (s % hw) h t))))
  | inr f ↦ later hw s _ ls (staged_moves hw s ls (rw f at e))
]
staged_moves hw s (line.Issue h tag ∷ ls) e = later hw s _ ls (staged_moves hw s ls e)
staged_moves hw s (line.Done tag ∷ ls) e = later hw s _ ls (staged_moves hw s ls e)
staged_moves hw s (line.Back tag ∷ ls) e = later hw s _ ls (staged_moves hw s ls e)
staged_moves hw s (line.Depth n ∷ ls) e = later hw s _ ls (staged_moves hw s ls e)
staged_moves hw s (line.Tick ∷ ls) e = later hw s _ ls (staged_moves hw s ls e)
staged_moves hw s (line.Run n ∷ ls) e = (zero, inr (n, refl))

next : (hw s : ℕ) (l : Line) (ls : List Line) → IsFlushedAndMoved hw s ls → IsFlushedAndMoved hw s (l ∷ ls)
next hw s l ls h = record { flush_at = suc h.flush_at; move_at = suc h.move_at; after = omega (arith, h.after); flushed = h.flushed; taken = h.taken }

pub plugged_moves : (hw s : ℕ) (ls : List Line) → place_after hw s Plugged ls ≡ Released → IsFlushedAndMoved hw s ls
unfolding place_after
plugged_moves hw s [] e = cc e
plugged_moves hw s (line.Bio b ∷ ls) e = next hw s _ ls (plugged_moves hw s ls e)
plugged_moves hw s (line.Flush t ∷ ls) e = elim (cases_Bool (s == t)) [
  | inl y ↦ let k = staged_moves hw s ls (rw y at e) in
      record { flush_at = zero; move_at = suc k.0; after = omega arith; flushed = ap (λ (k : ℕ). Some (line.Flush k)) (sym (eqb-true s t y)); taken = k.1 }
  | inr f ↦ next hw s _ ls (plugged_moves hw s ls (rw f at e))
]
plugged_moves hw s (line.Drain h ∷ ls) e = next hw s _ ls (plugged_moves hw s ls e)
plugged_moves hw s (line.Issue h tag ∷ ls) e = next hw s _ ls (plugged_moves hw s ls e)
plugged_moves hw s (line.Done tag ∷ ls) e = next hw s _ ls (plugged_moves hw s ls e)
plugged_moves hw s (line.Back tag ∷ ls) e = next hw s _ ls (plugged_moves hw s ls e)
plugged_moves hw s (line.Depth n ∷ ls) e = next hw s _ ls (plugged_moves hw s ls e)
plugged_moves hw s (line.Tick ∷ ls) e = next hw s _ ls (plugged_moves hw s ls e)
plugged_moves hw s (line.Run n ∷ ls) e = next hw s _ ls (plugged_moves hw s ls e)

pub stays : (hw s : ℕ) (ls : List Line) → place_after hw s Released ls ≡ Released
unfolding place_after
stays hw s [] = refl
stays hw s (l ∷ ls) = stays hw s ls

same_self : (n : ℕ) → (n == n) ≡ true
same_self n = search rules

-- a staged bio is released by a move
move_releases : (hw s : ℕ) (ls : List Line) (k : ℕ) → IsMoveAt hw s ls k → place_after hw s Staged ls ≡ Released
unfolding place_after
move_releases hw s [] k h = elim h [ inl a ↦ cc a | inr b ↦ cc b.1 ]
move_releases hw s (line.Run n ∷ ls) k h = stays hw s ls
move_releases hw s (line.Drain g ∷ ls) zero (inl a) = let q : g ≡ (s % hw) = cc a in rw (q, same_self (s % hw)) (stays hw s ls)
move_releases hw s (line.Drain g ∷ ls) zero (inr b) = cc b.1
move_releases hw s (line.Drain g ∷ ls) (suc k) h = elim (cases_Bool ((s % hw) == g)) [
  | inl t ↦ rw t (stays hw s ls)
  | inr f ↦ rw f (move_releases hw s ls k h)
]
move_releases hw s (line.Bio b ∷ ls) zero h = elim h [ inl a ↦ cc a | inr b ↦ cc b.1 ]
move_releases hw s (line.Bio b ∷ ls) (suc k) h = move_releases hw s ls k h
move_releases hw s (line.Flush t ∷ ls) zero h = elim h [ inl a ↦ cc a | inr b ↦ cc b.1 ]
move_releases hw s (line.Flush t ∷ ls) (suc k) h = move_releases hw s ls k h
move_releases hw s (line.Issue g tag ∷ ls) zero h = elim h [ inl a ↦ cc a | inr b ↦ cc b.1 ]
move_releases hw s (line.Issue g tag ∷ ls) (suc k) h = move_releases hw s ls k h
move_releases hw s (line.Done tag ∷ ls) zero h = elim h [ inl a ↦ cc a | inr b ↦ cc b.1 ]
move_releases hw s (line.Done tag ∷ ls) (suc k) h = move_releases hw s ls k h
move_releases hw s (line.Back tag ∷ ls) zero h = elim h [ inl a ↦ cc a | inr b ↦ cc b.1 ]
move_releases hw s (line.Back tag ∷ ls) (suc k) h = move_releases hw s ls k h
move_releases hw s (line.Depth n ∷ ls) zero h = elim h [ inl a ↦ cc a | inr b ↦ cc b.1 ]
move_releases hw s (line.Depth n ∷ ls) (suc k) h = move_releases hw s ls k h
move_releases hw s (line.Tick ∷ ls) zero h = elim h [ inl a ↦ cc a | inr b ↦ cc b.1 ]
move_releases hw s (line.Tick ∷ ls) (suc k) h = move_releases hw s ls k h

flushed_releases : (hw s : ℕ) (ls : List Line) (j k : ℕ) → j < k → slice_get ls j ≡ Some (line.Flush s) → IsMoveAt hw s ls k → place_after hw s Plugged ls ≡ Released
unfolding place_after
flushed_releases hw s [] j k a f h = cc f
flushed_releases hw s (l ∷ ls) j zero a f h = absurd (omega (arith, a))
flushed_releases hw s (l ∷ ls) zero (suc k) a f h = let q : l ≡ line.Flush s = cc f in rw (q, same_self s) (move_releases hw s ls k h)
flushed_releases hw s (line.Flush t ∷ ls) (suc j) (suc k) a f h = elim (cases_Bool (s == t)) [
  | inl y ↦ rw y (move_releases hw s ls k h)
  | inr n ↦ rw n (flushed_releases hw s ls j k (omega (arith, a)) f h)
]
flushed_releases hw s (line.Bio b ∷ ls) (suc j) (suc k) a f h = flushed_releases hw s ls j k (omega (arith, a)) f h
flushed_releases hw s (line.Drain g ∷ ls) (suc j) (suc k) a f h = flushed_releases hw s ls j k (omega (arith, a)) f h
flushed_releases hw s (line.Issue g tag ∷ ls) (suc j) (suc k) a f h = flushed_releases hw s ls j k (omega (arith, a)) f h
flushed_releases hw s (line.Done tag ∷ ls) (suc j) (suc k) a f h = flushed_releases hw s ls j k (omega (arith, a)) f h
flushed_releases hw s (line.Back tag ∷ ls) (suc j) (suc k) a f h = flushed_releases hw s ls j k (omega (arith, a)) f h
flushed_releases hw s (line.Depth n ∷ ls) (suc j) (suc k) a f h = flushed_releases hw s ls j k (omega (arith, a)) f h
flushed_releases hw s (line.Tick ∷ ls) (suc j) (suc k) a f h = flushed_releases hw s ls j k (omega (arith, a)) f h
flushed_releases hw s (line.Run n ∷ ls) (suc j) (suc k) a f h = flushed_releases hw s ls j k (omega (arith, a)) f h

pub is_flushed_and_moved : (hw s : ℕ) (ls : List Line) → (place_after hw s Plugged ls ≡ Released) ↔ IsFlushedAndMoved hw s ls
is_flushed_and_moved hw s ls = (plugged_moves hw s ls, λ h. flushed_releases hw s ls h.flush_at h.move_at h.after h.flushed h.taken)
