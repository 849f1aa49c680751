-- What one read does to the records that are left.
use Rattle.std.proofs.Common.{◌≡◌, ◌+◌, ◌<◌, ◌≤◌, ◌==◌, ◌∙◌, ℕ, zero, suc, List, [], ◌∷◌, length, Bool, true, false, Option, Some, None, refl, sym, ap, inl, inr, arith, add-one}
use Rattle.std.specs.Prelude.{◌||◌, option_map, if◌then◌else◌}
use Rattle.std.proofs.lemmas.Bool.{cases_Bool}
use Rattle.csv.specs.declared.parser.State.{State}
use Rattle.csv.specs.Machine.{Read, fields_after, field_after, ends_at_end, is_end, in_field, start_field, start_record, next_record, step}
use Rattle.csv.specs.Reading.{default_config, records_from, records_next, source_of, pending_of, has_failed, ReadsNext, NextIs, ReadRecord}
use Rattle.csv.specs.declared.reader.Reader.{Reader}
use Rattle.csv.specs.declared.parser.State.TheVariants as st
use Rattle.blk_records.specs.Sources.{Row, records_after, left_of, TakesRecord}

-- a byte of a plain field that ends a record leaves the machine between two records
field_rests : (c : ℕ) → is_end (in_field default_config c).1 ≡ true → ends_at_end (in_field default_config c).0 ≡ false
field_rests c h = elim (cases_Bool (c == 44)) [
  | inl t ↦ cc (rw t at h)
  | inr f ↦ elim (cases_Bool ((c == 13) || (c == 10))) [
    | inl t2 ↦ elim (cases_Bool (c == 13)) [
      | inl t3 ↦ rw (f, t3) refl
      | inr f3 ↦ rw (f, t2, f3) refl
    ]
    | inr f2 ↦ cc (rw (f, f2) at h)
  ]
]

start_rests : (c : ℕ) → is_end (start_field default_config c).1 ≡ true → ends_at_end (start_field default_config c).0 ≡ false
start_rests c h = elim (cases_Bool (c == 34)) [
  | inl t ↦ cc (rw t at h)
  | inr f ↦ rw f (field_rests c (rw f at h))
]

record_rests : (c : ℕ) → is_end (start_record default_config c).1 ≡ true → ends_at_end (start_record default_config c).0 ≡ false
record_rests c h = elim (cases_Bool ((c == 13) || (c == 10))) [
  | inl t ↦ cc (rw t at h)
  | inr f ↦ rw f ((rw f at (start_rests c)) (rw f at h))
]

-- the end of a record leaves the machine between two records
end_rests : (s : State) (c : ℕ) → is_end (step default_config s c).1 ≡ true → ends_at_end (step default_config s c).0 ≡ false
end_rests st.StartRecord c h = record_rests c h
end_rests st.StartField c h = start_rests c h
end_rests st.InField c h = field_rests c h
end_rests st.InQuoted c h = elim (cases_Bool (c == 34)) [
  | inl t ↦ cc (rw t at h)
  | inr f ↦ cc (rw f at h)
]
end_rests st.InEscape c h = cc h
end_rests st.AfterQuote c h = elim (cases_Bool (c == 34)) [
  | inl t ↦ cc (rw t at h)
  | inr f ↦ rw f (field_rests c (rw f at h))
]
end_rests st.InComment c h = elim (cases_Bool (c == 10)) [
  | inl t ↦ cc (rw t at h)
  | inr f ↦ cc (rw f at h)
]
end_rests st.AfterCr c h = elim (cases_Bool (c == 10)) [
  | inl t ↦ cc (rw t at h)
  | inr f ↦ rw f ((rw f at (record_rests c)) (rw f at h))
]

some_is : (a b : Read) → Some a ≡ Some b → a ≡ b
some_is a b e = cc e

-- what is read leaves less text, and the machine between two records
next_rests : (s : State) (f : Row) (g xs : List ℕ) (p : Read) → next_record default_config s f g xs ≡ Some p
    → (ends_at_end p.1 ≡ false) × (length p.2 ≤ length xs) × (0 < length xs → length p.2 < length xs)
unfolding next_record
next_rests s f g [] p e = elim (cases_Bool (ends_at_end s)) [
  | inl t ↦ let q = some_is _ p (rw t at e) in rw (← q) (refl, omega arith, λ h. omega arith)
  | inr n ↦ cc (rw n at e)
]
next_rests s f g (c ∷ rest) p e = elim (cases_Bool (is_end (step default_config s c).1)) [
  | inl t ↦ let q = some_is _ p (rw t at e) in rw (← q) (end_rests s c t, omega arith, λ h. omega arith)
  | inr n ↦ let k = next_rests (step default_config s c).0 (fields_after (step default_config s c).1 f g) (field_after (step default_config s c).1 c g) rest p (rw n at e) in (k.0, omega (arith, k.1), λ h. omega (arith, k.1))
]

-- at the end of a text, between two records, nothing is read
none_at_end : (s : State) → ends_at_end s ≡ false → next_record default_config s [] [] [] ≡ None
unfolding next_record
none_at_end s n = rw n refl

step_same : (a b : ℕ) (o : Option Read) → ((p : Read) → o ≡ Some p → records_from default_config a p.1 p.2 ≡ records_from default_config b p.1 p.2)
    → records_next (records_from default_config a) o ≡ records_next (records_from default_config b) o
step_same a b None h = refl
step_same a b (Some p) h = ap (λ (t : List Row). p.0 ∷ t) (h p refl)

-- more turns than bytes read the same records
pub enough_turns : (n m : ℕ) (s : State) (xs : List ℕ) → ends_at_end s ≡ false → length xs < n → length xs < m
    → records_from default_config n s xs ≡ records_from default_config m s xs
unfolding records_from
enough_turns zero m s xs r a b = absurd (omega arith)
enough_turns (suc n) zero s xs r a b = absurd (omega arith)
enough_turns (suc n) (suc m) s [] r a b = rw (none_at_end s r) refl
enough_turns (suc n) (suc m) s (c ∷ cs) r a b =
    step_same n m _ (λ p e. let k = next_rests s [] [] (c ∷ cs) p e in
    let less : length p.2 < length (c ∷ cs) = k.2 (omega arith) in
    enough_turns n m p.1 p.2 k.0 (omega (arith, less, a)) (omega (arith, less, b)))

-- the first record of a text, and those after it
one_more : (n : ℕ) (s : State) (xs : List ℕ) → records_from default_config (n + 1) s xs ≡ records_next (records_from default_config n) (next_record default_config s [] [] xs)
unfolding records_from
one_more n s xs = rw (add-one n) refl

taken : (n : ℕ) (s2 : State) (o : Option Read) (found : Bool) (f : Row) (ys : List ℕ)
    → ((p : Read) → o ≡ Some p → (ends_at_end p.1 ≡ false) × (records_from default_config n p.1 p.2 ≡ records_after p.1 p.2))
    → NextIs o found f s2 ys
    → TakesRecord (Some (records_next (records_from default_config n) o)) (if ends_at_end s2 then None else Some (records_after s2 ys)) f found
taken n s2 None found f ys h r = r
taken n s2 (Some p) found f ys h r =
    let k = h p refl in
    (r.0, r.1, rw (r.2, r.3, k.0) (ap Some (sym k.1)))

reads : (s s2 : State) (o k : Option (List ℕ)) (found : Bool) (f : Row) → ends_at_end s ≡ false → ReadsNext default_config s o k found f s2
    → TakesRecord (option_map (records_after s) o) (if ends_at_end s2 then None else option_map (records_after s2) k) f found
reads s s2 None k found f e r = tt
reads s s2 (Some xs) None found f e r = absurd r
reads s s2 (Some xs) (Some ys) found f e r =
    rw (one_more (length xs) s xs) (taken (length xs) s2 (next_record default_config s [] [] xs) found f ys (λ p n.
    (let q = next_rests s [] [] xs p n in q.0, turns s xs p e n)) r)
  where
    turns : (s : State) (xs : List ℕ) (p : Read) → ends_at_end s ≡ false → next_record default_config s [] [] xs ≡ Some p
        → records_from default_config (length xs) p.1 p.2 ≡ records_after p.1 p.2
    turns s [] p e n = cc (sym (none_at_end s e) ∙ n)
    turns s (c ∷ cs) p e n =
        let q = next_rests s [] [] (c ∷ cs) p n in
        let less : length p.2 < length (c ∷ cs) = q.2 (omega arith) in
        enough_turns (length (c ∷ cs)) (length p.2 + 1) p.1 p.2 q.0 less (omega arith)

-- a read takes the first record that is left
pub takes_read : {R : Type 0} (rem : R → Option (List ℕ)) (a b : Reader R) (f : Row) (found : Bool) → a.config ≡ default_config → ReadRecord rem a b found f
    → TakesRecord (left_of rem a) (left_of rem b) f found
takes_read rem a b f found ec r = elim (cases_Bool (ends_at_end a.state)) [
  | inl t ↦ rw t tt
  | inr n ↦ let e : source_of rem b ≡ pending_of (rem b.rdr) b = rw r.1 refl in rw (n, e) (reads a.state b.state (source_of rem a) (pending_of (rem b.rdr) b) found f n (rw ec at r.0))
]

-- of a reader that has failed nothing is known
pub takes_failed : {R : Type 0} (rem : R → Option (List ℕ)) (a : Reader R) (after : Option (List Row)) (f : Row) (found : Bool) → has_failed a ≡ true
    → TakesRecord (left_of rem a) after f found
takes_failed rem a after f found h = elim (cases_Bool (ends_at_end a.state)) [
  | inl t ↦ rw t tt
  | inr n ↦ rw (n, h) tt
]
