-- What is kept is known by its numbers.
use Rattle.std.proofs.Common.{◌≡◌, refl, arith, List, [], ◌∷◌}
use Rattle.std.specs.List.{flat_map}
use Rattle.blk_bio.specs.declared.bio.Dir.{Dir}
use Rattle.blk_bio.specs.declared.bio.Dir.TheVariants.{Read, Write}
use Rattle.blk_kyber.specs.declared.turn.Turn.{Turn}
use Rattle.blk_kyber.specs.State.{KyberState, dir_number, turn_numbers, numbers_of}
use Rattle.blk_sched.proofs.Numbers.{one_switch, head_of, tail_of, none_is, some_is}

one_dir : (d e : Dir) → dir_number d ≡ dir_number e → d ≡ e
one_dir Read Read h = refl
one_dir Write Write h = refl
one_dir Read Write h = let e : 0 ≡ 1 = h in absurd (omega (arith, e))
one_dir Write Read h = let e : 1 ≡ 0 = h in absurd (omega (arith, e))

one_turn : (t u : Turn) → t.dir ≡ u.dir → t.taken ≡ u.taken → t ≡ u
one_turn t u d n = λ i. record { dir = d i; taken = n i }

one_turns : (ts us : List Turn) → flat_map turn_numbers ts ≡ flat_map turn_numbers us → ts ≡ us
one_turns [] [] h = refl
one_turns [] (u ∷ us) h = absurd (none_is _ _ h)
one_turns (t ∷ ts) [] h = absurd (some_is _ _ h)
one_turns (t ∷ ts) (u ∷ us) h =
    let rest : t.taken ∷ flat_map turn_numbers ts ≡ u.taken ∷ flat_map turn_numbers us = tail_of _ _ _ _ h in
    let same : t ≡ u = one_turn t u (one_dir t.dir u.dir (head_of _ _ _ _ h)) (head_of _ _ _ _ rest) in
    let others : ts ≡ us = one_turns ts us (tail_of _ _ _ _ rest) in
    λ i. same i ∷ others i

pub one_kept : (a b : KyberState) → numbers_of a ≡ numbers_of b → a ≡ b
one_kept a b h =
    let h1 = tail_of _ _ _ _ h in
    let h2 = tail_of _ _ _ _ h1 in
    let h3 = tail_of _ _ _ _ h2 in
    let h4 = tail_of _ _ _ _ h3 in
    let h5 = tail_of _ _ _ _ h4 in
    let h6 = tail_of _ _ _ _ h5 in
    let turns : a.turns ≡ b.turns = one_turns a.turns b.turns (tail_of _ _ _ _ h6) in
    let missed_writes : a.limits.missed_writes ≡ b.limits.missed_writes = one_switch _ _ (head_of _ _ _ _ h6) in
    let missed_reads : a.limits.missed_reads ≡ b.limits.missed_reads = one_switch _ _ (head_of _ _ _ _ h5) in
    λ i. record {
      targets = record { read = head_of _ _ _ _ h i; write = head_of _ _ _ _ h1 i };
      limits = record {
        depth = head_of _ _ _ _ h2 i;
        reads = head_of _ _ _ _ h3 i;
        writes = head_of _ _ _ _ h4 i;
        missed_reads = missed_reads i;
        missed_writes = missed_writes i;
      };
      turns = turns i;
    }
