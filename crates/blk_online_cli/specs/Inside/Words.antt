-- The words that the two runs are given.
use Rattle.std.specs.Prelude.{ℕ, ◌∷◌, List, [], Bool, true, false, codes}

-- the words for a simulation under earliest, for a report and for the misses
abbrev pub late_last_words : Bool → List (List ℕ)
late_last_words false = []
late_last_words true = codes "--late-last" ∷ []

abbrev pub sim_words : Bool → List (List ℕ)
sim_words late_last = codes "blk" ∷ codes "sim" ∷ codes "--sched" ∷ codes "earliest" ∷ late_last_words late_last

abbrev pub report_words : List (List ℕ)
report_words = codes "blk" ∷ codes "oracle" ∷ codes "--trace" ∷ []

abbrev pub misses_words : List (List ℕ)
misses_words = codes "blk" ∷ codes "misses" ∷ []
