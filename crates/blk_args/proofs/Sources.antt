-- Where what options are given comes from, and whether another than one is given.
use Rattle.std.proofs.Common.{◌≡◌, ◌∙◌, List, Option, Some, None, Bool, map, option_map, ap, sym, refl}
use Rattle.std.specs.Prelude.{◌&&◌, not, find, option_and_then}
use Rattle.std.specs.List.{list_any}
use Rattle.std.specs.Str.{bytes_eq}
use Rattle.clap.proofs.WalkLemmas.{find_row, list_any-map}
use Rattle.clap.specs.Facts.{Entry, explicit_source}
use Rattle.clap.specs.Matches.{matched_of}
use Rattle.clap.specs.Walk.{row_of}
use Rattle.clap.specs.Words.{Row, Text, rows_of}
use Rattle.clap.specs.declared.parser.matches.Found.{Found}
use Rattle.clap.specs.declared.parser.matches.MatchedArg.{MatchedArg}
use Rattle.blk_args.specs.Asked.{source_of, is_other_given}

pub source_by : (f : Found) (id : Text) → option_and_then (λ (a : MatchedArg). a.source) (matched_of f id) ≡ source_of id (rows_of f)
source_by f id = go (find (λ (e : Entry). bytes_eq e.0.now id) f.entries.items) ∙ ap (option_and_then (λ (r : Row). r.source)) (sym (find_row f.entries.items id))
  where
    go : (o : Option Entry) → option_and_then (λ (a : MatchedArg). a.source) (option_map (λ (e : Entry). e.1) o) ≡ option_and_then (λ (r : Row). r.source) (option_map row_of o)
    go None = refl
    go (Some e) = refl

-- whether an id is another, and the words give it
abbrev pub is_other : Text → List Row → Text → Bool
is_other but rows id = not (bytes_eq id but) && explicit_source (source_of id rows)

pub among_ids : (f : Found) (but : Text) → list_any (is_other but (rows_of f)) (map (λ (e : Entry). e.0.now) f.entries.items) ≡ is_other_given but (rows_of f)
among_ids f but =
    sym (list_any-map (is_other but (rows_of f)) (λ (e : Entry). e.0.now) f.entries.items)
    ∙ list_any-map (λ (r : Row). is_other but (rows_of f) r.id) row_of f.entries.items
