-- Requests as a schedule that may be written.
use Rattle.std.proofs.Common.{◌≡◌, ◌+◌, ◌<◌, ◌≤◌, ◌∙◌, ℕ, suc, cond, Bool, true, false, List, [], ◌∷◌, length, map, sym, ap, arith, get_or}
use Rattle.std.specs.Prelude.{All}
use Rattle.std.proofs.lemmas.List.{length-map}
use Rattle.edd_commands.specs.Schedule.{RoundsInRange}
use Rattle.edd_commands.specs.declared.TheConstants.{MAX_COMMANDS}
use Rattle.edd_commands.specs.declared.Command.{Command}
use Rattle.blk_capture.specs.Counting.{AreSolvable, AreInRounds}
use Rattle.blk_capture.specs.Fates.{told}
use Rattle.blk_capture.specs.Parting.{gone_before, part, bio_in, fate_in}
use Rattle.blk_capture.specs.declared.requests.CapturedBio.{CapturedBio}
use Rattle.blk_capture_text.specs.Imports.{begin_after, IsWholeImport, IsImport}
use Rattle.blk_capture_text.specs.declared.importing.ImportAsked.{ImportAsked}
use Rattle.blk_capture.specs.Requests.{times_of}
use Rattle.blk_capture.specs.declared.fates.Fate.{Fate}
use Rattle.blk_capture.specs.declared.record.Action.{Action}
use Rattle.blk_capture.specs.declared.record.Record.{Record}
use Rattle.blk_capture.specs.declared.counting.TimedRequest.{TimedRequest}
use Rattle.blk_capture.specs.declared.requests.CapturedRequest.{CapturedRequest}
use Rattle.blk_records.specs.Commands.{IsCommandInRange}
use Rattle.blk_records.specs.Schedule.{AreDistinct, IsScheduleView}

abbrev none_served : TimedRequest
none_served = record { release = 0; deadline = 0; dispatch = 0 }

id_is : (served : List TimedRequest) (commands : List Command) (rounds : List ℕ) → AreInRounds served commands rounds → (k : ℕ) (e : Command) → k < length commands → (get_or commands k e).id ≡ k + 1
id_is served commands rounds c k e l =
    let many = c.a_command in
    ap (λ (x : Command). x.id) (c.commands_are k none_served e (omega (arith, l, many)))

ids_differ : (served : List TimedRequest) (commands : List Command) (rounds : List ℕ) → AreInRounds served commands rounds → AreDistinct commands
ids_differ served commands rounds c j k d lt top same =
    let here = id_is served commands rounds c j d (omega (arith, lt, top)) in
    let there = id_is served commands rounds c k d top in
    omega (arith, here, there, same, lt)

pub may_be_written : (requests : List CapturedRequest) (commands : List Command) (rounds : List ℕ) → length requests ≤ MAX_COMMANDS → AreInRounds (map times_of requests) commands rounds → AreSolvable commands → RoundsInRange rounds
    → IsScheduleView (record { depth = 1; commands = commands; rounds = rounds })
may_be_written requests commands rounds few c solvable within =
    let each = c.a_command in
    let round = c.a_round in
    let long = length-map requests times_of in record {
      depth = (omega arith, omega arith);
      few = omega (arith, few, each, long);
      one_each = round ∙ sym each;
      commands = in_range;
      rounds = within;
      distinct = ids_differ (map times_of requests) commands rounds c;
    }
  where
    in_range : All IsCommandInRange commands
    in_range k d l =
        let id = id_is (map times_of requests) commands rounds c k d l in
        let each = c.a_command in
        let long = length-map requests times_of in
        let both = solvable k d l in
        let release = both.0 in
        let due = both.1 in
        (omega (arith, id, l, few, each, long), omega (arith, release), omega (arith, due))

-- no more records are counted than there are

one_more : (b : Bool) (n m : ℕ) → n ≤ m → cond b (suc n) n ≤ suc m
one_more true n m l = omega (arith, l)
one_more false n m l = omega (arith, l)

pub told_few : (p : Action → Fate → Bool) (records : List Record) (fates : List Fate) → told p records fates ≤ length records
unfolding told
told_few p [] fates = omega arith
told_few p (r ∷ records) [] = omega arith
told_few p (r ∷ records) (f ∷ fates) = one_more (p r.action f) (told p records fates) (length records) (told_few p records fates)

-- a part of what was matched

pub imported : (records : List Record) (asked : ImportAsked) (rs : List CapturedRequest) (bs : List CapturedBio) (fs : List Fate) (absorbed left : ℕ) (ps : List CapturedRequest) (pb : List CapturedBio) (pf : List Fate) (merged out begin : ℕ)
    → begin ≡ begin_after asked.skip records → IsWholeImport records asked.options rs bs fs absorbed left → ps ≡ part begin asked.first rs → pb ≡ map (bio_in (gone_before begin rs) (length ps)) bs → pf ≡ map (fate_in (gone_before begin rs) (length ps)) fs
    → merged ≡ absorbed → out + length ps ≡ left + length rs → IsImport records asked ps pb pf merged out
imported records asked rs bs fs absorbed left ps pb pf merged out begin at whole requests bios fates same count = record {
  all_requests = rs;
  all_bios = bs;
  all_fates = fs;
  all_left = left;
  whole = rw same whole;
  requests_are = rw at at requests;
  bios_are = rw at at bios;
  fates_are = rw at at fates;
  left_are = count;
}
