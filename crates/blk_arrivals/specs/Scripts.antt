-- The arrivals of a capture as a script.
use Rattle.std.specs.Prelude.{ℕ, ◌≡◌, ◌≤◌, ◌<◌, ◌/◌, List, [], ◌∷◌, length, max}
use Rattle.blk_bio.specs.Limits.{Limits}
use Rattle.blk_capture.specs.declared.record.Record.{Record}
use Rattle.blk_text.specs.Script.{Scripted}
use Rattle.blk_text.specs.declared.script.Line.{Line}
use Rattle.blk_text.specs.declared.script.TheConstants.{MAX_STEPS}
use Rattle.blk_trace.specs.Setups.{Setup}
use Rattle.edd_commands.specs.declared.steps.TheConstants.{MAX_DEPTH}
use Rattle.blk_trace.specs.declared.setup.TheConstants.{MAX_EXPIRIES}
use Rattle.blk_trace.specs.declared.setup.SetupFault.TheVariants as setup
use Rattle.blk_arrivals.specs.Coming.{begin_of, told_by, submitters_of, AreFewSubmitters, ComeInTime}
use Rattle.blk_arrivals.specs.Plugs.{all_steps}
use Rattle.blk_arrivals.specs.declared.terms.TheConstants.{USUAL_SECTORS, USUAL_SEGMENTS, USUAL_SOFT_DEPTH}
use Rattle.blk_arrivals.specs.declared.terms.Terms.{Terms}
use Rattle.blk_arrivals.specs.declared.terms.ArrivalsFault.{ArrivalsFault}
use Rattle.blk_arrivals.specs.declared.terms.ArrivalsFault.TheVariants as fault

-- an expiry in rounds: at least one
abbrev pub expiry_rounds : ℕ → ℕ → ℕ
expiry_rounds expire span = max (expire / span) 1

abbrev pub usual_limits : Limits
usual_limits = record { max_sectors = USUAL_SECTORS; max_segments = USUAL_SEGMENTS }

-- one hardware queue of this depth, and the expiries in rounds
abbrev pub script_setup : Terms → Setup
script_setup t = record { depth = t.depth; hw = 1; read_expire = expiry_rounds t.read_expire t.round; write_expire = expiry_rounds t.write_expire t.round; limits = usual_limits }

-- the steps of a capture, of its own submitters
abbrev pub steps_of : Terms → List Record → List Line
steps_of t records = all_steps t.round (told_by records) (submitters_of records) records

-- the script: a submitter at least, since a script has one
abbrev pub script_of : Terms → List Record → Scripted
script_of t records = record { setup = script_setup t; soft_depth = USUAL_SOFT_DEPTH; submitters = max (length (submitters_of records)) 1; lines = steps_of t records }

-- the rules of the terms and then those of a capture, in the order in which they are looked at, each with its fault
abbrev pub script_rules : Terms → List Record → List (Type 0 × ArrivalsFault)
script_rules t records =
    (0 < t.round, fault.Round)
    ∷ ((0 < t.depth) × (t.depth ≤ MAX_DEPTH), fault.Setup setup.Depth)
    ∷ ((expiry_rounds t.read_expire t.round < MAX_EXPIRIES) × (expiry_rounds t.write_expire t.round < MAX_EXPIRIES), fault.Setup setup.Expire)
    ∷ (AreFewSubmitters (submitters_of records), fault.TooMany)
    ∷ (ComeInTime (begin_of records) t.round records, fault.TraceFull)
    ∷ (length (steps_of t records) ≤ MAX_STEPS, fault.TooLong) ∷ []
