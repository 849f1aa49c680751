-- Ranges of sectors with a direction, and what a record is of.
use Rattle.std.specs.Prelude.{◌≡◌, ◌+◌, ◌<◌, Bool, true, false}
use Rattle.blk_bio.specs.declared.bio.Dir.{Dir}
use Rattle.blk_bio.specs.declared.bio.Dir.TheVariants as dir
use Rattle.blk_bio.specs.declared.request.Side.{Side}
use Rattle.blk_bio.specs.declared.request.Side.TheVariants.{Back, Front}
use Rattle.blk_capture.specs.declared.record.Op.{Op}
use Rattle.blk_capture.specs.declared.record.Op.TheVariants as op
use Rattle.blk_capture.specs.declared.record.Range.{Range}
use Rattle.blk_capture.specs.declared.record.Record.{Record}

-- whether data goes to the device
abbrev pub writes : Dir → Bool
writes dir.Read = false
writes dir.Write = true

-- a W anywhere is a write, and all else a read
abbrev pub op_way : Op → Dir
op_way op.Write = dir.Write
op_way _ = dir.Read

-- the range that a record is of
abbrev pub range_of : Record → Range
range_of r = record { dir = op_way r.op; first = r.first; end = r.first + r.sectors }

-- grown at a side by a range that lies beside it there
abbrev pub grown : Side → Range → Range → Range
grown Back by r = record r { end = by.end }
grown Front by r = record r { first = by.first }

-- it begins where another does, in the same direction, and ends after it
pub record IsLonger (than r : Range) : Type 0 where
  pub way : r.dir ≡ than.dir
  pub begins : r.first ≡ than.first
  pub longer : than.end < r.end

-- a newcomer abuts it at this side
abbrev pub meets : Side → Range → Range → Type 0
meets Back newcomer r = r.end ≡ newcomer.first
meets Front newcomer r = r.first ≡ newcomer.end

pub record IsBeside (side : Side) (newcomer r : Range) : Type 0 where
  pub way : r.dir ≡ newcomer.dir
  pub meeting : meets side newcomer r
