-- By what replays are put in order.
use Rattle.std.specs.Prelude.{ℕ, Option}
use Rattle.blk_replayed.specs.declared.row.ReplayRow.{ReplayRow}

-- how many were late, how late the latest was and how long reads waited, each first and then the others; and how long writes waited
abbrev pub late_key : ReplayRow → ℕ × ℕ × Option ℕ × Option ℕ
late_key r = (r.late, r.clock.greatest, r.clock.reads.p99, r.clock.writes.p99)

abbrev pub greatest_key : ReplayRow → ℕ × ℕ × Option ℕ × Option ℕ
greatest_key r = (r.clock.greatest, r.late, r.clock.reads.p99, r.clock.writes.p99)

abbrev pub read_p99_key : ReplayRow → Option ℕ × ℕ × ℕ × Option ℕ
read_p99_key r = (r.clock.reads.p99, r.late, r.clock.greatest, r.clock.writes.p99)
