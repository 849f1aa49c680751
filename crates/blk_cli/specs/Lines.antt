-- The line and the status of each failure.
use Rattle.std.specs.Prelude.{◌++◌, ◌∷◌, ℕ, ℤ, List, [], codes, decimal}
use Rattle.std.specs.Fmt.{signed_decimal}
use Rattle.edd_commands.specs.declared.faults.Beside.{Beside}
use Rattle.edd_commands.specs.declared.faults.Beside.TheVariants as beside
use Rattle.edd_commands.specs.Faults.{status_beside}
use Rattle.edd_check.specs.Names.{check_told, on_time_told}
use Rattle.edd_oracle.specs.Names.{oracle_told}
use Rattle.blk_schedulers.specs.Names.{sched_told, unsettled_told}
use Rattle.blk_records.specs.Names.{text_told}
use Rattle.blk_runs.specs.Names.{run_told}
use Rattle.blk_capture_text.specs.Names.{import_told, unread_told}
use Rattle.blk_capture_text.specs.declared.source.UnreadCapture.TheVariants as unread
use Rattle.blk_capture_text.specs.declared.importing.ImportFault.{ImportFault}
use Rattle.blk_capture_text.specs.declared.importing.ImportFault.TheVariants as capture
use Rattle.blk_arrivals.specs.Names.{arrivals_told}
use Rattle.blk_arrivals.specs.declared.terms.ArrivalsFault.{ArrivalsFault}
use Rattle.blk_arrivals.specs.declared.terms.ArrivalsFault.TheVariants as arrivals
use Rattle.blk_recorders.specs.Names.{line_reason_name}
use Rattle.blk_recorders.specs.declared.fault.LineFault.{LineFault}
use Rattle.blk_recorders.specs.declared.fault.LineReason.{LineReason}
use Rattle.blk_recorders.specs.declared.fault.LineReason.TheVariants as printed
use Rattle.blk_cli.specs.declared.failure.Failure.{Failure}
use Rattle.blk_cli.specs.declared.failure.Failure.TheVariants as failure

-- lines: of a text after the program's name, of a name with a number, and of a name at a record
abbrev pub line : List ℕ → List ℕ
line text = codes "blk: " ++ (text ++ 10 ∷ [])

abbrev pub numbered : List ℕ → List ℕ → List ℕ
numbered name number = codes "blk: " ++ (name ++ (codes " " ++ (number ++ 10 ∷ [])))

-- a name with a number that has a sign
abbrev pub signed_line : List ℕ → ℤ → List ℕ
signed_line name number = numbered name (signed_decimal number)

abbrev pub at_record : ℕ → List ℕ → List ℕ
at_record at name = codes "blk: record " ++ (decimal at ++ (codes ": " ++ (name ++ 10 ∷ [])))

-- and more behind it
abbrev pub more_line : ℕ → List ℕ → List ℕ → List ℕ
more_line at name more = codes "blk: record " ++ (decimal at ++ (codes ": " ++ (name ++ (codes ": " ++ (more ++ 10 ∷ [])))))

abbrev pub at_line : ℕ → List ℕ → List ℕ
at_line at name = codes "blk: line " ++ (decimal at ++ (codes ": " ++ (name ++ 10 ∷ [])))

-- a line of the program's own, of which the cases say how it goes on
abbrev pub OwnLine : (List ℕ → Type 0) → Type 0
OwnLine P = (rest : List ℕ) × P (codes "blk: " ++ rest)

-- where the reader or the writer failed, and where memory ran out
abbrev pub read_fault : List ℕ
read_fault = line (codes "read fault")

abbrev pub write_fault : List ℕ
write_fault = line (codes "write fault")

abbrev pub want_of_memory : List ℕ
want_of_memory = line (codes "want of memory")

-- the line of a name and of what is told beside it
abbrev pub told_line : List ℕ → Beside → List ℕ
told_line name beside.Nothing = line name
told_line name (beside.Number n) = numbered name (decimal n)
told_line name (beside.Signed z) = signed_line name z
told_line name (beside.Record at) = at_record at name
told_line name (beside.Line at) = at_line at name
told_line name beside.Words = line name
told_line name beside.Read = read_fault
told_line name beside.Write = write_fault
told_line name beside.Memory = want_of_memory

-- the name of a failure, and what is told beside it: those of the fault behind it
abbrev pub told_of : Failure → List ℕ × Beside
told_of (failure.Text f) = text_told f
told_of (failure.Unread f) = unread_told f
told_of (failure.Sched f) = sched_told f
told_of (failure.Run f) = run_told f
told_of (failure.Solve f) = oracle_told f
told_of (failure.Check f) = check_told f
told_of (failure.OnTime f) = on_time_told f
told_of failure.NotFixed = (codes "NotFixed", beside.Nothing)
told_of (failure.Load f) = unsettled_told f
told_of (failure.Import f) = import_told f
told_of (failure.Arrivals f) = arrivals_told f
told_of (failure.Words r) = (codes "Words", beside.Words)
told_of failure.Write = (codes "Write", beside.Write)
told_of failure.Memory = (codes "Memory", beside.Memory)

-- the line on a line that a recorder printed
abbrev pub PrintedAs : ℕ → LineReason → (List ℕ → Type 0) → Type 0
PrintedAs at printed.Memory P = P want_of_memory
PrintedAs at printed.TooLong P = OwnLine P
PrintedAs at w P = P (at_line at (line_reason_name w))

abbrev pub PrintedLine : LineFault → (List ℕ → Type 0) → Type 0
PrintedLine f P = PrintedAs f.at f.why P

-- of what a capture is refused for, and of arrivals that are no script
abbrev pub ImportLine : ImportFault → (List ℕ → Type 0) → Type 0
ImportLine capture.Memory P = P want_of_memory
ImportLine (capture.TooMany n) P = OwnLine P

abbrev pub ArrivalsLine : ArrivalsFault → (List ℕ → Type 0) → Type 0
ArrivalsLine arrivals.Memory P = P want_of_memory
ArrivalsLine fault P = OwnLine P

-- this holds of the line on a failure
abbrev pub LineOn : Failure → (List ℕ → Type 0) → Type 0
LineOn (failure.Unread (unread.Line f)) P = PrintedLine f P
LineOn (failure.Import f) P = ImportLine f P
LineOn (failure.Arrivals f) P = ArrivalsLine f P
LineOn (failure.Words r) P = OwnLine P
LineOn f P = P (told_line (told_of f).0 (told_of f).1)

-- the status: 3 for what came from outside, 2 for words, 1 for what is refused
abbrev pub status_of : Failure → ℕ
status_of f = status_beside (told_of f).1
