-- Which fault a run stopped by.
use Rattle.std.specs.Prelude.{Result, Ok, Err, Bool, true, false}
use Rattle.ctl_session.specs.declared.fault.Fault.{Fault}
use Rattle.ctl_session.specs.declared.fault.Fault.TheVariants as run
use Rattle.ctl_session.specs.declared.fault.ReadingFault.{ReadingFault}
use Rattle.ctl_session.specs.declared.fault.ReadingFault.TheVariants as reading

-- the fault of a run whose reading stopped
abbrev pub run_fault : ReadingFault → Fault
run_fault reading.ReadFailed = run.Read
run_fault reading.TooManyLines = run.TooManyLines

-- the run stopped by a failed read
abbrev pub is_read_fault : {T : Type 0} → Result T Fault → Bool
is_read_fault (Ok value) = false
is_read_fault (Err run.Read) = true
is_read_fault (Err run.Write) = false
is_read_fault (Err run.TooManyLines) = false

-- the run stopped by a failed write
abbrev pub is_write_fault : {T : Type 0} → Result T Fault → Bool
is_write_fault (Ok value) = false
is_write_fault (Err run.Read) = false
is_write_fault (Err run.Write) = true
is_write_fault (Err run.TooManyLines) = false
