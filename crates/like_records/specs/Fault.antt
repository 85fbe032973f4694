-- The faults for the errors of CSV's reader.
use Rattle.csv.specs.declared.error.ErrorKind.{ErrorKind, ErrorKind as kind}
use Rattle.like_records.specs.declared.fault.RecordsFault.{RecordsFault, RecordsFault as fault}

-- the fault for an error: the reader underneath failed, or else memory ran out
abbrev pub fault_of : ErrorKind → RecordsFault
fault_of (kind.Io e) = fault.Read
fault_of error = fault.Memory
