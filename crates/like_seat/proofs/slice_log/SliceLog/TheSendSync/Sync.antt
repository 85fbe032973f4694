-- A log owns nothing, so threads may share it.
use denote.Param.Send.{IsSync, cell_keyless}
use denote.Memory.{part_of, raw_all}
use Rattle.like_seat.specs.contracts.slice_log.SliceLog.{the_row}

pub sync : IsSync the_row
unfolding part_of
sync = record { shared = λ d b o κ. λ q vs. (cell_keyless q (raw_all the_row.mir) vs b o, ((λ _. (tt, tt)), tt)) }
