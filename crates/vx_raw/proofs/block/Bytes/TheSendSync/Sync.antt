use denote.Param.Send.{IsSync}
use Rattle.vx_raw.proofs.Crosses.{bytes_shared}
use Rattle.vx_raw.specs.contracts.block.Bytes.{the_row}

pub sync : IsSync the_row
sync = bytes_shared
