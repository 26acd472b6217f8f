use denote.Param.Send.{IsSend}
use Rattle.vx_raw.proofs.Crosses.{bytes_move}
use Rattle.vx_raw.specs.contracts.block.Bytes.{the_row}

pub send : IsSend the_row
send = bytes_move
