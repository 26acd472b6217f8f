-- What the field of a `Seat` means. No public clause cites this module.
use Rattle.std.specs.Prelude.{◌≡◌, []}
use Rattle.vx_board.specs.Seats.{Known}
use Rattle.vx_board.specs.declared.board.Seat.TheInside.{Inside}

abbrev pub known_of : Inside → Known
known_of seat = record {
  table = seat.token.table_id;
  view = seat.token.me.0;
}

-- a board's table has no slots that a seat could hold
abbrev pub HasNoSlots : Inside → Type 0
HasNoSlots seat = seat.token.me.1 ≡ []
