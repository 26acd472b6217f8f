-- What a row of typed buffers gives: a value or a fault, by its mark.
use Rattle.std.specs.Prelude.{ℕ, ◌||◌, if◌then◌else◌, nat_eq, nat_le, nat_lt, Option, Some, None}
use Rattle.vx_value.specs.declared.value.Value.{Value}
use Rattle.vx_expr.specs.declared.outcome.Fault.{Fault}
use Rattle.vx_expr.specs.declared.outcome.Fault.TheVariants.{Overflow, DivideByZero, TooLong}
use Rattle.vx_expr.specs.declared.outcome.Got.{Got}
use Rattle.vx_expr.specs.declared.outcome.Got.TheVariants as got
use Rattle.vx_expr.specs.Eval.{null}
use Rattle.vx_vector.specs.Lane.{Lane}
use Rattle.vx_vector.specs.Lanes.{lane_at}
use Rattle.vx_vector.specs.declared.lanes.Lanes.{Lanes}

-- the marks 2, 3 and 4 are those of the three faults
abbrev pub fault_of : ℕ → Fault
fault_of mark = if nat_eq mark 2 then Overflow else if nat_eq mark 3 then DivideByZero else TooLong

-- mark 0 gives what stands in the buffer, mark 1 null, the others a fault
abbrev pub got_under : ℕ → Value → Got
got_under mark raw = if nat_eq mark 0 then got.Value raw else if nat_eq mark 1 then null else got.Fault (fault_of mark)

abbrev pub got_of : Lane → Got
got_of l = got_under l.mark l.raw

-- what a row gives
abbrev pub got_at : Lanes → ℕ → Got
got_at l row = got_of (lane_at l row)

-- the fault of a mark, if it is one's
abbrev pub fault_under : ℕ → Option Fault
fault_under mark = if nat_lt mark 2 then None else Some (fault_of mark)

-- the mark of a strict function's row before it is computed: the leftmost fault, else null where a side is
abbrev pub strictest : ℕ → ℕ → ℕ
strictest left right = if nat_le 2 left || nat_lt right left then left else right

-- a strict function's mark: that of its arguments, or else its own
abbrev pub marked : ℕ → ℕ → ℕ
marked before own = if nat_eq before 0 then own else before
