-- How the arbitrator and a request keep what they keep. No public clause cites this module.
use Rattle.std.specs.Prelude.{◌≡◌, ℕ, ◌+◌, ◌-◌, ◌^◌, ◌<◌, ◌≤◌, false, IsTrue, Option, List, length, IfSome}
use Rattle.vx_arb.specs.declared.entries.Look.{Look}
use Rattle.vx_arb.specs.declared.entries.Entry.{Entry}
use Rattle.vx_arb.specs.declared.rows.Standing.{Standing}
use Rattle.vx_arb.specs.Log.{job_of, given, taken, is_retirement}
use Rattle.vx_arb.specs.Unmet.{AreSingle, IsJust}
use Rattle.vx_arb.specs.Rows.{is_live, capacity_at, max_in, with_capacity}
use Rattle.vx_arb.specs.Books.{Books, IsBooks, IsStanding}

-- the looks are single, and so many more fit in the list
pub record IsRequest (looks : List Look) (room capacity : ℕ) : Type 0 where
  pub single : AreSingle looks
  pub few : length looks + room < 2 ^ 32
  pub fits : length looks + room ≤ capacity

-- the books follow the rule, and the spare entries fit in the log
pub record IsKept (books : Books) (capacity : ℕ) : Type 0 where
  pub rule : IsBooks books
  pub fits : length books.log + books.spare ≤ capacity

-- an entry by which a job gives an amount, and stays live
pub record Takes (job amount : ℕ) (entry : Entry) : Type 0 where
  pub of : job_of entry ≡ job
  pub nothing : given entry ≡ 0
  pub amount_is : taken entry ≡ amount
  pub stays : (other : ℕ) → is_retirement other entry ≡ false

-- an entry can be written by which a live job gives an amount, and this stands afterwards
pub record MayTake (books : Books) (job amount : ℕ) (entry : Entry) (standing : Option Standing) : Type 0 where
  pub there : IsTrue (is_live books.live job)
  pub had : amount ≤ capacity_at books.live job
  pub takes : Takes job amount entry
  pub just : IsJust books.total books.admitted books.log entry
  pub seat : length books.live < books.spare
  pub then_stands : IfSome standing (IsStanding (with_capacity books.live job (capacity_at books.live job - amount)) (books.spare - 1))

-- an entry says how a job's capacity and the free one move, and this stands afterwards
pub record Writes (books : Books) (job : ℕ) (entry : Entry) (free capacity : ℕ) (standing : Option Standing) : Type 0 where
  pub there : IsTrue (is_live books.live job)
  pub of : job_of entry ≡ job
  pub stays : (other : ℕ) → is_retirement other entry ≡ false
  pub moves_free : free + given entry ≡ books.free + taken entry
  pub moves : capacity + taken entry ≡ capacity_at books.live job + given entry
  pub within : capacity ≤ max_in books.live job
  pub just : IsJust books.total books.admitted books.log entry
  pub seat : length books.live < books.spare
  pub then_stands : IfSome standing (IsStanding (with_capacity books.live job capacity) (books.spare - 1))
