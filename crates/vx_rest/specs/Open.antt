-- Which parts of a query have nothing more to come, and which may have given rows already.
use Rattle.std.specs.Prelude.{◌≡◌, ℕ, ◌<◌, true, false, [], ⊤}
use Rattle.vx_plan.specs.Tree.{Tree, values, over, join, filter, project, aggregation, order, topn, limit, exchange}
use Rattle.vx_plan.specs.Width.{width_of}
use Rattle.vx_meaning.specs.Lines.{spread}
use Rattle.vx_rest.specs.Lists.{drivers_of}
use Rattle.vx_rest.specs.Held.{Holding}
use Rattle.vx_rest.specs.Through.{IsQuiet}
use Rattle.vx_rest.specs.Ends.{has_begun}

-- what is left stands in the queues of an exchange and in the hands behind it at most
abbrev pub IsClosed : ℕ → Holding → Tree → Type 0
IsClosed drivers q (over id (exchange kind keys) source) = IsQuiet drivers q source
IsClosed drivers q t = IsQuiet drivers q t

-- where a driver's input has ended nothing is left for it
abbrev pub IsEmptyFor : ℕ → Holding → Tree → ℕ → Type 0
IsEmptyFor drivers q (over id (exchange kind keys) source) driver = (q.hand id driver ≡ [])
    × ((q.held id driver).rows ≡ [])
IsEmptyFor drivers q t driver = ⊤

-- a node has got the whole lists of its source, up to what stands in an exchange before it
pub record HasWhole (drivers : ℕ) (q : Holding) (id count : ℕ) (source : Tree) : Type 0 where
  pub closed : IsClosed drivers q source
  pub empty : (driver : ℕ) → driver < count → (q.held id driver).ended ≡ true → IsEmptyFor drivers q source driver

-- The node may have given rows: below it each aggregation, order and join that first needs whole lists has got them.
abbrev pub IsOpen : ℕ → Holding → Tree → Type 0
IsOpen drivers q (values id kinds all parallel) = ⊤
IsOpen drivers q (over id (filter e) source) = IsOpen drivers q source
IsOpen drivers q (over id (project es) source) = IsOpen drivers q source
IsOpen drivers q (over id (aggregation step keys aggregates) source) =
    has_begun (spread step (width_of source)) (HasWhole drivers q id (drivers_of drivers (over id (aggregation step keys aggregates) source)) source) (IsOpen drivers q source)
IsOpen drivers q (over id (order keys) source) = HasWhole drivers q id 1 source
IsOpen drivers q (over id (topn count keys) source) = HasWhole drivers q id 1 source
IsOpen drivers q (over id (limit offset count) source) = IsOpen drivers q source
IsOpen drivers q (over id (exchange kind keys) source) = IsOpen drivers q source
IsOpen drivers q (join id kind left_keys right_keys left right) =
    IsQuiet drivers q right × ((q.join id).ended ≡ true → IsQuiet drivers q left)
    × ((q.join id).ended ≡ false → IsOpen drivers q left)
