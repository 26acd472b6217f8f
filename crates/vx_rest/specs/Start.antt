-- A query that has just started, and where its plan lets nodes have one driver or many.
use Rattle.std.specs.Prelude.{◌≡◌, ◌⊎◌, ℕ, ◌<◌, true, false, List, [], ◌∷◌, IsPermutation, ⊤}
use Rattle.vx_plan.specs.declared.aggregate.Step.{Step}
use Rattle.vx_plan.specs.declared.aggregate.Step.TheVariants.{Partial}
use Rattle.vx_plan.specs.declared.widths.Width.TheVariants.{One}
use Rattle.vx_plan.specs.Tree.{Tree, values, over, join, Own, filter, project, aggregation, topn, limit, exchange}
use Rattle.vx_plan.specs.Width.{width_of}
use Rattle.vx_plan.specs.Widths.{is_dealt_by}
use Rattle.vx_rest.specs.Lists.{together, drivers_of}
use Rattle.vx_rest.specs.Held.{Held, HeldJoin, Holding, first_groups}

-- a new operator
abbrev pub new_held : Own → Held
new_held (aggregation step keys aggregates) =
    record { rows = []; skip = 0; left = 0; groups = first_groups keys aggregates; ended = false }
new_held (topn count keys) = record { rows = []; skip = 0; left = count; groups = []; ended = false }
new_held (limit offset count) = record { rows = []; skip = offset; left = count; groups = []; ended = false }
new_held own = record { rows = []; skip = 0; left = 0; groups = []; ended = false }

-- a new join
abbrev pub new_join : HeldJoin
new_join = record { build = []; deferred = []; owed = []; built = false; ended = false }

-- values nodes have all their rows, every other operator is new
abbrev pub AreNew : ℕ → Holding → Tree → Type 0
AreNew drivers q (values id kinds all parallel) =
    IsPermutation all (together (drivers_of drivers (values id kinds all parallel)) (λ driver. (q.held id driver).rows))
AreNew drivers q (over id own source) = AreNew drivers q source
    × ((driver : ℕ) → driver < drivers_of drivers (over id own source) → q.held id driver ≡ new_held own)
AreNew drivers q (join id kind left_keys right_keys left right) = AreNew drivers q left × AreNew drivers q right
    × (q.join id ≡ new_join)

-- all hands are empty, and nothing has come out
pub record IsAtStart (drivers : ℕ) (q : Holding) (t : Tree) : Type 0 where
  pub new : AreNew drivers q t
  pub hands : (id driver : ℕ) → q.hand id driver ≡ []
  pub out : q.out ≡ []

-- rows of one key come to one driver
abbrev pub ComeTogether : List ℕ → Tree → Type 0
ComeTogether [] source = width_of source ≡ One
ComeTogether (key ∷ keys) source = (width_of source ≡ One) ⊎ (is_dealt_by (key ∷ keys) source ≡ true)

-- a partial step asks nothing
abbrev pub AggregatesTogether : Step → List ℕ → Tree → Type 0
AggregatesTogether Partial keys source = ⊤
AggregatesTogether step keys source = ComeTogether keys source

-- what the check of widths asks of a node with one source
abbrev pub IsDealtWell : Own → Tree → Type 0
IsDealtWell (filter e) source = ⊤
IsDealtWell (project es) source = ⊤
IsDealtWell (aggregation step keys aggregates) source = AggregatesTogether step keys source
IsDealtWell (exchange kind keys) source = ⊤
IsDealtWell own source = width_of source ≡ One

-- of a node and all below it
abbrev pub AreDealtWell : Tree → Type 0
AreDealtWell (values id kinds all parallel) = ⊤
AreDealtWell (over id own source) = AreDealtWell source × IsDealtWell own source
AreDealtWell (join id kind left_keys right_keys left right) = AreDealtWell left × AreDealtWell right
    × (width_of left ≡ One)
