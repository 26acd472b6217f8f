-- Whether a node gives its rows to one driver or to many, or which node is the first that may not stand there.
use Rattle.std.specs.Prelude.{ℕ, Bool, true, false, if◌then◌else◌, nat_eq, List, [], ◌∷◌, Result, Ok, Err}
use Rattle.std.specs.List.{list_all, list_any}
use Rattle.vx_plan.specs.declared.aggregate.Step.{Step}
use Rattle.vx_plan.specs.declared.aggregate.Step.TheVariants.{Partial}
use Rattle.vx_plan.specs.declared.node.ExchangeKind.{ExchangeKind}
use Rattle.vx_plan.specs.declared.node.ExchangeKind.TheVariants.{Gather, Hash}
use Rattle.vx_plan.specs.declared.refusal.Refusal.{Refusal}
use Rattle.vx_plan.specs.declared.refusal.Refusal.TheVariants.{P5}
use Rattle.vx_plan.specs.declared.widths.Width.{Width}
use Rattle.vx_plan.specs.declared.widths.Width.TheVariants.{One, Many}
use Rattle.vx_plan.specs.Outcome.{on_ok}
use Rattle.vx_plan.specs.Tree.{Tree, values, over, join, Own, filter, project, aggregation, order, topn, limit, exchange, id_of}

abbrev pub is_one : Width → Bool
is_one One = true
is_one Many = false

-- one, where the source is one
abbrev pub from_one : ℕ → Width → Result Width Refusal
from_one id width = if is_one width then Ok One else Err (P5 id)

-- whether a source is itself a hash exchange whose keys are all among these
abbrev pub is_dealt_by : List ℕ → Tree → Bool
is_dealt_by keys (over id (exchange Hash dealt) source) = list_all (λ key. list_any (nat_eq key) keys) dealt
is_dealt_by keys _ = false

-- equal keys meet in one driver where the source is one, or is dealt out by some of these keys
abbrev pub width_grouped : ℕ → List ℕ → Tree → Width → Result Width Refusal
width_grouped id [] source width = from_one id width
width_grouped id (key ∷ keys) source width =
    if is_one width then Ok One else if is_dealt_by (key ∷ keys) source then Ok width else Err (P5 id)

-- a partial aggregation may be dealt out anyhow
abbrev pub width_aggregated : ℕ → Step → List ℕ → Tree → Width → Result Width Refusal
width_aggregated id Partial keys source width = Ok width
width_aggregated id step keys source width = width_grouped id keys source width

abbrev pub width_exchanged : ExchangeKind → Width
width_exchanged Gather = One
width_exchanged Hash = Many

abbrev pub width_over : ℕ → Own → Tree → Width → Result Width Refusal
width_over id (filter predicate) source width = Ok width
width_over id (project es) source width = Ok width
width_over id (aggregation step keys aggregates) source width = width_aggregated id step keys source width
width_over id (order keys) source width = from_one id width
width_over id (topn count keys) source width = from_one id width
width_over id (limit offset count) source width = from_one id width
width_over id (exchange kind keys) source width = Ok (width_exchanged kind)

-- a node's width; sources come before it, left before right, and a join's right source may have any width
abbrev pub width : Tree → Result Width Refusal
width (values id kinds rows parallel) = Ok (if parallel then Many else One)
width (over id own source) = on_ok (width source) (width_over id own source)
width (join id kind on_left on_right left right) =
    on_ok (width left) (λ w. on_ok (width right) (λ _. from_one id w))

-- the first node in post-order whose width isn't lawful refuses; the root comes last and must itself be one
abbrev pub check_widths : Tree → Result Unit Refusal
check_widths t = on_ok (width t) (λ w. on_ok (from_one (id_of t) w) (λ _. Ok tt))
