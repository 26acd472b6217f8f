-- The closed lists of words in a plan file.
use Rattle.std.specs.Prelude.{ℕ, Bool, true, false, if◌then◌else◌, List, [], ◌∷◌, codes, Option, Some, None, Result, Ok, Err}
use Rattle.std.specs.Str.{bytes_eq}
use Rattle.serde_json.specs.Data.{Data}
use Rattle.serde_json.specs.Find.{as_str}
use Rattle.vx_value.specs.declared.value.Kind.{Kind}
use Rattle.vx_value.specs.declared.value.Kind.TheVariants as kind
use Rattle.vx_expr.specs.declared.expression.Func.TheVariants as func
use Rattle.vx_plan.specs.declared.aggregate.Step.{Step}
use Rattle.vx_plan.specs.declared.aggregate.Step.TheVariants as step
use Rattle.vx_plan.specs.declared.aggregate.AggregateName.{AggregateName}
use Rattle.vx_plan.specs.declared.aggregate.AggregateName.TheVariants as aggregate
use Rattle.vx_plan.specs.declared.node.JoinKind.{JoinKind}
use Rattle.vx_plan.specs.declared.node.JoinKind.TheVariants as join
use Rattle.vx_plan.specs.declared.node.ExchangeKind.{ExchangeKind}
use Rattle.vx_plan.specs.declared.node.ExchangeKind.TheVariants as exchange
use Rattle.vx_json.specs.declared.words.NodeWord.{NodeWord}
use Rattle.vx_json.specs.declared.words.NodeWord.TheVariants as node
use Rattle.vx_json.specs.declared.words.Head.{Head}
use Rattle.vx_json.specs.declared.words.Head.TheVariants.{Col, Lit, Null, Call}
use Rattle.vx_json.specs.Place.{Said, p3, and_then}
use Rattle.vx_json.specs.Lists.{or_misfit}

-- words, and what each names
abbrev pub Table : Type 0 → Type 0
Table T = List (List ℕ × T)

-- what a word names
abbrev pub named : {T : Type 0} → Table T → List ℕ → Option T
named [] word = None
named (entry ∷ rest) word = if bytes_eq word entry.0 then Some entry.1 else named rest word

-- a word that isn't in its list is unknown
abbrev pub or_unknown : {T : Type 0} → List ℕ → Option T → Result T Said
or_unknown path (Some thing) = Ok thing
or_unknown path None = Err (p3 path)

-- what the word there names, first of all a string
abbrev pub word_at : {T : Type 0} → Table T → List ℕ → Data → Result T Said
word_at table path d = and_then (or_misfit path (as_str d)) (λ word. or_unknown path (named table word))

abbrev pub kinds : Table Kind
kinds = (codes "bool", kind.Bool) ∷ (codes "int", kind.Int) ∷ (codes "text", kind.Text) ∷ []

abbrev pub steps : Table Step
steps = (codes "single", step.Single) ∷ (codes "partial", step.Partial) ∷ (codes "final", step.Final) ∷ []

abbrev pub joins : Table JoinKind
joins = (codes "inner", join.Inner) ∷ (codes "left", join.Left) ∷ (codes "right", join.Right) ∷ (codes "full", join.Full)
    ∷ (codes "semi", join.Semi) ∷ (codes "anti", join.Anti) ∷ []

abbrev pub exchanges : Table ExchangeKind
exchanges = (codes "gather", exchange.Gather) ∷ (codes "hash", exchange.Hash) ∷ []

abbrev pub aggregates : Table AggregateName
aggregates = (codes "count", aggregate.Count) ∷ (codes "sum", aggregate.Sum) ∷ (codes "min", aggregate.Min)
    ∷ (codes "max", aggregate.Max) ∷ (codes "bool_and", aggregate.BoolAnd) ∷ (codes "bool_or", aggregate.BoolOr) ∷ []

-- whether an order descends
abbrev pub directions : Table Bool
directions = (codes "asc", false) ∷ (codes "desc", true) ∷ []

-- whether nulls stand first
abbrev pub null_places : Table Bool
null_places = (codes "first", true) ∷ (codes "last", false) ∷ []

abbrev pub nodes : Table NodeWord
nodes = (codes "values", node.Values) ∷ (codes "filter", node.Filter) ∷ (codes "project", node.Project)
    ∷ (codes "aggregation", node.Aggregation) ∷ (codes "join", node.Join) ∷ (codes "order", node.Order)
    ∷ (codes "topn", node.TopN) ∷ (codes "limit", node.Limit) ∷ (codes "exchange", node.Exchange) ∷ []

-- what an expression begins with
abbrev pub heads : Table Head
heads = (codes "col", Col) ∷ (codes "lit", Lit) ∷ (codes "null", Null)
    ∷ (codes "plus", Call func.Plus) ∷ (codes "minus", Call func.Minus) ∷ (codes "multiply", Call func.Multiply)
    ∷ (codes "divide", Call func.Divide) ∷ (codes "modulus", Call func.Modulus) ∷ (codes "negate", Call func.Negate)
    ∷ (codes "eq", Call func.Eq) ∷ (codes "neq", Call func.Neq) ∷ (codes "lt", Call func.Lt) ∷ (codes "lte", Call func.Lte)
    ∷ (codes "gt", Call func.Gt) ∷ (codes "gte", Call func.Gte) ∷ (codes "not", Call func.Not) ∷ (codes "and", Call func.And)
    ∷ (codes "or", Call func.Or) ∷ (codes "is_null", Call func.IsNull) ∷ (codes "if", Call func.If)
    ∷ (codes "coalesce", Call func.Coalesce) ∷ (codes "try", Call func.Try) ∷ (codes "concat", Call func.Concat)
    ∷ (codes "byte_length", Call func.ByteLength) ∷ (codes "starts_with", Call func.StartsWith) ∷ []
