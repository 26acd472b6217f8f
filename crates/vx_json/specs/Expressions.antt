-- Expressions: lists that begin with a word.
use Rattle.std.specs.Prelude.{ℕ, zero, suc, List, drop, Option, Some, None, option_map, Result, Ok}
use Rattle.serde_json.specs.Data.{Data, null, boolean, number, string, array, object}
use Rattle.serde_json.specs.Find.{as_i64}
use Rattle.vx_value.specs.declared.value.Kind.TheVariants as kind
use Rattle.vx_value.specs.declared.value.Value.TheVariants as value
use Rattle.vx_expr.specs.declared.expression.Expr.{Expr}
use Rattle.vx_expr.specs.declared.expression.Expr.TheVariants as expr
use Rattle.vx_json.specs.declared.lists.Count.TheVariants.{NotEmpty, Exactly}
use Rattle.vx_json.specs.declared.words.Head.{Head}
use Rattle.vx_json.specs.declared.words.Head.TheVariants.{Col, Lit, Null, Call}
use Rattle.vx_json.specs.Place.{Said, at_item, misfit, and_then}
use Rattle.vx_json.specs.Lists.{or_misfit, sized, items_at, item_of, each_from, list_at}
use Rattle.vx_json.specs.Words.{word_at, kinds, heads}
use Rattle.vx_json.specs.Fields.{small_at}
use Rattle.vx_json.specs.Cells.{kept}

-- a literal: true, false, a whole number within 64 bits, or a string
abbrev pub literal_of : Data → Option Expr
literal_of null = None
literal_of (boolean b) = Some (expr.Literal (value.Bool b) kind.Bool)
literal_of (number n) = option_map (λ z. expr.Literal (value.Int z) kind.Int) (as_i64 n)
literal_of (string s) = Some (expr.Literal (value.Text (kept s)) kind.Text)
literal_of (array ds) = None
literal_of (object ms) = None

-- `["col", n]`
abbrev pub column_of : List ℕ → List Data → Result Expr Said
column_of path ds = and_then (sized (Exactly 2) path ds) (λ _. and_then (small_at (at_item path 1) (item_of ds 1)) (λ n. Ok (expr.Column n)))

-- `["lit", v]`
abbrev pub lit_of : List ℕ → List Data → Result Expr Said
lit_of path ds = and_then (sized (Exactly 2) path ds) (λ _. or_misfit (at_item path 1) (literal_of (item_of ds 1)))

-- `["null", kind]`
abbrev pub null_of : List ℕ → List Data → Result Expr Said
null_of path ds = and_then (sized (Exactly 2) path ds) (λ _. and_then (word_at kinds (at_item path 1) (item_of ds 1)) (λ k. Ok (expr.Literal value.Null k)))

-- what a list that begins with this word is, its arguments being read in this way
abbrev pub headed : (List ℕ → Data → Result Expr Said) → List ℕ → List Data → Head → Result Expr Said
headed reads path ds Col = column_of path ds
headed reads path ds Lit = lit_of path ds
headed reads path ds Null = null_of path ds
headed reads path ds (Call func) = and_then (each_from (λ _. reads) path 1 (drop 1 ds)) (λ args. Ok (expr.Call func args))

-- the word that a list begins with
abbrev pub head_of : List ℕ → List Data → Result Head Said
head_of path ds = word_at heads (at_item path 0) (item_of ds 0)

-- an expression of at most so many levels
unfoldable pub expr_at : ℕ → List ℕ → Data → Result Expr Said
expr_at zero path d = misfit path
expr_at (suc levels) path d =
    and_then (items_at NotEmpty path d) (λ ds.
    and_then (head_of path ds) (λ head.
    headed (expr_at levels) path ds head))

-- a list of expressions that isn't empty
abbrev pub exprs_at : ℕ → List ℕ → Data → Result (List Expr) Said
exprs_at levels path d = list_at NotEmpty (λ _. expr_at levels) path d
