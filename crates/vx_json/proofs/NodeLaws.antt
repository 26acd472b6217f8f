-- A node, level by level.
use Rattle.std.proofs.Common.{◌≡◌, ◌∙◌, ap, ℕ, zero, suc, ◌-◌, ◌<◌, List, Bool, false, Some, None, is_some, unwrap_or, arith, refl, codes, Result, Ok, Err}
use Rattle.serde_json.specs.Data.{Data}
use Rattle.vx_value.specs.declared.value.Kind.{Kind}
use Rattle.vx_value.specs.declared.value.Value.{Value}
use Rattle.vx_plan.specs.declared.node.Node.{Node}
use Rattle.vx_plan.specs.declared.node.Body.TheVariants as body
use Rattle.vx_json.specs.declared.front.Opened.{Opened}
use Rattle.vx_json.specs.declared.front.Front.{Front}
use Rattle.vx_json.specs.declared.front.Front.TheVariants as front
use Rattle.vx_json.specs.declared.words.NodeWord.TheVariants as node
use Rattle.serde_json.specs.Find.{get}
use Rattle.vx_json.specs.Place.{Said, field, misfit, and_then}
use Rattle.vx_json.specs.Fields.{has, part, small_at}
use Rattle.vx_json.specs.Cells.{kinds_at, rows_at}
use Rattle.vx_json.specs.Nodes.{node_at, node_form, opened_at, body_at, front_at, values_at, values_body_at, values_node_at, parallel_at}

-- past the last level nothing is read
pub node_at-zero : (path : List ℕ) (d : Data) → node_at 0 path d ≡ misfit path
unfolding node_at
node_at-zero path d = refl

-- a level, and those below it
pub node_at-more : (levels : ℕ) (path : List ℕ) (d : Data) → 0 < levels
    → node_at levels path d ≡ and_then (opened_at path d) (λ opened. and_then (body_at (node_at (levels - 1)) opened.front path d) (λ body. Ok (record { id = opened.id; body = body })))
unfolding node_at
node_at-more zero path d more = absurd (omega arith)
node_at-more (suc levels) path d more =
    let same : suc levels - 1 ≡ levels = omega arith in
    rw same refl

-- ---- a values node, read in one

abbrev own_of : ℕ → List ℕ → Data → ℕ → Front → Result Node Said
own_of levels path d id own = and_then (body_at (node_at levels) own path d) (λ body. Ok (record { id = id; body = body }))

values-parallel : (levels : ℕ) (path : List ℕ) (d : Data) (id : ℕ) (kinds : List Kind) (rows : List (List Value)) (parallel : Result Bool Said)
    → and_then (and_then parallel (λ p. Ok (front.Values kinds rows p))) (own_of levels path d id) ≡ and_then (and_then parallel (λ p. Ok (body.Values kinds rows p))) (λ body. Ok (record { id = id; body = body }))
values-parallel levels path d id kinds rows (Ok p) = refl
values-parallel levels path d id kinds rows (Err said) = refl

values-rows : (levels : ℕ) (path : List ℕ) (d : Data) (id : ℕ) (kinds : List Kind) (rows : Result (List (List Value)) Said) (parallel : Result Bool Said)
    → and_then (and_then rows (λ all. and_then parallel (λ p. Ok (front.Values kinds all p)))) (own_of levels path d id)
    ≡ and_then (and_then rows (λ all. and_then parallel (λ p. Ok (body.Values kinds all p)))) (λ body. Ok (record { id = id; body = body }))
values-rows levels path d id kinds (Ok all) parallel = values-parallel levels path d id kinds all parallel
values-rows levels path d id kinds (Err said) parallel = refl

values-kinds : (levels : ℕ) (path : List ℕ) (d : Data) (id : ℕ) (kinds : Result (List Kind) Said) (rows : List Kind → Result (List (List Value)) Said) (parallel : Result Bool Said)
    → and_then (and_then kinds (λ ks. and_then (rows ks) (λ all. and_then parallel (λ p. Ok (front.Values ks all p))))) (own_of levels path d id)
    ≡ and_then (and_then kinds (λ ks. and_then (rows ks) (λ all. and_then parallel (λ p. Ok (body.Values ks all p))))) (λ body. Ok (record { id = id; body = body }))
values-kinds levels path d id (Ok ks) rows parallel = values-rows levels path d id ks (rows ks) parallel
values-kinds levels path d id (Err said) rows parallel = refl

abbrev opened_as : ℕ → Front → Result Opened Said
opened_as id own = Ok (record { id = id; front = own })

own-opened : (levels : ℕ) (path : List ℕ) (d : Data) (id : ℕ) (own : Result Front Said)
    → and_then (and_then own (opened_as id)) (λ (opened : Opened). own_of levels path d opened.id opened.front) ≡ and_then own (own_of levels path d id)
own-opened levels path d id (Ok f) = refl
own-opened levels path d id (Err said) = refl

id-values : (levels : ℕ) (path : List ℕ) (d : Data) (id : Result ℕ Said)
    → and_then (and_then id (λ n. and_then (values_at path d) (λ own. Ok (record { id = n; front = own })))) (λ (opened : Opened). own_of levels path d opened.id opened.front)
    ≡ and_then id (λ n. and_then (values_body_at path d) (λ body. Ok (record { id = n; body = body })))
id-values levels path d (Ok n) = own-opened levels path d n (values_at path d) ∙ values-kinds levels path d n (part (codes "kinds") kinds_at path d) (λ ks. part (codes "rows") (rows_at ks) path d) (parallel_at path d)
id-values levels path d (Err said) = refl

opened-values : (path : List ℕ) (d : Data) → node_form path d ≡ Ok node.Values → opened_at path d ≡ and_then (part (codes "id") small_at path d) (λ id. and_then (values_at path d) (λ own. Ok (record { id = id; front = own })))
opened-values path d is = ap (λ form. and_then form (λ word. and_then (part (codes "id") small_at path d) (λ id. and_then (front_at word path d) (λ own. Ok (record { id = id; front = own }))))) is

pub node_at-values : (levels : ℕ) (path : List ℕ) (d : Data) → 0 < levels → node_form path d ≡ Ok node.Values
    → node_at levels path d ≡ values_node_at path d
node_at-values levels path d more is =
    node_at-more levels path d more ∙ ap (λ read. and_then read (λ (opened : Opened). own_of (levels - 1) path d opened.id opened.front)) (opened-values path d is) ∙ id-values (levels - 1) path d (part (codes "id") small_at path d)

-- ---- a field that is there or not

pub field-absent : (name : List ℕ) (d : Data) → has d name ≡ false → d ≡ field name d
field-absent name d = elim (get name d) as (λ found. is_some found ≡ false → d ≡ unwrap_or found d) [ None ↦ (λ is. refl) | Some x ↦ (λ is. absurd (cc)) ]

pub ruleset fields = (field-absent)

pub ruleset levels = (node_at-zero, node_at-more)

pub ruleset owned = (node_at-zero, node_at-values, node_at-more)
