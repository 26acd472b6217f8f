-- The printed text of a refusal.
use Rattle.std.specs.Prelude.{ℕ, List, ◌++◌, codes, decimal, string_bytes}
use Rattle.vx_expr.specs.declared.outcome.TypeError.{TypeError}
use Rattle.vx_expr.specs.declared.outcome.TypeError.TheVariants.{T1, T2, T3, T4}
use Rattle.vx_plan.specs.declared.refusal.LimitName.{LimitName}
use Rattle.vx_plan.specs.declared.refusal.LimitName.TheVariants.{Nodes, Columns, Rows, Cells, Depth, Text, Growth}
use Rattle.vx_plan.specs.declared.refusal.Refusal.{Refusal}
use Rattle.vx_plan.specs.declared.refusal.Refusal.TheVariants.{P1, P2, P3, P4, P5, P6, P7}

-- a blank, and the name
abbrev pub error_text : TypeError → List ℕ
error_text T1 = codes " T1"
error_text T2 = codes " T2"
error_text T3 = codes " T3"
error_text T4 = codes " T4"

abbrev pub limit_text : LimitName → List ℕ
limit_text Nodes = codes "nodes"
limit_text Columns = codes "columns"
limit_text Rows = codes "rows"
limit_text Cells = codes "cells"
limit_text Depth = codes "depth"
limit_text Text = codes "text"
limit_text Growth = codes "growth"

abbrev pub refusal_text : Refusal → List ℕ
refusal_text P1 = codes "P1"
refusal_text (P2 path) = codes "P2 " ++ string_bytes path
refusal_text (P3 path) = codes "P3 " ++ string_bytes path
refusal_text (P4 id error) = codes "P4 node=" ++ decimal id ++ error_text error
refusal_text (P5 id) = codes "P5 node=" ++ decimal id
refusal_text (P6 name) = codes "P6 " ++ limit_text name
refusal_text (P7 id) = codes "P7 id=" ++ decimal id
