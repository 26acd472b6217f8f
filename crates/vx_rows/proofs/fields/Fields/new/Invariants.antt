use Rattle.vx_rows.proofs.LayoutLemmas.{HasFirst}
use Rattle.std.proofs.Common.{length, ◌+◌}
use Rattle.vx_rows.specs.Layout.{fields_of}
use Rattle.vx_rows.proofs.fields.Fields.new.Given as goal

abbrev pub invariant-loop-kind : goal.invariant-loop-kind
invariant-loop-kind l = HasFirst l.fields (fields_of l.kinds l.extras) l.kind-index

abbrev pub invariant-loop-extra : goal.invariant-loop-extra
invariant-loop-extra l = HasFirst l.fields (fields_of l.kinds l.extras) (length l.kinds + l.extra-index)
