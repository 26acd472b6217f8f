use Rattle.std.proofs.Common.{◌∙◌, ◌||◌, List, String, Global, ap}
use Rattle.serde_json.specs.Data.{Data, object}
use Rattle.serde_json.specs.View.{members_view}
use Rattle.serde_json.specs.declared.value.Value.{Value}
use Rattle.serde_json.proofs.Views.{view-Object}
use Rattle.vx_json.specs.Plans.{has_long}
use Rattle.vx_json.proofs.LongLaws.{noted-taken, taken-absent, taken-is}
use Rattle.vx_json.proofs.owned.taken_member.Goals as goal

pub returns-in-Some-clause-is : goal.returns-in-Some-clause-is
returns-in-Some-clause-is c = taken-is c.args.name.now c.args.fields.entries c.in-Some.found c.in-Some.ensures.value

pub returns-in-Some-clause-noted : goal.returns-in-Some-clause-noted
returns-in-Some-clause-noted c = noted-taken _ c.args.fields.entries c.remove.new.self.entries c.in-Some.found c.args.long.now c.note_members.new.long c.in-Some.ensures.value c.in-Some.ensures.entries c.note_members.ensures

pub returns-in-None-clause-is : goal.returns-in-None-clause-is
returns-in-None-clause-is c =
    view-Object c.remove.new.self ∙ (ap (λ (es : List (String Global × Value)). object (members_view es)) c.in-None.ensures.unchanged ∙ taken-absent c.args.name.now c.args.fields.entries c.in-None.ensures.value)

pub returns-in-None-clause-noted : goal.returns-in-None-clause-noted
returns-in-None-clause-noted c =
    ap (λ (d : Data). c.args.long.now || has_long d) (view-Object c.remove.new.self ∙ ap (λ (es : List (String Global × Value)). object (members_view es)) c.in-None.ensures.unchanged)
