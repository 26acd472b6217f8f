use Rattle.serde_json.specs.View.{view}
use Rattle.vx_json.specs.Plans.{plan_in}
use Rattle.vx_json.proofs.PlanLaws.{parsed-read, Gives-json_error}
use Rattle.vx_json.proofs.OutcomeLaws.{Gives-refused}
use Rattle.vx_json.proofs.plans.parse_plan.Goals as goal

pub returns-in_err-json : goal.returns-in_err-json
returns-in_err-json c = Gives-json_error c.args.bytes.now _ c.in_err-json.field-0.0 c.from_residual.result c.from_residual.ensures.1 c.in_err-json.ensures.err

pub returns-in_err-plan : goal.returns-in_err-plan
returns-in_err-plan c =
    rw (parsed-read c.args.bytes.now _ c.in_ok-json.ensures.ok.0 c.in_ok-json.ensures.ok.1)
    (Gives-refused (plan_in (view c.in_ok-json.json)) _ c.in_err-plan.field-0.0 c.from_residual-in_err-plan.result c.from_residual-in_err-plan.ensures.1 c.in_err-plan.ensures.gives)

pub returns : goal.returns
returns c = rw (parsed-read c.args.bytes.now _ c.in_ok-json.ensures.ok.0 c.in_ok-json.ensures.ok.1, c.in_ok-plan.ensures.gives, c.in_ok-plan.ensures.noted)
