pub mod ExpressionLaws
pub mod LineLaws
pub mod ListLaws
pub mod LongLaws
pub mod NodeLaws
pub mod OutcomeLaws
pub mod PlanLaws
pub mod PrintingLaws
