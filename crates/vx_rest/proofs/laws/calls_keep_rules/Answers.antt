use Rattle.vx_rest.proofs.laws.calls_keep_rules.Goals as goal
use Rattle.vx_rest.proofs.FitLemmas.{Filter-keeps, Project-keeps, Limit-keeps, Group-keeps, Order-keeps, Top-keeps}
use Rattle.vx_rest.proofs.RowCallLaws.{Limit-takes, Limit-gives, Order-takes, Order-gives, Top-takes, Top-gives}
use Rattle.vx_rest.proofs.QueueCallLaws.{Values-give, Exchange-takes, Exchange-gives, Top-last}
use Rattle.vx_rest.proofs.GroupCallLaws.{Group-takes, Group-stays, Group-gives}
use Rattle.vx_rest.proofs.JoinHandLaws.{Stays-call, Gives-call, Answers-call, Leaves-call}
use Rattle.std.specs.Prelude.{[]}

pub returns-clause-filters : goal.returns-clause-filters
returns-clause-filters c = Filter-keeps

pub returns-clause-projects : goal.returns-clause-projects
returns-clause-projects c = Project-keeps

pub returns-clause-limit_takes : goal.returns-clause-limit_takes
returns-clause-limit_takes c = λ offset count old new taken h. Limit-keeps offset count old new taken [] (Limit-takes old new taken h.rows h.skip h.left)

pub returns-clause-limit_gives : goal.returns-clause-limit_gives
returns-clause-limit_gives c = λ offset count old new put h. Limit-keeps offset count old new [] put (Limit-gives old new put h.rows h.skip h.left)

pub returns-clause-group_takes : goal.returns-clause-group_takes
returns-clause-group_takes c = λ step keys aggregates old new taken h. Group-keeps step keys aggregates old new taken [] (Group-takes step keys aggregates old new taken h.going h.same)

pub returns-clause-group_stays : goal.returns-clause-group_stays
returns-clause-group_stays c = λ step keys aggregates old new h. Group-keeps step keys aggregates old new [] [] (Group-stays step keys aggregates old new h.ends h.same)

pub returns-clause-group_gives : goal.returns-clause-group_gives
returns-clause-group_gives c = λ step keys aggregates old new gone put h. Group-keeps step keys aggregates old new [] put (Group-gives step keys aggregates old new gone put h.ended h.same h.apart h.is)

pub returns-clause-order_takes : goal.returns-clause-order_takes
returns-clause-order_takes c = λ keys old new taken h. Order-keeps keys old new taken [] (Order-takes keys old new taken h.ends h.same)

pub returns-clause-order_gives : goal.returns-clause-order_gives
returns-clause-order_gives c = λ keys old new put h. Order-keeps keys old new [] put (Order-gives keys old new put h)

pub returns-clause-top_takes : goal.returns-clause-top_takes
returns-clause-top_takes c = λ count keys old new taken h left. Top-keeps count keys old new taken [] (Top-takes keys old new taken h.ends h.same left)

pub returns-clause-top_gives : goal.returns-clause-top_gives
returns-clause-top_gives c = λ count keys old new put h left. Top-keeps count keys old new [] put (Top-gives keys old new put h left)

pub returns-clause-top_last : goal.returns-clause-top_last
returns-clause-top_last c = Top-last

pub returns-clause-values_give : goal.returns-clause-values_give
returns-clause-values_give c = Values-give

pub returns-clause-exchange_takes : goal.returns-clause-exchange_takes
returns-clause-exchange_takes c = Exchange-takes

pub returns-clause-exchange_gives : goal.returns-clause-exchange_gives
returns-clause-exchange_gives c = Exchange-gives

pub returns-clause-join_stays : goal.returns-clause-join_stays
returns-clause-join_stays c = Stays-call

pub returns-clause-probes_answered : goal.returns-clause-probes_answered
returns-clause-probes_answered c = Answers-call

pub returns-clause-owed_given : goal.returns-clause-owed_given
returns-clause-owed_given c = Gives-call

pub returns-clause-builds_leave : goal.returns-clause-builds_leave
returns-clause-builds_leave c = Leaves-call
