use Rattle.std.proofs.Common.{rules}
use Rattle.controller.proofs.Ties.{accounted}
use Rattle.controller.proofs.controller.Controller.admit.Goals as goal

pub returns-then-is_on-clause-accounted : goal.returns-then-is_on-clause-accounted
returns-then-is_on-clause-accounted g c = accounted _ (g.met.P.Process.limits c.args.plan.now, g.met.Q.Process.limits c.args.permit.now) _ _ _ (search rules) (search rules)

pub returns-in_err-map_err-clause-accounted : goal.returns-in_err-map_err-clause-accounted
returns-in_err-map_err-clause-accounted g c = accounted _ (g.met.P.Process.limits c.args.plan.now, g.met.Q.Process.limits c.args.permit.now) _ _ _ (search rules) (search rules)

pub returns-then-moves_in_all-gt-MAX_MOVES-clause-accounted : goal.returns-then-moves_in_all-gt-MAX_MOVES-clause-accounted
returns-then-moves_in_all-gt-MAX_MOVES-clause-accounted g c = accounted _ (g.met.P.Process.limits c.args.plan.now, g.met.Q.Process.limits c.args.permit.now) _ _ _ (search rules) (search rules)

pub returns-clause-accounted : goal.returns-clause-accounted
returns-clause-accounted g c = accounted _ (g.met.P.Process.limits c.args.plan.now, g.met.Q.Process.limits c.args.permit.now) _ _ _ (search rules) (search rules)
