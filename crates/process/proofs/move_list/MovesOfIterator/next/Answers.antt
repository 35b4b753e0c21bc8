use Rattle.std.proofs.Common.{◌+◌, ◌<◌, length, sym, ap, ◌∙◌, arith}
use Rattle.std.proofs.lemmas.Option.{slice_get_within}
use Rattle.process.specs.Moves.{left_of}
use Rattle.process.proofs.Giving.{gives, ends}
use Rattle.process.proofs.move_list.MovesOfIterator.next.Goals as goal

pub returns-in_err-m-clause-steps : goal.returns-in_err-m-clause-steps
returns-in_err-m-clause-steps g c =
    let e = ends _ c.args.self.now.at (sym c.move_at.ensures ∙ c.in_err-m.was) in
    rw c.from_residual.ensures (e, e)

pub overflow_add-self : goal.overflow_add-self
overflow_add-self g c =
    let l = slice_get_within _ c.args.self.now.at _ (sym c.move_at.ensures ∙ c.in_ok-m.was) in
    omega (arith, l, (g.met.P.Process.limits c.args.self.now.process.now).short_lists c.args.self.now.state)

pub returns-clause-steps : goal.returns-clause-steps
returns-clause-steps g c = gives _ c.args.self.now.at _ (sym c.move_at.ensures ∙ c.in_ok-m.was)

pub returns-clause-goes : goal.returns-clause-goes
returns-clause-goes g c =
    let l = sym (ap length (gives _ c.args.self.now.at _ (sym c.move_at.ensures ∙ c.in_ok-m.was))) in
    let lt : length (left_of g.P.Process.meaning (record { process = c.args.self.now.process; state = c.args.self.now.state; at = c.args.self.now.at + 1 })) < length (left_of g.P.Process.meaning c.args.self.now) = omega (arith, l) in
    record { on = λ _. (tt, tt, lt); keeps = tt; rests = λ _. tt }
