use Rattle.std.proofs.Common.{◌≡◌, ◌==◌, count_by, ◌∙◌, rules}
use Rattle.std.proofs.iter.runs.Made.{chains}
use Rattle.rowtable.specs.declared.transition.Transition.{Transition}
use Rattle.rowtable.proofs.Counting.{counted}
use Rattle.rowtable.proofs.rows.RowsProcess.degree.Goals as goal

pub returns : goal.returns
returns c =
    let e : c.count.result ≡ count_by (λ (r : Transition). r.from == c.args.s) c.args.self.now.rows.now = search (rules, chains) in
    e ∙ counted c.args.s c.args.self.now.rows.now
