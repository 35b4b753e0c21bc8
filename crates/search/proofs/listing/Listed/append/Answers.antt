use Rattle.std.proofs.Common.{arith, length-take-le}
use Rattle.std.proofs.lemmas.List.{take_more_set}
use Rattle.search.specs.Listed.{listed, room}
use Rattle.search.proofs.Rows.{ask_listed, ask_full, ask_new}
use Rattle.search.proofs.listing.Listed.append.Goals as goal

pub returns-then-is_some-clause-value : goal.returns-then-is_some-clause-value
returns-then-is_some-clause-value c =
    let l = c.args.self.now in
    ask_listed (listed l) c.args.row _ (rw c.as_slice.ensures at c.find_row.ensures) (room l) c.args.row.by c.if-is_some.ensures

pub returns-then-self-min-clause-value : goal.returns-then-self-min-clause-value
returns-then-self-min-clause-value c =
    let l = c.args.self.now in
    ask_full (listed l) c.args.row _ (rw c.as_slice.ensures at c.find_row.ensures) (room l) c.args.row.by c.if-is_some.ensures
    (omega (arith, length-take-le l.count l.rows.now))

pub returns-clause-value : goal.returns-clause-value
returns-clause-value c =
    let l = c.args.self.now in
    let a = ask_new (listed l) c.args.row _ (rw c.as_slice.ensures at c.find_row.ensures) (room l) c.args.row.by c.if-is_some.ensures
    (omega (arith, length-take-le l.count l.rows.now)) in
    grind (arith, take_more_set, a)
