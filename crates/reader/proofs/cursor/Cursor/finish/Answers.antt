use Rattle.std.proofs.Common.{Ok, ap, ◌∙◌}
use Rattle.std.proofs.lemmas.Result.{err_from_is_err_and}
use Rattle.reader.proofs.Spots.{not_ended, bad_end, end_is}
use Rattle.reader.proofs.cursor.Cursor.finish.Goals as goal

pub returns-in_err-t : goal.returns-in_err-t
returns-in_err-t c =
    let e = err_from_is_err_and c.from_residual.result c.from_residual.ensures.1 in
    rw (e.1, e.2) (bad_end c.args.self.text c.args.self.at c.next_token.result c.next_token.ensures.step _ c.in_err-t.was)

pub returns-in-Some : goal.returns-in-Some
returns-in-Some c =
    not_ended c.args.self.text c.args.self.at c.next_token.result c.next_token.ensures.step c.in-Some.t _ (c.in_ok-t.was ∙ ap Ok c.in-Some.is) c.at.ensures

pub returns-in-None : goal.returns-in-None
returns-in-None c =
    end_is c.args.self.text c.args.self.at c.next_token.result c.next_token.ensures.step (c.in_ok-t.was ∙ ap Ok c.in-None.is)
