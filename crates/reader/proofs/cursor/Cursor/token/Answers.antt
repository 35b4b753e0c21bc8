use Rattle.std.proofs.Common.{Ok, ap, ◌∙◌, refl}
use Rattle.std.proofs.lemmas.Result.{err_from_is_err_and}
use Rattle.reader.proofs.Spots.{token_is, no_token, bad_token}
use Rattle.reader.proofs.cursor.Cursor.token.Goals as goal

pub returns-in_err-t-clause-is : goal.returns-in_err-t-clause-is
returns-in_err-t-clause-is c =
    let e = err_from_is_err_and c.from_residual.result c.from_residual.ensures.1 in
    rw (e.1, e.2) (bad_token c.args.self.now.text c.args.self.now.at c.next_token.result c.next_token.ensures.step _ c.in_err-t.was)

pub returns-in_default-clause-is : goal.returns-in_default-clause-is
returns-in_default-clause-is c =
    no_token c.args.self.now.text c.args.self.now.at c.next_token.result c.next_token.ensures.step _ (c.in_ok-t.was ∙ ap Ok c.in_default.is) c.at.ensures

pub returns-clause-is : goal.returns-clause-is
returns-clause-is c =
    (token_is c.args.self.now.text c.args.self.now.at c.next_token.result c.next_token.ensures.step _ (c.in_ok-t.was ∙ ap Ok c.in-Some.is) c.next_token.ensures.part, refl)
