use Rattle.std.proofs.Common.{Err, sym, refl, ap, ◌∙◌, arith}
use Rattle.std.proofs.lemmas.Result.{err_from_is_err_and}
use Rattle.lexer.specs.Lex.{closing}
use Rattle.reader.specs.Tokens.{next_tok, takes, ends}
use Rattle.reader.proofs.Steps.{got, failed, chain, broke}
use Rattle.reader.proofs.Whole.{plans_err, plans_ok, titled}
use Rattle.reader.proofs.reading.whole.Goals as goal

pub returns-in_err-count-clause-reads : goal.returns-in_err-count-clause-reads
returns-in_err-count-clause-reads c =
    let e = err_from_is_err_and c.from_residual-in_err-count.result c.from_residual-in_err-count.ensures.1 in
    let p = titled c.args.records.now _ _ _ c.if-text-gt-MAX_TEXT.false c.new-cursor.ensures c.take.ensures.text c.in_ok-take.ensures.is c.take-2.ensures.text c.in_ok-take-2.ensures.is c.word.ensures.text c.in_ok-name.ensures.is c.form.ensures.reads in
    plans_err _ _ _ _ (e.1 ∙ ap Err e.2) (p.is ∙ broke _ (failed _ _ _ _ _ _ _ p.read c.in_err-count.was))

pub returns-in_err-take-3-clause-reads : goal.returns-in_err-take-3-clause-reads
returns-in_err-take-3-clause-reads c =
    let e = err_from_is_err_and c.from_residual-in_err-take-3.result c.from_residual-in_err-take-3.ensures.1 in
    let p = titled c.args.records.now _ _ _ c.if-text-gt-MAX_TEXT.false c.new-cursor.ensures c.take.ensures.text c.in_ok-take.ensures.is c.take-2.ensures.text c.in_ok-take-2.ensures.is c.word.ensures.text c.in_ok-name.ensures.is c.form.ensures.reads in
    let x = got _ _ _ _ _ _ _ p.read c.in_ok-count.was in
    let closes = c.in_err-take-3.ensures.is ∙ ap (λ z. takes closing (next_tok z.now c.form.new.cursor.at)) (c.form.ensures.text ∙ p.same_text) in
    plans_err _ _ _ _ (e.1 ∙ ap Err e.2) (p.is ∙ chain _ x.1 (broke _ (sym closes)))

pub returns-in_err-finish-clause-reads : goal.returns-in_err-finish-clause-reads
returns-in_err-finish-clause-reads c =
    let e = err_from_is_err_and c.from_residual-in_err-finish.result c.from_residual-in_err-finish.ensures.1 in
    let p = titled c.args.records.now _ _ _ c.if-text-gt-MAX_TEXT.false c.new-cursor.ensures c.take.ensures.text c.in_ok-take.ensures.is c.take-2.ensures.text c.in_ok-take-2.ensures.is c.word.ensures.text c.in_ok-name.ensures.is c.form.ensures.reads in
    let x = got _ _ _ _ _ _ _ p.read c.in_ok-count.was in
    let t = c.form.ensures.text ∙ p.same_text in
    let closes = c.in_ok-take-3.ensures.is ∙ ap (λ z. takes closing (next_tok z.now c.form.new.cursor.at)) t in
    let ends = c.in_err-finish.ensures ∙ ap (λ z. ends (next_tok z.now c.take-3.new.self.at)) (c.take-3.ensures.text ∙ t) in
    plans_err _ _ _ _ (e.1 ∙ ap Err e.2) (p.is ∙ chain _ x.1 (chain _ (sym closes) (broke _ (sym ends))))

pub returns-clause-reads : goal.returns-clause-reads
returns-clause-reads c =
    let p = titled c.args.records.now _ _ _ c.if-text-gt-MAX_TEXT.false c.new-cursor.ensures c.take.ensures.text c.in_ok-take.ensures.is c.take-2.ensures.text c.in_ok-take-2.ensures.is c.word.ensures.text c.in_ok-name.ensures.is c.form.ensures.reads in
    let x = got _ _ _ _ _ _ _ p.read c.in_ok-count.was in
    let t = c.form.ensures.text ∙ p.same_text in
    let closes = c.in_ok-take-3.ensures.is ∙ ap (λ z. takes closing (next_tok z.now c.form.new.cursor.at)) t in
    let ends = c.in_ok-finish.ensures ∙ ap (λ z. ends (next_tok z.now c.take-3.new.self.at)) (c.take-3.ensures.text ∙ t) in
    plans_ok _ _ _ _ _ (record { letters = refl; part = p.part; all = omega (arith, x.2) }) x.3 (p.is ∙ chain _ x.1 (chain _ (sym closes) (chain _ (sym ends) refl)))
