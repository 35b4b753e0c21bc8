use Rattle.std.proofs.Common.{sym, ◌∙◌, rules}
use Rattle.std.proofs.lemmas.Bool.{ltb-false}
use Rattle.std.proofs.lemmas.List.Sums.{prefix_len-le-length}
use Rattle.lexer.specs.Bytes.{blank}
use Rattle.lexer.proofs.Steps.{front_blanks, lex_at, lex_end, not_blank}
use Rattle.lexer.proofs.lex.next_token.Goals as goal
use Rattle.lexer.proofs.lex.next_token.Goals.{in-Open, in-Close}

pub overflow_add-place : goal.overflow_add-place
overflow_add-place c = let le = prefix_len-le-length blank c.in-Some.rest.now in search rules

pub returns-in_default-get-clause-step : goal.returns-in_default-get-clause-step
returns-in_default-get-clause-step c =
    let e = front_blanks c.args.text.now c.args.at c.in-Some.ensures.lookup.0.2 c.blank_len.ensures in
    lex_end c.args.text.now c.args.at _ e (ltb-false _ _ (sym c.in_default-get.ensures.lookup.0))

pub unreachable-requires : goal.unreachable-requires
unreachable-requires c =
    let e = front_blanks c.args.text.now c.args.at c.in-Some.ensures.lookup.0.2 c.blank_len.ensures in
    not_blank c.args.text.now c.args.at _ e _ c.in-Some-get.ensures.lookup.3 c.in-Blank.ensures

pub returns-in-Letter-clause-step : goal.returns-in-Letter-clause-step
returns-in-Letter-clause-step c =
    let e = front_blanks c.args.text.now c.args.at c.in-Some.ensures.lookup.0.2 c.blank_len.ensures in
    c.word_at.ensures.step ∙ lex_at c.args.text.now c.args.at _ e _ c.in-Some-get.ensures.lookup.3 _ c.in-Letter.ensures

pub returns-in-Foreign-clause-step : goal.returns-in-Foreign-clause-step
returns-in-Foreign-clause-step c =
    let e = front_blanks c.args.text.now c.args.at c.in-Some.ensures.lookup.0.2 c.blank_len.ensures in
    rw c.at.ensures (lex_at c.args.text.now c.args.at _ e _ c.in-Some-get.ensures.lookup.3 _ c.in-Foreign.ensures)

pub returns-clause-step : goal.returns-clause-step
returns-clause-step c =
    let e = front_blanks c.args.text.now c.args.at c.in-Some.ensures.lookup.0.2 c.blank_len.ensures in
    elim c.match-class_of.branch [
      | in-Open w ↦ rw w.what-is (lex_at c.args.text.now c.args.at _ e _ c.in-Some-get.ensures.lookup.3 _ w.in-Open.ensures)
      | in-Close w ↦ rw w.what-is (lex_at c.args.text.now c.args.at _ e _ c.in-Some-get.ensures.lookup.3 _ w.in-Close.ensures)
    ]
