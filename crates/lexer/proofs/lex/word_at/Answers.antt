use Rattle.std.proofs.Common.{drop, ap, ◌∙◌, arith}
use Rattle.std.proofs.lemmas.List.{take_rest}
use Rattle.std.specs.List.{prefix_len}
use Rattle.lexer.specs.Bytes.{alnum}
use Rattle.lexer.proofs.Steps.{word_over, word_within}
use Rattle.lexer.proofs.lex.word_at.Goals as goal

pub returns-then-len-gt-MAX_WORD-clause-step : goal.returns-then-len-gt-MAX_WORD-clause-step
returns-then-len-gt-MAX_WORD-clause-step c =
    let rest = take_rest c.args.text.now c.args.place in
    rw c.at.ensures (word_over (drop c.args.place c.args.text.now) _ _ (c.word_len-len.ensures ∙ ap (prefix_len alnum) rest) (omega arith))

pub returns-clause-step : goal.returns-clause-step
returns-clause-step c =
    let rest = take_rest c.args.text.now c.args.place in
    rw rest (word_within (drop c.args.place c.args.text.now) _ _ (c.word_len-len.ensures ∙ ap (prefix_len alnum) rest) (omega arith))
