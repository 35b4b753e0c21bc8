use Rattle.std.proofs.Common.{◌≡◌, ◌&&◌, refl, ◌∙◌, arith, rules, tests}
use Rattle.std.proofs.lemmas.Bool.Decides.{nat_tests}
use Rattle.std.proofs.lemmas.Iterator.{YieldsList-from_slice}
use Rattle.std.proofs.lemmas.Iterator.Search.{all_from_yields_List}
use Rattle.std.proofs.lemmas.List.Recursion.{same_from_clauses}
use Rattle.lexer.specs.Bytes.{alnum, word_bytes}
use Rattle.std.specs.List.{list_all}
use Rattle.writing.proofs.words.is_word.Goals as goal

pub returns-then-contains : goal.returns-then-contains
returns-then-contains c =
    let bs = c.args.bytes.now in
    let all_pass : c.all.result ≡ word_bytes bs =
    all_from_yields_List alnum _ _ c.all.result c.all.ensures.ran (YieldsList-from_slice bs cc) (λ x b q k. search (rules, tests))
    ∙ same_from_clauses (list_all alnum) word_bytes (λ x t. alnum x && t) refl (λ _ _. refl) (λ _ _. refl) bs in
    grind (arith, nat_tests)
