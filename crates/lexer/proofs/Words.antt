-- The letters of a word that was read.
use Rattle.std.proofs.Common.{◌≡◌, ℕ, suc, ◌+◌, true, List, [], ◌∷◌, take, refl, ap, ◌∙◌, subst, ⊎_elim, arith}
use Rattle.std.specs.List.{prefix_len}
use Rattle.std.proofs.lemmas.Bool.{and_from, cases_Bool, cond-true, cond-false}
use Rattle.lexer.specs.Bytes.{alnum, word_bytes}
use Rattle.lexer.specs.Lex.{lex, word_step, Step, word, read, fault, opening, closing, ended}

-- the longest run of letters and digits at the front is one of letters and digits
leading_word : (bs : List ℕ) → word_bytes (take (prefix_len alnum bs) bs) ≡ true
leading_word [] = refl
leading_word (b ∷ bs) =
    ⊎_elim
    (λ y. let step : prefix_len alnum (b ∷ bs) ≡ suc (prefix_len alnum bs) = cond-true (alnum b) (1 + prefix_len alnum bs) 0 y ∙ omega arith in
    ap (λ (n : ℕ). word_bytes (take n (b ∷ bs))) step ∙ and_from (alnum b) _ y (leading_word bs))
    (λ n. ap (λ (k : ℕ). word_bytes (take k (b ∷ bs))) (cond-false (alnum b) (1 + prefix_len alnum bs) 0 n))
    (cases_Bool (alnum b))

-- the letters of a step that read a word
abbrev Lettered : Step → Type 0
Lettered ended = Unit {0}
Lettered (read opening p a) = Unit {0}
Lettered (read closing p a) = Unit {0}
Lettered (read (word w) p a) = word_bytes w ≡ true
Lettered (fault f p) = Unit {0}

word_lettered : (bs : List ℕ) (i : ℕ) → Lettered (word_step bs i)
word_lettered bs i = grind (arith, leading_word bs)

lex_lettered : (bs : List ℕ) (i : ℕ) → Lettered (lex bs i)
lex_lettered [] i = tt
lex_lettered (b ∷ bs) i = grind (arith, lex_lettered bs (i + 1), word_lettered (b ∷ bs) i)

-- a word that was read has only letters and digits
pub lexed_word : (bs : List ℕ) (i : ℕ) (w : List ℕ) (p a : ℕ) → lex bs i ≡ read (word w) p a → word_bytes w ≡ true
lexed_word bs i w p a e = subst Lettered e (lex_lettered bs i)
