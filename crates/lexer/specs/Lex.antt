-- One token of a text.
use Rattle.std.specs.Prelude.{◌≡◌, ℕ, ◌+◌, cond, List, [], ◌∷◌, take, Some, None, Ok, Err, Option, Result, nat_le}
use Rattle.std.specs.Borrow.{Bor}
use Rattle.std.specs.List.{prefix_len}
use Rattle.lexer.specs.Bytes.{class_of, alnum}
use Rattle.lexer.specs.declared.lex.Class.{Class}
use Rattle.lexer.specs.declared.lex.Class.TheVariants as class
use Rattle.lexer.specs.declared.token.Token.{Token}
use Rattle.lexer.specs.declared.token.Token.TheVariants as token
use Rattle.lexer.specs.declared.token.Placed.{Placed}
use Rattle.common.specs.declared.fault.Located.{Located}
use Rattle.lexer.specs.declared.fault.TextFault.{TextFault}
use Rattle.lexer.specs.declared.fault.TextFault.TheVariants.{BadToken}

-- a token, by its letters
pub data Tok : Type 0 where
  opening : Tok
  closing : Tok
  word : List ℕ → Tok

-- what reading one token gives: nothing but blanks is left; a token, its place and the place of the rest; a fault and its place
pub data Step : Type 0 where
  ended : Step
  read : Tok → ℕ → ℕ → Step
  fault : TextFault → ℕ → Step

abbrev pub tok_of : Token → Tok
tok_of token.Open = opening
tok_of token.Close = closing
tok_of (token.Word w) = word w.now

abbrev pub step_of : Result (Option (Placed Token)) (Located TextFault) → Step
step_of (Ok None) = ended
step_of (Ok (Some p)) = read (tok_of p.what) p.place p.next
step_of (Err e) = fault e.fault e.place

abbrev pub by_class : Class → Step → Step → Step → Step → Step → Step
by_class class.Open a b c d e = a
by_class class.Close a b c d e = b
by_class class.Blank a b c d e = c
by_class class.Letter a b c d e = d
by_class class.Foreign a b c d e = e

-- the word at the front of bs, its longest run of letters and digits, of at most 8 bytes
abbrev pub word_step : List ℕ → ℕ → Step
word_step bs i =
    cond (nat_le (prefix_len alnum bs) 8) (read (word (take (prefix_len alnum bs) bs)) i (i + prefix_len alnum bs)) (fault BadToken i)

-- the first token of bs, which begins at the place i of its text
abbrev pub lex : List ℕ → ℕ → Step
lex [] i = ended
lex (b ∷ bs) i =
    by_class (class_of b) (read opening i (i + 1)) (read closing i (i + 1)) (lex bs (i + 1)) (word_step (b ∷ bs) i) (fault BadToken i)

-- a word is the part of the text that begins at its place, and no copy of it
abbrev pub PartAt : Bor (List ℕ) → ℕ → Token → Type 0
PartAt text i token.Open = Unit {0}
PartAt text i token.Close = Unit {0}
PartAt text i (token.Word w) = (w.ref_ptr.0 ≡ text.ref_ptr.0) × (w.ref_ptr.1 ≡ i + text.ref_ptr.1)

abbrev pub InText : Bor (List ℕ) → Result (Option (Placed Token)) (Located TextFault) → Type 0
InText text (Ok None) = Unit {0}
InText text (Ok (Some p)) = PartAt text p.place p.what
InText text (Err e) = Unit {0}
