-- The bytes of a text: ( ) space, line feed, a to z and 0 to 9.
use Rattle.std.specs.Prelude.{ℕ, Bool, true, cond, ◌&&◌, ◌||◌, List, [], ◌∷◌, length, ◌==◌, nat_le}
use Rattle.lexer.specs.declared.lex.Class.{Class}
use Rattle.lexer.specs.declared.lex.Class.TheVariants.{Open, Close, Blank, Letter, Foreign}

-- a letter or a digit
abbrev pub alnum : ℕ → Bool
alnum b = (nat_le 97 b && nat_le b 122) || (nat_le 48 b && nat_le b 57)

abbrev pub blank : ℕ → Bool
blank b = b == 32 || b == 10

abbrev pub class_of : ℕ → Class
class_of b = cond (b == 40) Open (cond (b == 41) Close (cond (blank b) Blank (cond (alnum b) Letter Foreign)))

-- each byte is a letter or a digit
abbrev pub word_bytes : List ℕ → Bool
word_bytes [] = true
word_bytes (b ∷ bs) = alnum b && word_bytes bs

-- a word is 1 to 8 letters and digits
abbrev pub is_word : List ℕ → Bool
is_word bs = nat_le 1 (length bs) && (nat_le (length bs) 8 && word_bytes bs)
