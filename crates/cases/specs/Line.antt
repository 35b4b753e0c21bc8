-- The numbers of a line.
use Rattle.std.specs.Prelude.{◌≡◌, ℕ, ◌<◌, List, [], ◌∷◌, ◌++◌, length, Ok, Result}
use Rattle.std.specs.Char.{is_whitespace, is_not_whitespace}
use Rattle.std.specs.Str.{NoCharPasses, EmptyOrStartsWithPassing}

-- the text begins with a gap, maybe empty, and a word; the rest is empty or begins with a gap
pub record Begins (text word rest : List ℕ) : Type 0 where
  pub gap : List ℕ
  pub is : text ≡ gap ++ (word ++ rest)
  pub some : 0 < length word
  pub blank : NoCharPasses is_not_whitespace gap
  pub solid : NoCharPasses is_whitespace word
  pub parted : (more : List ℕ) × EmptyOrStartsWithPassing is_whitespace rest more

module _ {N E K : Type 0} (parses : List ℕ → Result N E → Type 0) (converts : N → K → Type 0) where
  -- the word is the number, by an N
  abbrev pub IsWord : List ℕ → K → Type 0
  IsWord word n = (x : N) × parses word (Ok x) × converts x n

  -- the line's words are those numbers
  abbrev pub IsLine : List ℕ → List K → Type 0
  IsLine text [] = NoCharPasses is_not_whitespace text
  IsLine text (n ∷ ns) = (word : List ℕ) × (rest : List ℕ) × Begins text word rest × IsWord word n × IsLine rest ns
