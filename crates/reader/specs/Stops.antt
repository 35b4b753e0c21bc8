-- The first token at fault.
use Rattle.std.specs.Prelude.{◌≡◌, ℕ, ◌+◌, ◌<◌, ◌≤◌, List, [], ◌∷◌, ◌++◌, length, Some, Ok, Err, codes, Result, ◌≢◌}
use Rattle.common.specs.declared.fault.Located.{Located}
use Rattle.lexer.specs.declared.fault.TextFault.{TextFault}
use Rattle.lexer.specs.declared.fault.TextFault.TheVariants.{TooLong, BadToken, Unexpected, NoMotion, NotBound, NotGuarded, TooManyForms, ListShort}
use Rattle.lexer.specs.Lex.{Tok, word}
use Rattle.motions.specs.Naming.{Names}
use Rattle.reader.specs.declared.heads.Shape.{Shape}
use Rattle.reader.specs.declared.reading.Plan.{Plan}
use Rattle.reader.specs.Tokens.{fault_at, Next, token, ending, bad, next_tok}
use Rattle.reader.specs.Reading.{shape_of, read_plan}
use Rattle.reader.specs.Plans.{Tree, spell_plan, Spelt}
use Rattle.reader.specs.Brackets.{Frame, open_after, forms_in, NoneBinds, Unguarded}

-- some plan's spelling begins with these tokens: of whatever size, its names bound or not
abbrev pub BeginsPlan : List Tok → Type 0
BeginsPlan ts = (name : List ℕ) × (t : Tree) × (rest : List Tok) × (spell_plan name t ≡ ts ++ rest)

-- they are a plan's spelling
abbrev pub IsPlan : List Tok → Type 0
IsPlan ts = (name : List ℕ) × (t : Tree) × (spell_plan name t ≡ ts)

-- these tokens can follow: what stands next comes first, and there are none at the end of the text
abbrev pub Ahead : Next → List Tok → Type 0
Ahead k [] = k ≡ ending
Ahead k (t ∷ ts) = k ≡ token t

-- the motion of a do, a word that names no motion
pub record NoMotionAt (before : List Tok) (k : Next) : Type 0 where
  pub letters : List ℕ
  pub around : List Frame
  pub is : k ≡ token (word letters)
  pub inside : open_after before ≡ (codes "do" ∷ []) ∷ around
  pub unknown : (m : ℕ) → Names letters m → ⊥

-- the name of a go, which no rec around it binds
pub record NotBoundAt (before : List Tok) (k : Next) : Type 0 where
  pub letters : List ℕ
  pub around : List Frame
  pub is : k ≡ token (word letters)
  pub inside : open_after before ≡ (codes "go" ∷ []) ∷ around
  pub unbound : NoneBinds around letters

-- the name of a go, with no do between it and its rec
pub record NotGuardedAt (before : List Tok) (k : Next) : Type 0 where
  pub letters : List ℕ
  pub around : List Frame
  pub is : k ≡ token (word letters)
  pub inside : open_after before ≡ (codes "go" ∷ []) ∷ around
  pub unguarded : Unguarded around letters

-- the form word of form n, counted from 1
pub record FormAt (n : ℕ) (before : List Tok) (k : Next) : Type 0 where
  pub letters : List ℕ
  pub around : List Frame
  pub form : Shape
  pub is : k ≡ token (word letters)
  pub opens : shape_of letters ≡ Some form
  pub inside : open_after before ≡ [] ∷ around
  pub count : forms_in before ≡ n

-- what is wrong with what stands next after some tokens, where the grammar allows it
abbrev pub Wrong : ℕ → List Tok → Next → TextFault → Type 0
Wrong cap before k TooLong = Unit {0}
Wrong cap before k BadToken = Unit {0}
Wrong cap before k Unexpected = Unit {0}
Wrong cap before k NoMotion = NoMotionAt before k
Wrong cap before k NotBound = NotBoundAt before k
Wrong cap before k NotGuarded = NotGuardedAt before k
Wrong cap before k TooManyForms = FormAt 65 before k
Wrong cap before k ListShort = FormAt (cap + 1) before k × (cap < 64)

-- the first token at fault in the text s, read into a list of cap records
pub record FirstFault (s : List ℕ) (cap : ℕ) (f : Located TextFault) : Type 0 where
  pub before : List Tok
  pub at : ℕ
  pub spelt : Spelt s before 0 at
  pub place : (next_tok s at).place ≡ f.place
  -- the tokens before it begin a plan
  pub begins : BeginsPlan before
  -- 12 is a byte outside the set, or a word that is too long
  pub broken : f.fault ≡ BadToken → (next_tok s at).what ≡ bad
  -- 13 is a token or an end of text with which no plan goes on
  pub strays : f.fault ≡ Unexpected → ((next_tok s at).what ≢ bad) × ((more : List Tok) → Ahead (next_tok s at).what more → IsPlan (before ++ more) → ⊥)
  -- any other is a token with which some plan goes on
  pub other : (f.fault ≢ BadToken) → (f.fault ≢ Unexpected) → (t : Tok) × ((next_tok s at).what ≡ token t) × BeginsPlan (before ++ (t ∷ []))
  -- and this is wrong with it
  pub wrong : Wrong cap before (next_tok s at).what f.fault
  -- it decides: every text that has these tokens is refused by the same fault at that token
  pub decides : (s' : List ℕ) (at' : ℕ) → length s' ≤ 16384 → Spelt s' before 0 at' → (next_tok s' at').what ≡ (next_tok s at).what → read_plan s' cap ≡ Err (fault_at f.fault (next_tok s' at').place)

-- a text that is too long is refused for that before any token, any other at its first token at fault
abbrev pub Stops : List ℕ → ℕ → Result Plan (Located TextFault) → Type 0
Stops s cap (Ok plan) = Unit {0}
Stops s cap (Err f) = (16384 < length s → f ≡ fault_at TooLong 0) × (length s ≤ 16384 → FirstFault s cap f)
