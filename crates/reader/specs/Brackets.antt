-- The brackets that are open after some tokens: what stands around a place of a plan, in terms of its tokens alone.
use Rattle.std.specs.Prelude.{◌≡◌, ℕ, ◌+◌, ◌-◌, List, [], ◌∷◌, ◌++◌, codes, ◌≢◌}
use Rattle.lexer.specs.Lex.{Tok, opening, closing, word}

-- the words that stand directly in a bracket, the last first
abbrev pub Frame : Type 0
Frame = List (List ℕ)

-- the open brackets, the innermost first, after one more token
abbrev pub feed : Tok → List Frame → List Frame
feed opening fs = [] ∷ fs
feed closing [] = []
feed closing (f ∷ fs) = fs
feed (word w) [] = []
feed (word w) (f ∷ fs) = (w ∷ f) ∷ fs

abbrev pub open_in : List Frame → List Tok → List Frame
open_in fs [] = fs
open_in fs (t ∷ ts) = open_in (feed t fs) ts

-- the open brackets after some tokens
abbrev pub open_after : List Tok → List Frame
open_after ts = open_in [] ts

-- how many brackets were opened
abbrev pub openings : List Tok → ℕ
openings [] = 0
openings (opening ∷ ts) = openings ts + 1
openings (closing ∷ ts) = openings ts
openings (word w ∷ ts) = openings ts

-- how many forms were begun: every bracket but the plan's begins one
abbrev pub forms_in : List Tok → ℕ
forms_in ts = openings ts - 1

-- an open rec that binds the name x
abbrev pub rec_of : List ℕ → Frame
rec_of x = x ∷ (codes "rec" ∷ [])

-- an open do of the motion w
abbrev pub do_of : List ℕ → Frame
do_of w = w ∷ (codes "do" ∷ [])

-- no open rec binds x
abbrev pub NoneBinds : List Frame → List ℕ → Type 0
NoneBinds [] x = Unit {0}
NoneBinds (f ∷ fs) x = (f ≢ rec_of x) × NoneBinds fs x

-- no do is open
abbrev pub NoDo : List Frame → Type 0
NoDo [] = Unit {0}
NoDo (f ∷ fs) = ((w : List ℕ) → f ≢ do_of w) × NoDo fs

-- between here and the innermost open rec that binds x no do is open
pub record Unguarded (fs : List Frame) (x : List ℕ) : Type 0 where
  pub between : List Frame
  pub outside : List Frame
  pub split : fs ≡ between ++ (rec_of x ∷ outside)
  pub nearest : NoneBinds between x
  pub bare : NoDo between
