-- Small tables, by computation.
use Rattle.std.specs.Prelude.{◌≡◌, List, [], ◌∷◌, Ok, Err}
use Rattle.formtable.specs.Kinds.{row}
use Rattle.formtable.specs.Layout.{move_to, moves}
use Rattle.formtable.specs.Places.{term}
use Rattle.formtable.specs.Terms.{Term, nil, prefix, sum, var, recur}
use Rattle.formtable.specs.Vet.{verdict}
use Rattle.formtable.specs.declared.record.Record.{Record}

-- rec x. tau. x
abbrev pub silent_loop : List Record
silent_loop = row 4 0 ∷ row 2 0 ∷ row 5 0 ∷ []

-- rec x. 1. (x + 2. 0)
abbrev pub choice_loop : List Record
choice_loop = row 4 0 ∷ row 1 1 ∷ row 3 4 ∷ row 5 0 ∷ row 1 2 ∷ row 0 0 ∷ []

-- the term that writes it
abbrev pub choice_term : Term
choice_term = recur 0 (prefix 1 (sum (var 0) (prefix 2 nil)))

-- the first is refused: a silent step guards nothing
abbrev pub SilentLoopRefused : Type 0
SilentLoopRefused = verdict silent_loop ≡ Err 25

-- the second passes; its or moves as its left side and then as its right; in the terms of its places the whole is put in for x
pub record ChoiceLoopMeans : Type 0 where
  pub passes : verdict choice_loop ≡ Ok tt
  pub or_moves : moves choice_loop 2 ≡ move_to 0 1 ∷ move_to 2 5 ∷ []
  pub whole : term choice_loop 0 ≡ choice_term
  pub body : term choice_loop 1 ≡ prefix 1 (sum choice_term (prefix 2 nil))
  pub variable : term choice_loop 3 ≡ choice_term
