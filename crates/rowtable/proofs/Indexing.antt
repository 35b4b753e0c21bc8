-- The lists of a table's moves, as the rows of a state are added to the last one.
use Rattle.std.proofs.Common.{◌≡◌, List, [], ◌∷◌, ◌++◌, sym, ap, ap₂, ◌∙◌, append_assoc}
use Rattle.process.specs.declared.moves.Move.{Move}
use Rattle.movetable.specs.Lists.{pushed}
use Rattle.movetable.proofs.Laying.{pushed_last}

-- some moves are in the last list, and with those that are left they are all
pub record Adding (before : List (List Move)) (all left : List Move) (ls : List (List Move)) : Type 0 where
  pub done : List Move
  pub are : ls ≡ before ++ done ∷ []
  pub whole : done ++ left ≡ all

module _ (before : List (List Move)) (all left : List Move) (ls : List (List Move)) (adding : Adding before all left ls) where
  pub move_added : (m k : Move) (rest : List Move) (now : List (List Move)) → left ≡ m ∷ rest → k ≡ m → now ≡ pushed k ls → Adding before all rest now
  move_added m k rest now e same p =
      record {
        done = adding.done ++ m ∷ [];
        are = p ∙ ap₂ pushed same adding.are ∙ pushed_last m before adding.done;
        whole = append_assoc adding.done (m ∷ []) rest ∙ ap (λ ms. adding.done ++ ms) (sym e) ∙ adding.whole;
      }

  pub row_passed : (rest : List Move) (now : List (List Move)) → left ≡ rest → now ≡ ls → Adding before all rest now
  row_passed rest now e same =
      record { done = adding.done; are = same ∙ adding.are; whole = ap (λ ms. adding.done ++ ms) (sym e) ∙ adding.whole }
