-- What a search finds.
use Rattle.std.specs.Prelude.{◌≡◌, Ok, Err, Result}
use Rattle.search.specs.Answers.{search_number}
use Rattle.search.specs.Search.{Outcome, inside, beyond, fault}
use Rattle.search.specs.declared.answer.SearchFault.{SearchFault}
use Rattle.desk.specs.declared.found.Found.{Found}
use Rattle.desk.specs.declared.found.Found.TheVariants.{Within, Beyond}

-- the rows or the motions that the search comes to, or its refusal
abbrev pub Finds : Outcome → Result Found SearchFault → Type 0
Finds o (Ok (Within rows)) = o ≡ inside rows.now
Finds o (Ok (Beyond motions)) = o ≡ beyond motions.now
Finds o (Err e) = o ≡ fault (search_number e)
