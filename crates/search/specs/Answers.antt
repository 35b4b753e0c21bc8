-- What the functions of the search return, in the terms of its definitions.
use Rattle.std.specs.Prelude.{◌≡◌, ℕ, ◌<◌, ◌≤◌, List, [], ◌∷◌, length, take, Ok, Err, Result}
use Rattle.certificate.specs.declared.Row.{Row}
use Rattle.search.specs.Back.{way_back, along}
use Rattle.search.specs.Search.{Outcome, inside, beyond, fault, Trial, kept, stopped, full, shown}
use Rattle.search.specs.declared.answer.Answer.{Answer}
use Rattle.search.specs.declared.answer.Answer.TheVariants as answers
use Rattle.search.specs.declared.answer.SearchFault.{SearchFault}
use Rattle.search.specs.declared.answer.SearchFault.TheVariants.{RowsFull, MotionsShort}
use Rattle.search.specs.declared.listing.Stop.{Stop}
use Rattle.search.specs.declared.listing.Stop.TheVariants as stops

-- the number that each refusal is known by
abbrev pub search_number : SearchFault → ℕ
search_number RowsFull = 41
search_number MotionsShort = 42

-- what work came to, with the rows then listed
abbrev pub trial_of : Result (Unit {0}) Stop → List Row → Trial
trial_of (Ok done) rows = kept rows
trial_of (Err (stops.Lacking i a)) rows = stopped a
trial_of (Err stops.Full) rows = full

-- where a motion is lacking, it is at row i
abbrev pub AtRow : ℕ → Result (Unit {0}) Stop → Type 0
AtRow i (Ok done) = Unit {0}
AtRow i (Err (stops.Lacking k a)) = k ≡ i
AtRow i (Err stops.Full) = Unit {0}

-- how the listing ends, for a list of so many motions
abbrev pub end_of : ℕ → Result (Unit {0}) Stop → List Row → Outcome
end_of motions (Ok done) rows = inside rows
end_of motions (Err (stops.Lacking i a)) rows = shown motions (along (way_back i rows i) (a ∷ []))
end_of motions (Err stops.Full) rows = fault 41

-- and what it keeps: the row that lacks a motion is listed
abbrev pub EndsAt : Result (Unit {0}) Stop → List Row → Type 0
EndsAt (Ok done) rows = Unit {0}
EndsAt (Err (stops.Lacking i a)) rows = i < length rows
EndsAt (Err stops.Full) rows = Unit {0}

-- the motions shown, if there is room for them
abbrev pub shown_of : Result ℕ SearchFault → List ℕ → Outcome
shown_of (Ok n) motions = beyond (take n motions)
shown_of (Err e) motions = fault (search_number e)

-- their count lies within the list
abbrev pub ShownFit : Result ℕ SearchFault → ℕ → Type 0
ShownFit (Ok n) motions = n ≤ motions
ShownFit (Err e) motions = Unit {0}

-- how many rows and how many motions an answer counts
abbrev pub counts_of : Answer → ℕ × ℕ
counts_of (answers.Within n) = (n, 0)
counts_of (answers.Beyond n) = (0, n)

-- what the search came to, by its answer and the lists then
abbrev pub outcome_of : Result Answer SearchFault → List Row → List ℕ → Outcome
outcome_of (Ok (answers.Within n)) rows motions = inside (take n rows)
outcome_of (Ok (answers.Beyond n)) rows motions = beyond (take n motions)
outcome_of (Err e) rows motions = fault (search_number e)

-- the count of an answer lies within the list that it counts; n rows and m motions are the lists' lengths
abbrev pub Counted : Result Answer SearchFault → ℕ → ℕ → Type 0
Counted (Ok (answers.Within k)) n m = k ≤ n
Counted (Ok (answers.Beyond k)) n m = k ≤ m
Counted (Err e) n m = Unit {0}
