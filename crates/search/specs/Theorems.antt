-- What is proved of the search.
use Rattle.std.specs.Prelude.{◌≡◌, ℕ, ◌<◌, ◌≤◌, min, ◌⊎◌, ◌↔◌, List, length, take, Ok, Err, Result}
use Rattle.process.specs.Meaning.{Proc, Limits}
use Rattle.process.specs.Runs.{Trace}
use Rattle.certificate.specs.declared.Row.{Row}
use Rattle.gate.specs.Follow.{Follow, AfterLaws}
use Rattle.gate.specs.Gate.{gate, accepted}
use Rattle.gate.specs.Theorems.{Included}
use Rattle.search.specs.Engine.{Engine, Stage, going, ends_within, ends_beyond, held, Ended, listing}
use Rattle.search.specs.Rule.{search_for, searched}
use Rattle.search.specs.Search.{told, answer_of, rows_after, motions_after}
use Rattle.search.specs.declared.answer.Answer.{Answer}
use Rattle.search.specs.declared.answer.Answer.TheVariants.{Within, Beyond}

-- w is a trace of the plan that the permit lacks, and every such trace has at least as many motions
pub record Shortest (plan permit : Proc) (w : List ℕ) : Type 0 where
  pub of_plan : Trace plan w
  pub not_permit : Trace permit w → ⊥
  pub least : (v : List ℕ) → Trace plan v → (Trace permit v → ⊥) → length w ≤ length v

-- the listing worked without a limit comes to that stage
abbrev pub Ends : Engine → Stage → Type 0
Ends E s = (d : ℕ) × (listing E d ≡ s)

-- the stage is the end beyond, with more motions than that
abbrev pub ShowsMore : ℕ → Stage → Type 0
ShowsMore motions (going rows) = ⊥
ShowsMore motions (ends_within rows) = ⊥
ShowsMore motions (ends_beyond rows w) = motions < length w

-- EXACTLY: the answer, every row and every motion are those of the search with lists for n rows and m motions
pub record Exactly (F : Follow) (plan permit : Proc) (n m : ℕ) (answer : Result Answer ℕ) (rows : List Row) (motions : List ℕ) : Type 0 where
  pub answer_is : answer ≡ answer_of (searched F plan permit n m)
  pub rows_are : rows ≡ rows_after (searched F plan permit n m) n
  pub motions_are : motions ≡ motions_after (searched F plan permit n m) m

-- THE REFUSALS: with lists for so many rows and motions, by the end of the listing worked without a limit
pub record Refusals (E : Engine) (rows motions : ℕ) (answer : Result Answer ℕ) : Type 0 where
  -- the listing comes to an end, and to one only
  pub end : Stage
  pub ended : Ended end
  pub ends : Ends E end
  pub only_end : (s : Stage) → Ended s → Ends E s → s ≡ end
  -- the answer is read off it
  pub read_off : answer ≡ answer_of (told (min rows 1024) motions end)
  -- 41 just when it then holds more rows than the list does, or than 1,024
  pub too_many : (answer ≡ Err 41) ↔ (min rows 1024 < length (held end))
  -- otherwise 42 just when it ended beyond, with more motions than the list holds
  pub too_long : (answer ≡ Err 42) ↔ ((length (held end) ≤ min rows 1024) × ShowsMore motions end)
  -- there is no other refusal
  pub no_other : (k : ℕ) → answer ≡ Err k → (k ≡ 41) ⊎ (k ≡ 42)

-- WHAT AN ANSWER SAYS of the plan and the permit, with what the lists then hold
abbrev pub Tells : Follow → Proc → Proc → Result Answer ℕ → List Row → List ℕ → Type 0
-- the rows counted are the whole listing, the gate accepts them, and every trace of the plan is one of the permit
Tells F plan permit (Ok (Within n)) rows motions =
    Ends (search_for F plan permit) (ends_within (take n rows)) × (gate F plan permit (take n rows) ≡ accepted) × Included plan permit
-- the motions counted are a shortest trace of the plan that the permit lacks
Tells F plan permit (Ok (Beyond n)) rows motions = Shortest plan permit (take n motions)
-- 42: there is such a trace, and it is longer than the list
Tells F plan permit (Err k) rows motions = k ≡ 42 → (w : List ℕ) × Shortest plan permit w × (length motions < length w)

-- a certificate is written
abbrev pub Certified : Result Answer ℕ → Type 0
Certified answer = (n : ℕ) × (answer ≡ Ok (Within n))

-- the search is refused
abbrev pub Refused : Result Answer ℕ → Type 0
Refused answer = (k : ℕ) × (answer ≡ Err k)

-- unless refused, a certificate is written just when every trace of the plan is one of the permit
abbrev pub Decided : Proc → Proc → Result Answer ℕ → Type 0
Decided plan permit answer = (Refused answer → ⊥) → Certified answer ↔ Included plan permit

-- all of it for one way to follow the permit: every search with it, with the lists as its outcome leaves them
pub record SearchHolds (F : Follow) : Type 0 where
  pub refusals :
      (plan permit : Proc) → Limits plan → Limits permit → (n m : ℕ)
      → Refusals (search_for F plan permit) n m (answer_of (searched F plan permit n m))
  pub tells :
      (plan permit : Proc) → Limits plan → Limits permit → (n m : ℕ)
      → Tells F plan permit (answer_of (searched F plan permit n m)) (rows_after (searched F plan permit n m) n) (motions_after (searched F plan permit n m) m)
  pub decided :
      (plan permit : Proc) → Limits plan → Limits permit → (n m : ℕ)
      → Decided plan permit (answer_of (searched F plan permit n m))

-- the laws of After suffice
abbrev pub LawsSuffice : Type 0
LawsSuffice = (F : Follow) → AfterLaws F → SearchHolds F
