-- What a list of records means: a process, and terms with the same steps and traces.
use Rattle.std.specs.Prelude.{◌≡◌, ℕ, ◌<◌, true, false, ◌⊎◌, ◌↔◌, List, length, Ok, Err}
use Rattle.process.specs.Meaning.{Proc, Steps}
use Rattle.process.specs.Runs.{Trace}
use Rattle.formtable.specs.Layout.{moves}
use Rattle.formtable.specs.Places.{term}
use Rattle.formtable.specs.Terms.{Term, Step, Language, Free, Closed, Guarded, Unguarded}
use Rattle.formtable.specs.Vet.{verdict, fits, all_allowed}
use Rattle.formtable.specs.Written.{Writes}
use Rattle.formtable.specs.declared.record.Record.{Record}

-- a process with one state a record
abbrev pub process : List Record → Proc
process rs = record { states = length rs; moves = λ i. moves rs i }

-- what holds of the records of a vetted table
pub record Meant (rs : List Record) : Type 0 where
  -- a move of place i to j is a step of i's term to j's
  pub moves_are_steps : (i a j : ℕ) → Steps (process rs) i a j → Step (term rs i) a (term rs j)
  -- a step of i's term is to the term of some j that i moves to by that motion
  pub steps_are_moves : (i a : ℕ) (u : Term) → i < length rs → Step (term rs i) a u → (j : ℕ) × Steps (process rs) i a j × (u ≡ term rs j)
  -- the traces are the language of the whole term
  pub traces : (w : List ℕ) → Trace (process rs) w ↔ Language (term rs 0) w
  -- the term of each place is closed and guarded
  pub terms_closed : (i : ℕ) → i < length rs → Closed (term rs i)
  pub terms_guarded : (i : ℕ) → i < length rs → Guarded (term rs i)
  -- the whole term writes the records
  pub whole_writes : Writes rs (term rs 0)

-- what vetting's answer says of the records; Writes is of terms of at most 64 forms
pub record Judged (raw : List Record) : Type 0 where
  -- one term at most writes them, the term of place 0
  pub only_term : (t : Term) → Writes raw t → t ≡ term raw 0
  -- they pass exactly when a closed and guarded term writes them
  pub says_ok : (verdict raw ≡ Ok tt) ↔ ((t : Term) × Writes raw t × Closed t × Guarded t)
  -- 21 exactly when there are none, or more than 64
  pub says_21 : (verdict raw ≡ Err 21) ↔ ((length raw ≡ 0) ⊎ (64 < length raw))
  -- 22 exactly when they are 1 to 64 records, and not all are allowed
  pub says_22 : (verdict raw ≡ Err 22) ↔ ((fits raw ≡ true) × (all_allowed raw ≡ false))
  -- 23 exactly when they are 1 to 64 allowed records, and no term writes them
  pub says_23 : (verdict raw ≡ Err 23) ↔ ((fits raw ≡ true) × (all_allowed raw ≡ true) × ((t : Term) → Writes raw t → ⊥))
  -- 24 exactly when a term writes them that has a free variable
  pub says_24 : (verdict raw ≡ Err 24) ↔ ((t : Term) × Writes raw t × ((x : ℕ) × Free x t))
  -- 25 exactly when a closed term writes them that has a recursion that is not guarded
  pub says_25 : (verdict raw ≡ Err 25) ↔ ((t : Term) × Writes raw t × Closed t × Unguarded t)
