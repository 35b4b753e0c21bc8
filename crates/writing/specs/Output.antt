-- Bytes written into a list.
use Rattle.std.specs.Prelude.{◌≡◌, ℕ, ◌+◌, ◌<◌, ◌≤◌, List, ◌++◌, length, take, drop, Ok, Err, Result}
use Rattle.std.specs.Borrow.{MutBor}
use Rattle.std.specs.Result.{OnErr, result_and}
use Rattle.common.specs.Lists.{filled_from}
use Rattle.writing.specs.declared.fault.OutputFault.{OutputFault}
use Rattle.writing.specs.declared.fault.OutputFault.TheVariants.{Short}
use Rattle.writing.specs.declared.output.Output.{Output}

-- bs stands from `at` on, up to n, and all else is as it was; or there was no room for bs, and what stands before `at` is as it was
abbrev pub Put : List ℕ → ℕ → List ℕ → List ℕ → Result ℕ OutputFault → Type 0
Put old at bs new (Ok n) = (n ≡ at + length bs) × (n ≤ length old) × (take n new ≡ take at old ++ bs) × (drop n new ≡ drop n old)
Put old at bs new (Err e) = (e ≡ Short) × (length old < at + length bs) × (take at new ≡ take at old)

-- the output is at a place of the list
pub record Begins (list : MutBor (List ℕ)) (at : ℕ) (x : Output) : Type 0 where
  pub same_list : x.out.ghost_name ≡ list.ghost_name
  pub bytes : x.out.now ≡ list.now
  pub place : x.at ≡ at

-- the output is at that place; or the place is past the end of the list
abbrev pub BeginsAt : MutBor (List ℕ) → ℕ → Result Output OutputFault → Type 0
BeginsAt list at (Ok x) = (at ≤ length list.now) × Begins list at x
BeginsAt list at (Err e) = (e ≡ Short) × (length list.now < at)

-- the output is n bytes further, or there were not so many and it is where it was; its list is as it was both times
abbrev pub Skips : Output → ℕ → Result (Unit {0}) OutputFault → Output → Type 0
Skips old n (Ok x) new = (old.at + n ≤ length old.out.now) × (new.at ≡ old.at + n) × (new.out ≡ old.out)
Skips old n (Err e) new = (e ≡ Short) × (length old.out.now < old.at + n) × (new ≡ old)

-- bs put into the list of the output, behind what was written; the place never goes back, on a refusal neither
pub record Writes (old : Output) (bs : List ℕ) (answer : Result (Unit {0}) OutputFault) (new : Output) : Type 0 where
  pub same_list : new.out.ghost_name ≡ old.out.ghost_name
  pub same_length : length new.out.now ≡ length old.out.now
  pub onward : old.at ≤ new.at
  pub put : Put old.out.now old.at bs new.out.now (result_and answer (Ok new.at))

-- a refusal leaves the place where it was
abbrev pub Stays : Output → Result (Unit {0}) OutputFault → Output → Type 0
Stays old answer new = OnErr answer (new.at ≡ old.at)

-- the list has 0 behind what was written, and n is the count of that
pub record Ends (x : Output) (list : List ℕ) (n : ℕ) : Type 0 where
  pub zeros : list ≡ filled_from x.out.now x.at 0
  pub count : n ≡ x.at
