-- Sets of states as numbers: bit t stands for state t, bit 0 lowest. The set stands before the state everywhere.
use Rattle.std.specs.Prelude.{◌≡◌, ℕ, ◌/◌, ◌%◌, ◌^◌, Bool, true, cond, ◌==◌, bit_or, nat_lt}

-- is state t in the set T
abbrev pub has : ℕ → ℕ → Bool
has T t = T / 2 ^ t % 2 == 1

-- the set of just state t
abbrev pub only : ℕ → ℕ
only t = 2 ^ t

-- T with state t, and the set of just t, where a state from 64 on does not exist
abbrev pub inserted : ℕ → ℕ → ℕ
inserted T t = cond (nat_lt t 64) (bit_or T (only t)) T

abbrev pub single : ℕ → ℕ
single t = inserted 0 t

-- does S lie within T
abbrev pub within : ℕ → ℕ → Bool
within S T = bit_or S T == T

-- state t is in T
abbrev pub In : ℕ → ℕ → Type 0
In T t = has T t ≡ true

-- each state of S is in T
abbrev pub Within : ℕ → ℕ → Type 0
Within S T = (t : ℕ) → In S t → In T t
