-- What the operations on sets mean for their states.
use Rattle.std.specs.Prelude.{◌≡◌, ℕ, ◌<◌, true, ◌⊎◌, ◌↔◌, bit_or}
use Rattle.process.specs.Sets.{has, inserted, single, within, In, Within}

pub record SetLaws : Type 0 where
  -- sets with the same states are the same number
  pub same_states : (S T : ℕ) → ((t : ℕ) → has S t ≡ has T t) → S ≡ T
  -- the empty set is the one without states
  pub no_state : (T : ℕ) → (T ≡ 0) ↔ ((t : ℕ) → In T t → ⊥)
  -- a union has the states of both sets
  pub of_either : (S T t : ℕ) → In (bit_or S T) t ↔ (In S t ⊎ In T t)
  -- a set with a state more, and a set of one state
  pub one_more : (T u t : ℕ) → u < 64 → In (inserted T u) t ↔ (In T t ⊎ (t ≡ u))
  pub just_one : (u t : ℕ) → u < 64 → In (single u) t ↔ (t ≡ u)
  -- the test of a subset
  pub subset : (S T : ℕ) → (within S T ≡ true) ↔ Within S T
