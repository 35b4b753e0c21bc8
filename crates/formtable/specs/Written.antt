-- The records that a term writes: its forms in order, the variable of a recursion named by its place.
use Rattle.std.specs.Prelude.{◌≡◌, ℕ, zero, suc, ◌+◌, ◌≤◌, List, [], ◌∷◌, ◌++◌}
use Rattle.formtable.specs.Kinds.{row}
use Rattle.formtable.specs.Terms.{Term, nil, prefix, sum, var, recur}
use Rattle.formtable.specs.declared.record.Record.{Record}

-- the number of forms of a term
abbrev pub size : Term → ℕ
size nil = 1
size (prefix a t) = suc (size t)
size (sum t u) = suc (size t + size u)
size (var y) = 1
size (recur x t) = suc (size t)

-- the records of t, from place i on
abbrev pub written : ℕ → Term → List Record
written i nil = row 0 0 ∷ []
written i (prefix zero t) = row 2 0 ∷ written (suc i) t
written i (prefix (suc a) t) = row 1 (suc a) ∷ written (suc i) t
written i (sum t u) = row 3 (suc i + size t) ∷ (written (suc i) t ++ written (suc i + size t) u)
written i (var y) = row 5 y ∷ []
written i (recur x t) = row 4 0 ∷ written (suc i) t

-- from place i on, the variable of each recursion is its place, and motions are at most 24
abbrev pub Placed : ℕ → Term → Type 0
Placed i nil = Unit {0}
Placed i (prefix a t) = (a ≤ 24) × Placed (suc i) t
Placed i (sum t u) = Placed (suc i) t × Placed (suc i + size t) u
Placed i (var y) = Unit {0}
Placed i (recur x t) = (x ≡ i) × Placed (suc i) t

-- the term t, of at most 64 forms, writes the records rs
pub record Writes (rs : List Record) (t : Term) : Type 0 where
  pub same : rs ≡ written 0 t
  pub placed : Placed 0 t
  pub few : size t ≤ 64
