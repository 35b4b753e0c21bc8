-- Facts with one proof at most, which may so be ghost fields: that a process keeps its limits, and that two processes are the same.
use Rattle.std.specs.Prelude.{◌≡◌, ℕ, List, [], refl}
use Rattle.std.specs.Coded.{Coded, Coded-set, code_by, coded×, coded_list, coded_ℕ, le_prop}
use Rattle.process.specs.Meaning.{Proc, Limits}
use Rattle.process.specs.declared.moves.Move.{Move}

-- a list of moves, by the numbers of each one
abbrev pub moves_code : Coded (List Move)
moves_code = coded_list (code_by (ℕ × ℕ) (coded× coded_ℕ coded_ℕ) (λ m. (m.motion, m.target)) (λ p. record { motion = p.0; target = p.1 }) (λ _. refl))

pub limits_once : (p : Proc) → IsProp (Limits p)
limits_once p a b =
    λ i. record {
      some_state = le_prop a.some_state b.some_state i;
      few_states = le_prop a.few_states b.few_states i;
      known_motions = λ s m t h. le_prop (a.known_motions s m t h) (b.known_motions s m t h) i;
      targets_inside = λ s m t h. le_prop (a.targets_inside s m t h) (b.targets_inside s m t h) i;
      short_lists = λ s. le_prop (a.short_lists s) (b.short_lists s) i;
      none_beyond = λ s l. Coded-set moves_code (p.moves s) [] (a.none_beyond s l) (b.none_beyond s l) i;
    }

pub same_once : (p q : Proc) → IsProp (p ≡ q)
same_once p q a b =
    λ i j. record {
      states = Coded-set coded_ℕ p.states q.states (λ k. (a k).states) (λ k. (b k).states) i j;
      moves = λ s. Coded-set moves_code (p.moves s) (q.moves s) (λ k. (a k).moves s) (λ k. (b k).moves s) i j;
    }
