-- Terms, their steps and languages; closed and guarded terms.
use Rattle.std.specs.Prelude.{◌≡◌, ℕ, ◌≤◌, cond, ◌⊎◌, List, [], ◌∷◌, ◌==◌, ◌≢◌}

-- 0, a.t (motion 0 is silent), t + u, the variable x and rec x.t
pub data Term : Type 0 where
  nil : Term
  prefix : ℕ → Term → Term
  sum : Term → Term → Term
  var : ℕ → Term
  recur : ℕ → Term → Term

-- t with p, which is closed, put in for x
abbrev pub put : ℕ → Term → Term → Term
put x p nil = nil
put x p (prefix a t) = prefix a (put x p t)
put x p (sum t u) = sum (put x p t) (put x p u)
put x p (var y) = cond (x == y) p (var y)
put x p (recur y t) = cond (x == y) (recur y t) (recur y (put x p t))

-- a step of a term by a motion to a term: of a prefix, of either side of a sum; a recursion unfolds silently
pub data Step : Term → ℕ → Term → Type 0 where
  by_prefix : {a : ℕ} {t : Term} → Step (prefix a t) a t
  by_left : {a : ℕ} {t u v : Term} → Step t a v → Step (sum t u) a v
  by_right : {a : ℕ} {t u v : Term} → Step u a v → Step (sum t u) a v
  by_unfolding : {x : ℕ} {t : Term} → Step (recur x t) 0 (put x (recur x t) t)

-- a weak run of a term over motions: nothing; a motion from 1 up, then the rest; a silent step, then the rest
pub data Weak : Term → List ℕ → Term → Type 0 where
  weak_nothing : {t : Term} → Weak t [] t
  weak_motion : {t u v : Term} {a : ℕ} {w : List ℕ} → 1 ≤ a → Step t a u → Weak u w v → Weak t (a ∷ w) v
  weak_silent : {t u v : Term} {w : List ℕ} → Step t 0 u → Weak u w v → Weak t w v

-- w is in the language of t: t can do it
abbrev pub Language : Term → List ℕ → Type 0
Language t w = (u : Term) × Weak t w u

-- x is free in t
abbrev pub Free : ℕ → Term → Type 0
Free x nil = ⊥
Free x (prefix a t) = Free x t
Free x (sum t u) = Free x t ⊎ Free x u
Free x (var y) = x ≡ y
Free x (recur y t) = (x ≢ y) × Free x t

-- no variable is free in t
abbrev pub Closed : Term → Type 0
Closed t = (x : ℕ) → Free x t → ⊥

-- x is free in t at some place below no prefix by a motion from 1 up
abbrev pub Bare : ℕ → Term → Type 0
Bare x nil = ⊥
Bare x (prefix a t) = (a ≡ 0) × Bare x t
Bare x (sum t u) = Bare x t ⊎ Bare x u
Bare x (var y) = x ≡ y
Bare x (recur y t) = (x ≢ y) × Bare x t

-- in each recursion of t its variable stands only below prefixes by motions from 1 up
abbrev pub Guarded : Term → Type 0
Guarded nil = Unit {0}
Guarded (prefix a t) = Guarded t
Guarded (sum t u) = Guarded t × Guarded u
Guarded (var y) = Unit {0}
Guarded (recur x t) = (Bare x t → ⊥) × Guarded t

-- some recursion of t is not guarded: its variable stands bare in its body
abbrev pub Unguarded : Term → Type 0
Unguarded nil = ⊥
Unguarded (prefix a t) = Unguarded t
Unguarded (sum t u) = Unguarded t ⊎ Unguarded u
Unguarded (var y) = ⊥
Unguarded (recur x t) = Bare x t ⊎ Unguarded t
