-- Free variables, and what a substitution leaves of them.
use Rattle.std.proofs.Common.{◌≡◌, ℕ, Bool, true, false, cond, eqb, ◌⊎◌, sym, refl, ap, ◌∙◌, ap₂, inl, inr, ⊎_elim}
use Rattle.std.proofs.lemmas.Bool.{eqb-true, eqb-false, ne_eqb}
use Rattle.formtable.specs.Terms.{Term, nil, prefix, sum, var, recur, put, Free, Closed, Bare, Guarded}

-- what is not free is not put in
pub put_none : (x : ℕ) (p t : Term) → (Free x t → ⊥) → put x p t ≡ t
put_none x p nil h = refl
put_none x p (prefix a t) h = ap (prefix a) (put_none x p t h)
put_none x p (sum t u) h = ap₂ sum (put_none x p t (λ f. h (inl f))) (put_none x p u (λ f. h (inr f)))
put_none x p (var y) h = rw (ne_eqb x y h)
put_none x p (recur y t) h = here (eqb x y) refl (λ e. put_none x p t (λ f. h (eqb-false x y e, f)))
  where
    here : (b : Bool) → eqb x y ≡ b → (eqb x y ≡ false → put x p t ≡ t) → cond b (recur y t) (recur y (put x p t)) ≡ recur y t
    here true e k = refl
    here false e k = ap (recur y) (k e)

-- what is free after
abbrev pub After : ℕ → ℕ → Term → Term → Type 0
After z x p t = (Free z t × (z ≡ x → ⊥)) ⊎ Free z p

pub put_free : (z x : ℕ) (p t : Term) → Free z (put x p t) → After z x p t
put_free z x p nil f = absurd f
put_free z x p (prefix a t) f = put_free z x p t f
put_free z x p (sum t u) (inl f) = ⊎_elim {C = After z x p (sum t u)} (λ s. inl (inl s.0, s.1)) (λ s. inr s) (put_free z x p t f)
put_free z x p (sum t u) (inr f) = ⊎_elim {C = After z x p (sum t u)} (λ s. inl (inr s.0, s.1)) (λ s. inr s) (put_free z x p u f)
put_free z x p (var y) f = here (eqb x y) refl f
  where
    here : (b : Bool) → eqb x y ≡ b → Free z (cond b p (var y)) → After z x p (var y)
    here true e g = inr g
    here false e g = inl (g, λ q. eqb-false x y e (sym q ∙ g))
put_free z x p (recur y t) f = here (eqb x y) refl (λ g. put_free z x p t g) f
  where
    here : (b : Bool) → eqb x y ≡ b → (Free z (put x p t) → After z x p t) → Free z (cond b (recur y t) (recur y (put x p t))) → After z x p (recur y t)
    here true e k g = inl (g, λ q. g.0 (q ∙ eqb-true x y e))
    here false e k g = ⊎_elim {C = After z x p (recur y t)} (λ s. inl ((g.0, s.0), s.1)) (λ s. inr s) (k g.1)

-- a closed term put in adds no bare variable
bare_free : (z : ℕ) (t : Term) → Bare z t → Free z t
bare_free z nil v = v
bare_free z (prefix a t) v = bare_free z t v.1
bare_free z (sum t u) (inl v) = inl (bare_free z t v)
bare_free z (sum t u) (inr v) = inr (bare_free z u v)
bare_free z (var y) v = v
bare_free z (recur y t) v = (v.0, bare_free z t v.1)

put_bare : (z x : ℕ) (p t : Term) → Closed p → Bare z (put x p t) → Bare z t
put_bare z x p nil c v = v
put_bare z x p (prefix a t) c v = (v.0, put_bare z x p t c v.1)
put_bare z x p (sum t u) c (inl v) = inl (put_bare z x p t c v)
put_bare z x p (sum t u) c (inr v) = inr (put_bare z x p u c v)
put_bare z x p (var y) c v = here (eqb x y) v
  where
    here : (b : Bool) → Bare z (cond b p (var y)) → z ≡ y
    here true g = absurd (c z (bare_free z p g))
    here false g = g
put_bare z x p (recur y t) c v = here (eqb x y) (λ g. put_bare z x p t c g) v
  where
    here : (b : Bool) → (Bare z (put x p t) → Bare z t) → Bare z (cond b (recur y t) (recur y (put x p t))) → Bare z (recur y t)
    here true k g = g
    here false k g = (g.0, k g.1)

-- a closed guarded term put into a guarded one
pub put_guarded : (x : ℕ) (p t : Term) → Closed p → Guarded p → Guarded t → Guarded (put x p t)
put_guarded x p nil c g h = h
put_guarded x p (prefix a t) c g h = put_guarded x p t c g h
put_guarded x p (sum t u) c g h = (put_guarded x p t c g h.0, put_guarded x p u c g h.1)
put_guarded x p (var y) c g h = here (eqb x y)
  where
    here : (b : Bool) → Guarded (cond b p (var y))
    here true = g
    here false = tt
put_guarded x p (recur y t) c g h = here (eqb x y) (put_guarded x p t c g h.1)
  where
    here : (b : Bool) → Guarded (put x p t) → Guarded (cond b (recur y t) (recur y (put x p t)))
    here true k = h
    here false k = (λ v. h.0 (put_bare y x p t c v), k)
