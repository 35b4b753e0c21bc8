-- The moves of a place are the steps of its term.
use Rattle.std.proofs.Common.{Some, Option, ◌≡◌, ℕ, suc, ◌<◌, false, ◌⊎◌, List, [], ◌∷◌, ◌++◌, length, sym, refl, ap, ◌∙◌, subst, inl, inr, ⊎_elim, arith}
use Rattle.process.specs.Meaning.{HasMove, Steps}
use Rattle.process.specs.declared.moves.Move.{Move}
use Rattle.formtable.specs.Kinds.{is_rec}
use Rattle.formtable.specs.Layout.{form_at, move_to, LaidOut}
use Rattle.formtable.specs.Meaning.{process}
use Rattle.formtable.specs.Places.{subterm, term}
use Rattle.formtable.specs.Terms.{Term, nil, prefix, sum, var, recur, put, Step, by_prefix, by_left, by_right, by_unfolding}
use Rattle.formtable.specs.declared.record.Form.{Form}
use Rattle.formtable.specs.declared.record.Form.TheVariants.{End, Do, Tau, Or, Rec, Go}
use Rattle.formtable.specs.declared.record.Record.{Record}
use Rattle.formtable.proofs.Filled.{filled, filled_nil, filled_prefix, filled_sum, filled_recur, filled_var_at, filled_inner, filled_right, full, full_is, not_rec, term_full}
use Rattle.formtable.specs.Laid.{At, at_end, at_do, at_tau, at_or, at_rec, at_go, moves_of, Bound}
use Rattle.formtable.specs.Motions.{has_cases, has_left, has_right, has_one, targets_within}
use Rattle.formtable.specs.Steps.{inside, known_within, moves_there}
use Rattle.formtable.proofs.Subterms.{sub_of, sub_is}

-- what a step of a term shows
abbrev Inversion : Term → ℕ → Term → Type 0
Inversion nil a u = ⊥
Inversion (prefix b t) a u = (a ≡ b) × (u ≡ t)
Inversion (sum s t) a u = Step s a u ⊎ Step t a u
Inversion (var x) a u = ⊥
Inversion (recur x t) a u = (a ≡ 0) × (u ≡ put x (recur x t) t)

inverted : {t u : Term} {a : ℕ} → Step t a u → Inversion t a u
inverted by_prefix = (refl, refl)
inverted (by_left s) = inl s
inverted (by_right s) = inr s
inverted by_unfolding = (refl, refl)

from : (a : ℕ) (u s t : Term) → s ≡ t → Step t a u → Step s a u
from a u s t e p = subst (λ (w : Term). Step w a u) (sym e) p

module _ (rs : List Record) where
  rec_inner : {k j : ℕ} → form_at rs k ≡ Some Rec → At rs k j → At rs (suc k) j
  rec_inner {k} q (at_end f) = absurd (not_rec rs k k (Some End) q f refl refl)
  rec_inner {k} q (at_do {a = a} f d) = absurd (not_rec rs k k (Some (Do a)) q f refl refl)
  rec_inner {k} q (at_tau f d) = absurd (not_rec rs k k (Some Tau) q f refl refl)
  rec_inner {k} q (at_or {r = r} f d e) = absurd (not_rec rs k k (Some (Or r)) q f refl refl)
  rec_inner q (at_rec f d) = d
  rec_inner {k} q (at_go {k = m} f) = absurd (not_rec rs k k (Some (Go m)) q f refl refl)

  -- a step to the place of the only move
  one : (s : Term) (b j : ℕ) → Step s b (full rs j) → (a t : ℕ) → HasMove (move_to b j ∷ []) a t → Step s a (full rs t)
  one s b j p a t m =
      let q = has_one (move_to b j) a t m in
      subst (λ (z : ℕ). Step s z (full rs t)) q.0 (subst (λ (z : ℕ). Step s b (full rs z)) q.1 p)

  -- a move among ms by a leads to the place of u
  abbrev MovedTo : List Move → ℕ → Term → Type 0
  MovedTo ms a u = (t : ℕ) × HasMove ms a t × (u ≡ full rs t)

  moved : (a b t : ℕ) (u : Term) → a ≡ b → u ≡ full rs t → MovedTo (move_to b t ∷ []) a u
  moved a b t u e q = (t, inl (sym e, refl), q)

module _ (rs : List Record) (laid : LaidOut rs) (bound : Bound rs) where
  full_rec : (k : ℕ) → form_at rs k ≡ Some Rec → full rs k ≡ recur k (filled rs k (subterm rs (suc k)))
  full_rec k q =
      let d = rec_inner rs q (inside rs laid k (known_within rs k Rec q)).1 in
      full_is rs (at_rec q d) ∙ filled_recur rs k k (sub_of d) (omega arith) ∙ ap (λ (t : Term). recur k (filled rs k t)) (sym (sub_is d))

  -- a recursion steps to its body, and nowhere else
  rec_step : (k : ℕ) → form_at rs k ≡ Some Rec → Step (full rs k) 0 (full rs (suc k))
  rec_step k q =
      let u = filled rs k (subterm rs (suc k)) in
      subst (λ (w : Term). Step w 0 (put k w u)) (sym (full_rec k q)) by_unfolding

  rec_only : (k a : ℕ) (u : Term) → form_at rs k ≡ Some Rec → Step (full rs k) a u → (a ≡ 0) × (u ≡ full rs (suc k))
  rec_only k a u q s =
      let e = full_rec k q in
      let b = inverted (subst (λ (w : Term). Step w a u) e s) in
      (b.0, b.1 ∙ ap (λ (w : Term). put k w (filled rs k (subterm rs (suc k)))) (sym e))

  -- a go's term is that of its rec
  go_is : (i k : ℕ) → form_at rs i ≡ Some (Go k) → filled rs i (var k) ≡ full rs k
  go_is i k q = filled_var_at rs laid bound k i (bound i k q).1 (omega (arith, known_within rs i (Go k) q))

  prefix_is : {i j : ℕ} (f : Option Form) → form_at rs i ≡ f → is_rec f ≡ false → (b : ℕ) (d : At rs (suc i) j) → filled rs i (prefix b (sub_of d)) ≡ prefix b (full rs (suc i))
  prefix_is {i} f q r b d = filled_prefix rs i b (sub_of d) ∙ ap (prefix b) (sym (filled_inner rs laid bound f q r d) ∙ sym (full_is rs d))

  moves_step : {i j : ℕ} (d : At rs i j) (a t : ℕ) → HasMove (moves_of d) a t → Step (filled rs i (sub_of d)) a (full rs t)
  moves_step (at_end f) a t m = absurd m
  moves_step (at_do {i = i} {a = b} f d) a t m =
      one rs (filled rs i (prefix b (sub_of d))) b (suc i) (from b (full rs (suc i)) _ _ (prefix_is (Some (Do b)) f refl b d) by_prefix) a t m
  moves_step (at_tau {i = i} f d) a t m =
      one rs (filled rs i (prefix 0 (sub_of d))) 0 (suc i) (from 0 (full rs (suc i)) _ _ (prefix_is (Some Tau) f refl 0 d) by_prefix) a t m
  moves_step (at_or {i = i} {r = r} f d e) a t m =
      from a (full rs t) _ _ (filled_sum rs i (sub_of d) (sub_of e))
      (⊎_elim {C = Step (sum (filled rs i (sub_of d)) (filled rs i (sub_of e))) a (full rs t)}
      (λ n. by_left (from a (full rs t) _ _ (sym (filled_inner rs laid bound (Some (Or r)) f refl d)) (moves_step d a t n)))
      (λ n. by_right (from a (full rs t) _ _ (sym (filled_right rs laid bound f d e)) (moves_step e a t n)))
      (has_cases (moves_of d) (moves_of e) a t m))
  moves_step (at_rec {i = i} f d) a t m =
      one rs (filled rs i (recur i (sub_of d))) 0 (suc i) (from 0 (full rs (suc i)) _ _ (sym (full_is rs (at_rec f d))) (rec_step i f)) a t m
  moves_step (at_go {i = i} {k = k} f) a t m =
      one rs (filled rs i (var k)) 0 (suc k) (from 0 (full rs (suc k)) _ _ (go_is i k f) (rec_step k (bound i k f).0)) a t m

  steps_move : {i j : ℕ} (d : At rs i j) (a : ℕ) (u : Term) → Step (filled rs i (sub_of d)) a u → MovedTo rs (moves_of d) a u
  steps_move (at_end {i = i} f) a u s = absurd (inverted (from a u _ _ (sym (filled_nil rs i)) s))
  steps_move (at_do {i = i} {a = b} f d) a u s =
      let v = inverted (from a u _ _ (sym (prefix_is (Some (Do b)) f refl b d)) s) in moved rs a b (suc i) u v.0 v.1
  steps_move (at_tau {i = i} f d) a u s =
      let v = inverted (from a u _ _ (sym (prefix_is (Some Tau) f refl 0 d)) s) in moved rs a 0 (suc i) u v.0 v.1
  steps_move (at_or {i = i} {r = r} f d e) a u s =
      ⊎_elim {C = MovedTo rs (moves_of d ++ moves_of e) a u}
      (λ p. let v = steps_move d a u (from a u _ _ (filled_inner rs laid bound (Some (Or r)) f refl d) p) in (v.0, has_left (moves_of d) (moves_of e) a v.0 v.1, v.2))
      (λ p. let v = steps_move e a u (from a u _ _ (filled_right rs laid bound f d e) p) in (v.0, has_right (moves_of d) (moves_of e) a v.0 v.1, v.2))
      (inverted (from a u _ _ (sym (filled_sum rs i (sub_of d) (sub_of e))) s))
  steps_move (at_rec {i = i} f d) a u s =
      let v = rec_only i a u f (from a u _ _ (full_is rs (at_rec f d)) s) in moved rs a 0 (suc i) u v.0 v.1
  steps_move (at_go {i = i} {k = k} f) a u s =
      let v = rec_only k a u (bound i k f).0 (from a u _ _ (sym (go_is i k f)) s) in moved rs a 0 (suc k) u v.0 v.1

  pub moves_are_steps : (i a j : ℕ) → i < length rs → Steps (process rs) i a j → Step (term rs i) a (term rs j)
  moves_are_steps i a j h m =
      let d = (inside rs laid i h).1 in
      let n = subst (λ (ms : List Move). HasMove ms a j) (moves_there rs laid d) m in
      rw (term_full rs laid bound i h, term_full rs laid bound j (targets_within rs bound d a j n), full_is rs d) (moves_step d a j n)

  pub steps_are_moves : (i a : ℕ) (u : Term) → i < length rs → Step (term rs i) a u → (j : ℕ) × Steps (process rs) i a j × (u ≡ term rs j)
  steps_are_moves i a u h s =
      let d = (inside rs laid i h).1 in
      let v = steps_move d a u (rw (term_full rs laid bound i h, full_is rs d) at s) in
      let m = subst (λ (ms : List Move). HasMove ms a v.0) (sym (moves_there rs laid d)) v.1 in
      (v.0, m, v.2 ∙ sym (term_full rs laid bound v.0 (targets_within rs bound d a v.0 v.1)))
