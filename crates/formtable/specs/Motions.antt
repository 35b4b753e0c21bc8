-- The motions and the targets of the moves of a table.
use Rattle.std.specs.Prelude.{Some, ◌≡◌, ℕ, zero, suc, ◌<◌, ◌≤◌, true, ◌⊎◌, List, [], ◌∷◌, ◌++◌, length, nat_le, nat_lt}
use Rattle.std.proofs.Common.{sym, ap, ◌∙◌, inl, inr, ⊎_elim, arith}
use Rattle.std.proofs.lemmas.Bool.{and_parts, leb-true, ltb-true}
use Rattle.process.specs.Meaning.{HasMove}
use Rattle.process.specs.declared.moves.Move.{Move}
use Rattle.formtable.specs.Kinds.{kind_of}
use Rattle.formtable.specs.Layout.{form_at}
use Rattle.formtable.specs.Vet.{all_allowed, allowed, allowed_by}
use Rattle.formtable.specs.declared.record.Form.TheVariants.{Do, Go}
use Rattle.formtable.specs.declared.record.Record.{Record}
use Rattle.formtable.specs.Laid.{At, at_end, at_do, at_tau, at_or, at_rec, at_go, at_longer, moves_of, Bound}
use Rattle.formtable.specs.Steps.{at_within, known_within}

-- a move of two lists together is a move of one of them
pub has_cases : (ms ns : List Move) (a t : ℕ) → HasMove (ms ++ ns) a t → HasMove ms a t ⊎ HasMove ns a t
has_cases [] ns a t h = inr h
has_cases (m ∷ ms) ns a t (inl h) = inl (inl h)
has_cases (m ∷ ms) ns a t (inr h) =
    ⊎_elim {C = HasMove (m ∷ ms) a t ⊎ HasMove ns a t} (λ l. inl (inr l)) (λ r. inr r) (has_cases ms ns a t h)

pub has_left : (ms ns : List Move) (a t : ℕ) → HasMove ms a t → HasMove (ms ++ ns) a t
has_left [] ns a t h = absurd h
has_left (m ∷ ms) ns a t (inl h) = inl h
has_left (m ∷ ms) ns a t (inr h) = inr (has_left ms ns a t h)

pub has_right : (ms ns : List Move) (a t : ℕ) → HasMove ns a t → HasMove (ms ++ ns) a t
has_right [] ns a t h = h
has_right (m ∷ ms) ns a t h = inr (has_right ms ns a t h)

-- the only move of a list
pub has_one : (m : Move) (a t : ℕ) → HasMove (m ∷ []) a t → (m.motion ≡ a) × (m.target ≡ t)
has_one m a t (inl h) = h
has_one m a t (inr h) = absurd h

-- the argument of a do is its motion
do_argument : (k a m : ℕ) → kind_of k a ≡ Some (Do m) → m ≡ a
do_argument zero a m e = let z : ◌≡◌ {A = ℕ} 0 1 = cc in absurd (omega arith)
do_argument (suc zero) a m e = cc
do_argument (suc (suc zero)) a m e = let z : ◌≡◌ {A = ℕ} 0 1 = cc in absurd (omega arith)
do_argument (suc (suc (suc zero))) a m e = let z : ◌≡◌ {A = ℕ} 0 1 = cc in absurd (omega arith)
do_argument (suc (suc (suc (suc zero)))) a m e = let z : ◌≡◌ {A = ℕ} 0 1 = cc in absurd (omega arith)
do_argument (suc (suc (suc (suc (suc zero))))) a m e = let z : ◌≡◌ {A = ℕ} 0 1 = cc in absurd (omega arith)
do_argument (suc (suc (suc (suc (suc (suc n)))))) a m e = let z : ◌≡◌ {A = ℕ} 0 1 = cc in absurd (omega arith)

do_known : (r : Record) (m : ℕ) → allowed r ≡ true → kind_of r.kind r.argument ≡ Some (Do m) → (1 ≤ m) × (m ≤ 24)
do_known r m ok e =
    let p = and_parts (nat_lt 0 r.argument) (nat_le r.argument 24) (ap (allowed_by r.argument) (sym e) ∙ ok) in
    let q = do_argument r.kind r.argument m e in
    (omega (arith, ltb-true 0 r.argument p.0, q), omega (arith, leb-true r.argument 24 p.1, q))

-- the motion of a do in a table of allowed records
pub do_below : (rs : List Record) (i m : ℕ) → all_allowed rs ≡ true → form_at rs i ≡ Some (Do m) → (1 ≤ m) × (m ≤ 24)
do_below [] i m ok e = let z : ◌≡◌ {A = ℕ} 0 1 = cc in absurd (omega arith)
do_below (r ∷ rs) zero m ok e = do_known r m (and_parts (allowed r) (all_allowed rs) ok).0 e
do_below (r ∷ rs) (suc i) m ok e = do_below rs i m (and_parts (allowed r) (all_allowed rs) ok).1 e

pub motions_known : (rs : List Record) {i j : ℕ} → all_allowed rs ≡ true → (d : At rs i j) (a t : ℕ) → HasMove (moves_of d) a t → a ≤ 24
motions_known rs ok (at_end f) a t m = absurd m
motions_known rs ok (at_do {i = i} {a = b} f d) a t m = omega (arith, (do_below rs i b ok f).1, (has_one _ a t m).0)
motions_known rs ok (at_tau f d) a t m = omega (arith, (has_one _ a t m).0)
motions_known rs ok (at_or f d e) a t m =
    ⊎_elim {C = a ≤ 24} (λ n. motions_known rs ok d a t n) (λ n. motions_known rs ok e a t n) (has_cases (moves_of d) (moves_of e) a t m)
motions_known rs ok (at_rec f d) a t m = omega (arith, (has_one _ a t m).0)
motions_known rs ok (at_go f) a t m = omega (arith, (has_one _ a t m).0)

-- each move leads to a place of the table
pub targets_within : (rs : List Record) {i j : ℕ} → Bound rs → (d : At rs i j) (a t : ℕ) → HasMove (moves_of d) a t → t < length rs
targets_within rs bound (at_end f) a t m = absurd m
targets_within rs bound (at_do f d) a t m = omega (arith, at_longer d, at_within d, (has_one _ a t m).1)
targets_within rs bound (at_tau f d) a t m = omega (arith, at_longer d, at_within d, (has_one _ a t m).1)
targets_within rs bound (at_or f d e) a t m =
    ⊎_elim {C = t < length rs} (λ n. targets_within rs bound d a t n) (λ n. targets_within rs bound e a t n) (has_cases (moves_of d) (moves_of e) a t m)
targets_within rs bound (at_rec f d) a t m = omega (arith, at_longer d, at_within d, (has_one _ a t m).1)
targets_within rs bound (at_go {i = i} {k = k} f) a t m = omega (arith, (bound i k f).1, known_within rs i (Go k) f, (has_one _ a t m).1)
