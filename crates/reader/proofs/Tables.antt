-- A tree's records: what stands at its places, and the place after it.
use Rattle.std.proofs.Common.{◌≡◌, ℕ, zero, suc, ◌+◌, ◌<◌, ◌≤◌, List, [], ◌∷◌, ◌++◌, length, Some, sym, refl, ap, ◌∙◌, append_assoc, append-nil, add-one, arith, length-append}
use Rattle.std.proofs.lemmas.List.{length_push}
use Rattle.std.proofs.lemmas.Bool.{eq-eqb}
use Rattle.formtable.specs.declared.record.Record.{Record}
use Rattle.formtable.specs.Kinds.{kind_of}
use Rattle.formtable.specs.Layout.{form_at, past_in}
use Rattle.formtable.specs.Layout.{past as past_of}
use Rattle.reader.specs.Reading.{Bound, binds}
use Rattle.reader.specs.Plans.{Tree, stop, act, tau, or, loop, again, size, flatten}

pub length_flatten : (env : List Bound) (p : ℕ) (t : Tree) → length (flatten env p t) ≡ size t
length_flatten env p stop = refl
length_flatten env p (act w t) = omega (arith, length_flatten env (p + 1) t)
length_flatten env p (tau t) = omega (arith, length_flatten env (p + 1) t)
length_flatten env p (or l r) = omega (arith, length_flatten env (p + 1) l, length_flatten env (p + 1 + size l) r, length-append (flatten env (p + 1) l) (flatten env (p + 1 + size l) r))
length_flatten env p (loop x t) = omega (arith, length_flatten (binds x p ∷ env) (p + 1) t)
length_flatten env p (again x) = refl

-- a table with a tree's records from p on
abbrev pub Holds : List Record → ℕ → List Record → Type 0
Holds xs p ns = (before : List Record) × (rest : List Record) × (length before ≡ p) × (xs ≡ before ++ (ns ++ rest))

pub reach : (xs : List Record) (p : ℕ) (ns : List Record) → Holds xs p ns → p + length ns ≤ length xs
reach xs p ns h = omega (arith, ap length h.3, length-append h.0 (ns ++ h.1), length-append ns h.1, h.2)

form_at_at : (before : List Record) (n : Record) (rest : List Record) → form_at (before ++ (n ∷ rest)) (length before) ≡ kind_of n.kind n.argument
form_at_at [] n rest = refl
form_at_at (r ∷ before) n rest = form_at_at before n rest

pub first : (xs : List Record) (p : ℕ) (n : Record) (ns : List Record) → Holds xs p (n ∷ ns) → form_at xs p ≡ kind_of n.kind n.argument
first xs p n ns h = ap (λ z. form_at z p) h.3 ∙ ap (form_at (h.0 ++ (n ∷ (ns ++ h.1)))) (sym h.2) ∙ form_at_at h.0 n (ns ++ h.1)

pub next : (xs : List Record) (p : ℕ) (n : Record) (ns : List Record) → Holds xs p (n ∷ ns) → Holds xs (p + 1) ns
next xs p n ns h = (h.0 ++ (n ∷ []), h.1, length_push h.0 n ∙ ap (λ z. z + 1) h.2, h.3 ∙ sym (append_assoc h.0 (n ∷ []) (ns ++ h.1)))

pub front : (xs : List Record) (p : ℕ) (ls rs : List Record) → Holds xs p (ls ++ rs) → Holds xs p ls
front xs p ls rs h = (h.0, rs ++ h.1, h.2, h.3 ∙ ap (λ z. h.0 ++ z) (append_assoc ls rs h.1))

pub back : (xs : List Record) (p : ℕ) (ls rs : List Record) (q : ℕ) → q ≡ p + length ls → Holds xs p (ls ++ rs) → Holds xs q rs
back xs p ls rs q e h = (h.0 ++ ls, h.1, length-append h.0 ls ∙ ap (λ z. z + length ls) h.2 ∙ sym e, h.3 ∙ ap (λ z. h.0 ++ z) (append_assoc ls rs h.1) ∙ sym (append_assoc h.0 ls (rs ++ h.1)))

-- the right form of an or
pub right_of : (xs : List Record) (env : List Bound) (p : ℕ) (l : Tree) (rs : List Record) → Holds xs (p + 1) (flatten env (p + 1) l ++ rs) → Holds xs (p + 1 + size l) rs
right_of xs env p l rs h = back xs (p + 1) (flatten env (p + 1) l) rs (p + 1 + size l) (ap (λ z. p + 1 + z) (sym (length_flatten env (p + 1) l))) h

pub size_above : (t : Tree) → 0 < size t
size_above stop = omega arith
size_above (act w t) = omega arith
size_above (tau t) = omega arith
size_above (or l r) = omega arith
size_above (loop x t) = omega arith
size_above (again x) = omega arith

-- one place on
on : (xs : List Record) (n p e e' : ℕ) → e ≡ e' → past_in n xs (p + 1) ≡ Some e → past_in n xs (suc p) ≡ Some e'
on xs n p e e' q h = ap (past_in n xs) (sym (add-one p)) ∙ h ∙ ap Some q

-- with a level for each form, Past of a tree's place is the place after it
past_in_flat : (xs : List Record) (env : List Bound) (p : ℕ) (t : Tree) → Holds xs p (flatten env p t) → (n : ℕ) → size t ≤ n → past_in n xs p ≡ Some (p + size t)
past_in_flat xs env p t h zero l = absurd (omega (arith, size_above t))
past_in_flat xs env p stop h (suc n) l = rw (first xs p _ [] h) (ap Some (sym (add-one p)))
past_in_flat xs env p (act w t) h (suc n) l = rw (first xs p _ _ h) (on xs n p _ _ (omega arith) (past_in_flat xs env (p + 1) t (next xs p _ _ h) n (omega arith)))
past_in_flat xs env p (tau t) h (suc n) l = rw (first xs p _ _ h) (on xs n p _ _ (omega arith) (past_in_flat xs env (p + 1) t (next xs p _ _ h) n (omega arith)))
past_in_flat xs env p (or u v) h (suc n) l =
    let q = p + 1 + size u in
    let inner = next xs p _ _ h in
    let left = on xs n p _ q refl (past_in_flat xs env (p + 1) u (front xs (p + 1) _ (flatten env q v) inner) n (omega arith)) in
    rw (first xs p _ _ h, left, eq-eqb q q refl) (past_in_flat xs env q v (right_of xs env p u _ inner) n (omega arith) ∙ ap Some (omega arith))
past_in_flat xs env p (loop x t) h (suc n) l = rw (first xs p _ _ h) (on xs n p _ _ (omega arith) (past_in_flat xs (binds x p ∷ env) (p + 1) t (next xs p _ _ h) n (omega arith)))
past_in_flat xs env p (again x) h (suc n) l = rw (first xs p _ [] h) (ap Some (sym (add-one p)))

pub past : (xs : List Record) (env : List Bound) (p : ℕ) (t : Tree) → Holds xs p (flatten env p t) → past_of xs p ≡ Some (p + size t)
past xs env p t h = past_in_flat xs env p t h (length xs) (omega (arith, reach xs p _ h, length_flatten env p t))

-- a tree's own table
pub own : (env : List Bound) (t : Tree) → Holds (flatten env 0 t) 0 (flatten env 0 t)
own env t = ([], [], refl, sym (append-nil _))
