-- The term of a good tree's records is the one that the tree writes.
use Rattle.std.proofs.Common.{◌≡◌, ℕ, zero, suc, ◌+◌, ◌<◌, ◌≤◌, List, [], ◌∷◌, ◌++◌, unwrap_or, sym, refl, ap, ◌∙◌, subst, ap₂, add-one, arith}
use Rattle.formtable.specs.declared.record.Record.{Record}
use Rattle.formtable.specs.Kinds.{row}
use Rattle.formtable.specs.Places.{term}
use Rattle.formtable.specs.Terms.{Term, prefix}
use Rattle.formtable.specs.Written.{written, Placed}
use Rattle.formtable.specs.Written.{size as term_size}
use Rattle.formtable.proofs.Meanings.{judged}
use Rattle.motions.specs.Naming.{Names, motion_of}
use Rattle.motions.proofs.Lookups.{one_to_one}
use Rattle.reader.specs.Reading.{Bound, binds}
use Rattle.reader.specs.Plans.{Tree, stop, act, tau, or, loop, again, size, flatten, term_of, Good}
use Rattle.reader.proofs.Vets.{known}

same_size : (env : List Bound) (p : ℕ) (t : Tree) → term_size (term_of env p t) ≡ size t
same_size env p stop = refl
same_size env p (act w t) = let e = same_size env (p + 1) t in omega arith
same_size env p (tau t) = let e = same_size env (p + 1) t in omega arith
same_size env p (or l r) = let e = same_size env (p + 1) l in let f = same_size env (p + 1 + size l) r in omega arith
same_size env p (loop x t) = let e = same_size (binds x p ∷ env) (p + 1) t in omega arith
same_size env p (again x) = refl

-- the place after the left side
beside : (env : List Bound) (p : ℕ) (l : Tree) → suc p + term_size (term_of env (p + 1) l) ≡ p + 1 + size l
beside env p l = let e = same_size env (p + 1) l in omega arith

do_records : (p m : ℕ) (xs : List Record) (t : Term) → 0 < m → xs ≡ written (suc p) t → row 1 m ∷ xs ≡ written p (prefix m t)
do_records p zero xs t h e = absurd (omega arith)
do_records p (suc a) xs t h e = ap (λ (rs : List Record). row 1 (suc a) ∷ rs) e

-- the motion of a name, 1 to 24
motion_known : (w : List ℕ) (m : ℕ) → Names w m → (0 < unwrap_or (motion_of w) 0) × (unwrap_or (motion_of w) 0 ≤ 24)
motion_known w m h =
    let named = (one_to_one w m).1 h in
    let e : unwrap_or (motion_of w) 0 ≡ m = ap (λ z. unwrap_or z 0) named in
    let k = known w m named in
    (omega (arith, k.0), omega (arith, k.1))

later : (p : ℕ) (xs : List Record) (t : Term) → xs ≡ written (p + 1) t → xs ≡ written (suc p) t
later p xs t e = e ∙ ap (λ (i : ℕ). written i t) (add-one p)

same_records : (env : List Bound) (g p : ℕ) (t : Tree) → Good env g p t → flatten env p t ≡ written p (term_of env p t)
same_records env g p stop good = refl
same_records env g p (act w t) good =
    do_records p (unwrap_or (motion_of w) 0) (flatten env (p + 1) t) (term_of env (p + 1) t) (motion_known w good.0.0 good.0.1).0
    (later p _ (term_of env (p + 1) t) (same_records env p (p + 1) t good.1))
same_records env g p (tau t) good =
    ap (λ (rs : List Record). row 2 0 ∷ rs) (later p _ (term_of env (p + 1) t) (same_records env g (p + 1) t good))
same_records env g p (or l r) good =
    let q = p + 1 + size l in
    let left = term_of env (p + 1) l in
    let right = term_of env q r in
    ap₂ (λ (xs ys : List Record). row 3 q ∷ (xs ++ ys))
    (later p _ left (same_records env g (p + 1) l good.0))
    (same_records env g q r good.1)
    ∙ ap (λ (i : ℕ). row 3 i ∷ (written (suc p) left ++ written i right)) (sym (beside env p l))
same_records env g p (loop x t) good =
    ap (λ (rs : List Record). row 4 0 ∷ rs) (later p _ (term_of (binds x p ∷ env) (p + 1) t) (same_records (binds x p ∷ env) g (p + 1) t good))
same_records env g p (again x) good = refl

well_placed : (env : List Bound) (g p : ℕ) (t : Tree) → Good env g p t → Placed p (term_of env p t)
well_placed env g p stop good = tt
well_placed env g p (act w t) good = (
  (motion_known w good.0.0 good.0.1).1,
  subst (λ (i : ℕ). Placed i (term_of env (p + 1) t)) (add-one p) (well_placed env p (p + 1) t good.1),
)
well_placed env g p (tau t) good = (
  omega arith,
  subst (λ (i : ℕ). Placed i (term_of env (p + 1) t)) (add-one p) (well_placed env g (p + 1) t good),
)
well_placed env g p (or l r) good = (
  subst (λ (i : ℕ). Placed i (term_of env (p + 1) l)) (add-one p) (well_placed env g (p + 1) l good.0),
  subst (λ (i : ℕ). Placed i (term_of env (p + 1 + size l) r)) (sym (beside env p l)) (well_placed env g (p + 1 + size l) r good.1),
)
well_placed env g p (loop x t) good = (
  refl,
  subst (λ (i : ℕ). Placed i (term_of (binds x p ∷ env) (p + 1) t)) (add-one p) (well_placed (binds x p ∷ env) g (p + 1) t good),
)
well_placed env g p (again x) good = tt

pub means : (t : Tree) → Good [] 0 0 t → size t ≤ 64 → term (flatten [] 0 t) 0 ≡ term_of [] 0 t
means t good few =
    let e = same_size [] 0 t in
    sym ((judged (flatten [] 0 t)).only_term (term_of [] 0 t)
    (record { same = same_records [] 0 0 t good; placed = well_placed [] 0 0 t good; few = omega arith }))
