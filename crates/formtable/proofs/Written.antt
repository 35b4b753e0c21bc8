-- What a term writes, and what a laid out table is written by.
use Rattle.std.proofs.Common.{◌≡◌, ℕ, zero, suc, ◌+◌, ◌<◌, ◌≤◌, true, ltb, leb, List, [], ◌∷◌, ◌++◌, length, Some, sym, refl, ap, ◌∙◌, subst, ap₂, add-zero, add-suc, suc-add, arith, length-append}
use Rattle.std.proofs.lemmas.Bool.{and_parts, and_from, eqb-true, eq-eqb, lt-ltb, le-leb, false≢true}
use Rattle.std.proofs.lemmas.Option.{same_Some}
use Rattle.std.specs.Option.{option_map}
use Rattle.formtable.specs.Kinds.{kind_of, record_of, row}
use Rattle.formtable.specs.Layout.{form_at}
use Rattle.formtable.specs.Places.{term}
use Rattle.formtable.specs.Terms.{Term, nil, prefix, sum, var, recur, Closed, Guarded}
use Rattle.formtable.specs.Vet.{fits, allowed, all_allowed, laid_out, all_bound, all_guarded, is_at}
use Rattle.formtable.specs.Written.{size, written, Placed, Writes}
use Rattle.formtable.specs.declared.record.Form.TheVariants.{Do, Or}
use Rattle.formtable.specs.declared.record.Record.{Record}
use Rattle.formtable.proofs.Free.{closed_passes}
use Rattle.formtable.proofs.Guards.{guarded_passes}
use Rattle.formtable.specs.Laid.{At, at_end, at_do, at_tau, at_or, at_rec, at_go, at_past_in}
use Rattle.formtable.specs.Motions.{do_below}
use Rattle.formtable.proofs.Subterms.{sub_of, sub_is}
use Rattle.formtable.specs.Vetted.{bound_of}

-- the forms of the list l stand in rs from i on
abbrev Stands : List Record → ℕ → List Record → Type 0
Stands rs i [] = Unit {0}
Stands rs i (r ∷ l) = (form_at rs i ≡ kind_of r.kind r.argument) × Stands rs (suc i) l

stands_behind : (q : Record) (rs : List Record) (i : ℕ) (l : List Record) → Stands rs i l → Stands (q ∷ rs) (suc i) l
stands_behind q rs i [] s = tt
stands_behind q rs i (r ∷ l) s = (s.0, stands_behind q rs (suc i) l s.1)

stands_before : (q : Record) (rs : List Record) (i : ℕ) (l : List Record) → Stands (q ∷ rs) (suc i) l → Stands rs i l
stands_before q rs i [] s = tt
stands_before q rs i (r ∷ l) s = (s.0, stands_before q rs (suc i) l s.1)

stands_self : (rs : List Record) → Stands rs 0 rs
stands_self [] = tt
stands_self (r ∷ rs) = (refl, stands_behind r rs 0 rs (stands_self rs))

stands_left : (rs : List Record) (i : ℕ) (l m : List Record) → Stands rs i (l ++ m) → Stands rs i l
stands_left rs i [] m s = tt
stands_left rs i (r ∷ l) m s = (s.0, stands_left rs (suc i) l m s.1)

stands_right : (rs : List Record) (i : ℕ) (l m : List Record) → Stands rs i (l ++ m) → Stands rs (i + length l) m
stands_right rs i [] m s = rw add-zero s
stands_right rs i (r ∷ l) m s = rw (add-suc, ← suc-add) (stands_right rs (suc i) l m s.1)

stands_both : (rs : List Record) (i : ℕ) (l m : List Record) → Stands rs i l → Stands rs (i + length l) m → Stands rs i (l ++ m)
stands_both rs i [] m s t = rw add-zero at t
stands_both rs i (r ∷ l) m s t = (s.0, stands_both rs (suc i) l m s.1 (rw (add-suc, ← suc-add) at t))

written_long : (t : Term) (i : ℕ) → length (written i t) ≡ size t
written_long nil i = refl
written_long (prefix zero t) i = ap suc (written_long t (suc i))
written_long (prefix (suc a) t) i = ap suc (written_long t (suc i))
written_long (sum t u) i = ap suc (length-append (written (suc i) t) (written (suc i + size t) u) ∙ ap₂ ◌+◌ (written_long t (suc i)) (written_long u (suc i + size t)))
written_long (var y) i = refl
written_long (recur x t) i = ap suc (written_long t (suc i))

size_some : (t : Term) → 0 < size t
size_some nil = omega arith
size_some (prefix a t) = omega arith
size_some (sum t u) = omega arith
size_some (var y) = omega arith
size_some (recur x t) = omega arith

-- what is written is laid out, and read again it is the term
abbrev ReadAs : List Record → ℕ → ℕ → Term → Type 0
ReadAs rs i j t = (d : At rs i j) × (sub_of d ≡ t)

read_to : (rs : List Record) (i j k : ℕ) (t : Term) → j ≡ k → ReadAs rs i j t → ReadAs rs i k t
read_to rs i j k t e a = subst (λ (y : ℕ). ReadAs rs i y t) e a

reread : (rs : List Record) (t : Term) (i : ℕ) → Placed i t → Stands rs i (written i t) → ReadAs rs i (i + size t) t
reread rs nil i p s = read_to rs i (suc i) (i + 1) nil (omega arith) (at_end s.0, refl)
reread rs (prefix zero t) i p s =
    let v = reread rs t (suc i) p.1 s.1 in
    read_to rs i (suc i + size t) (i + suc (size t)) (prefix zero t) (omega arith) (at_tau s.0 v.0, ap (prefix zero) v.1)
reread rs (prefix (suc a) t) i p s =
    let v = reread rs t (suc i) p.1 s.1 in
    read_to rs i (suc i + size t) (i + suc (size t)) (prefix (suc a) t) (omega arith) (at_do s.0 v.0, ap (prefix (suc a)) v.1)
reread rs (sum t u) i p s =
    let l = written (suc i) t in
    let m = written (suc i + size t) u in
    let b = subst (λ (n : ℕ). Stands rs (suc i + n) m) (written_long t (suc i)) (stands_right rs (suc i) l m s.1) in
    let v = reread rs t (suc i) p.0 (stands_left rs (suc i) l m s.1) in
    let w = reread rs u (suc i + size t) p.1 b in
    read_to rs i (suc i + size t + size u) (i + suc (size t + size u)) (sum t u) (omega arith) (at_or s.0 v.0 w.0, ap₂ sum v.1 w.1)
reread rs (var y) i p s = read_to rs i (suc i) (i + 1) (var y) (omega arith) (at_go s.0, refl)
reread rs (recur x t) i p s =
    let v = reread rs t (suc i) p.1 s.1 in
    read_to rs i (suc i + size t) (i + suc (size t)) (recur x t) (omega arith) (at_rec s.0 v.0, ap₂ recur (sym p.0) v.1)

allowed_both : (l m : List Record) → all_allowed l ≡ true → all_allowed m ≡ true → all_allowed (l ++ m) ≡ true
allowed_both [] m a b = b
allowed_both (r ∷ l) m a b =
    let p = and_parts (allowed r) (all_allowed l) a in and_from (allowed r) (all_allowed (l ++ m)) p.0 (allowed_both l m p.1 b)

written_allowed : (t : Term) (i : ℕ) → Placed i t → all_allowed (written i t) ≡ true
written_allowed nil i p = refl
written_allowed (prefix zero t) i p = written_allowed t (suc i) p.1
written_allowed (prefix (suc a) t) i p =
    and_from (allowed (row 1 (suc a))) (all_allowed (written (suc i) t))
    (and_from (ltb 0 (suc a)) (leb (suc a) 24) (lt-ltb 0 (suc a) (omega arith)) (le-leb (suc a) 24 p.0))
    (written_allowed t (suc i) p.1)
written_allowed (sum t u) i p = allowed_both (written (suc i) t) (written (suc i + size t) u) (written_allowed t (suc i) p.0) (written_allowed u (suc i + size t) p.1)
written_allowed (var y) i p = refl
written_allowed (recur x t) i p = written_allowed t (suc i) p.1

-- a table that a term writes passes the first three tests, and its term is that term
module _ (rs : List Record) (t : Term) (w : Writes rs t) where
  long : length rs ≡ size t
  long = ap length w.same ∙ written_long t 0

  whole : ReadAs rs 0 (length rs) t
  whole =
      read_to rs 0 (0 + size t) (length rs) t (omega (arith, long))
      (reread rs t 0 w.placed (subst (λ (l : List Record). Stands rs 0 l) w.same (stands_self rs)))

  pub writes_fits : fits rs ≡ true
  writes_fits =
      and_from (ltb 0 (length rs)) (leb (length rs) 64)
      (lt-ltb 0 (length rs) (omega (arith, size_some t, long)))
      (le-leb (length rs) 64 (omega (arith, long, w.few)))

  pub writes_allowed : all_allowed rs ≡ true
  writes_allowed = ap all_allowed w.same ∙ written_allowed t 0 w.placed

  pub writes_laid : laid_out rs ≡ true
  writes_laid = ap (is_at (length rs)) (at_past_in whole.0 (length rs) (omega arith)) ∙ eq-eqb (length rs) (length rs) refl

  pub writes_term : t ≡ term rs 0
  writes_term = sym (sub_is whole.0 ∙ whole.1)

  -- it passes the last two where the term is closed and guarded
  pub writes_bound : Closed t → all_bound rs ≡ true
  writes_bound c = closed_passes rs whole.0 (subst Closed (sym whole.1) c)

  pub writes_guarded : all_bound rs ≡ true → Guarded t → all_guarded rs ≡ true
  writes_guarded b g = guarded_passes rs (bound_of rs b) whole.0 (subst Guarded (sym whole.1) g)

-- an allowed record is that of its form
allowed_is : (k a : ℕ) → allowed (row k a) ≡ true → Some (row k a) ≡ option_map record_of (kind_of k a)
allowed_is zero a e = ap (λ n. Some (row 0 n)) (eqb-true a 0 e)
allowed_is (suc zero) a e = refl
allowed_is (suc (suc zero)) a e = ap (λ n. Some (row 2 n)) (eqb-true a 0 e)
allowed_is (suc (suc (suc zero))) a e = refl
allowed_is (suc (suc (suc (suc zero)))) a e = ap (λ n. Some (row 4 n)) (eqb-true a 0 e)
allowed_is (suc (suc (suc (suc (suc zero))))) a e = refl
allowed_is (suc (suc (suc (suc (suc (suc n)))))) a e = absurd (false≢true e)

-- allowed records of the same forms are the same
same_records : (rs l : List Record) → length rs ≡ length l → Stands rs 0 l → all_allowed rs ≡ true → all_allowed l ≡ true → rs ≡ l
same_records [] [] n s a b = refl
same_records [] (q ∷ l) n s a b = absurd (omega arith)
same_records (r ∷ rs) [] n s a b = absurd (omega arith)
same_records (r ∷ rs) (q ∷ l) n s a b =
    let c = and_parts (allowed r) (all_allowed rs) a in
    let d = and_parts (allowed q) (all_allowed l) b in
    ap₂ ◌∷◌
    (same_Some r q (allowed_is r.kind r.argument c.0 ∙ ap (option_map record_of) s.0 ∙ sym (allowed_is q.kind q.argument d.0)))
    (same_records rs l (omega arith) (stands_before r rs 0 l s.1) c.1 d.1)

-- a laid out table of allowed records is what its term writes
module _ (rs : List Record) (known : all_allowed rs ≡ true) where
  size_is : {i j : ℕ} (d : At rs i j) → i + size (sub_of d) ≡ j
  size_is (at_end f) = omega arith
  size_is (at_do f d) = omega (arith, size_is d)
  size_is (at_tau f d) = omega (arith, size_is d)
  size_is (at_or f d e) = omega (arith, size_is d, size_is e)
  size_is (at_rec f d) = omega (arith, size_is d)
  size_is (at_go f) = omega arith

  placed_is : {i j : ℕ} (d : At rs i j) → Placed i (sub_of d)
  placed_is (at_end f) = tt
  placed_is (at_do {i = i} {a = a} f d) = ((do_below rs i a known f).1, placed_is d)
  placed_is (at_tau f d) = (omega arith, placed_is d)
  placed_is (at_or f d e) = (placed_is d, subst (λ (n : ℕ). Placed n (sub_of e)) (sym (size_is d)) (placed_is e))
  placed_is (at_rec f d) = (refl, placed_is d)
  placed_is (at_go f) = tt

  stands_do : (a i : ℕ) (t : Term) → 1 ≤ a → form_at rs i ≡ Some (Do a) → Stands rs (suc i) (written (suc i) t) → Stands rs i (written i (prefix a t))
  stands_do zero i t l f s = absurd (omega arith)
  stands_do (suc a) i t l f s = (f, s)

  stands_is : {i j : ℕ} (d : At rs i j) → Stands rs i (written i (sub_of d))
  stands_is (at_end f) = (f, tt)
  stands_is (at_do {i = i} {a = a} f d) = stands_do a i (sub_of d) (do_below rs i a known f).0 f (stands_is d)
  stands_is (at_tau f d) = (f, stands_is d)
  stands_is (at_or {i = i} {r = r} f d e) =
      let n = size_is d in (
        subst (λ (k : ℕ). form_at rs i ≡ Some (Or k)) (sym n) f,
        stands_both rs (suc i) (written (suc i) (sub_of d)) (written (suc i + size (sub_of d)) (sub_of e)) (stands_is d)
            (subst (λ (k : ℕ). Stands rs (suc i + k) (written (suc i + size (sub_of d)) (sub_of e))) (sym (written_long (sub_of d) (suc i)))
            (subst (λ (k : ℕ). Stands rs k (written k (sub_of e))) (sym n) (stands_is e))),
      )
  stands_is (at_rec f d) = (f, stands_is d)
  stands_is (at_go f) = (f, tt)

  pub is_written : length rs ≤ 64 → (d : At rs 0 (length rs)) → Writes rs (term rs 0)
  is_written h d =
      let s = sub_of d in
      subst (Writes rs) (sym (sub_is d))
      (record {
        same = same_records rs (written 0 s) (omega (arith, size_is d, written_long s 0)) (stands_is d) known (written_allowed s 0 (placed_is d));
        placed = placed_is d;
        few = omega (arith, size_is d);
      })
