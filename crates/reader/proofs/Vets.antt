-- A good tree's records pass vetting.
use Rattle.std.proofs.Common.{◌≡◌, ℕ, suc, ◌+◌, ◌<◌, ◌≤◌, Bool, true, false, cond, ◌&&◌, ltb, leb, ◌⊎◌, List, [], ◌∷◌, length, Some, None, Ok, Option, Result, unwrap_or, refl, ap, ◌∙◌, subst, inl, inr, ⊎_elim, arith}
use Rattle.std.proofs.lemmas.Bool.{and_from, lt-ltb, le-leb, eq-eqb, cases_lt, false≢true}
use Rattle.std.proofs.lemmas.List.Folds.{list_all-append}
use Rattle.std.specs.Option.{option_map}
use Rattle.std.specs.Str.{bytes_eq}
use Rattle.formtable.specs.declared.record.Form.{Form}
use Rattle.formtable.specs.declared.record.Form.TheVariants.{Go}
use Rattle.formtable.specs.declared.record.Record.{Record}
use Rattle.formtable.specs.Kinds.{is_rec, is_do, row}
use Rattle.formtable.specs.Layout.{form_at, reaches}
use Rattle.formtable.specs.Layout.{past as past_of}
use Rattle.formtable.specs.Vet.{allowed, all_allowed, is_at, bound_by, guards, guarded_by, unless, verdict}
use Rattle.formtable.specs.Loops.{some_holds, each_all}
use Rattle.motions.specs.Naming.{names, motion_of, place_of}
use Rattle.motions.proofs.Lookups.{one_to_one}
use Rattle.common.specs.First.{first as first_where}
use Rattle.formtable.specs.Laid.{some_inj, none_some}
use Rattle.reader.specs.Reading.{Bound, binds, lookup}
use Rattle.reader.specs.Plans.{Tree, stop, act, tau, or, loop, again, size, flatten, Good}
use Rattle.reader.proofs.Tables.{length_flatten, Holds, first, next, front, right_of, past, own, size_above}

-- kinds and arguments

-- the motion of a name is one of the 24
within : (test : List ℕ → Bool) (xs : List (List ℕ)) (i : ℕ) → first_where test xs ≡ Some i → i < length xs
within test [] i e = absurd (none_some e)
within test (x ∷ xs) i e = pick (test x) e (within test xs)
  where
    more : (o : Option ℕ) → option_map suc o ≡ Some i → ((j : ℕ) → o ≡ Some j → j < length xs) → i < suc (length xs)
    more None e h = absurd (none_some e)
    more (Some j) e h = let q = some_inj e in omega (arith, h j refl)

    pick : (c : Bool) → cond c (Some 0) (option_map suc (first_where test xs)) ≡ Some i → ((j : ℕ) → first_where test xs ≡ Some j → j < length xs) → i < suc (length xs)
    pick true e h = let q = some_inj e in omega arith
    pick false e h = more (first_where test xs) e h

pub known : (w : List ℕ) (m : ℕ) → motion_of w ≡ Some m → (0 < m) × (m ≤ 24)
known w m e = by (place_of w) refl e
  where
    by : (o : Option ℕ) → place_of w ≡ o → option_map (λ i. i + 1) o ≡ Some m → (0 < m) × (m ≤ 24)
    by None i e = absurd (none_some e)
    by (Some k) i e = let q = some_inj e in let l : k < 24 = within (λ x. bytes_eq x w) names k i in (omega arith, omega arith)

pub kinds_good : (env : List Bound) (g p : ℕ) (t : Tree) → Good env g p t → all_allowed (flatten env p t) ≡ true
kinds_good env g p stop good = refl
kinds_good env g p (act w t) good =
    let m = good.0.0 in
    let named = (one_to_one w m).1 good.0.1 in
    let k = known w m named in
    let e : unwrap_or (motion_of w) 0 ≡ m = ap (λ z. unwrap_or z 0) named in
    and_from (allowed (row 1 (unwrap_or (motion_of w) 0))) _ (ap (λ z. allowed (row 1 z)) e ∙ and_from (ltb 0 m) (leb m 24) (lt-ltb 0 m k.0) (le-leb m 24 k.1)) (kinds_good env p (p + 1) t good.1)
kinds_good env g p (tau t) good = kinds_good env g (p + 1) t good
kinds_good env g p (or l r) good = list_all-append allowed (flatten env (p + 1) l) _ ∙ and_from (all_allowed (flatten env (p + 1) l)) _ (kinds_good env g (p + 1) l good.0) (kinds_good env g (p + 1 + size l) r good.1)
kinds_good env g p (loop x t) good = kinds_good (binds x p ∷ env) g (p + 1) t good
kinds_good env g p (again x) good = refl

-- goes

-- the form at k, which comes before p, is of this sort and goes on to e at least
abbrev Over : List Record → (Option Form → Bool) → ℕ → ℕ → ℕ → Type 0
Over xs is k p e = (is (form_at xs k) ≡ true) × (k < p) × ((z : ℕ) × (past_of xs k ≡ Some z) × (e ≤ z))

abbrev Recs : List Record → ℕ → ℕ → List Bound → Type 0
Recs xs p e [] = Unit {0}
Recs xs p e (b ∷ bs) = Over xs is_rec b.place p e × Recs xs p e bs

abbrev Dos : List Record → ℕ → ℕ → ℕ → Type 0
Dos xs p e g = (g ≡ 0) ⊎ Over xs is_do g p e

over_in : (xs : List Record) (is : Option Form → Bool) (k p e p' e' : ℕ) → p ≤ p' → e' ≤ e → Over xs is k p e → Over xs is k p' e'
over_in xs is k p e p' e' h l o = (o.0, omega (arith, o.1), (o.2.0, o.2.1, omega (arith, o.2.2)))

recs_in : (xs : List Record) (p e p' e' : ℕ) (env : List Bound) → p ≤ p' → e' ≤ e → Recs xs p e env → Recs xs p' e' env
recs_in xs p e p' e' [] h l r = tt
recs_in xs p e p' e' (b ∷ bs) h l r = (over_in xs is_rec b.place p e p' e' h l r.0, recs_in xs p e p' e' bs h l r.1)

dos_in : (xs : List Record) (p e p' e' g : ℕ) → p ≤ p' → e' ≤ e → Dos xs p e g → Dos xs p' e' g
dos_in xs p e p' e' g h l d = ⊎_elim (λ z. inl z) (λ o. inr (over_in xs is_do g p e p' e' h l o)) d

found : (xs : List Record) (p e : ℕ) (env : List Bound) (w : List ℕ) (k : ℕ) → Recs xs p e env → lookup env w ≡ Some k → Over xs is_rec k p e
found xs p e [] w k r l = absurd (none_some l)
found xs p e (b ∷ bs) w k r l = pick (bytes_eq b.name w) l (found xs p e bs w k r.1)
  where
    pick : (c : Bool) → cond c (Some b.place) (lookup bs w) ≡ Some k → (lookup bs w ≡ Some k → Over xs is_rec k p e) → Over xs is_rec k p e
    pick true i f = subst (λ z. Over xs is_rec z p e) (some_inj i) r.0
    pick false i f = f i

over_reaches : (xs : List Record) (is : Option Form → Bool) (k p e j : ℕ) → Over xs is k p e → j < e → reaches j (past_of xs k) ≡ true
over_reaches xs is k p e j o h = ap (reaches j) o.2.1 ∙ lt-ltb j o.2.0 (omega (arith, o.2.2))

-- if a go stands at j, it is bound and guarded
abbrev pub Fine : List Record → ℕ → Type 0
Fine xs j = (bound_by xs j (form_at xs j) ≡ true) × (guarded_by xs j (form_at xs j) ≡ true)

fine_by : (xs : List Record) (j : ℕ) (f : Option Form) → form_at xs j ≡ f → bound_by xs j f ≡ true → guarded_by xs j f ≡ true → Fine xs j
fine_by xs j f i b g = (ap (bound_by xs j) i ∙ b, ap (guarded_by xs j) i ∙ g)

here_or : (xs : List Record) (p j : ℕ) → p ≤ j → Fine xs p → (p + 1 ≤ j → Fine xs j) → Fine xs j
here_or xs p j l f k = ⊎_elim (λ h. let e : p ≡ j = omega arith in subst (Fine xs) e f) k (cases_lt j (p + 1))

pub fine : (xs : List Record) (env : List Bound) (g p : ℕ) (t : Tree) → Holds xs p (flatten env p t) → Good env g p t → Recs xs p (p + size t) env → Dos xs p (p + size t) g → (j : ℕ) → p ≤ j → j < p + size t → Fine xs j
fine xs env g p stop h good r d j l m = here_or xs p j l (fine_by xs p _ (first xs p _ [] h) refl refl) (λ k. absurd (omega arith))
fine xs env g p (act w t) h good r d j l m =
    let i = first xs p _ _ h in
    here_or xs p j l (fine_by xs p _ i refl refl)
    (λ k. fine xs env p (p + 1) t (next xs p _ _ h) good.1 (recs_in xs p _ _ _ env (omega arith) (omega arith) r) (inr (ap is_do i, omega arith, (_, past xs env p (act w t) h, omega arith))) j k (omega arith))
fine xs env g p (tau t) h good r d j l m =
    here_or xs p j l (fine_by xs p _ (first xs p _ _ h) refl refl)
    (λ k. fine xs env g (p + 1) t (next xs p _ _ h) good (recs_in xs p _ _ _ env (omega arith) (omega arith) r) (dos_in xs p _ _ _ g (omega arith) (omega arith) d) j k (omega arith))
fine xs env g p (or u v) h good r d j l m =
    let q = p + 1 + size u in
    let inner = next xs p _ _ h in
    here_or xs p j l (fine_by xs p _ (first xs p _ _ h) refl refl)
    (λ k. ⊎_elim
    (λ lt. fine xs env g (p + 1) u (front xs (p + 1) _ (flatten env q v) inner) good.0 (recs_in xs p _ _ _ env (omega arith) (omega arith) r) (dos_in xs p _ _ _ g (omega arith) (omega arith) d) j k lt)
    (λ ge. fine xs env g q v (right_of xs env p u _ inner) good.1 (recs_in xs p _ _ _ env (omega arith) (omega arith) r) (dos_in xs p _ _ _ g (omega arith) (omega arith) d) j ge (omega arith))
    (cases_lt j q))
fine xs env g p (loop x t) h good r d j l m =
    let i = first xs p _ _ h in
    here_or xs p j l (fine_by xs p _ i refl refl)
    (λ k. fine xs (binds x p ∷ env) g (p + 1) t (next xs p _ _ h) good ((ap is_rec i, omega arith, (_, past xs env p (loop x t) h, omega arith)), recs_in xs p _ _ _ env (omega arith) (omega arith) r) (dos_in xs p _ _ _ g (omega arith) (omega arith) d) j k (omega arith))
fine xs env g p (again x) h good r d j l m =
    let k = good.0 in
    let i : form_at xs p ≡ Some (Go k) = first xs p _ [] h ∙ ap (λ z. Some (Go (unwrap_or z 0))) good.1 in
    let o = found xs p _ env x k r good.1 in
    here_or xs p j l
    (⊎_elim (λ z. absurd (omega (arith, good.2)))
    (λ a. fine_by xs p _ i
    (and_from (is_rec (form_at xs k) && ltb k p) _ (and_from (is_rec (form_at xs k)) (ltb k p) o.0 (lt-ltb k p o.1)) (over_reaches xs is_rec k p _ p o (omega arith)))
    (some_holds (guards xs k p) p g a.1 (and_from (ltb k g && is_do (form_at xs g)) _ (and_from (ltb k g) (is_do (form_at xs g)) (lt-ltb k g good.2) a.0) (over_reaches xs is_do g p _ p a (omega arith))))) d)
    (λ k. absurd (omega arith))

-- the verdict

passed : (b : Bool) (f : ℕ) (r q : Result (Unit {0}) ℕ) → b ≡ true → r ≡ q → unless b f r ≡ q
passed true f r q e h = h
passed false f r q e h = absurd (false≢true e)

pub vets : (t : Tree) → Good [] 0 0 t → size t ≤ 64 → verdict (flatten [] 0 t) ≡ Ok tt
vets t good few =
    let rs = flatten [] 0 t in
    let long : length rs ≡ size t = length_flatten [] 0 t in
    let all = fine rs [] 0 0 t (own [] t) good tt (inl refl) in
    passed _ _ _ _ (and_from (ltb 0 (length rs)) (leb (length rs) 64) (lt-ltb 0 (length rs) (omega (arith, size_above t))) (le-leb (length rs) 64 (omega arith)))
    (passed _ _ _ _ (kinds_good [] 0 0 t good)
    (passed _ _ _ _ (ap (is_at (length rs)) (past rs [] 0 t (own [] t)) ∙ eq-eqb (0 + size t) (length rs) (omega arith))
    (passed _ _ _ _ (each_all (λ j. bound_by rs j (form_at rs j)) (length rs) (λ j l. (all j (omega arith) (omega arith)).0))
    (passed _ _ _ _ (each_all (λ j. guarded_by rs j (form_at rs j)) (length rs) (λ j l. (all j (omega arith) (omega arith)).1)) refl))))
