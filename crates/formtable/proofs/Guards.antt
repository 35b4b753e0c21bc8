-- A table passes the test of guarded gos exactly when its term is guarded.
use Rattle.std.proofs.Common.{None, Option, ◌≡◌, ℕ, zero, suc, ◌<◌, ◌≤◌, Bool, true, false, ◌&&◌, ltb, ◌⊎◌, List, length, Some, sym, refl, ap, ◌∙◌, subst, inl, inr, ⊎_elim, arith}
use Rattle.std.proofs.lemmas.Bool.{and_parts, and_from, ltb-true, lt-ltb, cases_lt, true≢false, false≢true}
use Rattle.formtable.specs.Kinds.{is_do}
use Rattle.formtable.specs.Layout.{form_at, past, reaches}
use Rattle.formtable.specs.Terms.{Term, nil, prefix, sum, var, recur, Bare, Guarded, Unguarded}
use Rattle.formtable.specs.Vet.{all_allowed, all_guarded, guarded_by, guards}
use Rattle.formtable.specs.declared.record.Form.{Form}
use Rattle.formtable.specs.declared.record.Form.TheVariants.{End, Do, Tau, Or, Rec, Go}
use Rattle.formtable.specs.declared.record.Record.{Record}
use Rattle.formtable.proofs.Filled.{not_rec}
use Rattle.formtable.specs.Laid.{At, at_end, at_do, at_tau, at_or, at_rec, at_go, at_longer, at_past_in, at_inside, some_inj, reaches_over, Bound}
use Rattle.formtable.specs.Loops.{each_at, each_not, some_at, some_holds}
use Rattle.formtable.specs.Motions.{do_below}
use Rattle.formtable.specs.Steps.{at_within, known_within}
use Rattle.formtable.proofs.Subterms.{sub_of, not_go}

-- a do at d, from lo on and before j, is around j
pub record Guard (rs : List Record) (lo j d : ℕ) : Type 0 where
  pub from : lo ≤ d
  pub before : d < j
  pub by : ℕ
  pub form_is_do : form_at rs d ≡ Some (Do by)
  pub end : ℕ
  pub past_is : past rs d ≡ Some end
  pub over : j < end

-- each go has one behind its rec
abbrev pub HasGuards : List Record → Type 0
HasGuards rs = (j k : ℕ) → form_at rs j ≡ Some (Go k) → (d : ℕ) × Guard rs (suc k) j d

do_form : (f : Option Form) → is_do f ≡ true → (a : ℕ) × (f ≡ Some (Do a))
do_form (Some End) e = absurd (false≢true e)
do_form (Some (Do a)) e = (a, refl)
do_form (Some Tau) e = absurd (false≢true e)
do_form (Some (Or r)) e = absurd (false≢true e)
do_form (Some Rec) e = absurd (false≢true e)
do_form (Some (Go k)) e = absurd (false≢true e)
do_form None e = absurd (false≢true e)

-- no term is both
pub guarded_or_not : (t : Term) → Guarded t → Unguarded t → ⊥
guarded_or_not nil g u = u
guarded_or_not (prefix a t) g u = guarded_or_not t g u
guarded_or_not (sum s t) g (inl u) = guarded_or_not s g.0 u
guarded_or_not (sum s t) g (inr u) = guarded_or_not t g.1 u
guarded_or_not (var y) g u = u
guarded_or_not (recur x t) g (inl b) = g.0 b
guarded_or_not (recur x t) g (inr u) = guarded_or_not t g.1 u

module _ (rs : List Record) where
  -- the test of one do, each way
  guard_of : (k j d : ℕ) → d < j → guards rs k j d ≡ true → Guard rs (suc k) j d
  guard_of k j d h e =
      let a = and_parts (ltb k d && is_do (form_at rs d)) (reaches j (past rs d)) e in
      let b = and_parts (ltb k d) (is_do (form_at rs d)) a.0 in
      let f = do_form (form_at rs d) b.1 in
      let o = reaches_over j (past rs d) a.1 in
      record { from = ltb-true k d b.0; before = h; by = f.0; form_is_do = f.1; end = o.0; past_is = o.1; over = o.2 }

  of_guard : (k j d : ℕ) → Guard rs (suc k) j d → guards rs k j d ≡ true
  of_guard k j d g =
      and_from (ltb k d && is_do (form_at rs d)) (reaches j (past rs d))
      (and_from (ltb k d) (is_do (form_at rs d)) (lt-ltb k d g.from) (ap is_do g.form_is_do))
      (ap (reaches j) g.past_is ∙ lt-ltb j g.end g.over)

  pub passes_guards : all_guarded rs ≡ true → HasGuards rs
  passes_guards ok j k q =
      let t = each_at (λ i. guarded_by rs i (form_at rs i)) (length rs) j (known_within rs j (Go k) q) ok in
      let s = some_at (guards rs k j) j (ap (guarded_by rs j) (sym q) ∙ t) in
      (s.0, guard_of k j s.0 s.1 s.2)

  -- x is named by a go from i on and before j, with no do from i on around that go
  abbrev BareGo : ℕ → ℕ → ℕ → Type 0
  BareGo x i j = (g : ℕ) × (i ≤ g) × (g < j) × (form_at rs g ≡ Some (Go x)) × ((d : ℕ) → Guard rs i g d → ⊥)

  not_do : (i d a : ℕ) (f : Option Form) → form_at rs i ≡ f → is_do f ≡ false → form_at rs d ≡ Some (Do a) → i ≡ d → ⊥
  not_do i d a f p n q e = true≢false (ap is_do (sym q) ∙ ap (λ (y : ℕ). is_do (form_at rs y)) (sym e) ∙ ap is_do p ∙ n)

  further : (lo hi j d : ℕ) → hi ≤ d → Guard rs lo j d → Guard rs hi j d
  further lo hi j d h g = record { from = h; before = g.before; by = g.by; form_is_do = g.form_is_do; end = g.end; past_is = g.past_is; over = g.over }

  -- out of the first inner form of a form that is no do
  outwards : (x i j : ℕ) (f : Option Form) → form_at rs i ≡ f → is_do f ≡ false → BareGo x (suc i) j → BareGo x i j
  outwards x i j f p n b = (b.0, omega (arith, b.1), b.2, b.3, λ d g. b.4 d (further i (suc i) b.0 d (next d g) g))
    where
      next : (d : ℕ) → Guard rs i b.0 d → suc i ≤ d
      next d g = let ne : i ≡ d → ⊥ = not_do i d g.by f p n g.form_is_do in omega (arith, g.from)

  -- out of the right-hand form of an or
  outwards_right : (x i r j : ℕ) → form_at rs i ≡ Some (Or r) → At rs (suc i) r → BareGo x r j → BareGo x i j
  outwards_right x i r j p e b =
      (b.0, omega (arith, b.1, at_longer e), b.2, b.3, λ d g. b.4 d (further i r b.0 d (next d g) g))
    where
      left : (d : ℕ) → Guard rs i b.0 d → d < r → ⊥
      left d g l =
          let ne : i ≡ d → ⊥ = not_do i d g.by (Some (Or r)) p refl g.form_is_do in
          let s = at_inside e d (omega (arith, g.from)) l in
          let same = some_inj (sym g.past_is ∙ at_past_in s.1 (length rs) (omega (arith, s.2, at_within e))) in
          omega (arith, b.1, g.over, same, s.2)

      next : (d : ℕ) → Guard rs i b.0 d → r ≤ d
      next d g = ⊎_elim {C = r ≤ d} (λ l. absurd (left d g l)) (λ l. l) (cases_lt d r)

  module _ (known : all_allowed rs ≡ true) where
    bare_go : {i j : ℕ} (d : At rs i j) (x : ℕ) → Bare x (sub_of d) → BareGo x i j
    bare_go (at_end f) x v = absurd v
    bare_go (at_do {i = i} {a = a} f d) x v = absurd (omega (arith, (do_below rs i a known f).0, v.0))
    bare_go (at_tau {i = i} {j = j} f d) x v = outwards x i j (Some Tau) f refl (bare_go d x v.1)
    bare_go (at_or {i = i} {r = r} {j = j} f d e) x (inl v) =
        let b = bare_go d x v in
        outwards x i j (Some (Or r)) f refl (b.0, b.1, omega (arith, b.2, at_longer e), b.3, b.4)
    bare_go (at_or {i = i} {r = r} {j = j} f d e) x (inr v) = outwards_right x i r j f d (bare_go e x v)
    bare_go (at_rec {i = i} {j = j} f d) x v = outwards x i j (Some Rec) f refl (bare_go d x v.1)
    bare_go (at_go {i = i} {k = k} f) x v =
        (i, omega arith, omega arith, f ∙ ap (λ k. Some (Go k)) (sym v), λ d g. omega (arith, g.from, g.before))

    -- a laid out form is guarded where each go has its do
    pub all_guarded_at : HasGuards rs → {i j : ℕ} (d : At rs i j) → Guarded (sub_of d)
    all_guarded_at gs (at_end f) = tt
    all_guarded_at gs (at_do f d) = all_guarded_at gs d
    all_guarded_at gs (at_tau f d) = all_guarded_at gs d
    all_guarded_at gs (at_or f d e) = (all_guarded_at gs d, all_guarded_at gs e)
    all_guarded_at gs (at_rec {i = i} f d) =
        (λ v. let b = bare_go d i v in let g = gs b.0 i b.3 in b.4 g.0 g.1, all_guarded_at gs d)
    all_guarded_at gs (at_go f) = tt

  -- a go with no do around it is bare in each form around it
  go_bare : {i j : ℕ} (d : At rs i j) (g x : ℕ) → i ≤ g → g < j → form_at rs g ≡ Some (Go x) → x < i → ((e : ℕ) → Guard rs i g e → ⊥) → Bare x (sub_of d)
  go_bare (at_end {i = i} f) g x l m q o ne = absurd (not_go rs i g x (Some End) f refl q (omega arith))
  go_bare (at_do {i = i} {a = a} {j = j} f d) g x l m q o ne =
      let other : i ≡ g → ⊥ = not_go rs i g x (Some (Do a)) f refl q in
      absurd (ne i (record {
        from = omega arith;
        before = omega arith;
        by = a;
        form_is_do = f;
        end = j;
        past_is = at_past_in (at_do f d) (length rs) (omega (arith, at_within d));
        over = m;
      }))
  go_bare (at_tau {i = i} f d) g x l m q o ne =
      let other : i ≡ g → ⊥ = not_go rs i g x (Some Tau) f refl q in
      (refl, go_bare d g x (omega arith) m q (omega arith) (λ e w. ne e (further (suc i) i g e (omega (arith, w.from)) w)))
  go_bare (at_or {i = i} {r = r} f d e) g x l m q o ne =
      let other : i ≡ g → ⊥ = not_go rs i g x (Some (Or r)) f refl q in
      let long : suc i < r = at_longer d in
      ⊎_elim {C = Bare x (sub_of d) ⊎ Bare x (sub_of e)}
      (λ k. inl (go_bare d g x (omega arith) k q (omega arith) (λ y w. ne y (further (suc i) i g y (omega (arith, w.from)) w))))
      (λ k. inr (go_bare e g x k m q (omega arith) (λ y w. ne y (further r i g y (omega (arith, w.from)) w))))
      (cases_lt g r)
  go_bare (at_rec {i = i} f d) g x l m q o ne =
      let other : i ≡ g → ⊥ = not_go rs i g x (Some Rec) f refl q in
      (λ e. omega arith, go_bare d g x (omega arith) m q (omega arith) (λ e w. ne e (further (suc i) i g e (omega (arith, w.from)) w)))
  go_bare (at_go {i = i} {k = k} f) g x l m q o ne = let same : i ≡ g = omega arith in cc

  -- each form at x is unguarded
  abbrev UnguardedAt : ℕ → Type 0
  UnguardedAt x = (p : ℕ) (e : At rs x p) → Unguarded (sub_of e)

  here_or : {i j : ℕ} (d : At rs i j) (x : ℕ) → i ≤ x → UnguardedAt x → (suc i ≤ x → Unguarded (sub_of d)) → Unguarded (sub_of d)
  here_or {i} {j} d x l u k =
      ⊎_elim {C = Unguarded (sub_of d)}
      (λ q. subst UnguardedAt (let e : x ≡ i = omega arith in e) u j d)
      k
      (cases_lt x (suc i))

  -- a form around an unguarded one is unguarded
  unguarded_out : {i j : ℕ} (d : At rs i j) (x : ℕ) → i ≤ x → x < j → UnguardedAt x → Unguarded (sub_of d)
  unguarded_out (at_end f) x l h u = here_or (at_end f) x l u (λ m. absurd (omega arith))
  unguarded_out (at_do f d) x l h u = here_or (at_do f d) x l u (λ m. unguarded_out d x m h u)
  unguarded_out (at_tau f d) x l h u = here_or (at_tau f d) x l u (λ m. unguarded_out d x m h u)
  unguarded_out (at_or {r = r} f d e) x l h u =
      here_or (at_or f d e) x l u
      (λ m. ⊎_elim {C = Unguarded (sub_of d) ⊎ Unguarded (sub_of e)} (λ q. inl (unguarded_out d x m q u)) (λ q. inr (unguarded_out e x q h u)) (cases_lt x r))
  unguarded_out (at_rec f d) x l h u = here_or (at_rec f d) x l u (λ m. inr (unguarded_out d x m h u))
  unguarded_out (at_go f) x l h u = here_or (at_go f) x l u (λ m. absurd (omega arith))

  -- the rec k of a go at j that has no do is unguarded
  rec_unguarded : {k p : ℕ} (j : ℕ) (e : At rs k p) → form_at rs k ≡ Some Rec → k < j → j < p → form_at rs j ≡ Some (Go k) → ((d : ℕ) → Guard rs (suc k) j d → ⊥) → Unguarded (sub_of e)
  rec_unguarded {k} j (at_end f) q l h g ne = absurd (not_rec rs k k (Some End) q f refl refl)
  rec_unguarded {k} j (at_do {a = a} f d) q l h g ne = absurd (not_rec rs k k (Some (Do a)) q f refl refl)
  rec_unguarded {k} j (at_tau f d) q l h g ne = absurd (not_rec rs k k (Some Tau) q f refl refl)
  rec_unguarded {k} j (at_or {r = r} f d e) q l h g ne = absurd (not_rec rs k k (Some (Or r)) q f refl refl)
  rec_unguarded {k} j (at_rec f d) q l h g ne = inl (go_bare d j k l h g (omega arith) ne)
  rec_unguarded {k} j (at_go {k = m} f) q l h g ne = absurd (not_rec rs k k (Some (Go m)) q f refl refl)

  -- the test of one place, where it fails
  unguarded_go : (j : ℕ) (f : Option Form) → form_at rs j ≡ f → guarded_by rs j f ≡ false → (k : ℕ) × (form_at rs j ≡ Some (Go k)) × ((d : ℕ) → Guard rs (suc k) j d → ⊥)
  unguarded_go j (Some End) q e = absurd (true≢false e)
  unguarded_go j (Some (Do a)) q e = absurd (true≢false e)
  unguarded_go j (Some Tau) q e = absurd (true≢false e)
  unguarded_go j (Some (Or r)) q e = absurd (true≢false e)
  unguarded_go j (Some Rec) q e = absurd (true≢false e)
  unguarded_go j (Some (Go k)) q e = (k, q, λ d w. true≢false (sym (some_holds (guards rs k j) j d w.before (of_guard k j d w)) ∙ e))
  unguarded_go j None q e = absurd (true≢false e)

  module _ (bound : Bound rs) (whole : At rs zero (length rs)) where
    -- a table that fails the test has an unguarded recursion
    pub unguarded_term : all_guarded rs ≡ false → Unguarded (sub_of whole)
    unguarded_term e =
        let v = each_not (λ j. guarded_by rs j (form_at rs j)) (length rs) e in
        let u = unguarded_go v.0 (form_at rs v.0) refl v.2 in
        let b = bound v.0 u.0 u.1 in
        unguarded_out whole u.0 (omega arith) (known_within rs u.0 Rec b.0)
        (λ p d.
        let same = some_inj (sym b.2.1 ∙ at_past_in d (length rs) (omega (arith, at_within d))) in
        rec_unguarded v.0 d b.0 b.1 (omega (arith, same, b.2.2)) u.1 u.2)

    -- and so one whose term is guarded passes it
    pub guarded_passes : Guarded (sub_of whole) → all_guarded rs ≡ true
    guarded_passes g = here (all_guarded rs) refl
      where
        here : (b : Bool) → all_guarded rs ≡ b → b ≡ true
        here true e = refl
        here false e = absurd (guarded_or_not (sub_of whole) g (unguarded_term e))
