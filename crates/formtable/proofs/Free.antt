-- Where a go names no rec around it, its variable is free in the term.
use Rattle.std.proofs.Common.{None, Option, ◌≡◌, ℕ, zero, ◌<◌, ◌≤◌, Bool, true, false, ◌&&◌, ltb, ◌⊎◌, List, length, Some, sym, refl, ap, ◌∙◌, inl, inr, ⊎_elim, arith}
use Rattle.std.proofs.lemmas.Bool.{and_from, lt-ltb, cases_lt, true≢false}
use Rattle.formtable.specs.Kinds.{is_rec}
use Rattle.formtable.specs.Layout.{form_at, past, reaches}
use Rattle.formtable.specs.Terms.{Free, Closed}
use Rattle.formtable.specs.Vet.{all_bound, bound_by}
use Rattle.formtable.specs.declared.record.Form.{Form}
use Rattle.formtable.specs.declared.record.Form.TheVariants.{End, Do, Tau, Or, Rec, Go}
use Rattle.formtable.specs.declared.record.Record.{Record}
use Rattle.formtable.specs.Laid.{At, at_end, at_do, at_tau, at_or, at_rec, at_go, at_past_in}
use Rattle.formtable.specs.Loops.{each_not}
use Rattle.formtable.specs.Steps.{at_within}
use Rattle.formtable.proofs.Subterms.{sub_of, not_go}

module _ (rs : List Record) where
  -- no rec at x is around g
  abbrev Loose : ℕ → ℕ → Type 0
  Loose x g = (p : ℕ) → form_at rs x ≡ Some Rec → x < g → past rs x ≡ Some p → g < p → ⊥

  -- a go that names no rec around it is free in each form around it
  go_free : {i j : ℕ} (d : At rs i j) (g x : ℕ) → i ≤ g → g < j → form_at rs g ≡ Some (Go x) → Loose x g → Free x (sub_of d)
  go_free (at_end {i = i} f) g x l m q ne = absurd (not_go rs i g x (Some End) f refl q (omega arith))
  go_free (at_do {i = i} {a = a} f d) g x l m q ne =
      let other : i ≡ g → ⊥ = not_go rs i g x (Some (Do a)) f refl q in go_free d g x (omega arith) m q ne
  go_free (at_tau {i = i} f d) g x l m q ne =
      let other : i ≡ g → ⊥ = not_go rs i g x (Some Tau) f refl q in go_free d g x (omega arith) m q ne
  go_free (at_or {i = i} {r = r} f d e) g x l m q ne =
      let other : i ≡ g → ⊥ = not_go rs i g x (Some (Or r)) f refl q in
      ⊎_elim {C = Free x (sub_of d) ⊎ Free x (sub_of e)}
      (λ k. inl (go_free d g x (omega arith) k q ne))
      (λ k. inr (go_free e g x k m q ne))
      (cases_lt g r)
  go_free (at_rec {i = i} {j = j} f d) g x l m q ne =
      let other : i ≡ g → ⊥ = not_go rs i g x (Some Rec) f refl q in
      let over : past rs i ≡ Some j = at_past_in (at_rec f d) (length rs) (omega (arith, at_within d)) in
      (λ e. ne j (ap (form_at rs) e ∙ f) (omega arith) (ap (past rs) e ∙ over) m, go_free d g x (omega arith) m q ne)
  go_free (at_go {i = i} f) g x l m q ne = let same : i ≡ g = omega arith in cc

  -- the test of one place, where it fails
  unbound_go : (j : ℕ) (f : Option Form) → form_at rs j ≡ f → bound_by rs j f ≡ false → (k : ℕ) × (form_at rs j ≡ Some (Go k)) × Loose k j
  unbound_go j (Some End) q e = absurd (true≢false e)
  unbound_go j (Some (Do a)) q e = absurd (true≢false e)
  unbound_go j (Some Tau) q e = absurd (true≢false e)
  unbound_go j (Some (Or r)) q e = absurd (true≢false e)
  unbound_go j (Some Rec) q e = absurd (true≢false e)
  unbound_go j (Some (Go k)) q e =
      (k, q, λ p r l s o. true≢false (sym (and_from (is_rec (form_at rs k) && ltb k j) (reaches j (past rs k)) (and_from (is_rec (form_at rs k)) (ltb k j) (ap is_rec r) (lt-ltb k j l)) (ap (reaches j) s ∙ lt-ltb j p o)) ∙ e))
  unbound_go j None q e = absurd (true≢false e)

  module _ (whole : At rs zero (length rs)) where
    -- a table that fails the test has a free variable
    pub unbound_free : all_bound rs ≡ false → (x : ℕ) × Free x (sub_of whole)
    unbound_free e =
        let v = each_not (λ j. bound_by rs j (form_at rs j)) (length rs) e in
        let u = unbound_go v.0 (form_at rs v.0) refl v.2 in
        (u.0, go_free whole v.0 u.0 (omega arith) v.1 u.1 u.2)

    -- and so one whose term is closed passes it
    pub closed_passes : Closed (sub_of whole) → all_bound rs ≡ true
    closed_passes closed = here (all_bound rs) refl
      where
        here : (b : Bool) → all_bound rs ≡ b → b ≡ true
        here true e = refl
        here false e = let v = unbound_free e in absurd (closed v.0 v.1)
