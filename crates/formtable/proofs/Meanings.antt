-- What a vetted table means, and what vetting's answer says.
use Rattle.std.proofs.Common.{◌≡◌, ℕ, zero, ◌<◌, Bool, true, false, List, length, Ok, Err, sym, refl, ◌∙◌, subst}
use Rattle.std.proofs.lemmas.Bool.{true≢false}
use Rattle.formtable.specs.Layout.{past, LaidOut}
use Rattle.formtable.specs.Meaning.{Meant, Judged}
use Rattle.formtable.specs.Places.{subterm, term}
use Rattle.formtable.specs.Terms.{Term, Free, Closed, Guarded, Unguarded}
use Rattle.formtable.specs.Vet.{vetted, verdict, fits, all_allowed, laid_out, all_bound, all_guarded}
use Rattle.formtable.specs.Written.{Writes}
use Rattle.formtable.specs.declared.record.Record.{Record}
use Rattle.formtable.proofs.Filled.{term_closed, term_guarded}
use Rattle.formtable.proofs.Free.{unbound_free}
use Rattle.formtable.proofs.Guards.{all_guarded_at, guarded_or_not, passes_guards, unguarded_term}
use Rattle.formtable.specs.Laid.{At, past_in_at}
use Rattle.formtable.proofs.Runs.{move_is_step, step_is_move, traces_are_language}
use Rattle.formtable.specs.Steps.{inside}
use Rattle.formtable.proofs.Subterms.{sub_is}
use Rattle.formtable.specs.Vetted.{Formed, formed_by, fits_length, is_at_some, length_misfits, misfit_length, passed_vetted, refused_21, refused_22, refused_23, refused_24, refused_25, verdict_21, verdict_22, verdict_23, verdict_24, verdict_25, verdict_ok, vetted_formed}
use Rattle.formtable.proofs.Written.{is_written, writes_allowed, writes_bound, writes_fits, writes_guarded, writes_laid, writes_term}

whole : (rs : List Record) → LaidOut rs → At rs zero (length rs)
whole rs laid = past_in_at (length rs) rs zero (length rs) laid

module _ (rs : List Record) (w : Formed rs) where
  formed_writes : Writes rs (term rs 0)
  formed_writes = is_written rs w.known w.few (whole rs w.laid)

  formed_closed : (i : ℕ) → i < length rs → Closed (term rs i)
  formed_closed = term_closed rs w.laid w.bound

  module _ (ok : all_guarded rs ≡ true) where
    subterm_guarded : (i : ℕ) → i < length rs → Guarded (subterm rs i)
    subterm_guarded i h =
        let d = (inside rs w.laid i h).1 in
        rw (sub_is d) (all_guarded_at rs w.known (passes_guards rs ok) d)

    formed_guarded : (i : ℕ) → i < length rs → Guarded (term rs i)
    formed_guarded = term_guarded rs w.laid w.bound subterm_guarded

    formed_meant : Meant rs
    formed_meant =
        record {
          moves_are_steps = move_is_step rs w;
          steps_are_moves = step_is_move rs w;
          traces = traces_are_language rs w;
          terms_closed = formed_closed;
          terms_guarded = formed_guarded;
          whole_writes = formed_writes;
        }

pub meant : (rs : List Record) → vetted rs ≡ true → Meant rs
meant rs ok = let v = vetted_formed rs ok in formed_meant rs v.0 v.1

-- the verdicts, from the tests to the term
module _ (raw : List Record) where
  laid_writes : fits raw ≡ true → all_allowed raw ≡ true → laid_out raw ≡ true → Writes raw (term raw 0)
  laid_writes f a l =
      is_written raw a (fits_length raw f).1 (whole raw (is_at_some (length raw) (past raw zero) l))

  ok_term : verdict raw ≡ Ok tt → (t : Term) × Writes raw t × Closed t × Guarded t
  ok_term q =
      let v = vetted_formed raw (passed_vetted raw q) in
      let w = v.0 in
      (term raw 0, formed_writes raw w, formed_closed raw w 0 w.some, formed_guarded raw w v.1 0 w.some)

  no_term : verdict raw ≡ Err 23 → (fits raw ≡ true) × (all_allowed raw ≡ true) × ((t : Term) → Writes raw t → ⊥)
  no_term q = let v = refused_23 raw q in (v.0, v.1, λ t w. true≢false (sym (writes_laid raw t w) ∙ v.2))

  free_term : verdict raw ≡ Err 24 → (t : Term) × Writes raw t × ((x : ℕ) × Free x t)
  free_term q =
      let v = refused_24 raw q in
      let d = whole raw (is_at_some (length raw) (past raw zero) v.2) in
      let f = unbound_free raw d v.3 in
      (term raw 0, laid_writes v.0 v.1 v.2, (f.0, subst (Free f.0) (sym (sub_is d)) f.1))

  bare_term : verdict raw ≡ Err 25 → (t : Term) × Writes raw t × Closed t × Unguarded t
  bare_term q =
      let v = refused_25 raw q in
      let w = v.0 in
      let d = whole raw w.laid in
      (term raw 0, formed_writes raw w, formed_closed raw w 0 w.some, subst Unguarded (sym (sub_is d)) (unguarded_term raw w.bound d v.1))

  -- and back
  module _ (t : Term) (w : Writes raw t) where
    first : fits raw ≡ true
    first = writes_fits raw t w

    second : all_allowed raw ≡ true
    second = writes_allowed raw t w

    third : laid_out raw ≡ true
    third = writes_laid raw t w

    bound_closed : all_bound raw ≡ true → Closed t
    bound_closed b =
        let u = formed_by raw first second third b in
        subst Closed (sym (writes_term raw t w)) (formed_closed raw u 0 u.some)

    passed_guarded : all_bound raw ≡ true → all_guarded raw ≡ true → Guarded t
    passed_guarded b g =
        let u = formed_by raw first second third b in
        subst Guarded (sym (writes_term raw t w)) (formed_guarded raw u g 0 u.some)

    term_ok : Closed t → Guarded t → verdict raw ≡ Ok tt
    term_ok c g =
        let b = writes_bound raw t w c in
        verdict_ok raw first second third b (writes_guarded raw t w b g)

    term_24 : (x : ℕ) → Free x t → verdict raw ≡ Err 24
    term_24 x v = verdict_24 raw first second third (here (all_bound raw) refl)
      where
        here : (b : Bool) → all_bound raw ≡ b → b ≡ false
        here true e = absurd (bound_closed e x v)
        here false e = refl

    term_25 : Closed t → Unguarded t → verdict raw ≡ Err 25
    term_25 c u = verdict_25 raw first second third bound (here (all_guarded raw) refl)
      where
        bound : all_bound raw ≡ true
        bound = writes_bound raw t w c

        here : (b : Bool) → all_guarded raw ≡ b → b ≡ false
        here true e = absurd (guarded_or_not t (passed_guarded bound e) u)
        here false e = refl

  none_23 : fits raw ≡ true → all_allowed raw ≡ true → ((t : Term) → Writes raw t → ⊥) → verdict raw ≡ Err 23
  none_23 f a none = verdict_23 raw f a (here (laid_out raw) refl)
    where
      here : (b : Bool) → laid_out raw ≡ b → b ≡ false
      here true e = absurd (none (term raw 0) (laid_writes f a e))
      here false e = refl

  pub judged : Judged raw
  judged =
      record {
        only_term = writes_term raw;
        says_ok = (ok_term, λ v. term_ok v.0 v.1 v.2 v.3);
        says_21 = (λ q. misfit_length raw (refused_21 raw q), λ k. verdict_21 raw (length_misfits raw k));
        says_22 = (refused_22 raw, λ v. verdict_22 raw v.0 v.1);
        says_23 = (no_term, λ v. none_23 v.0 v.1 v.2);
        says_24 = (free_term, λ v. term_24 v.0 v.1 v.2.0 v.2.1);
        says_25 = (bare_term, λ v. term_25 v.0 v.1 v.2 v.3);
      }
