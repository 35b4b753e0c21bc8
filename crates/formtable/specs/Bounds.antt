-- A vetted table keeps the limits of a process.
use Rattle.std.specs.Prelude.{Some, None, Option, ◌≡◌, ℕ, ◌<◌, ◌≤◌, true, List, length}
use Rattle.std.proofs.Common.{sym, subst, ⊎_elim, arith}
use Rattle.std.proofs.lemmas.Bool.{cases_lt}
use Rattle.process.specs.Meaning.{HasMove, Limits, Steps}
use Rattle.process.specs.declared.moves.Move.{Move}
use Rattle.formtable.specs.Layout.{form_at, moves, Near}
use Rattle.formtable.specs.Meaning.{process}
use Rattle.formtable.specs.Vet.{vetted}
use Rattle.formtable.specs.declared.record.Form.{Form}
use Rattle.formtable.specs.declared.record.Form.TheVariants.{End, Do, Tau, Or, Rec, Go}
use Rattle.formtable.specs.declared.record.Record.{Record}
use Rattle.formtable.specs.Motions.{do_below, motions_known, targets_within}
use Rattle.formtable.specs.Steps.{inside, known_within, moves_there, moves_few, moves_outside}
use Rattle.formtable.specs.Vetted.{Formed, vetted_formed}

module _ (rs : List Record) (w : Formed rs) where
  -- a state that moves is a place
  pub moves_within : (i a j : ℕ) → Steps (process rs) i a j → i < length rs
  moves_within i a j m =
      ⊎_elim {C = i < length rs} (λ h. h) (λ h. absurd (subst (λ (ms : List Move). HasMove ms a j) (moves_outside rs i h) m)) (cases_lt i (length rs))

  known_at : (i a j : ℕ) → Steps (process rs) i a j → a ≤ 24
  known_at i a j m =
      let s = inside rs w.laid i (moves_within i a j m) in
      motions_known rs w.known s.1 a j (subst (λ (ms : List Move). HasMove ms a j) (moves_there rs w.laid s.1) m)

  pub target_at : (i a j : ℕ) → Steps (process rs) i a j → j < length rs
  target_at i a j m =
      let s = inside rs w.laid i (moves_within i a j m) in
      targets_within rs w.bound s.1 a j (subst (λ (ms : List Move). HasMove ms a j) (moves_there rs w.laid s.1) m)

  pub short_at : (i : ℕ) → length (moves rs i) ≤ 64
  short_at i =
      ⊎_elim {C = length (moves rs i) ≤ 64}
      (λ h. omega (arith, moves_few rs w.laid i h, w.few))
      (λ h. rw (moves_outside rs i h) (omega arith))
      (cases_lt i (length rs))

  pub formed_limits : Limits (process rs)
  formed_limits =
      record {
        some_state = w.some;
        few_states = w.few;
        known_motions = known_at;
        targets_inside = target_at;
        short_lists = λ i. omega (arith, short_at i);
        none_beyond = λ i h. moves_outside rs i h;
      }

pub vetted_limits : (rs : List Record) → vetted rs ≡ true → Limits (process rs)
vetted_limits rs ok = formed_limits rs (vetted_formed rs ok).0

-- the motions and places that the code casts are small
pub vetted_near : (rs : List Record) (i : ℕ) → vetted rs ≡ true → (f : Option Form) → f ≡ form_at rs i → Near i f
vetted_near rs i ok f is = near f is
  where
    w : Formed rs
    w = (vetted_formed rs ok).0

    near : (f : Option Form) → f ≡ form_at rs i → Near i f
    near (Some End) q = tt
    near (Some (Do a)) q = ((do_below rs i a w.known (sym q)).1, omega (arith, w.few, known_within rs i (Do a) (sym q)))
    near (Some Tau) q = omega (arith, w.few, known_within rs i Tau (sym q))
    near (Some (Or r)) q = tt
    near (Some Rec) q = omega (arith, w.few, known_within rs i Rec (sym q))
    near (Some (Go k)) q = omega (arith, w.few, (w.bound i k (sym q)).1, known_within rs i (Go k) (sym q))
    near None q = tt
