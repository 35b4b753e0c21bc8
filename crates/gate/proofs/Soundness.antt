-- What the gate accepts, and that it is sound: from the laws of After alone.
use Rattle.std.proofs.Common.{ℕ, List, [], ◌∷◌, sym, subst}
use Rattle.process.specs.Meaning.{Proc, Limits}
use Rattle.process.specs.Runs.{Run, nothing, motion, silent}
use Rattle.process.specs.Sets.{In}
use Rattle.certificate.specs.declared.Row.{Row}
use Rattle.reach.proofs.Reaching.{run_append}
use Rattle.gate.specs.Follow.{Follow, AfterLaws}
use Rattle.gate.specs.Gate.{Member, accepted, Justifies, Certifies}
use Rattle.gate.specs.Refusals.{AllFit, HasAnswer}
use Rattle.gate.specs.Theorems.{Included, GateExact, GateSound, RowsSound, LawsSuffice}
use Rattle.gate.proofs.Judging.{Says, gate_says, accepts}

module _ (F : Follow) (A : AfterLaws F) (plan permit : Proc) (M : Limits permit) (rows : List Row) (J : Justifies F plan permit rows) where
  -- a run of the plan from what a row's state silently reaches is a run of the permit from a state of the row's set
  simulates : {s e : ℕ} {w : List ℕ} → Run plan s w e → (r : Row) → Member r rows → Run plan r.state [] s
      → (t e' : ℕ) × In r.set.bits t × Run permit t w e'
  simulates nothing r m before = let t = J.some_state r m in (t.0, t.0, t.1, nothing)
  simulates (silent h q) r m before = simulates q r m (run_append before (silent h nothing))
  simulates (motion {s = s} {t = t} {a = a} {w = w} l h q) r m before =
      onward (J.moves_answered r m s a t before l h) (λ q' m' b. simulates q q' m' b)
    where
      onward : HasAnswer F permit rows r.set.bits a t
          → ((q' : Row) → Member q' rows → Run plan q'.state [] t → (y e' : ℕ) × In q'.set.bits y × Run permit y w e')
          → (y e' : ℕ) × In r.set.bits y × Run permit y (a ∷ w) e'
      onward n ih =
          let g = ih n.0 n.1 (subst (λ (x : ℕ). Run plan x [] t) (sym n.2) nothing) in
          let f = A.reached permit M r.set.bits a g.0 l (n.3 g.0 g.2) in
          (f.0, g.1, f.1, run_append f.2 g.3)

  justified : Included plan permit
  justified w T =
      let f = J.start_row in
      let g = simulates T.1 f.0 f.1 (subst (λ (x : ℕ). Run plan x [] 0) (sym f.2) nothing) in
      (g.1, run_append (A.silent_from permit M g.0 (f.3 g.0 g.2)) g.3)

pub gate_exact : (F : Follow) → AfterLaws F → GateExact F
gate_exact F A plan permit L M rows = (
  λ e. certifies (subst (Says F A plan permit L M rows) e (gate_says F A plan permit L M rows)),
  λ C. accepts F A plan permit L M rows (C.any_row, C.few_rows) (all C.justifies) C.justifies.start_row C.justifies.moves_answered,
)
  where
    certifies : Says F A plan permit L M rows accepted → Certifies F plan permit rows
    certifies P =
        record {
          any_row = P.0.0;
          few_rows = P.0.1;
          justifies = record {
            states_exist = λ r m. (P.1 r m).state_exists;
            some_state = λ r m. (P.1 r m).some_state;
            sets_fit = λ r m. (P.1 r m).set_fits;
            start_row = P.2;
            moves_answered = P.3;
          };
        }

    all : Justifies F plan permit rows → AllFit plan permit rows
    all J r m = record { state_exists = J.states_exist r m; some_state = J.some_state r m; set_fits = J.sets_fit r m }

pub rows_sound : (F : Follow) → AfterLaws F → RowsSound F
rows_sound F A plan permit L M rows J = justified F A plan permit M rows J

pub gate_sound : (F : Follow) → AfterLaws F → GateSound F
gate_sound F A plan permit L M rows e = rows_sound F A plan permit L M rows ((gate_exact F A plan permit L M rows).0 e).justifies

pub laws_suffice : LawsSuffice
laws_suffice F A = record { gate_exact = gate_exact F A; gate_sound = gate_sound F A; rows_sound = rows_sound F A }
