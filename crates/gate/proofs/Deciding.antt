-- Each test of the gate decides the relation that it stands for.
use Rattle.std.proofs.Common.{◌≡◌, ℕ, ◌^◌, ◌≤◌, true, false, ◌&&◌, eqb, ltb, leb, List, length, Decides, refl, arith}
use Rattle.std.specs.List.{list_any}
use Rattle.std.proofs.lemmas.Bool.{eqb-true, leb-true, le-leb}
use Rattle.std.proofs.lemmas.Bool.Decides.{Decides-like, Decides-and, Decides-eqb, Decides-ltb, nat_tests}
use Rattle.process.proofs.Bits.{pick, some_in, in_below, within_in, in_within, positive, set_below}
use Rattle.process.specs.Meaning.{Proc, Limits}
use Rattle.process.specs.Sets.{within, Within}
use Rattle.process.specs.declared.moves.Move.{Move}
use Rattle.certificate.specs.declared.Row.{Row}
use Rattle.reach.specs.Offers.{offers}
use Rattle.reach.proofs.Offering.{offers_exact}
use Rattle.gate.specs.Follow.{Follow, AfterLaws}
use Rattle.gate.specs.Gate.{Member, sized, fits, starts, answers, answered, covered}
use Rattle.gate.specs.Refusals.{RightCount, RowFits, AllFit, HasStart, HasAnswer, RowAnswered}
use Rattle.gate.proofs.Scans.{any_decides, all_decides}

-- 43

pub sized_decides : (rows : List Row) → Decides (sized rows) (RightCount rows)
sized_decides rows =
    Decides-and (leb 1 (length rows)) (leb (length rows) 1024)
    (leb-true 1 (length rows), le-leb 1 (length rows)) (leb-true (length rows) 1024, le-leb (length rows) 1024)

-- 44

pub fits_decides : (plan permit : Proc) (r : Row) → Decides (fits plan permit r) (RowFits plan permit r)
fits_decides plan permit r =
    Decides-like _
    (λ h. record {
      state_exists = h.0;
      some_state = some_in r.set.bits h.1.0;
      set_fits = λ t i. in_below r.set.bits permit.states t h.1.1 i;
    })
    (λ h. (h.state_exists, (positive r.set.bits h.some_state.0 h.some_state.1, set_below r.set.bits permit.states h.set_fits)))
    (Decides-and (ltb r.state plan.states) (ltb 0 r.set.bits && ltb r.set.bits (2 ^ permit.states))
    (Decides-ltb r.state plan.states)
    (Decides-and (ltb 0 r.set.bits) (ltb r.set.bits (2 ^ permit.states)) (Decides-ltb 0 r.set.bits) (Decides-ltb r.set.bits (2 ^ permit.states))))

-- 45, where every row fits

pub start_decides : (F : Follow) → AfterLaws F → (plan permit : Proc) → Limits permit → (rows : List Row) → AllFit plan permit rows
    → Decides (list_any (starts F permit) rows) (HasStart F permit rows)
start_decides F A plan permit M rows all =
    Decides-like _
    (λ h. (h.0, h.1, h.2.0, (begins h.0 h.1).0 h.2.1))
    (λ h. (h.0, h.1, (h.2, (begins h.0 h.1).1 h.3)))
    (any_decides (starts F permit) (λ r. (r.state ≡ 0) × (F.begins permit r.set.bits ≡ true))
    (λ r. Decides-and (eqb r.state 0) (F.begins permit r.set.bits) (Decides-eqb r.state 0) (λ e. e, λ e. e)) rows)
  where
    begins : (r : Row) → Member r rows → Decides (F.begins permit r.set.bits) (Within r.set.bits (F.start permit))
    begins r m = let s = (all r m).some_state in A.begins_within permit M r.set.bits (positive r.set.bits s.0 s.1)

-- 46

-- a motion that is not 0 is at least 1
pub above : (n : ℕ) → eqb n 0 ≡ false → 1 ≤ n
above n e = grind (arith, nat_tests)

answered_decides : (F : Follow) (permit : Proc) (rows : List Row) (T : ℕ) (m : Move)
    → Decides (answered F permit rows T m) (1 ≤ m.motion → HasAnswer F permit rows T m.motion m.target)
answered_decides F permit rows T m =
    pick (eqb m.motion 0) true (list_any (answers m.target A) rows) (λ z. Decides z (1 ≤ m.motion → HasAnswer F permit rows T m.motion m.target))
    (λ e. let z = eqb-true m.motion 0 e in (λ _ l. absurd (omega arith), λ _. refl))
    (λ e. Decides-like _ (λ h _. h) (λ h. h (above m.motion e)) found)
  where
    A : ℕ
    A = F.after permit T m.motion

    found : Decides (list_any (answers m.target A) rows) (HasAnswer F permit rows T m.motion m.target)
    found =
        Decides-like _ (λ h. (h.0, h.1, h.2.0, h.2.1)) (λ h. (h.0, h.1, (h.2, h.3)))
        (any_decides (answers m.target A) (λ r. (r.state ≡ m.target) × Within r.set.bits A)
        (λ r. Decides-and (eqb r.state m.target) (within r.set.bits A) (Decides-eqb r.state m.target) (within_in r.set.bits A, in_within r.set.bits A)) rows)

pub covered_decides : (F : Follow) (plan permit : Proc) → Limits plan → (rows : List Row) (r : Row)
    → Decides (covered F plan permit rows r) (RowAnswered F plan permit rows r)
covered_decides F plan permit L rows r =
    Decides-like _
    (λ h v a u run l s. h (record { motion = a; target = u }) ((offers_exact plan L r.state a u).1 (v, run, s)) l)
    (λ h m i l. let o = (offers_exact plan L r.state m.motion m.target).0 i in h o.0 m.motion m.target o.1 l o.2)
    (all_decides (answered F permit rows r.set.bits) (λ m. 1 ≤ m.motion → HasAnswer F permit rows r.set.bits m.motion m.target)
    (answered_decides F permit rows r.set.bits) (offers plan r.state))
