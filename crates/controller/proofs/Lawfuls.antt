-- What holds of lawful histories.
use Rattle.std.proofs.Common.{◌≡◌, ℕ, ◌<◌, ◌≤◌, ◌↔◌, List, [], ◌∷◌, ◌++◌, sym, refl, subst, arith}
use Rattle.process.specs.Meaning.{Proc, Limits}
use Rattle.process.specs.Runs.{Run, nothing, silent, motion, Trace}
use Rattle.reach.specs.Reach.{NoneSilent}
use Rattle.reach.proofs.Follows.{none_silent_push}
use Rattle.certificate.specs.declared.Row.{Row}
use Rattle.gate.specs.Follow.{plain}
use Rattle.gate.specs.Gate.{gate, accepted}
use Rattle.gate.proofs.Plain.{plain_holds}
use Rattle.controller.specs.declared.run.Stage.TheVariants.{Running}
use Rattle.controller.specs.Histories.{idle, Call, admit, start, release, done, failed, rest, Answer, granted, denied, event, History, calls, phase, released, releases, last_plan, under, began}
use Rattle.controller.specs.Rules.{On, Off, Known, Allowed, Awaited, Rule, admit_granted, release_off, release_waiting, release_unknown, release_beyond, release_spent, release_granted, done_granted, Lawful, more, All, Bounded, Brings, IsGrant}
use Rattle.controller.specs.Whole.{Permitted, JustAllowed}

-- what a granted call says of the history before it

pub granted_admit : {h : History} {plan permit : Proc} {rows : List Row} {n : ℕ} → Rule h (admit plan permit rows) (granted n)
    → gate plain plan permit rows ≡ accepted
granted_admit (admit_granted o e l) = e

pub granted_release : {h : History} {m n : ℕ} → Rule h (release m) (granted n)
    → (phase h ≡ Running) × Known m × Allowed h m × (releases h < 4294967295)
granted_release (release_granted e k t l) = (e, k, t, l)

pub granted_done : {h : History} {k n : ℕ} → Rule h (done k) (granted n) → Awaited h k
granted_done (done_granted e) = e

-- the limits of the plan last admitted

idle_limits : Limits idle
idle_limits =
    record {
      some_state = omega arith;
      few_states = omega arith;
      known_motions = λ s a t h. absurd h;
      targets_inside = λ s a t h. absurd h;
      short_lists = λ s. omega arith;
      none_beyond = λ s l. refl;
    }

pub plan_limits : (h : History) → All Bounded (calls h) → Limits (last_plan h)
plan_limits [] w = idle_limits
plan_limits (event k (denied n i) ∷ h) w = plan_limits h w.1
plan_limits (event (admit plan permit rows) (granted n) ∷ h) w = w.0.0
plan_limits (event start (granted n) ∷ h) w = plan_limits h w.1
plan_limits (event (release m) (granted n) ∷ h) w = plan_limits h w.1
plan_limits (event (done k) (granted n) ∷ h) w = plan_limits h w.1
plan_limits (event (failed k) (granted n) ∷ h) w = plan_limits h w.1
plan_limits (event rest (granted n) ∷ h) w = plan_limits h w.1

-- released motions are not silent

pub released_none_silent : (h : History) → Lawful h → NoneSilent (released h)
released_none_silent [] L = tt
released_none_silent (event k (denied n i) ∷ h) (more L r) = released_none_silent h L
released_none_silent (event (admit plan permit rows) (granted n) ∷ h) (more L r) = released_none_silent h L
released_none_silent (event start (granted n) ∷ h) (more L r) = tt
released_none_silent (event (release m) (granted n) ∷ h) (more L r) = none_silent_push (released h) m (released_none_silent h L) (granted_release r).1.0
released_none_silent (event (done k) (granted n) ∷ h) (more L r) = released_none_silent h L
released_none_silent (event (failed k) (granted n) ∷ h) (more L r) = released_none_silent h L
released_none_silent (event rest (granted n) ∷ h) (more L r) = released_none_silent h L

-- no more releases are granted than there are numbers

pub few_releases : (h : History) → Lawful h → releases h ≤ 4294967295
few_releases [] L = omega arith
few_releases (event k (denied n i) ∷ h) (more L r) = few_releases h L
few_releases (event (admit plan permit rows) (granted n) ∷ h) (more L r) = few_releases h L
few_releases (event start (granted n) ∷ h) (more L r) = few_releases h L
few_releases (event (release m) (granted n) ∷ h) (more L r) = omega (arith, (granted_release r).3)
few_releases (event (done k) (granted n) ∷ h) (more L r) = few_releases h L
few_releases (event (failed k) (granted n) ∷ h) (more L r) = few_releases h L
few_releases (event rest (granted n) ∷ h) (more L r) = few_releases h L

-- while a run is on, the plan in force at its start is the plan last admitted

pub same_plan : (h : History) → Lawful h → On (phase h) → began h ≡ under (last_plan h)
same_plan [] L o = absurd o
same_plan (event k (denied n i) ∷ h) (more L r) o = same_plan h L o
same_plan (event (admit plan permit rows) (granted n) ∷ h) (more L r) o = absurd o
same_plan (event start (granted n) ∷ h) (more L r) o = refl
same_plan (event (release m) (granted n) ∷ h) (more L r) o = same_plan h L (subst On (sym (granted_release r).0) tt)
same_plan (event (done k) (granted n) ∷ h) (more L r) o = same_plan h L (subst On (sym (granted_done r).0) tt)
same_plan (event (failed k) (granted n) ∷ h) (more L r) o = absurd o
same_plan (event rest (granted n) ∷ h) (more L r) o = absurd o

-- every trace of the plan last admitted is a trace of the permit that all admits bring

idle_trace : {s e : ℕ} {w : List ℕ} (Q : Proc) → Run idle s w e → Trace Q w
idle_trace Q nothing = (0, nothing)
idle_trace Q (silent h q) = absurd h
idle_trace Q (motion l h q) = absurd h

pub plan_permitted : (h : History) → Lawful h → All Bounded (calls h) → (Q : Proc) → All (Brings Q) (calls h)
    → (w : List ℕ) → Trace (last_plan h) w → Trace Q w
plan_permitted [] L b Q q w t = idle_trace Q t.1
plan_permitted (event k (denied n i) ∷ h) (more L r) b Q q w t = plan_permitted h L b.1 Q q.1 w t
plan_permitted (event (admit plan permit rows) (granted n) ∷ h) (more L r) b Q q w t =
    subst (λ (p : Proc). Trace p w) q.0 (plain_holds.gate_sound plan permit b.0.0 b.0.1 rows (granted_admit r) w t)
plan_permitted (event start (granted n) ∷ h) (more L r) b Q q w t = plan_permitted h L b.1 Q q.1 w t
plan_permitted (event (release m) (granted n) ∷ h) (more L r) b Q q w t = plan_permitted h L b.1 Q q.1 w t
plan_permitted (event (done k) (granted n) ∷ h) (more L r) b Q q w t = plan_permitted h L b.1 Q q.1 w t
plan_permitted (event (failed k) (granted n) ∷ h) (more L r) b Q q w t = plan_permitted h L b.1 Q q.1 w t
plan_permitted (event rest (granted n) ∷ h) (more L r) b Q q w t = plan_permitted h L b.1 Q q.1 w t

pub safe : Permitted
safe [] L b Q q = (0, nothing)
safe (event k (denied n i) ∷ h) (more L r) b Q q = safe h L b.1 Q q.1
safe (event (admit plan permit rows) (granted n) ∷ h) (more L r) b Q q = safe h L b.1 Q q.1
safe (event start (granted n) ∷ h) (more L r) b Q q = (0, nothing)
safe (event (release m) (granted n) ∷ h) (more L r) b Q q =
    plan_permitted h L b.1 Q q.1 (released h ++ m ∷ []) (granted_release r).2
safe (event (done k) (granted n) ∷ h) (more L r) b Q q = safe h L b.1 Q q.1
safe (event (failed k) (granted n) ∷ h) (more L r) b Q q = safe h L b.1 Q q.1
safe (event rest (granted n) ∷ h) (more L r) b Q q = safe h L b.1 Q q.1

-- while Running, a known motion is released exactly when it is allowed

fair_release : {h : History} {m : ℕ} {a : Answer} → phase h ≡ Running → releases h < 4294967295 → Known m → Rule h (release m) a
    → IsGrant a ↔ Allowed h m
fair_release {h} {m} e l k (release_off o) = absurd (subst Off e o)
fair_release {h} {m} e l k (release_waiting w) = cc
fair_release {h} {m} e l k (release_unknown _ n) = absurd (n k)
fair_release {h} {m} e l k (release_beyond _ _ n) = (λ g. absurd g, λ t. n t)
fair_release {h} {m} e l k (release_spent _ _ t f) = absurd (omega arith)
fair_release {h} {m} e l k (release_granted _ _ t _) = (λ _. t, λ _. tt)

pub last_rule : {h : History} {k : Call} {a : Answer} → Lawful (event k a ∷ h) → Rule h k a
last_rule (more L r) = r

pub fair : JustAllowed
fair h m a L e l k = fair_release e l k (last_rule L)
