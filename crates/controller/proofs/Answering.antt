-- The rules give exactly one answer, and every list of calls exactly one lawful history.
use Rattle.std.proofs.Common.{◌≡◌, ℕ, ◌+◌, ◌<◌, ◌≤◌, ltb, ◌⊎◌, List, [], ◌∷◌, sym, refl, ap, ◌∙◌, subst, inl, inr, arith}
use Rattle.std.proofs.lemmas.Bool.{ltb-true, ltb-false, cond_both}
use Rattle.process.specs.Meaning.{Proc}
use Rattle.certificate.specs.declared.Row.{Row}
use Rattle.gate.specs.Follow.{plain}
use Rattle.gate.specs.Gate.{Verdict, gate}
use Rattle.controller.specs.declared.fault.DriverFault.TheVariants.{RunOn, TooManyMoves, NoRun, UnknownMotion, StillWaiting, StaleSlip, NoNumberLeft, NotAllowed}
use Rattle.controller.specs.declared.run.Stage.{Stage}
use Rattle.controller.specs.declared.run.Stage.TheVariants.{Bare, Ready, Running, Waiting}
use Rattle.movetable.specs.Lists.{moves_in_all}
use Rattle.controller.specs.Histories.{Call, admit, start, release, done, failed, rest, Answer, granted, driver, event, History, calls, phase, releases}
use Rattle.controller.specs.Rules.{On, Off, Known, Allowed, Awaited, Rule, admit_on, admit_refused, admit_many, admit_granted, start_bare, start_on, start_granted, release_off, release_waiting, release_unknown, release_beyond, release_spent, release_granted, done_stale, done_granted, failed_stale, failed_granted, rest_off, rest_granted, Lawful, fresh, more, All, Bounded}
use Rattle.controller.specs.Record.{judged, answer}
use Rattle.controller.specs.Whole.{OneHistory, EveryList}
use Rattle.controller.proofs.Lawfuls.{safe, fair}
use Rattle.controller.proofs.Slips.{slips_once}
use Rattle.controller.proofs.Ties.{record_of, answer_rule}

-- at most one answer is so
abbrev One : (Answer → Type 0) → Type 0
One A = (a b : Answer) → A a → A b → a ≡ b

-- A where P holds, B where Q holds
abbrev Fork : Type 0 → Type 0 → (Answer → Type 0) → (Answer → Type 0) → Answer → Type 0
Fork P Q A B a = (P × A a) ⊎ (Q × B a)

abbrev Is : Answer → Answer → Type 0
Is x a = a ≡ x

one_is : (x : Answer) → One (Is x)
one_is x a b e f = e ∙ sym f

one_fork : (P Q : Type 0) (A B : Answer → Type 0) → (P → Q → ⊥) → One A → One B → One (Fork P Q A B)
one_fork P Q A B x f g a b (inl s) (inl t) = f a b s.1 t.1
one_fork P Q A B x f g a b (inl s) (inr t) = absurd (x s.0 t.0)
one_fork P Q A B x f g a b (inr s) (inl t) = absurd (x t.0 s.0)
one_fork P Q A B x f g a b (inr s) (inr t) = g a b s.1 t.1

-- phases that exclude each other

on_off : (s : Stage) → On s → Off s → ⊥
on_off Bare o f = o
on_off Ready o f = o
on_off Running o f = f
on_off Waiting o f = f

from_ready : {s : Stage} → s ≡ Ready → Off s
from_ready e = subst Off (sym e) tt

from_bare : {s : Stage} → s ≡ Bare → Off s
from_bare e = subst Off (sym e) tt

from_running : {s : Stage} → s ≡ Running → On s
from_running e = subst On (sym e) tt

from_waiting : {s : Stage} → s ≡ Waiting → On s
from_waiting e = subst On (sym e) tt

-- the rules of each call as forks

abbrev AdmitTree : History → Proc → Proc → List Row → Answer → Type 0
AdmitTree h plan permit rows = Fork (On (phase h)) (Off (phase h)) (Is (driver RunOn)) (Is (judged (gate plain plan permit rows) (moves_in_all plan)))

admit_tree : {h : History} {plan permit : Proc} {rows : List Row} {a : Answer} → Rule h (admit plan permit rows) a → AdmitTree h plan permit rows a
admit_tree (admit_on o) = inl (o, refl)
admit_tree {plan = plan} (admit_refused o e) = inr (o, sym (ap (λ (v : Verdict). judged v (moves_in_all plan)) e))
admit_tree {plan = plan} (admit_many o e l) =
    inr (
      o,
      cond_both (ltb 256 (moves_in_all plan)) (driver TooManyMoves) (granted 0) (λ z. driver TooManyMoves ≡ z) (λ t. refl)
          (λ t. let l' = ltb-false 256 (moves_in_all plan) t in absurd (omega arith)) ∙ sym (ap (λ (v : Verdict). judged v (moves_in_all plan)) e),
    )
admit_tree {plan = plan} (admit_granted o e l) =
    inr (
      o,
      cond_both (ltb 256 (moves_in_all plan)) (driver TooManyMoves) (granted 0) (λ z. granted 0 ≡ z)
          (λ t. let l' = ltb-true 256 (moves_in_all plan) t in absurd (omega arith)) (λ t. refl) ∙ sym (ap (λ (v : Verdict). judged v (moves_in_all plan)) e),
    )

abbrev StartTree : History → Answer → Type 0
StartTree h =
    Fork (On (phase h)) (Off (phase h)) (Is (driver RunOn)) (Fork (phase h ≡ Bare) (phase h ≡ Ready) (Is (driver NoRun)) (Is (granted 0)))

start_tree : {h : History} {a : Answer} → Rule h start a → StartTree h a
start_tree (start_bare e) = inr (from_bare e, inl (e, refl))
start_tree (start_on o) = inl (o, refl)
start_tree (start_granted e) = inr (from_ready e, inr (e, refl))

-- while Running
abbrev RunTree : History → ℕ → Answer → Type 0
RunTree h m =
    Fork (Known m → ⊥) (Known m) (Is (driver UnknownMotion))
    (Fork (Allowed h m → ⊥) (Allowed h m) (Is (driver NotAllowed))
    (Fork (4294967295 ≤ releases h) (releases h < 4294967295) (Is (driver NoNumberLeft)) (Is (granted (releases h + 1)))))

abbrev ReleaseTree : History → ℕ → Answer → Type 0
ReleaseTree h m =
    Fork (Off (phase h)) (On (phase h)) (Is (driver NoRun)) (Fork (phase h ≡ Waiting) (phase h ≡ Running) (Is (driver StillWaiting)) (RunTree h m))

release_tree : {h : History} {m : ℕ} {a : Answer} → Rule h (release m) a → ReleaseTree h m a
release_tree (release_off o) = inl (o, refl)
release_tree (release_waiting e) = inr (from_waiting e, inl (e, refl))
release_tree (release_unknown e n) = inr (from_running e, inr (e, inl (n, refl)))
release_tree (release_beyond e k n) = inr (from_running e, inr (e, inr (k, inl (n, refl))))
release_tree (release_spent e k t l) = inr (from_running e, inr (e, inr (k, inr (t, inl (l, refl)))))
release_tree (release_granted e k t l) = inr (from_running e, inr (e, inr (k, inr (t, inr (l, refl)))))

abbrev SlipTree : History → ℕ → Answer → Type 0
SlipTree h k = Fork (Awaited h k → ⊥) (Awaited h k) (Is (driver StaleSlip)) (Is (granted 0))

done_tree : {h : History} {k : ℕ} {a : Answer} → Rule h (done k) a → SlipTree h k a
done_tree (done_stale n) = inl (n, refl)
done_tree (done_granted w) = inr (w, refl)

failed_tree : {h : History} {k : ℕ} {a : Answer} → Rule h (failed k) a → SlipTree h k a
failed_tree (failed_stale n) = inl (n, refl)
failed_tree (failed_granted w) = inr (w, refl)

abbrev RestTree : History → Answer → Type 0
RestTree h = Fork (Off (phase h)) (On (phase h)) (Is (driver NoRun)) (Is (granted 0))

rest_tree : {h : History} {a : Answer} → Rule h rest a → RestTree h a
rest_tree (rest_off o) = inl (o, refl)
rest_tree (rest_granted o) = inr (o, refl)

-- each tree has one answer

one_start : (h : History) → One (StartTree h)
one_start h =
    one_fork (On (phase h)) (Off (phase h)) _ _ (on_off (phase h)) (one_is (driver RunOn))
    (one_fork (phase h ≡ Bare) (phase h ≡ Ready) _ _ (λ e f. cc) (one_is (driver NoRun)) (one_is (granted 0)))

one_run : (h : History) (m : ℕ) → One (RunTree h m)
one_run h m =
    one_fork (Known m → ⊥) (Known m) _ _ (λ n k. n k) (one_is (driver UnknownMotion))
    (one_fork (Allowed h m → ⊥) (Allowed h m) _ _ (λ n t. n t) (one_is (driver NotAllowed))
    (one_fork (4294967295 ≤ releases h) (releases h < 4294967295) _ _ (λ l l'. omega arith) (one_is (driver NoNumberLeft)) (one_is (granted (releases h + 1)))))

one_release : (h : History) (m : ℕ) → One (ReleaseTree h m)
one_release h m =
    one_fork (Off (phase h)) (On (phase h)) _ _ (λ f o. on_off (phase h) o f) (one_is (driver NoRun))
    (one_fork (phase h ≡ Waiting) (phase h ≡ Running) _ _ (λ e f. cc) (one_is (driver StillWaiting)) (one_run h m))

one_slip : (h : History) (k : ℕ) → One (SlipTree h k)
one_slip h k = one_fork (Awaited h k → ⊥) (Awaited h k) _ _ (λ n w. n w) (one_is (driver StaleSlip)) (one_is (granted 0))

-- no two answers obey the rules
pub one_answer : (h : History) (k : Call) (a b : Answer) → Rule h k a → Rule h k b → a ≡ b
one_answer h (admit plan permit rows) a b r s =
    one_fork (On (phase h)) (Off (phase h)) (Is (driver RunOn)) (Is (judged (gate plain plan permit rows) (moves_in_all plan))) (on_off (phase h)) (one_is (driver RunOn))
    (one_is (judged (gate plain plan permit rows) (moves_in_all plan))) a b (admit_tree r) (admit_tree s)
one_answer h start a b r s = one_start h a b (start_tree r) (start_tree s)
one_answer h (release m) a b r s = one_release h m a b (release_tree r) (release_tree s)
one_answer h (done k) a b r s = one_slip h k a b (done_tree r) (done_tree s)
one_answer h (failed k) a b r s = one_slip h k a b (failed_tree r) (failed_tree s)
one_answer h rest a b r s =
    one_fork (Off (phase h)) (On (phase h)) (Is (driver NoRun)) (Is (granted 0)) (λ f o. on_off (phase h) o f) (one_is (driver NoRun)) (one_is (granted 0))
    a b (rest_tree r) (rest_tree s)

-- after a lawful history some answer does
some_answer : (h : History) (k : Call) → Lawful h → All Bounded (calls h) → (a : Answer) × Rule h k a
some_answer h k L b = (answer (record_of h) k, answer_rule h L b k)

same_history : (g h : History) → Lawful g → Lawful h → calls g ≡ calls h → g ≡ h
same_history [] [] L M e = refl
same_history [] (event k b ∷ h) L M e = cc
same_history (event j a ∷ g) [] L M e = cc
same_history (event j a ∷ g) (event k b ∷ h) (more L r) (more M s) e =
    let gh : g ≡ h = same_history g h L M (cc) in
    let jk : j ≡ k = cc in
    let ab : a ≡ b = one_answer h k a b (subst (λ (x : Call). Rule h x a) jk (subst (λ (x : History). Rule x j a) gh r)) s in
    λ i. event (jk i) (ab i) ∷ gh i

made : (ks : List Call) → All Bounded ks → (h : History) × (calls h ≡ ks) × Lawful h
made [] w = ([], refl, fresh)
made (k ∷ ks) w =
    let r = made ks w.1 in
    let a = some_answer r.0 k r.2 (subst (All Bounded) (sym r.1) w.1) in
    (event k a.0 ∷ r.0, ap (λ (js : List Call). k ∷ js) r.1, more r.2 a.1)

pub one_history : OneHistory
one_history ks w =
    let r = made ks w in
    (r.0, r.1, r.2, λ g e L. same_history g r.0 L r.2 (e ∙ sym r.1))

pub every_list : EveryList
every_list = record { one_history = one_history; safe = safe; fair = fair; slips = slips_once }
