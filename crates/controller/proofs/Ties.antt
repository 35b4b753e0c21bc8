-- The record answers by the rules, and the longer history accounts for what a call leaves.
use Rattle.std.proofs.Common.{◌≡◌, ℕ, ◌+◌, ◌<◌, ◌≤◌, true, eqb, ltb, leb, ◌↔◌, List, [], ◌∷◌, ◌++◌, sym, refl, ap, ◌∙◌, subst, subst₂, arith}
use Rattle.std.proofs.lemmas.Bool.{eqb-true, eqb-false, ltb-true, ltb-false, leb-true, le-leb, and_parts, and_from, both_ways, cond_both}
use Rattle.process.specs.Meaning.{Proc}
use Rattle.process.specs.Sets.{only}
use Rattle.certificate.specs.declared.Row.{Row}
use Rattle.reach.specs.Reach.{after, after_all}
use Rattle.reach.proofs.Follows.{none_silent_push, after_push, trace_iff}
use Rattle.gate.specs.Follow.{plain}
use Rattle.gate.specs.Gate.{Verdict, gate, accepted, refused}
use Rattle.controller.specs.declared.fault.DriverFault.TheVariants.{TooManyMoves, UnknownMotion, StaleSlip, NoNumberLeft, NotAllowed}
use Rattle.controller.specs.declared.run.Stage.{Stage}
use Rattle.controller.specs.declared.run.Stage.TheVariants.{Bare, Ready, Running, Waiting}
use Rattle.movetable.specs.Lists.{moves_in_all}
use Rattle.controller.specs.Histories.{Call, admit, start, release, done, failed, rest, Answer, granted, denied, driver, event, History, calls, phase, released, releases, last_plan, Began, began}
use Rattle.controller.specs.Rules.{On, Off, Known, Allowed, Awaited, Rule, admit_on, admit_refused, admit_many, admit_granted, start_bare, start_on, start_granted, release_off, release_waiting, release_unknown, release_beyond, release_spent, release_granted, done_stale, done_granted, failed_stale, failed_granted, rest_off, rest_granted, Lawful, fresh, more, All, Bounded}
use Rattle.controller.specs.Runs.{run_of, is_known_motion, start_answer, release_answer, slip_answer, rest_answer}
use Rattle.controller.specs.Record.{Record, keeping, factory, judged, admit_answer, answer, left, next}
use Rattle.controller.specs.Accounts.{cursor_after, Accounts, Accounted}
use Rattle.controller.proofs.Lawfuls.{granted_release, plan_limits, released_none_silent, few_releases, same_plan}

-- the record that the history says
abbrev pub record_of : History → Record
record_of h = keeping (last_plan h) (run_of (phase h) (cursor_after (began h) (released h)) (releases h))

-- the set after m, while a run is on
abbrev next_set : History → ℕ → ℕ
next_set h m = after (last_plan h) (cursor_after (began h) (released h)) m

next_is : (h : History) → Lawful h → On (phase h) → (m : ℕ) → after_all (last_plan h) (only 0) (released h ++ m ∷ []) ≡ next_set h m
next_is h L o m =
    after_push (last_plan h) (only 0) m (released h)
    ∙ ap (λ (b : Began). after (last_plan h) (cursor_after b (released h)) m) (sym (same_plan h L o))

-- a motion is allowed just when that set is not empty
allowed_iff : (h : History) → Lawful h → All Bounded (calls h) → On (phase h) → (m : ℕ) → 1 ≤ m → (0 < next_set h m) ↔ Allowed h m
allowed_iff h L b o m l =
    subst (λ (T : ℕ). (0 < T) ↔ Allowed h m) (next_is h L o m)
    (trace_iff (last_plan h) (plan_limits h b) (released h ++ m ∷ []) (none_silent_push (released h) m (released_none_silent h L) l))

-- the record's answer is the rule's

judged_rule : (h : History) (plan permit : Proc) (rows : List Row) → Off (phase h) → (v : Verdict) → gate plain plan permit rows ≡ v
    → Rule h (admit plan permit rows) (judged v (moves_in_all plan))
judged_rule h plan permit rows o (refused n i) e = admit_refused o e
judged_rule h plan permit rows o accepted e =
    cond_both (ltb 256 (moves_in_all plan)) (driver TooManyMoves) (granted 0) (Rule h (admit plan permit rows))
    (λ t. admit_many o e (ltb-true 256 (moves_in_all plan) t))
    (λ t. admit_granted o e (ltb-false 256 (moves_in_all plan) t))

admit_rule : (h : History) (plan permit : Proc) (rows : List Row) (s : Stage) → phase h ≡ s
    → Rule h (admit plan permit rows) (admit_answer s (gate plain plan permit rows) (moves_in_all plan))
admit_rule h plan permit rows Bare e = judged_rule h plan permit rows (subst Off (sym e) tt) (gate plain plan permit rows) refl
admit_rule h plan permit rows Ready e = judged_rule h plan permit rows (subst Off (sym e) tt) (gate plain plan permit rows) refl
admit_rule h plan permit rows Running e = admit_on (subst On (sym e) tt)
admit_rule h plan permit rows Waiting e = admit_on (subst On (sym e) tt)

start_rule : (h : History) (s : Stage) → phase h ≡ s → Rule h start (start_answer s)
start_rule h Bare e = start_bare e
start_rule h Ready e = start_granted e
start_rule h Running e = start_on (subst On (sym e) tt)
start_rule h Waiting e = start_on (subst On (sym e) tt)

known_is : (m : ℕ) → is_known_motion m ≡ true → Known m
known_is m e = let b = and_parts (leb 1 m) (leb m 24) e in (leb-true 1 m b.0, leb-true m 24 b.1)

is_known : (m : ℕ) → Known m → is_known_motion m ≡ true
is_known m k = and_from (leb 1 m) (leb m 24) (le-leb 1 m k.0) (le-leb m 24 k.1)

release_rule : (h : History) → Lawful h → All Bounded (calls h) → (m : ℕ) (s : Stage) → phase h ≡ s
    → Rule h (release m) (release_answer s (next_set h m) (releases h) m)
release_rule h L b m Bare e = release_off (subst Off (sym e) tt)
release_rule h L b m Ready e = release_off (subst Off (sym e) tt)
release_rule h L b m Waiting e = release_waiting e
release_rule h L b m Running e =
    cond_both (is_known_motion m) _ (driver UnknownMotion) (Rule h (release m))
    (λ k.
    cond_both (eqb (next_set h m) 0) (driver NotAllowed) _ (Rule h (release m))
    (λ z. release_beyond e (known_is m k) (λ t. empty (known_is m k) (eqb-true (next_set h m) 0 z) t))
    (λ z.
    cond_both (eqb (releases h) 4294967295) (driver NoNumberLeft) (granted (releases h + 1)) (Rule h (release m))
    (λ f. release_spent e (known_is m k) (some_state (known_is m k) (eqb-false (next_set h m) 0 z)) (omega (arith, eqb-true (releases h) 4294967295 f)))
    (λ f. release_granted e (known_is m k) (some_state (known_is m k) (eqb-false (next_set h m) 0 z)) (omega (arith, eqb-false (releases h) 4294967295 f, few_releases h L)))))
    (λ k. release_unknown e (λ n. both_ways (is_known_motion m) k (is_known m n)))
  where
    iff : Known m → (0 < next_set h m) ↔ Allowed h m
    iff n = allowed_iff h L b (subst On (sym e) tt) m n.0

    empty : Known m → next_set h m ≡ 0 → Allowed h m → ⊥
    empty n z t = let l = (iff n).1 t in omega arith

    some_state : Known m → (next_set h m ≡ 0 → ⊥) → Allowed h m
    some_state n z = (iff n).0 (omega arith)

-- done and failed
slip_rule : (h : History) (k : ℕ) (P : Answer → Type 0) → ((Awaited h k → ⊥) → P (driver StaleSlip)) → (Awaited h k → P (granted 0))
    → (s : Stage) → phase h ≡ s → P (slip_answer s (releases h) k)
slip_rule h k P f g Bare e = f (λ w. let waits = w.0 in cc)
slip_rule h k P f g Ready e = f (λ w. let waits = w.0 in cc)
slip_rule h k P f g Running e = f (λ w. let waits = w.0 in cc)
slip_rule h k P f g Waiting e =
    cond_both (eqb k (releases h)) (granted 0) (driver StaleSlip) P
    (λ t. g (e, eqb-true k (releases h) t))
    (λ t. f (λ w. eqb-false k (releases h) t w.1))

rest_rule : (h : History) (s : Stage) → phase h ≡ s → Rule h rest (rest_answer s)
rest_rule h Bare e = rest_off (subst Off (sym e) tt)
rest_rule h Ready e = rest_off (subst Off (sym e) tt)
rest_rule h Running e = rest_granted (subst On (sym e) tt)
rest_rule h Waiting e = rest_granted (subst On (sym e) tt)

pub answer_rule : (h : History) → Lawful h → All Bounded (calls h) → (k : Call) → Rule h k (answer (record_of h) k)
answer_rule h L b (admit plan permit rows) = admit_rule h plan permit rows (phase h) refl
answer_rule h L b start = start_rule h (phase h) refl
answer_rule h L b (release m) = release_rule h L b m (phase h) refl
answer_rule h L b (done k) = slip_rule h k (Rule h (done k)) (λ n. done_stale n) (λ w. done_granted w) (phase h) refl
answer_rule h L b (failed k) = slip_rule h k (Rule h (failed k)) (λ n. failed_stale n) (λ w. failed_granted w) (phase h) refl
answer_rule h L b rest = rest_rule h (phase h) refl

-- the record follows the history

pub record_follows : (h : History) → Lawful h → (k : Call) (a : Answer) → Rule h k a → left a (record_of h) k ≡ record_of (event k a ∷ h)
record_follows h L k (denied n i) r = refl
record_follows h L (admit plan permit rows) (granted n) r = refl
record_follows h L start (granted n) r = refl
record_follows h L (release m) (granted n) r =
    ap (λ (T : ℕ). keeping (last_plan h) (run_of Waiting T (releases h + 1)))
    (sym (next_is h L o m) ∙ ap (λ (b : Began). cursor_after b (released h ++ m ∷ [])) (sym (same_plan h L o)))
  where
    o : On (phase h)
    o = subst On (sym (granted_release r).0) tt
record_follows h L (done k) (granted n) r = refl
record_follows h L (failed k) (granted n) r = refl
record_follows h L rest (granted n) r = refl

accounts : (h : History) (c : Record) → Lawful h → All Bounded (calls h) → c ≡ record_of h → Accounts h c
accounts h c L b e =
    record {
      lawful = L;
      bounded = b;
      moves = ap (λ (x : Record). x.moves) e;
      stage = ap (λ (x : Record). x.run.stage) e;
      cursor = ap (λ (x : Record). x.run.cursor.bits) e;
      count = ap (λ (x : Record). x.run.count) e;
    }

same_record : (h : History) (c : Record) → Accounts h c → c ≡ record_of h
same_record h c A = λ i. keeping (A.moves i) (run_of (A.stage i) (A.cursor i) (A.count i))

tie_record : (h : History) (k : Call) → Bounded k → Lawful h → All Bounded (calls h)
    → Accounts (event k (answer (record_of h) k) ∷ h) (next (record_of h) k)
tie_record h k w L b =
    let r = answer_rule h L b k in
    accounts (event k (answer (record_of h) k) ∷ h) (left (answer (record_of h) k) (record_of h) k) (more L r) (w, b)
    (record_follows h L k (answer (record_of h) k) r)

-- a call that answers and leaves what the equations say is accounted for
pub accounted : (k : Call) → Bounded k → (b c : Record) (a : Answer) → a ≡ answer b k → c ≡ next b k → Accounted b k a c
accounted k w b c a ea ec h A =
    subst₂ (λ (x : Answer) (y : Record). Accounts (event k x ∷ h) y) (sym ea) (sym ec)
    (subst (λ (x : Record). Accounts (event k (answer x k) ∷ h) (next x k)) (sym (same_record h b A)) (tie_record h k w A.lawful A.bounded))

pub new_accounts : (c : Record) → c ≡ factory → Accounts [] c
new_accounts c e = accounts [] c fresh tt e
