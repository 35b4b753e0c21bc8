-- The silent reach is what silent steps reach, and the least closed set; After is what a motion leads to from it.
use Rattle.std.proofs.Common.{◌≡◌, ℕ, zero, suc, ◌^◌, ◌<◌, ◌≤◌, Bool, true, false, not, ◌&&◌, ◌⊎◌, List, [], ◌∷◌, ◌++◌, sym, subst, inl, inr, ⊎_elim, arith}
use Rattle.std.proofs.lemmas.Bool.{both_ways, cases_lt, and_parts, and_cases, not-true, not-false}
use Rattle.process.proofs.Bits.{in_or, or_in_left, or_in_right, in_below, set_below}
use Rattle.process.specs.Meaning.{Proc, HasMove, Steps, Limits}
use Rattle.process.specs.Runs.{Run, nothing, motion, silent}
use Rattle.process.specs.Sets.{has, In}
use Rattle.process.specs.declared.moves.Move.{Move}
use Rattle.reach.specs.Laws.{Closed, Least, ReachExact, AfterExact, AfterLaws}
use Rattle.reach.specs.Reach.{image, grow, rounds, silent_reach, after}
use Rattle.reach.proofs.Counting.{count, count_more, count_full, find}
use Rattle.reach.proofs.Targets.{image_to_sound, image_to_complete}

-- a run goes on with another
pub run_append : {p : Proc} {s v e : ℕ} {w w' : List ℕ} → Run p s w v → Run p v w' e → Run p s (w ++ w') e
run_append nothing r = r
run_append (motion l m q) r = motion l m (run_append q r)
run_append (silent m q) r = silent m (run_append q r)

abbrev Nil : List ℕ → Type 0
Nil [] = Unit {0}
Nil (a ∷ w) = ⊥

-- silent steps stay in a closed set
closed_run : {p : Proc} {s e : ℕ} {w : List ℕ} → (C : ℕ) → Closed p C → Run p s w e → Nil w → In C s → In C e
closed_run C c nothing n i = i
closed_run C c (motion l m q) n i = absurd n
closed_run C c (silent {s = s} {t = t} m q) n i = closed_run C c q n (c s t i m)

-- a state with a move is one of the process
pub mover : (p : Proc) → Limits p → (u a t : ℕ) → Steps p u a t → u < p.states
mover p L u a t h =
    ⊎_elim (λ l. l) (λ l. absurd (subst (λ (ms : List Move). HasMove ms a t) (L.none_beyond u l) h)) (cases_lt u p.states)

-- one round

grow_from : (p : Proc) (T t : ℕ) → In (grow p T) t → In T t ⊎ ((u : ℕ) × In T u × Steps p u 0 t)
grow_from p T t i =
    ⊎_elim (λ o. inl o) (λ o. let r = image_to_sound p 0 T p.states t o in inr (r.0, r.2, r.3)) (in_or T (image p 0 T) t i)

grow_keeps : (p : Proc) (T t : ℕ) → In T t → In (grow p T) t
grow_keeps p T t i = or_in_left T (image p 0 T) t i

grow_step : (p : Proc) → Limits p → (T u t : ℕ) → In T u → Steps p u 0 t → In (grow p T) t
grow_step p L T u t i h = or_in_right T (image p 0 T) t (image_to_complete p 0 T p.states u t (mover p L u 0 t h) i h)

grow_closed : (p : Proc) (R : ℕ) → Closed p R → Closed p (grow p R)
grow_closed p R c u t i h =
    grow_keeps p R t (⊎_elim (λ o. c u t o h) (λ r. c u t (c r.0 u r.1 r.2) h) (grow_from p R u i))

-- each round gives a closed set or has added a state
stage : (p : Proc) → Limits p → (T k : ℕ) → Closed p (rounds p T k) ⊎ (k ≤ count p.states (rounds p T k))
stage p L T zero = inr (omega arith)
stage p L T (suc k) =
    ⊎_elim (λ c. inl (grow_closed p R c)) (λ g. ⊎_elim (more g) (λ stable. inl (grow_closed p R (stays stable))) (find p.states fresh)) (stage p L T k)
  where
    R : ℕ
    R = rounds p T k

    fresh : ℕ → Bool
    fresh v = has (grow p R) v && not (has R v)

    more : k ≤ count p.states R → (v : ℕ) × (v < p.states) × (fresh v ≡ true) → Closed p (grow p R) ⊎ (suc k ≤ count p.states (grow p R))
    more g r =
        let b = and_parts (has (grow p R) r.0) (not (has R r.0)) r.2 in
        let m = count_more p.states R (grow p R) r.0 (λ u l i. grow_keeps p R u i) r.1 (not-true (has R r.0) b.1) b.0 in
        inr (omega arith)

    stays : ((v : ℕ) → v < p.states → fresh v ≡ false) → Closed p R
    stays n u t i h =
        ⊎_elim (λ e. absurd (both_ways (has (grow p R) t) e (grow_step p L R u t i h))) (λ e. not-false (has R t) e)
        (and_cases (has (grow p R) t) (not (has R t)) (n t (L.targets_inside u 0 t h)))

pub reach_closed : (p : Proc) → Limits p → (T : ℕ) → Closed p (silent_reach p T)
reach_closed p L T =
    ⊎_elim (λ c. c) (λ g u t i h. count_full p.states (silent_reach p T) g t (L.targets_inside u 0 t h)) (stage p L T p.states)

-- the rounds keep what they have, and add only what silent steps reach

rounds_keeps : (p : Proc) (T k t : ℕ) → In T t → In (rounds p T k) t
rounds_keeps p T zero t i = i
rounds_keeps p T (suc k) t i = grow_keeps p (rounds p T k) t (rounds_keeps p T k t i)

pub reach_keeps : (p : Proc) (T t : ℕ) → In T t → In (silent_reach p T) t
reach_keeps p T t i = rounds_keeps p T p.states t i

rounds_sound : (p : Proc) (T k t : ℕ) → In (rounds p T k) t → (u : ℕ) × In T u × Run p u [] t
rounds_sound p T zero t i = (t, i, nothing)
rounds_sound p T (suc k) t i =
    ⊎_elim (λ o. rounds_sound p T k t o) (λ r. onward r (rounds_sound p T k r.0 r.1)) (grow_from p (rounds p T k) t i)
  where
    onward : (r : (u : ℕ) × In (rounds p T k) u × Steps p u 0 t) → (u : ℕ) × In T u × Run p u [] r.0 → (u : ℕ) × In T u × Run p u [] t
    onward r q = (q.0, q.1, run_append q.2 (silent r.2 nothing))

-- the laws of the silent reach and of After

pub reach_exact : (p : Proc) → Limits p → (T : ℕ) → ReachExact p T (silent_reach p T)
reach_exact p L T t = (
  λ i. rounds_sound p T p.states t i,
  λ r. closed_run (silent_reach p T) (reach_closed p L T) r.2 tt (reach_keeps p T r.0 r.1),
)

pub least_reach : (p : Proc) → Limits p → (T : ℕ) → Least p T (silent_reach p T)
least_reach p L T =
    record {
      holds = reach_keeps p T;
      closed = reach_closed p L T;
      least = λ C h c t i. let r = (reach_exact p L T t).0 i in closed_run C c r.2 tt (h r.0 r.1);
    }

pub after_exact : (p : Proc) → Limits p → (T a : ℕ) → AfterExact p T a (after p T a)
after_exact p L T a t = (sound, complete)
  where
    sound : In (after p T a) t → (u v : ℕ) × In T u × Run p u [] v × Steps p v a t
    sound i =
        let r = image_to_sound p a (silent_reach p T) p.states t i in
        let q = (reach_exact p L T r.0).0 r.2 in
        (q.0, r.0, q.1, q.2, r.3)

    complete : (u v : ℕ) × In T u × Run p u [] v × Steps p v a t → In (after p T a) t
    complete r =
        image_to_complete p a (silent_reach p T) p.states r.1 t (mover p L r.1 a t r.4)
        ((reach_exact p L T r.1).1 (r.0, r.2, r.3)) r.4

-- what has just the states of After keeps its laws
pub exact_laws : (p : Proc) (T a R : ℕ) → AfterExact p T a R → AfterLaws p T a R
exact_laws p T a R e =
    record {
      reached = λ t l i. let r = (e t).0 i in (r.0, r.2, run_append r.3 (motion l r.4 nothing));
      targets_in = λ u v t i r h. (e t).1 (u, v, i, r, h);
    }

pub after_laws : (p : Proc) → Limits p → (T a : ℕ) → AfterLaws p T a (after p T a)
after_laws p L T a = exact_laws p T a (after p T a) (after_exact p L T a)

-- sets of states of the process stay such sets

pub reach_below : (p : Proc) → Limits p → (T : ℕ) → T < 2 ^ p.states → silent_reach p T < 2 ^ p.states
reach_below p L T l = below p.states
  where
    below : (k : ℕ) → rounds p T k < 2 ^ p.states
    below zero = l
    below (suc k) =
        set_below (grow p (rounds p T k)) p.states
        (λ t i. ⊎_elim (λ o. in_below (rounds p T k) p.states t (below k) o) (λ r. L.targets_inside r.0 0 t r.2)
        (grow_from p (rounds p T k) t i))

pub after_below : (p : Proc) → Limits p → (T a : ℕ) → after p T a < 2 ^ p.states
after_below p L T a =
    set_below (after p T a) p.states (λ t i. let r = (after_exact p L T a t).0 i in L.targets_inside r.1 a t r.4)

-- the same of a number that is known to be the silent reach, or After

pub reach_at : (p : Proc) → Limits p → (T R : ℕ) → R ≡ silent_reach p T
    → record { value : R ≡ silent_reach p T; least : Least p T R; exact : ReachExact p T R }
reach_at p L T R e =
    record {
      value = e;
      least = subst (Least p T) (sym e) (least_reach p L T);
      exact = subst (ReachExact p T) (sym e) (reach_exact p L T);
    }

pub after_at : (p : Proc) → Limits p → (T a R : ℕ) → R ≡ after p T a
    → record { value : R ≡ after p T a; exact : AfterExact p T a R; laws : AfterLaws p T a R }
after_at p L T a R e =
    record {
      value = e;
      exact = subst (AfterExact p T a) (sym e) (after_exact p L T a);
      laws = subst (AfterLaws p T a) (sym e) (after_laws p L T a);
    }
