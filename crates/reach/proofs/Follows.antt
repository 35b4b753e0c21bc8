-- The set after some motions, and traces: from the two laws of After alone.
use Rattle.std.proofs.Common.{◌≡◌, ℕ, ◌<◌, ◌≤◌, ◌↔◌, List, [], ◌∷◌, ◌++◌, refl, subst}
use Rattle.process.specs.Meaning.{Proc, Limits}
use Rattle.process.specs.Runs.{Run, nothing, silent, motion, Trace}
use Rattle.process.specs.Sets.{In, only}
use Rattle.process.proofs.Bits.{in_only, only_in, some_in, positive}
use Rattle.reach.specs.Reach.{after, after_all, NoneSilent}
use Rattle.reach.proofs.Reaching.{run_append, after_laws}

pub none_silent_push : (w : List ℕ) (m : ℕ) → NoneSilent w → 1 ≤ m → NoneSilent (w ++ m ∷ [])
none_silent_push [] m l k = (k, tt)
none_silent_push (a ∷ w) m l k = (l.0, none_silent_push w m l.1 k)

pub after_push : (p : Proc) (T m : ℕ) (w : List ℕ) → after_all p T (w ++ m ∷ []) ≡ after p (after_all p T w) m
after_push p T m [] = refl
after_push p T m (a ∷ w) = after_push p (after p T a) m w

-- every state of the set is reached by a run over the motions
all_reached : (p : Proc) → Limits p → (T : ℕ) (w : List ℕ) (t : ℕ) → NoneSilent w → In (after_all p T w) t → (u : ℕ) × In T u × Run p u w t
all_reached p L T [] t l i = (t, i, nothing)
all_reached p L T (a ∷ w) t l i =
    let r = all_reached p L (after p T a) w t l.1 i in
    let q = (after_laws p L T a).reached r.0 l.0 r.1 in
    (q.0, q.1, run_append q.2 r.2)

-- a run over the motions ends in what a state of the set silently reaches
all_taken : {p : Proc} {t e : ℕ} {w : List ℕ} → Limits p → Run p t w e → (T u : ℕ) → In T u → Run p u [] t
    → (x : ℕ) × In (after_all p T w) x × Run p x [] e
all_taken L nothing T u i before = (u, i, before)
all_taken L (silent h q) T u i before = all_taken L q T u i (run_append before (silent h nothing))
all_taken {p} L (motion {s = s} {t = t} {a = a} l h q) T u i before =
    all_taken L q (after p T a) t ((after_laws p L T a).targets_in u s t i before h) nothing

-- the motions are a trace just when the set after them is not empty
pub trace_iff : (p : Proc) → Limits p → (w : List ℕ) → NoneSilent w → (0 < after_all p (only 0) w) ↔ Trace p w
trace_iff p L w l = (there, back)
  where
    there : 0 < after_all p (only 0) w → Trace p w
    there n =
        let s = some_in (after_all p (only 0) w) n in
        let r = all_reached p L (only 0) w s.0 l s.1 in
        (s.0, subst (λ (x : ℕ). Run p x w s.0) (only_in 0 r.0 r.1) r.2)

    back : Trace p w → 0 < after_all p (only 0) w
    back r = let x = all_taken L r.1 (only 0) 0 (in_only 0) nothing in positive (after_all p (only 0) w) x.0 x.1
