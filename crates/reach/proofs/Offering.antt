-- The moves that a state offers are those of the states that it silently reaches; how a cursor goes through them.
use Rattle.std.proofs.Common.{◌≡◌, ℕ, zero, suc, ◌+◌, ◌-◌, ◌<◌, ◌≤◌, ltb, ◌⊎◌, List, [], ◌∷◌, ◌++◌, length, drop, Some, None, sym, refl, ap, ◌∙◌, subst, ap₂, inl, inr, ⊎_elim, add-one, arith}
use lib.Bits.{bit_or, or_zero_l}
use Rattle.std.proofs.lemmas.Bool.{both_ways, cases_lt, lt-ltb, le-ltb, cond-true, cond-false}
use Rattle.std.specs.List.{All, slice_get}
use Rattle.std.proofs.lemmas.List.Elements.{All-nil, All-cons}
use Rattle.std.proofs.lemmas.Option.{slice_get_within, none-some}
use Rattle.process.proofs.Bits.{pick, only_in, in_only, not_in_empty}
use Rattle.process.proofs.Giving.{gives, ends}
use Rattle.process.specs.Meaning.{Proc, HasMove, Steps, Limits}
use Rattle.process.specs.Runs.{Run, nothing, motion, silent}
use Rattle.process.specs.Sets.{has, only, single, In}
use Rattle.process.specs.declared.moves.Move.{Move}
use Rattle.process.specs.declared.sets.StateSet.{StateSet}
use Rattle.reach.specs.Laws.{OffersExact}
use Rattle.reach.specs.Offers.{moves_in, moves_from, offers, rest_from, rest, start_of, past_move, past_state, Taken, Fewer, IsKnown, Known}
use Rattle.reach.specs.Reach.{silent_reach}
use Rattle.reach.specs.declared.offers.Offers.{Offers}
use Rattle.reach.proofs.Reaching.{reach_exact, mover}

-- moves of two lists together

has_split : (xs ys : List Move) (a u : ℕ) → HasMove (xs ++ ys) a u → HasMove xs a u ⊎ HasMove ys a u
has_split [] ys a u h = inr h
has_split (m ∷ xs) ys a u (inl e) = inl (inl e)
has_split (m ∷ xs) ys a u (inr h) = ⊎_elim (λ o. inl (inr o)) (λ o. inr o) (has_split xs ys a u h)

has_left : (xs ys : List Move) (a u : ℕ) → HasMove xs a u → HasMove (xs ++ ys) a u
has_left [] ys a u h = absurd h
has_left (m ∷ xs) ys a u (inl e) = inl e
has_left (m ∷ xs) ys a u (inr h) = inr (has_left xs ys a u h)

has_right : (xs ys : List Move) (a u : ℕ) → HasMove ys a u → HasMove (xs ++ ys) a u
has_right [] ys a u h = h
has_right (m ∷ xs) ys a u h = inr (has_right xs ys a u h)

-- a list that has no move is empty
no_moves : (ms : List Move) → ((a u : ℕ) → HasMove ms a u → ⊥) → ms ≡ []
no_moves [] h = refl
no_moves (m ∷ ms) h = absurd (h m.motion m.target (inl (refl, refl)))

-- the moves of one state

in_sound : (p : Proc) (S k a u : ℕ) → HasMove (moves_in p S k) a u → In S k × Steps p k a u
in_sound p S k a u h =
    pick (has S k) (p.moves k) [] (λ z. HasMove z a u → In S k × Steps p k a u) (λ e g. (e, g)) (λ e g. absurd g) h

in_complete : (p : Proc) (S k a u : ℕ) → In S k → Steps p k a u → HasMove (moves_in p S k) a u
in_complete p S k a u i h =
    pick (has S k) (p.moves k) [] (λ z. HasMove z a u) (λ e. h) (λ e. absurd (both_ways (has S k) e i))

in_beyond : (p : Proc) → Limits p → (S k : ℕ) → p.states ≤ k → moves_in p S k ≡ []
in_beyond p L S k l = pick (has S k) (p.moves k) [] (λ z. z ≡ []) (λ e. L.none_beyond k l) (λ e. refl)

-- the moves of the states from k on

from_sound : (p : Proc) (S d k a u : ℕ) → HasMove (moves_from p S d k) a u → (v : ℕ) × In S v × Steps p v a u
from_sound p S zero k a u h = absurd h
from_sound p S (suc d) k a u h =
    ⊎_elim (λ o. let r = in_sound p S k a u o in (k, r.0, r.1)) (λ o. from_sound p S d (suc k) a u o)
    (has_split (moves_in p S k) (moves_from p S d (suc k)) a u h)

from_complete : (p : Proc) (S d k v a u : ℕ) → k ≤ v → v < k + d → In S v → Steps p v a u → HasMove (moves_from p S d k) a u
from_complete p S zero k v a u l g i h = absurd (omega arith)
from_complete p S (suc d) k v a u l g i h =
    ⊎_elim
    (λ o. has_right (moves_in p S k) (moves_from p S d (suc k)) a u (from_complete p S d (suc k) v a u o (omega arith) i h))
    (λ o. has_left (moves_in p S k) (moves_from p S d (suc k)) a u (subst (λ (y : ℕ). HasMove (moves_in p S y) a u) (level o) (in_complete p S v a u i h)))
    (cases_lt k v)
  where
    level : v ≤ k → v ≡ k
    level o = omega arith

-- a move is offered by s just when it is a move of a state that s silently reaches
pub offers_exact : (p : Proc) → Limits p → (s : ℕ) → OffersExact p s (offers p s)
offers_exact p L s a u = (sound, complete)
  where
    sound : HasMove (offers p s) a u → (v : ℕ) × Run p s [] v × Steps p v a u
    sound h =
        let r = from_sound p (silent_reach p (only s)) p.states 0 a u h in
        let q = (reach_exact p L (only s) r.0).0 r.1 in
        (r.0, subst (λ (x : ℕ). Run p x [] r.0) (only_in s q.0 q.1) q.2, r.2)

    complete : (v : ℕ) × Run p s [] v × Steps p v a u → HasMove (offers p s) a u
    complete r =
        let b = mover p L r.0 a u r.2 in
        from_complete p (silent_reach p (only s)) p.states 0 r.0 a u (omega arith) (omega arith)
        ((reach_exact p L (only s) r.0).1 (s, in_only s, r.1)) r.2

-- a state from which a run leads to a move is one of the process
starts : {p : Proc} {s v : ℕ} {w : List ℕ} → Limits p → Run p s w v → (a u : ℕ) → Steps p v a u → s < p.states
starts {p = p} {s = s} L nothing a u h = mover p L s a u h
starts {p = p} L (motion {s = s} {t = t} {a = b} l m q) a u h = mover p L s b t m
starts {p = p} L (silent {s = s} {t = t} m q) a u h = mover p L s 0 t m

-- a state that does not exist offers nothing, nor does the empty set
offers_single : (p : Proc) → Limits p → (s : ℕ) → moves_from p (silent_reach p (single s)) p.states 0 ≡ offers p s
offers_single p L s = ⊎_elim low high (cases_lt s 64)
  where
    low : s < 64 → moves_from p (silent_reach p (single s)) p.states 0 ≡ offers p s
    low l =
        ap (λ (T : ℕ). moves_from p (silent_reach p T) p.states 0)
        (cond-true (ltb s 64) (bit_or 0 (only s)) 0 (lt-ltb s 64 l) ∙ or_zero_l (only s))

    nowhere : 64 ≤ s → (a u : ℕ) → HasMove (offers p s) a u → ⊥
    nowhere l a u h = let r = (offers_exact p L s a u).0 h in omega (arith, starts L r.1 a u r.2, L.few_states)

    empty : (a u : ℕ) → HasMove (moves_from p (silent_reach p 0) p.states 0) a u → ⊥
    empty a u h =
        let r = from_sound p (silent_reach p 0) p.states 0 a u h in
        let q = (reach_exact p L 0 r.0).0 r.1 in
        not_in_empty q.0 q.1

    high : 64 ≤ s → moves_from p (silent_reach p (single s)) p.states 0 ≡ offers p s
    high l =
        ap (λ (T : ℕ). moves_from p (silent_reach p T) p.states 0) (cond-false (ltb s 64) (bit_or 0 (only s)) 0 (le-ltb s 64 l))
        ∙ no_moves (moves_from p (silent_reach p 0) p.states 0) empty
        ∙ sym (no_moves (offers p s) (nowhere l))

-- each move that is offered is known
pub offers_known : (p : Proc) → Limits p → (s : ℕ) → All (IsKnown p) (offers p s)
offers_known p L s = each (offers p s) (λ a u h. let r = (offers_exact p L s a u).0 h in (L.targets_inside r.0 a u r.2, L.known_motions r.0 a u r.2))
  where
    each : (ms : List Move) → ((a u : ℕ) → HasMove ms a u → (u < p.states) × (a ≤ 24)) → All (IsKnown p) ms
    each [] h = All-nil (IsKnown p)
    each (m ∷ ms) h = All-cons (IsKnown p) m ms (h m.motion m.target (inl (refl, refl))) (each ms (λ a u i. h a u (inr i)))

-- a cursor before a state has the moves from that state on
before_state : (p : Proc) → Limits p → (S k : ℕ) → rest_from p S k 0 ≡ moves_from p S (p.states - k) k
before_state p L S k = by (p.states - k) refl
  where
    by : (d : ℕ) → p.states - k ≡ d → rest_from p S k 0 ≡ moves_from p S d k
    by zero e =
        let l : p.states ≤ k = omega arith in
        let z : p.states - suc k ≡ 0 = omega arith in
        ap₂ (λ xs n. xs ++ moves_from p S n (suc k)) (in_beyond p L S k l) z
    by (suc d) e = let z : p.states - suc k ≡ d = omega arith in ap (λ n. moves_in p S k ++ moves_from p S n (suc k)) z

-- the moves from the first on are the offers of s
rest_first : (p : Proc) → Limits p → (s : ℕ) → rest_from p (silent_reach p (single s)) 0 0 ≡ offers p s
rest_first p L s =
    before_state p L (silent_reach p (single s)) 0
    ∙ ap (λ n. moves_from p (silent_reach p (single s)) n 0) none_off
    ∙ offers_single p L s
  where
    none_off : p.states - 0 ≡ p.states
    none_off = omega arith

-- a move that is there is the first of the rest
rest_here : (p : Proc) (S k i : ℕ) (m : Move) → Some m ≡ slice_get (moves_in p S k) i → rest_from p S k i ≡ m ∷ rest_from p S k (i + 1)
rest_here p S k i m e =
    ap (λ xs. xs ++ moves_from p S (p.states - suc k) (suc k)) (gives (moves_in p S k) i m (sym e))

-- where none is there, the rest is that of the next state
rest_next : (p : Proc) → Limits p → (S k i : ℕ) → None ≡ slice_get (moves_in p S k) i → rest_from p S k i ≡ rest_from p S (k + 1) 0
rest_next p L S k i e =
    ap (λ xs. xs ++ moves_from p S (p.states - suc k) (suc k)) (ends (moves_in p S k) i (sym e))
    ∙ sym (before_state p L S (suc k))
    ∙ ap (λ j. rest_from p S j 0) (sym (add-one k))

-- past the last state nothing is left
rest_end : (p : Proc) → Limits p → (S k i : ℕ) → p.states ≤ k → rest_from p S k i ≡ []
rest_end p L S k i l =
    let z : p.states - suc k ≡ 0 = omega arith in
    ap₂ (λ xs n. drop i xs ++ moves_from p S n (suc k)) (in_beyond p L S k l) z ∙ dropped i
  where
    dropped : (i : ℕ) → drop {A = Move} i [] ++ [] ≡ []
    dropped zero = refl
    dropped (suc i) = refl

-- the move at a place is one of the list's
pub nth_has : (ms : List Move) (k : ℕ) (m : Move) → slice_get ms k ≡ Some m → HasMove ms m.motion m.target
nth_has [] k m e = absurd (none-some m e)
nth_has (n ∷ ms) zero m e = let q : n ≡ m = cc in inl (ap (λ (x : Move). x.motion) q, ap (λ (x : Move). x.target) q)
nth_has (n ∷ ms) (suc k) m e = inr (nth_has ms k m e)

-- a move that is there keeps the limits
here_known : (p : Proc) → Limits p → (S k i : ℕ) (m : Move) → Some m ≡ slice_get (moves_in p S k) i → IsKnown p m
here_known p L S k i m e =
    let h = (in_sound p S k m.motion m.target (nth_has (moves_in p S k) i m (sym e))).1 in
    (L.targets_inside k m.motion m.target h, L.known_motions k m.motion m.target h)

-- its place is below 255
pub here_place : (p : Proc) → Limits p → (S k i : ℕ) (m : Move) → Some m ≡ slice_get (moves_in p S k) i → i < 255
here_place p L S k i m e = pick (has S k) (p.moves k) [] (λ z. Some m ≡ slice_get z i → i < 255) (λ _ g. short g) (λ _ g. absurd (none-some m (sym g))) e
  where
    short : Some m ≡ slice_get (p.moves k) i → i < 255
    short g = omega (arith, slice_get_within (p.moves k) i m (sym g), L.short_lists k)

-- the same of a cursor, as the code makes, reads and moves it

pub cursor_of : (p : Proc) → Limits p → (s : ℕ) (set R : StateSet) (c : Offers) → set.bits ≡ single s → R.bits ≡ silent_reach p set.bits → c ≡ start_of R
    → record { value : rest p c ≡ offers p s; exact : OffersExact p s (rest p c) }
cursor_of p L s set R c t e q =
    let v : rest p c ≡ offers p s = ap (rest p) q ∙ ap (λ (S : ℕ). rest_from p S 0 0) (e ∙ ap (silent_reach p) t) ∙ rest_first p L s in
    record { value = v; exact = subst (OffersExact p s) (sym v) (offers_exact p L s) }

pub cursor_gives : (p : Proc) → Limits p → (c d : Offers) (m : Move) (before : List Move)
    → rest p c ≡ before → Some m ≡ slice_get (moves_in p c.set.bits c.state) c.at → d ≡ past_move c
    → record { taken : Taken before (Some m) (rest p d); fewer : Fewer before (Some m) (rest p d); known : Known p (Some m) }
cursor_gives p L c d m before b e q =
    let t : before ≡ m ∷ rest p d = sym b ∙ rest_here p c.set.bits c.state c.at m e ∙ ap (λ z. m ∷ rest p z) (sym q) in
    record { taken = t; fewer = sym (ap length t); known = here_known p L c.set.bits c.state c.at m e }

pub cursor_goes_on : (p : Proc) → Limits p → (c d : Offers) (before : List Move)
    → rest p c ≡ before → None ≡ slice_get (moves_in p c.set.bits c.state) c.at → d ≡ past_state c → rest p d ≡ before
cursor_goes_on p L c d before b e q = ap (rest p) q ∙ sym (rest_next p L c.set.bits c.state c.at e) ∙ b

pub cursor_ends : (p : Proc) → Limits p → (c : Offers) (before : List Move) → rest p c ≡ before → p.states ≤ c.state
    → record { taken : Taken before None (rest p c); fewer : Fewer before None (rest p c); known : Known p None }
cursor_ends p L c before b l =
    let z = rest_end p L c.set.bits c.state c.at l in
    let t = sym b ∙ z in
    record { taken = (t, z); fewer = ap length t; known = tt }
