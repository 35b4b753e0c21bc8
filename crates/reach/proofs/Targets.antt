-- The targets of a motion, from a list of moves and from a set of states, are what its moves lead to.
use Rattle.std.proofs.Common.{◌≡◌, ℕ, zero, suc, ◌<◌, eqb, ◌⊎◌, List, [], ◌∷◌, sym, subst, inl, inr, ⊎_elim, le_refl, arith}
use native.Mathlib.Nat.{le_step}
use lib.Bits.{bit_or}
use Rattle.std.proofs.lemmas.Bool.{eqb-true, eqb-false, both_ways, cases_lt}
use Rattle.process.proofs.Bits.{pick, in_or, or_in_left, or_in_right, not_in_empty, in_only, only_in}
use Rattle.process.specs.Meaning.{Proc, HasMove, Steps}
use Rattle.process.specs.Sets.{has, only, In}
use Rattle.process.specs.declared.moves.Move.{Move}
use Rattle.reach.specs.Reach.{targets, image_to}

pub targets_sound : (a : ℕ) (ms : List Move) (t : ℕ) → In (targets a ms) t → HasMove ms a t
targets_sound a [] t i₀ = absurd (not_in_empty t i₀)
targets_sound a (m ∷ ms) t i₀ =
    pick (eqb m.motion a) (bit_or (only m.target) (targets a ms)) (targets a ms) (λ z. In z t → HasMove (m ∷ ms) a t)
    (λ e i. ⊎_elim (λ o. inl (eqb-true m.motion a e, sym (only_in m.target t o))) (λ r. inr (targets_sound a ms t r))
    (in_or (only m.target) (targets a ms) t i))
    (λ e i. inr (targets_sound a ms t i))
    i₀

pub targets_complete : (a : ℕ) (ms : List Move) (t : ℕ) → HasMove ms a t → In (targets a ms) t
targets_complete a [] t h = absurd h
targets_complete a (m ∷ ms) t (inl h) =
    pick (eqb m.motion a) (bit_or (only m.target) (targets a ms)) (targets a ms) (λ z. In z t)
    (λ e. or_in_left (only m.target) (targets a ms) t (subst (λ (u : ℕ). In (only u) t) (sym h.1) (in_only t)))
    (λ e. absurd (eqb-false m.motion a e h.0))
targets_complete a (m ∷ ms) t (inr h) =
    pick (eqb m.motion a) (bit_or (only m.target) (targets a ms)) (targets a ms) (λ z. In z t)
    (λ e. or_in_right (only m.target) (targets a ms) t (targets_complete a ms t h))
    (λ e. targets_complete a ms t h)

-- the image of a set

pub image_to_sound : (p : Proc) (a T k t : ℕ) → In (image_to p a T k) t → (u : ℕ) × (u < k) × In T u × Steps p u a t
image_to_sound p a T zero t i₀ = absurd (not_in_empty t i₀)
image_to_sound p a T (suc k) t i₀ =
    pick (has T k) (bit_or (targets a (p.moves k)) (image_to p a T k)) (image_to p a T k)
    (λ z. In z t → (u : ℕ) × (u < suc k) × In T u × Steps p u a t)
    (λ e i. ⊎_elim (λ o. (k, le_refl (suc k), e, targets_sound a (p.moves k) t o)) (λ r. later (image_to_sound p a T k t r))
    (in_or (targets a (p.moves k)) (image_to p a T k) t i))
    (λ e i. later (image_to_sound p a T k t i))
    i₀
  where
    later : (u : ℕ) × (u < k) × In T u × Steps p u a t → (u : ℕ) × (u < suc k) × In T u × Steps p u a t
    later r = (r.0, le_step r.1, r.2, r.3)

pub image_to_complete : (p : Proc) (a T k u t : ℕ) → u < k → In T u → Steps p u a t → In (image_to p a T k) t
image_to_complete p a T zero u t l i h = absurd (omega arith)
image_to_complete p a T (suc k) u t l i h =
    pick (has T k) (bit_or (targets a (p.moves k)) (image_to p a T k)) (image_to p a T k) (λ z. In z t)
    (λ e. ⊎_elim
    (λ same. or_in_left (targets a (p.moves k)) (image_to p a T k) t (targets_complete a (p.moves k) t (subst (λ (v : ℕ). Steps p v a t) same h)))
    (λ less. or_in_right (targets a (p.moves k)) (image_to p a T k) t (image_to_complete p a T k u t less i h))
    here)
    (λ e. ⊎_elim
    (λ same. absurd (both_ways (has T k) e (subst (λ (v : ℕ). In T v) same i)))
    (λ less. image_to_complete p a T k u t less i h)
    here)
  where
    here : (u ≡ k) ⊎ (u < k)
    here = ⊎_elim (λ l'. inr l') (λ l'. inl (omega arith)) (cases_lt u k)
