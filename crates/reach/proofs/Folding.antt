-- Sets filled by a fold, over the moves of a state or over the states of a set.
use Rattle.std.proofs.Common.{◌≡◌, ℕ, zero, suc, ◌<◌, Bool, true, false, cond, ◌||◌, eqb, List, [], ◌∷◌, ◌++◌, map, filter, fold, sym, refl, ap, ◌∙◌, inl, inr, zero-add, add-one}
use lib.Bits.{bit_or, or_comm, or_zero_r}
use Rattle.std.proofs.Math.Bool.{or_assoc as either_assoc}
use Rattle.std.specs.List.{range_with_len}
use Rattle.std.proofs.lemmas.Bool.{eqb-true, cond-true, lt-ltb}
use Rattle.std.proofs.lemmas.List.{map-id}
use Rattle.std.proofs.lemmas.List.FromFn.{filter_of_map_range_with_len_more}
use Rattle.std.proofs.lemmas.List.Sums.{fold-append}
use Rattle.process.proofs.Bits.{ext, has_or}
use Rattle.process.specs.Meaning.{Proc, HasMove}
use Rattle.process.specs.Sets.{has, only, inserted}
use Rattle.process.specs.declared.moves.Move.{Move}
use Rattle.process.specs.declared.sets.StateSet.{StateSet}
use Rattle.reach.specs.Reach.{targets, image_to}

pub or_assoc : (A B C : ℕ) → bit_or (bit_or A B) C ≡ bit_or A (bit_or B C)
or_assoc A B C =
    ext (bit_or (bit_or A B) C) (bit_or A (bit_or B C))
    (λ t. has_or (bit_or A B) C t ∙ ap (λ x. x || has C t) (has_or A B t) ∙ either_assoc (has A t) (has B t) (has C t)
    ∙ sym (has_or A (bit_or B C) t ∙ ap (λ x. has A t || x) (has_or B C t)))

-- the set with the target of a move
abbrev pub with_target : StateSet → Move → StateSet
with_target S m = record { bits = inserted S.bits m.target }

abbrev by_motion : ℕ → List Move → List Move
by_motion a ms = filter (λ m. eqb m.motion a) ms

pub targets_folded : (a : ℕ) (ms : List Move) (S : StateSet) → ((t : ℕ) → HasMove ms a t → t < 64)
    → (fold with_target S (by_motion a ms)).bits ≡ bit_or S.bits (targets a ms)
targets_folded a [] S h = sym (or_zero_r S.bits)
targets_folded a (m ∷ ms) S h = at (eqb m.motion a) refl (λ R. targets_folded a ms R (λ t k. h t (inr k)))
  where
    at : (b : Bool) → eqb m.motion a ≡ b → ((R : StateSet) → (fold with_target R (by_motion a ms)).bits ≡ bit_or R.bits (targets a ms))
        → (fold with_target S (cond b (m ∷ by_motion a ms) (by_motion a ms))).bits
        ≡ bit_or S.bits (elim b [ true ↦ bit_or (only m.target) (targets a ms) | false ↦ targets a ms ])
    at true e ih =
        ih (with_target S m)
        ∙ ap (λ (n : ℕ). bit_or n (targets a ms)) (cond-true _ _ _ (lt-ltb m.target 64 (h m.target (inl (eqb-true m.motion a e, refl)))))
        ∙ or_assoc S.bits (only m.target) (targets a ms)
    at false e ih = ih S

-- the set with the targets of a state
abbrev pub with_state : Proc → ℕ → StateSet → ℕ → StateSet
with_state p a S s = record { bits = bit_or S.bits (targets a (p.moves s)) }

abbrev members : ℕ → ℕ → List ℕ
members T n = filter (has T) (range_with_len 0 n)

members_more : (T n : ℕ) → members T (suc n) ≡ members T n ++ cond (has T n) (n ∷ []) []
members_more T n =
    ap (filter (has T)) (sym (map-id (range_with_len 0 (suc n))))
    ∙ ap (λ m. filter (has T) (map (λ x. x) (range_with_len 0 m))) (sym (add-one n))
    ∙ filter_of_map_range_with_len_more (has T) (λ x. x) 0 n n (zero-add n)
    ∙ ap (λ xs. filter (has T) xs ++ cond (has T n) (n ∷ []) []) (map-id (range_with_len 0 n))

pub image_folded : (p : Proc) (a T n : ℕ) (S : StateSet) → (fold (with_state p a) S (members T n)).bits ≡ bit_or S.bits (image_to p a T n)
image_folded p a T zero S = sym (or_zero_r S.bits)
image_folded p a T (suc n) S =
    ap (λ xs. (fold (with_state p a) S xs).bits) (members_more T n)
    ∙ ap (λ R. R.bits) (fold-append (with_state p a) S (members T n) (cond (has T n) (n ∷ []) []))
    ∙ at (has T n) (image_folded p a T n S)
  where
    R : StateSet
    R = fold (with_state p a) S (members T n)

    at : (b : Bool) → R.bits ≡ bit_or S.bits (image_to p a T n)
        → (fold (with_state p a) R (cond b (n ∷ []) [])).bits
        ≡ bit_or S.bits (elim b [ true ↦ bit_or (targets a (p.moves n)) (image_to p a T n) | false ↦ image_to p a T n ])
    at true ih =
        ap (λ (x : ℕ). bit_or x (targets a (p.moves n))) ih
        ∙ or_assoc S.bits (image_to p a T n) (targets a (p.moves n))
        ∙ ap (bit_or S.bits) (or_comm (image_to p a T n) (targets a (p.moves n)))
    at false ih = ih
