-- The motions allowed after a trace are those that go on with it.
use Rattle.std.proofs.Common.{◌+◌, map, ◌≢◌, fold, ◌≡◌, ℕ, zero, suc, ◌-◌, ◌<◌, ◌≤◌, Bool, false, List, [], ◌∷◌, ◌++◌, get_or, sym, refl, ap, ◌∙◌, subst, ⊎_elim, arith}
use Rattle.std.proofs.lemmas.List.FromFn.{get_or-map-range_with_len}
use Rattle.std.proofs.lemmas.List.FromFn.{fill_by_all}
use Rattle.std.specs.Array.{IsFromFnResult, IsFromFnResultFrom}
use Rattle.std.specs.Fn.{Called}
use Rattle.std.specs.List.{range_with_len}
use denote.Param.Members.{Mut}
use Rattle.process.specs.declared.sets.StateSet.{StateSet}
use Rattle.std.proofs.lemmas.Bool.{cases_eq, ltb-true, lt-ltb}
use Rattle.process.specs.Meaning.{Proc, Limits}
use Rattle.process.specs.Sets.{only}
use Rattle.reach.specs.Reach.{after, after_all}
use Rattle.reach.proofs.Follows.{none_silent_push, after_push, trace_iff}
use Rattle.hints.specs.Allowed.{allowed, allowed_list, Allows}

-- the sets after the motions, one by one
pub folded : (p : Proc) (s : StateSet) (w : List ℕ) → (fold (λ t m. record { bits = after p t.bits m }) s w).bits ≡ after_all p s.bits w
folded p s [] = refl
folded p s (m ∷ w) = folded p (record { bits = after p s.bits m }) w

pub allows : (p : Proc) → Limits p → (w : List ℕ) (list : List Bool) → list ≡ allowed_list p w → Allows p w list
allows p L w list e silent m one known =
    let T = after_all p (only 0) w in
    let said : get_or list (m - 1) false ≡ allowed p T m = ap (λ (xs : List Bool). get_or xs (m - 1) false) e ∙ get_or-map-range_with_len (λ i. allowed p T (i + 1)) 0 24 (m - 1) (m - 1) false (omega arith) (omega arith) ∙ ap (allowed p T) (let e : m - 1 + 1 ≡ m = omega arith in e) in
    let t = trace_iff p L (w ++ m ∷ []) (none_silent_push w m silent one) in
    let push = after_push p (only 0) m w in (
      λ x. t.0 (subst (λ (k : ℕ). 0 < k) (sym push) (ltb-true 0 (after p T m) (sym said ∙ x))),
      λ x. said ∙ lt-ltb 0 (after p T m) (subst (λ (k : ℕ). 0 < k) push (t.1 x)),
    )

-- the elements that a closure gave, one call for each index: it stays as it is, and computes h
module _ {F B : Type 0} (g : Mut F (ℕ × Unit {0}) B) (f : F) (h : ℕ → B) (calls : (i : ℕ) (b : B) (q : F) → Called g f (i, tt) b q → (q ≡ f) × (b ≡ h i)) (ys : List B) (d : B) where
  given : (n i k : ℕ) → IsFromFnResultFrom g f ys i n → i ≤ k → k < i + n → get_or ys k d ≡ h k
  given zero i k r low high = absurd (omega arith)
  given (suc n) i k r low high =
      let call = calls i r.1 r.0 r.3 in
      ⊎_elim {C = get_or ys k d ≡ h k}
      (λ (e : k ≡ i). ap (λ j. get_or ys j d) e ∙ r.2.1 d ∙ call.1 ∙ ap h (sym e))
      (λ (ne : k ≢ i). given n (i + 1) k (subst (λ q. IsFromFnResultFrom g q ys (i + 1) n) call.0 r.4) (omega arith) (omega arith))
      (cases_eq k i)

  pub from_fn_is : (n : ℕ) → IsFromFnResult g f ys n → ys ≡ map h (range_with_len 0 n)
  from_fn_is n r = fill_by_all h ys n d r.long (λ k l. given n 0 k r.each (omega arith) (omega arith))
