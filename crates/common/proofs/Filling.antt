-- A list that has one element alone.
use Rattle.std.proofs.Common.{◌≡◌, suc, List, [], ◌∷◌, length, replicate, refl, ap, ◌∙◌, arith}
use Rattle.std.specs.List.{AllWithin}

pub all_same : {X : Type 0} (v : X) (xs : List X) → AllWithin (λ x. x ≡ v) xs 0 (length xs) → xs ≡ replicate (length xs) v
all_same v [] h = refl
all_same v (x ∷ xs) h =
    ap (λ y. y ∷ xs) (h 0 x (omega arith) (omega arith))
    ∙ ap (λ ys. v ∷ ys) (all_same v xs (λ k d _ l. h (suc k) d (omega arith) (omega arith)))
