-- The first row with a key, as a test over all rows.
use Rattle.std.proofs.Common.{◌≡◌, ℕ, suc, Bool, true, false, cond, ◌&&◌, ◌||◌, eqb, List, [], ◌∷◌, is_some, Some, None, Decides, Option, refl, ap, ◌∙◌}
use Rattle.std.specs.List.{list_any}
use Rattle.std.specs.Option.{option_map}
use Rattle.std.proofs.lemmas.Bool.Decides.{Decides-like, Decides-and, Decides-eqb}
use Rattle.common.specs.First.{FirstWith, first}
use Rattle.common.proofs.Firsts.{first_is}
use Rattle.certificate.specs.Rows.{key_of}
use Rattle.certificate.specs.declared.Row.{Row}

some_first : (f : Row → Bool) (rows : List Row) → is_some (first f rows) ≡ list_any f rows
some_first f [] = refl
some_first f (r ∷ rs) = at (f r) (some_first f rs)
  where
    some_mapped : (o : Option ℕ) → is_some (option_map suc o) ≡ is_some o
    some_mapped (Some j) = refl
    some_mapped None = refl

    at : (b : Bool) → is_some (first f rs) ≡ list_any f rs → is_some (cond b (Some 0) (option_map suc (first f rs))) ≡ (b || list_any f rs)
    at true ih = refl
    at false ih = some_mapped (first f rs) ∙ ih

-- the first row with a key is there just when some row has that key
pub key_found : (rows : List Row) (s S : ℕ) (r : Option ℕ) → FirstWith (λ x. key_of x ≡ (s, S)) rows r
    → is_some r ≡ list_any (λ x. eqb x.state s && eqb x.set.bits S) rows
key_found rows s S r h = ap is_some (first_is (λ x. key_of x ≡ (s, S)) test decides rows r h) ∙ some_first test rows
  where
    test : Row → Bool
    test x = eqb x.state s && eqb x.set.bits S

    decides : (x : Row) → Decides (test x) (key_of x ≡ (s, S))
    decides x =
        Decides-like _ (λ e i. (e.0 i, e.1 i)) (λ e. (ap (λ k. k.0) e, ap (λ k. k.1) e))
        (Decides-and (eqb x.state s) (eqb x.set.bits S) (Decides-eqb x.state s) (Decides-eqb x.set.bits S))
