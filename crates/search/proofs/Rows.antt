-- A row that is asked for: looked up among the rows listed, and given a place.
use Rattle.std.proofs.Common.{◌≡◌, ℕ, ◌<◌, ◌≤◌, true, false, eqb, List, [], ◌∷◌, ◌++◌, length, is_some, Decides, Option, ap, arith}
use Rattle.std.proofs.lemmas.Bool.Decides.{nat_tests, Decides-eqb, Decides-and, Decides-like}
use Rattle.common.specs.First.{FirstWith, first}
use Rattle.common.proofs.Firsts.{first_is}
use Rattle.certificate.specs.Rows.{key_of}
use Rattle.certificate.specs.declared.Row.{Row}
use Rattle.search.specs.Rule.{same, unless_listed}
use Rattle.search.specs.Search.{kept, full, try_ask}

-- the test of a row decides whether it has that state and that set
same_decides : (u A : ℕ) (x : Row) → Decides (same u A x) (key_of x ≡ (u, A))
same_decides u A x =
    Decides-like (same u A x) (λ e. λ i. (e.0 i, e.1 i)) (λ e. (ap (λ (k : ℕ × ℕ). k.0) e, ap (λ (k : ℕ × ℕ). k.1) e))
    (Decides-and (eqb x.state u) (eqb x.set.bits A) (Decides-eqb x.state u) (Decides-eqb x.set.bits A))

module _ (rows : List Row) (r : Row) (o : Option ℕ) (f : FirstWith (λ x. key_of x ≡ (r.state, r.set.bits)) rows o) where
  -- what the look-up finds decides whether a row is asked for
  found : o ≡ first (same r.state r.set.bits) rows
  found = first_is (λ x. key_of x ≡ (r.state, r.set.bits)) (same r.state r.set.bits) (same_decides r.state r.set.bits) rows o f

  pub ask_listed : (most a : ℕ) → true ≡ is_some o → kept rows ≡ try_ask most a rows (unless_listed rows r)
  ask_listed most a e = grind (arith, found)

  pub ask_full : (most a : ℕ) → false ≡ is_some o → most ≤ length rows → full ≡ try_ask most a rows (unless_listed rows r)
  ask_full most a e h = grind (arith, nat_tests, found)

  pub ask_new : (most a : ℕ) → false ≡ is_some o → length rows < most → kept (rows ++ r ∷ []) ≡ try_ask most a rows (unless_listed rows r)
  ask_new most a e h = grind (arith, nat_tests, found)
