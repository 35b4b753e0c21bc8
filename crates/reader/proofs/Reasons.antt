-- What is wrong with a token, from what reading keeps before it.
use Rattle.std.proofs.Common.{◌≡◌, ℕ, ◌+◌, ◌<◌, ◌≤◌, true, false, ltb, leb, List, [], ◌∷◌, ◌++◌, Some, None, codes, sym, refl, ap, ◌∙◌, subst, append_assoc, arith}
use Rattle.std.proofs.lemmas.Bool.{leb-true, leb-false, ltb-false}
use Rattle.lexer.specs.Lex.{Tok, opening, word}
use Rattle.motions.specs.Naming.{motion_of}
use Rattle.motions.proofs.Lookups.{one_to_one}
use Rattle.formtable.specs.Laid.{none_some}
use Rattle.reader.specs.declared.heads.Shape.{Shape}
use Rattle.reader.specs.Tokens.{token}
use Rattle.reader.specs.Reading.{shape_of, Bound, lookup}
use Rattle.reader.specs.Stops.{NoMotionAt, NotBoundAt, NotGuardedAt, FormAt}
use Rattle.reader.proofs.Contexts.{frames_of, none_binds, unguarded, Context, Then, then_open, then_count}

-- tokens after tokens
pub then_then : {C : List Tok → Type 0} (xs ys ts : List Tok) → Then (Then C xs) ys ts → Then C (xs ++ ys) ts
then_then xs ys ts (pre, (pre₀, c, e), d) = (pre₀, c, d ∙ ap (λ z. z ++ ys) e ∙ append_assoc pre₀ xs ys)

pub then_map : {C D : List Tok → Type 0} (xs ts : List Tok) → ((pre : List Tok) → C pre → D pre) → Then C xs ts → Then D xs ts
then_map xs ts h (pre, c, e) = (pre, h pre c, e)

module _ {cap : ℕ} {env : List Bound} {g p : ℕ} (ts : List Tok) (w : List ℕ) where
  pub wrong_motion : Then (Context cap env g p) (opening ∷ (word (codes "do") ∷ [])) ts → motion_of w ≡ None → NoMotionAt ts (token (word w))
  wrong_motion (pre, c, d) e = record {
    letters = w;
    around = frames_of c.holds;
    is = refl;
    inside = then_open pre _ ts c d;
    unknown = λ m n. none_some (sym e ∙ (one_to_one w m).1 n);
  }

  module _ (h : Then (Context cap env g p) (opening ∷ (word (codes "go") ∷ [])) ts) where
    pub wrong_name : lookup env w ≡ None → NotBoundAt ts (token (word w))
    wrong_name e = let c = h.1 in record {
      letters = w;
      around = frames_of c.holds;
      is = refl;
      inside = then_open h.0 _ ts c h.2;
      unbound = none_binds c.holds w (ap (λ z. lookup z w) (sym c.names) ∙ e);
    }

    pub wrong_guard : (k : ℕ) → lookup env w ≡ Some k → ltb k g ≡ false → NotGuardedAt ts (token (word w))
    wrong_guard k e l =
        let c = h.1 in
        let far : g ≤ k = ltb-false k g l in
        record {
          letters = w;
          around = frames_of c.holds;
          is = refl;
          inside = then_open h.0 _ ts c h.2;
          unguarded = unguarded c.holds w k p (ap (λ z. lookup z w) (sym c.names) ∙ e) (subst (λ z. z ≤ k) c.guard far) c.ordered;
        }

  module _ (h : Then (Context cap env g p) (opening ∷ []) ts) (f : Shape) (i : shape_of w ≡ Some f) where
    pub wrong_many : leb 64 p ≡ true → FormAt 65 ts (token (word w))
    wrong_many l =
        let c = h.1 in
        record {
          letters = w;
          around = frames_of c.holds;
          form = f;
          is = refl;
          opens = i;
          inside = then_open h.0 _ ts c h.2;
          count = omega (arith, then_count h.0 _ ts c h.2, leb-true 64 p l, c.few);
        }

    pub wrong_short : leb 64 p ≡ false → leb cap p ≡ true → FormAt (cap + 1) ts (token (word w)) × (cap < 64)
    wrong_short l m =
        let c = h.1 in (
          record {
            letters = w;
            around = frames_of c.holds;
            form = f;
            is = refl;
            opens = i;
            inside = then_open h.0 _ ts c h.2;
            count = omega (arith, then_count h.0 _ ts c h.2, leb-true cap p m, c.fits);
          },
          omega (arith, leb-false 64 p l, leb-true cap p m),
        )
