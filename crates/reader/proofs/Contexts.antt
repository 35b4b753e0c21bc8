-- What stands around a place of a plan: the recs and the do that reading keeps are those of the open brackets.
use Rattle.std.proofs.Common.{◌≡◌, ℕ, ◌+◌, ◌<◌, ◌≤◌, Bool, true, false, cond, List, [], ◌∷◌, ◌++◌, Some, None, codes, refl, ap, ◌∙◌, arith}
use Rattle.std.proofs.lemmas.Slice.Eq.{bytes_eq-Decides}
use Rattle.std.specs.Str.{bytes_eq}
use Rattle.lexer.specs.Lex.{Tok, opening, closing, word}
use Rattle.formtable.specs.Laid.{none_some}
use Rattle.reader.specs.Reading.{Bound, binds, lookup}
use Rattle.reader.specs.Plans.{Tree, stop, act, tau, or, loop, again, spell, size}
use Rattle.reader.specs.Brackets.{Frame, feed, open_in, open_after, openings, rec_of, do_of, NoneBinds, Unguarded}

-- tokens in two parts

pub open_append : (fs : List Frame) (ts us : List Tok) → open_in fs (ts ++ us) ≡ open_in (open_in fs ts) us
open_append fs [] us = refl
open_append fs (t ∷ ts) us = open_append (feed t fs) ts us

openings_append : (ts us : List Tok) → openings (ts ++ us) ≡ openings ts + openings us
openings_append [] us = omega arith
openings_append (t ∷ ts) us = grind (arith, openings_append ts us)

in_bracket : (t : Tree) (f : Frame) (fs : List Frame) → open_in (f ∷ fs) (spell t) ≡ f ∷ fs → open_in (f ∷ fs) (spell t ++ (closing ∷ [])) ≡ fs
in_bracket t f fs h = open_append (f ∷ fs) (spell t) (closing ∷ []) ∙ ap (λ z. open_in z (closing ∷ [])) h

-- a term leaves the brackets around it as they were
term_open : (t : Tree) (fs : List Frame) → open_in fs (spell t) ≡ fs
term_open stop fs = refl
term_open (act w t) fs = in_bracket t (do_of w) fs (term_open t (do_of w ∷ fs))
term_open (tau t) fs = in_bracket t (codes "tau" ∷ []) fs (term_open t ((codes "tau" ∷ []) ∷ fs))
term_open (or l r) fs =
    let f = codes "or" ∷ [] in
    open_append (f ∷ fs) (spell l) (spell r ++ (closing ∷ [])) ∙ ap (λ z. open_in z (spell r ++ (closing ∷ []))) (term_open l (f ∷ fs))
    ∙ in_bracket r f fs (term_open r (f ∷ fs))
term_open (loop x t) fs = in_bracket t (rec_of x) fs (term_open t (rec_of x ∷ fs))
term_open (again x) fs = refl

-- and opens one for each of its forms
term_openings : (t : Tree) → openings (spell t) ≡ size t
term_openings stop = refl
term_openings (act w t) = omega (arith, openings_append (spell t) (closing ∷ []), term_openings t)
term_openings (tau t) = omega (arith, openings_append (spell t) (closing ∷ []), term_openings t)
term_openings (or l r) = omega (arith, openings_append (spell l) (spell r ++ (closing ∷ [])), openings_append (spell r) (closing ∷ []), term_openings l, term_openings r)
term_openings (loop x t) = omega (arith, openings_append (spell t) (closing ∷ []), term_openings t)
term_openings (again x) = refl

-- an open bracket and the place of its record
pub data Hold : Type 0 where
  plain : List ℕ → Hold
  titled : List ℕ → Hold
  doing : List ℕ → ℕ → Hold
  looping : List ℕ → ℕ → Hold

abbrev pub frames_of : List Hold → List Frame
frames_of [] = []
frames_of (plain w ∷ hs) = (w ∷ []) ∷ frames_of hs
frames_of (titled x ∷ hs) = (x ∷ (codes "plan" ∷ [])) ∷ frames_of hs
frames_of (doing w p ∷ hs) = do_of w ∷ frames_of hs
frames_of (looping x p ∷ hs) = rec_of x ∷ frames_of hs

abbrev pub env_from : List Hold → List Bound
env_from [] = []
env_from (plain w ∷ hs) = env_from hs
env_from (titled x ∷ hs) = env_from hs
env_from (doing w p ∷ hs) = env_from hs
env_from (looping x p ∷ hs) = binds x p ∷ env_from hs

abbrev pub guard_from : List Hold → ℕ
guard_from [] = 0
guard_from (plain w ∷ hs) = guard_from hs
guard_from (titled x ∷ hs) = guard_from hs
guard_from (doing w p ∷ hs) = p
guard_from (looping x p ∷ hs) = guard_from hs

-- the places of the inner come after those of the outer
abbrev pub Ordered : ℕ → List Hold → Type 0
Ordered q [] = Unit {0}
Ordered q (plain w ∷ hs) = Ordered q hs
Ordered q (titled x ∷ hs) = Ordered q hs
Ordered q (doing w p ∷ hs) = (p < q) × Ordered p hs
Ordered q (looping x p ∷ hs) = (p < q) × Ordered p hs

ordered_on : (q r : ℕ) (hs : List Hold) → q ≤ r → Ordered q hs → Ordered r hs
ordered_on q r [] l o = tt
ordered_on q r (plain w ∷ hs) l o = ordered_on q r hs l o
ordered_on q r (titled x ∷ hs) l o = ordered_on q r hs l o
ordered_on q r (doing w p ∷ hs) l o = (omega (arith, o.0), o.1)
ordered_on q r (looping x p ∷ hs) l o = (omega (arith, o.0), o.1)

-- frames are apart

plain_rec : (w x : List ℕ) → w ∷ [] ≡ rec_of x → ⊥
plain_rec w x e = cc

plain_do : (w x : List ℕ) → w ∷ [] ≡ do_of x → ⊥
plain_do w x e = cc

titled_rec : (w x : List ℕ) → w ∷ (codes "plan" ∷ []) ≡ rec_of x → ⊥
titled_rec w x e = cc

titled_do : (w x : List ℕ) → w ∷ (codes "plan" ∷ []) ≡ do_of x → ⊥
titled_do w x e = cc

do_rec : (w x : List ℕ) → do_of w ≡ rec_of x → ⊥
do_rec w x e = cc

rec_do : (w x : List ℕ) → rec_of w ≡ do_of x → ⊥
rec_do w x e = cc

rec_other : (y x : List ℕ) → bytes_eq y x ≡ false → rec_of y ≡ rec_of x → ⊥
rec_other y x f e = grind (arith, bytes_eq-Decides)

-- a name that is not found is bound by no open rec
pub none_binds : (hs : List Hold) (x : List ℕ) → lookup (env_from hs) x ≡ None → NoneBinds (frames_of hs) x
none_binds [] x e = tt
none_binds (plain w ∷ hs) x e = (plain_rec w x, none_binds hs x e)
none_binds (titled y ∷ hs) x e = (titled_rec y x, none_binds hs x e)
none_binds (doing w p ∷ hs) x e = (do_rec w x, none_binds hs x e)
none_binds (looping y p ∷ hs) x e = grind (arith, rec_other y x, none_binds hs x)

-- what is found stands before the place
below : (hs : List Hold) (x : List ℕ) (k q : ℕ) → lookup (env_from hs) x ≡ Some k → Ordered q hs → k < q
below [] x k q e o = absurd (none_some e)
below (plain w ∷ hs) x k q e o = below hs x k q e o
below (titled y ∷ hs) x k q e o = below hs x k q e o
below (doing w p ∷ hs) x k q e o = let l = below hs x k p e o.1 in omega (arith, o.0)
below (looping y p ∷ hs) x k q e o = let further : lookup (env_from hs) x ≡ Some k → k < p = λ d. below hs x k p d o.1 in grind arith

further : (f : Frame) (fs : List Frame) (x : List ℕ) → (f ≡ rec_of x → ⊥) → ((w : List ℕ) → f ≡ do_of w → ⊥) → Unguarded fs x → Unguarded (f ∷ fs) x
further f fs x n d u = record { between = f ∷ u.between; outside = u.outside; split = ap (λ z. f ∷ z) u.split; nearest = (n, u.nearest); bare = (d, u.bare) }

-- a name whose rec stands behind the innermost do has none between
pub unguarded : (hs : List Hold) (x : List ℕ) (k q : ℕ) → lookup (env_from hs) x ≡ Some k → guard_from hs ≤ k → Ordered q hs → Unguarded (frames_of hs) x
unguarded [] x k q e l o = absurd (none_some e)
unguarded (plain w ∷ hs) x k q e l o = further _ _ x (plain_rec w x) (plain_do w) (unguarded hs x k q e l o)
unguarded (titled y ∷ hs) x k q e l o = further _ _ x (titled_rec y x) (titled_do y) (unguarded hs x k q e l o)
unguarded (doing w p ∷ hs) x k q e l o = let m = below hs x k p e o.1 in absurd (omega arith)
unguarded (looping y p ∷ hs) x k q e l o = by (bytes_eq y x) refl e (λ d. unguarded hs x k p d l o.1)
  where
    by : (c : Bool) → bytes_eq y x ≡ c → cond c (Some p) (lookup (env_from hs) x) ≡ Some k → (lookup (env_from hs) x ≡ Some k → Unguarded (frames_of hs) x) → Unguarded (frames_of (looping y p ∷ hs)) x
    by true i e h = record { between = []; outside = frames_of hs; split = ap (λ z. rec_of z ∷ frames_of hs) ((bytes_eq-Decides y x).0 i); nearest = tt; bare = tt }
    by false i e h = further _ _ x (rec_other y x i) (rec_do y) (h e)

-- the tokens before the form at p, where reading keeps env and g
pub record Context (cap : ℕ) (env : List Bound) (g p : ℕ) (before : List Tok) : Type 0 where
  pub holds : List Hold
  pub opened : open_after before ≡ frames_of holds
  pub names : env ≡ env_from holds
  pub guard : g ≡ guard_from holds
  pub ordered : Ordered p holds
  pub count : openings before ≡ p + 1
  pub few : p ≤ 64
  pub fits : p ≤ cap

-- more tokens after those
abbrev pub Then : (List Tok → Type 0) → List Tok → List Tok → Type 0
Then C more ts = (pre : List Tok) × C pre × (ts ≡ pre ++ more)

-- the open brackets after more tokens, and how many were opened
module _ {cap : ℕ} {env : List Bound} {g p : ℕ} (pre more ts : List Tok) (c : Context cap env g p pre) (e : ts ≡ pre ++ more) where
  pub then_open : open_after ts ≡ open_in (frames_of c.holds) more
  then_open = ap open_after e ∙ open_append [] pre more ∙ ap (λ z. open_in z more) c.opened

  pub then_count : openings ts ≡ openings more + p + 1
  then_count = omega (arith, ap openings e, openings_append pre more, c.count)

module _ {cap : ℕ} {env : List Bound} {g p : ℕ} (few : p < 64) (fits : p < cap) (ts : List Tok) where
  pub in_do : (w : List ℕ) → Then (Context cap env g p) (opening ∷ (word (codes "do") ∷ (word w ∷ []))) ts → Context cap env p (p + 1) ts
  in_do w (pre, c, e) = record {
    holds = doing w p ∷ c.holds;
    opened = then_open pre _ ts c e;
    names = c.names;
    guard = refl;
    ordered = (omega arith, c.ordered);
    count = omega (arith, then_count pre _ ts c e);
    few = omega arith;
    fits = omega arith;
  }

  pub in_rec : (x : List ℕ) → Then (Context cap env g p) (opening ∷ (word (codes "rec") ∷ (word x ∷ []))) ts → Context cap (binds x p ∷ env) g (p + 1) ts
  in_rec x (pre, c, e) = record {
    holds = looping x p ∷ c.holds;
    opened = then_open pre _ ts c e;
    names = ap (λ z. binds x p ∷ z) c.names;
    guard = c.guard;
    ordered = (omega arith, c.ordered);
    count = omega (arith, then_count pre _ ts c e);
    few = omega arith;
    fits = omega arith;
  }

  pub in_plain : (w : List ℕ) → Then (Context cap env g p) (opening ∷ (word w ∷ [])) ts → Context cap env g (p + 1) ts
  in_plain w (pre, c, e) = record {
    holds = plain w ∷ c.holds;
    opened = then_open pre _ ts c e;
    names = c.names;
    guard = c.guard;
    ordered = ordered_on p (p + 1) c.holds (omega arith) c.ordered;
    count = omega (arith, then_count pre _ ts c e);
    few = omega arith;
    fits = omega arith;
  }

-- after a whole form
pub past_form : {cap : ℕ} {env : List Bound} {g p : ℕ} (t : Tree) (q : ℕ) (ts : List Tok) → q ≡ p + size t → q ≤ 64 → q ≤ cap → Then (Context cap env g p) (spell t) ts → Context cap env g q ts
past_form {cap} {env} {g} {p} t q ts i few fits (pre, c, e) = record {
  holds = c.holds;
  opened = then_open pre (spell t) ts c e ∙ term_open t (frames_of c.holds);
  names = c.names;
  guard = c.guard;
  ordered = ordered_on p q c.holds (omega arith) c.ordered;
  count = omega (arith, then_count pre (spell t) ts c e, term_openings t);
  few = few;
  fits = fits;
}

-- before the first form of a plan
pub at_first : (cap : ℕ) (name : List ℕ) → Context cap [] 0 0 (opening ∷ (word (codes "plan") ∷ (word name ∷ [])))
at_first cap name = record { holds = titled name ∷ []; opened = refl; names = refl; guard = refl; ordered = tt; count = refl; few = omega arith; fits = omega arith }
