-- What is read is what is spelt.
use Rattle.std.proofs.Common.{◌≡◌, ℕ, zero, suc, ◌+◌, ◌<◌, ◌≤◌, ltb, leb, List, [], ◌∷◌, ◌++◌, length, Some, Ok, Err, codes, Option, Result, unwrap_or, sym, refl, ap, ◌∙◌, subst, arith}
use Rattle.std.proofs.lemmas.Slice.Eq.{bytes_eq-Decides}
use Rattle.std.proofs.lemmas.Bool.{cond-true, cond-false, lt-leb, le-leb}
use Rattle.common.specs.declared.fault.Located.{Located}
use Rattle.formtable.specs.declared.record.Record.{Record}
use Rattle.formtable.specs.Kinds.{row}
use Rattle.lexer.specs.declared.fault.TextFault.{TextFault}
use Rattle.lexer.specs.declared.fault.TextFault.TheVariants.{TooManyForms}
use Rattle.lexer.specs.Lex.{Tok, opening, closing, word}
use Rattle.motions.specs.Naming.{motion_of}
use Rattle.motions.proofs.Lookups.{one_to_one}
use Rattle.reader.specs.declared.heads.Shape.{Shape}
use Rattle.reader.specs.declared.heads.Shape.TheVariants.{End, Do, Tau, Or, Rec, Go}
use Rattle.reader.specs.Tokens.{fault_at, bind, Next, token, Spot, next_tok, takes_by, words_by, takes, words}
use Rattle.reader.specs.Reading.{shape_of, room_for, form_by, form_word, head_at, motion_by, motion_at, Bound, binds, lookup, target_by, go_target_at, Outcome, shut, body, step, term_at}
use Rattle.reader.specs.Plans.{Tree, stop, act, tau, or, loop, again, spell, Stands, Spelt, size, flatten, Good}
use Rattle.reader.proofs.Tables.{length_flatten}
use Rattle.reader.proofs.Spots.{same_is, same_self}
use Rattle.reader.proofs.Steps.{unroll, chain}

-- the tree at a, read with its first record at p, and its records
pub record Found (s : List ℕ) (cap a p : ℕ) (env : List Bound) (g b : ℕ) (ns : List Record) : Type 0 where
  pub tree : Tree
  pub spelt : Spelt s (spell tree) a b
  pub good : Good env g p tree
  pub few : p + size tree ≤ 64
  pub fits : p + size tree ≤ cap
  pub table : ns ≡ flatten env p tree

-- inversion

pub ok_err : {A : Type 0} {x : A} {f : Located TextFault} → ◌≡◌ {A = Result A (Located TextFault)} (Ok x) (Err f) → ⊥
ok_err {A} {x} {f} e = cc

pub unbind : {A B : Type 0} (x : Result A (Located TextFault)) (k : A → Result B (Located TextFault)) (y : B) → bind x k ≡ Ok y → (a : A) × (x ≡ Ok a) × (k a ≡ Ok y)
unbind {A} {B} x k y e = grind arith

pub taken : (t : Tok) (k : Next) (p e a : ℕ) → takes_by t k p e ≡ Ok a → (k ≡ token t) × (e ≡ a)
taken t k p e a h = grind (arith, bytes_eq-Decides)

worded : (k : Next) (p : ℕ) (w : List ℕ) → words_by k p ≡ Ok w → k ≡ token (word w)
worded k p w h = grind arith

pub word_is : (s : List ℕ) (a : ℕ) (w : List ℕ) → words (next_tok s a) ≡ Ok w → Stands s (word w) a
word_is s a w e = worded (next_tok s a).what (next_tok s a).place w e

pub take_is : (t : Tok) (s : List ℕ) (at a : ℕ) → takes t (next_tok s at) ≡ Ok a → Stands s t at × ((next_tok s at).after ≡ a)
take_is t s at a e = taken t (next_tok s at).what (next_tok s at).place (next_tok s at).after a e

abbrev pub word_for : Shape → List ℕ
word_for End = codes "end"
word_for Do = codes "do"
word_for Tau = codes "tau"
word_for Or = codes "or"
word_for Rec = codes "rec"
word_for Go = codes "go"

-- a form word is spelt in one way
pub shaped : (w : List ℕ) (f : Shape) → shape_of w ≡ Some f → w ≡ word_for f
shaped w f e = grind (arith, bytes_eq-Decides)

pub formed : (f : Shape) → shape_of (word_for f) ≡ Some f
formed f = grind arith

-- the inversions at the text

pub record Headed (s : List ℕ) (cap at p : ℕ) (f : Shape) (a : ℕ) : Type 0 where
  pub opn : Stands s opening at
  pub wrd : Stands s (word (word_for f)) (next_tok s at).after
  pub after : (next_tok s (next_tok s at).after).after ≡ a
  pub few : p < 64
  pub fits : p < cap

formed_by : (cap p : ℕ) (t : Spot) (o : Option Shape) (f : Shape) (a : ℕ) → form_by cap p t o ≡ Ok (f, a) → (o ≡ Some f) × (t.after ≡ a) × (p < 64) × (p < cap)
formed_by cap p t o f a e = grind arith

pub headed : (s : List ℕ) (cap at p : ℕ) (f : Shape) (a : ℕ) → head_at s cap at p ≡ Ok (f, a) → Headed s cap at p f a
headed s cap at p f a e =
    let u = unbind (takes opening (next_tok s at)) (form_word s cap p) _ e in
    let o = take_is opening s at u.0 u.1 in
    let b = (next_tok s at).after in
    let rest = subst (λ z. form_word s cap p z ≡ Ok (f, a)) (sym o.1) u.2 in
    let v = unbind (words (next_tok s b)) (λ w. form_by cap p (next_tok s b) (shape_of w)) _ rest in
    let m = formed_by cap p (next_tok s b) (shape_of v.0) f a v.2 in
    record { opn = o.0; wrd = word_is s b v.0 v.1 ∙ ap (λ z. token (word z)) (shaped v.0 f m.0); after = m.1; few = m.2; fits = m.3 }

by_motion : (m a : ℕ) (t : Spot) (o : Option ℕ) → motion_by t o ≡ Ok (m, a) → (o ≡ Some m) × (t.after ≡ a)
by_motion m a t o e = grind arith

pub moved : (s : List ℕ) (at m a : ℕ) → motion_at s at ≡ Ok (m, a) → (w : List ℕ) × Stands s (word w) at × (motion_of w ≡ Some m) × ((next_tok s at).after ≡ a)
moved s at m a e =
    let v = unbind (words (next_tok s at)) (λ w. motion_by (next_tok s at) (motion_of w)) _ e in
    let x = by_motion m a (next_tok s at) (motion_of v.0) v.2 in
    (v.0, word_is s at v.0 v.1, x.0, x.1)

pub aimed : (s : List ℕ) (env : List Bound) (g at k a : ℕ) → go_target_at s env g at ≡ Ok (k, a) → (w : List ℕ) × Stands s (word w) at × (lookup env w ≡ Some k) × (k < g) × ((next_tok s at).after ≡ a)
aimed s env g at k a e = grind arith

shuts : (s : List ℕ) (at : ℕ) (ns : List Record) (b : ℕ) (ms : List Record) → shut s at ns ≡ Ok (b, ms) → Spelt s (closing ∷ []) at b × (ms ≡ ns)
shuts s at ns b ms e = grind (arith, same_is)

pub spelt_append : (s : List ℕ) (ts us : List Tok) (a b c : ℕ) → Spelt s ts a b → Spelt s us b c → Spelt s (ts ++ us) a c
spelt_append s [] us a b c h k = subst (λ z. Spelt s us z c) (sym h) k
spelt_append s (t ∷ ts) us a b c h k = (h.0, spelt_append s ts us (next_tok s a).after b c h.1 k)

heads : (s : List ℕ) (cap at p : ℕ) (f : Shape) (a b : ℕ) (ts : List Tok) → Headed s cap at p f a → Spelt s ts a b → Spelt s (opening ∷ (word (word_for f) ∷ ts)) at b
heads s cap at p f a b ts h sp = (h.opn, (h.wrd, subst (λ z. Spelt s ts z b) (sym h.after) sp))

abbrev pub Sound : List ℕ → ℕ → (ℕ → ℕ → List Bound → ℕ → Outcome) → Type 0
Sound s cap inner = (a p : ℕ) (env : List Bound) (g b : ℕ) (ns : List Record) → inner a p env g ≡ Ok (b, ns) → Found s cap a p env g b ns

value_some : (o : Option ℕ) (m : ℕ) → o ≡ Some m → m ≡ unwrap_or o 0
value_some o m e = sym (ap (λ z. unwrap_or z 0) e)

module _ (s : List ℕ) (cap : ℕ) (inner : ℕ → ℕ → List Bound → ℕ → Outcome) (ih : Sound s cap inner) (at p : ℕ) (env : List Bound) (g b : ℕ) (ns : List Record) where
  sound_body : (f : Shape) (a : ℕ) → Headed s cap at p f a → body s inner p env g a f ≡ Ok (b, ns) → Found s cap at p env g b ns
  sound_body End a h e =
      let c = shuts s a _ b ns e in
      record { tree = stop; spelt = heads s cap at p End a b (closing ∷ []) h c.0; good = tt; few = omega (arith, h.few); fits = omega (arith, h.fits); table = c.1 }
  sound_body Do a h e =
      let u = unbind (motion_at s a) _ _ e in
      let m = moved s a _ _ u.1 in
      let v = unbind (inner u.0.1 (p + 1) env p) _ _ u.2 in
      let x = ih _ _ _ _ _ _ v.1 in
      let c = shuts s _ _ b ns v.2 in
      record {
        tree = act m.0 x.tree;
        spelt = heads s cap at p Do a b (word m.0 ∷ (spell x.tree ++ (closing ∷ []))) h (m.1, subst (λ z. Spelt s (spell x.tree ++ (closing ∷ [])) z b) (sym m.3) (spelt_append s (spell x.tree) _ _ _ b x.spelt c.0));
        good = ((u.0.0, (one_to_one m.0 u.0.0).0 m.2), x.good);
        few = omega (arith, x.few);
        fits = omega (arith, x.fits);
        table = c.1 ∙ ap (λ z. row 1 z ∷ v.0.1) (value_some _ _ m.2) ∙ ap (λ z. row 1 (unwrap_or (motion_of m.0) 0) ∷ z) x.table;
      }
  sound_body Tau a h e =
      let v = unbind (inner a (p + 1) env g) _ _ e in
      let x = ih _ _ _ _ _ _ v.1 in
      let c = shuts s _ _ b ns v.2 in
      record {
        tree = tau x.tree;
        spelt = heads s cap at p Tau a b _ h (spelt_append s (spell x.tree) _ _ _ b x.spelt c.0);
        good = x.good;
        few = omega (arith, x.few);
        fits = omega (arith, x.fits);
        table = c.1 ∙ ap (λ z. row 2 0 ∷ z) x.table;
      }
  sound_body Or a h e =
      let v = unbind (inner a (p + 1) env g) _ _ e in
      let x = ih _ _ _ _ _ _ v.1 in
      let w = unbind (inner v.0.0 (p + 1 + length v.0.1) env g) _ _ v.2 in
      let y₀ = ih _ _ _ _ _ _ w.1 in
      let long : length v.0.1 ≡ size x.tree = ap length x.table ∙ length_flatten env (p + 1) x.tree in
      let y = subst (λ z. Found s cap v.0.0 (p + 1 + z) env g w.0.0 w.0.1) long y₀ in
      let c = shuts s _ _ b ns w.2 in
      record {
        tree = or x.tree y.tree;
        spelt = heads s cap at p Or a b _ h (spelt_append s (spell x.tree) _ _ _ b x.spelt (spelt_append s (spell y.tree) _ _ _ b y.spelt c.0));
        good = (x.good, y.good);
        few = omega (arith, y.few);
        fits = omega (arith, y.fits);
        table = c.1 ∙ ap (λ z. row 3 (p + 1 + z) ∷ (v.0.1 ++ w.0.1)) long ∙ ap (λ z. row 3 (p + 1 + size x.tree) ∷ (z ++ w.0.1)) x.table
            ∙ ap (λ z. row 3 (p + 1 + size x.tree) ∷ (flatten env (p + 1) x.tree ++ z)) y.table;
      }
  sound_body Rec a h e =
      let u = unbind (words (next_tok s a)) (λ w. bind (inner (next_tok s a).after (p + 1) (binds w p ∷ env) g) (λ t. shut s t.0 (row 4 0 ∷ t.1))) _ e in
      let v = unbind (inner (next_tok s a).after (p + 1) (binds u.0 p ∷ env) g) _ _ u.2 in
      let x = ih _ _ _ _ _ _ v.1 in
      let c = shuts s _ _ b ns v.2 in
      record {
        tree = loop u.0 x.tree;
        spelt = heads s cap at p Rec a b (word u.0 ∷ (spell x.tree ++ (closing ∷ []))) h (word_is s a u.0 u.1, spelt_append s (spell x.tree) _ _ _ b x.spelt c.0);
        good = x.good;
        few = omega (arith, x.few);
        fits = omega (arith, x.fits);
        table = c.1 ∙ ap (λ z. row 4 0 ∷ z) x.table;
      }
  sound_body Go a h e =
      let u = unbind (go_target_at s env g a) _ _ e in
      let m = aimed s env g a _ _ u.1 in
      let c = shuts s _ _ b ns u.2 in
      record {
        tree = again m.0;
        spelt = heads s cap at p Go a b (word m.0 ∷ (closing ∷ [])) h (m.1, subst (λ z. Spelt s (closing ∷ []) z b) (sym m.4) c.0);
        good = (u.0.0, m.2, m.3);
        few = omega (arith, h.few);
        fits = omega (arith, h.fits);
        table = c.1 ∙ ap (λ z. row 5 z ∷ []) (value_some _ _ m.2);
      }

  sound_step : step s cap inner at p env g ≡ Ok (b, ns) → Found s cap at p env g b ns
  sound_step e = let u = unbind (head_at s cap at p) _ _ e in sound_body u.0.0 u.0.1 (headed s cap at p u.0.0 u.0.1 u.1) u.2

pub sound : (n : ℕ) (s : List ℕ) (cap : ℕ) → Sound s cap (term_at n s cap)
sound zero s cap a p env g b ns e = sound_step s cap (λ a q e h. Err (fault_at TooManyForms a)) (λ a p env g b ns e. absurd (ok_err (sym e))) a p env g b ns e
sound (suc n) s cap a p env g b ns e = sound_step s cap (term_at n s cap) (sound n s cap) a p env g b ns e

-- the other way: what is spelt is read

room_of : (cap p : ℕ) (t : Spot) (f : Shape) → p < 64 → p < cap → room_for cap p t f ≡ Ok (f, t.after)
room_of cap p t f h k = cond-false (leb 64 p) _ _ (lt-leb 64 p h) ∙ cond-false (leb cap p) _ _ (lt-leb cap p k)

pub word_of : (s : List ℕ) (w : List ℕ) (a : ℕ) → Stands s (word w) a → words (next_tok s a) ≡ Ok w
word_of s w a h = ap (λ k. words_by k (next_tok s a).place) h

pub take_of : (t : Tok) (s : List ℕ) (a : ℕ) → Stands s t a → takes t (next_tok s a) ≡ Ok (next_tok s a).after
take_of t s a h = ap (λ k. takes_by t k (next_tok s a).place (next_tok s a).after) h ∙ cond-true _ _ _ (same_self t)

pub head_of : (s : List ℕ) (cap at p : ℕ) (f : Shape) → Stands s opening at → Stands s (word (word_for f)) (next_tok s at).after → p < 64 → p < cap → head_at s cap at p ≡ Ok (f, (next_tok s (next_tok s at).after).after)
head_of s cap at p f o w h k =
    let b = (next_tok s at).after in
    chain (form_word s cap p) (take_of opening s at o)
    (chain (λ w. form_by cap p (next_tok s b) (shape_of w)) (word_of s (word_for f) b w)
    (ap (form_by cap p (next_tok s b)) (formed f) ∙ room_of cap p (next_tok s b) f h k))

pub motion_of_word : (s w : List ℕ) (at m : ℕ) → Stands s (word w) at → motion_of w ≡ Some m → motion_at s at ≡ Ok (m, (next_tok s at).after)
motion_of_word s w at m h e = chain (λ w. motion_by (next_tok s at) (motion_of w)) (word_of s w at h) (ap (motion_by (next_tok s at)) e)

pub target_of : (s : List ℕ) (env : List Bound) (g : ℕ) (w : List ℕ) (at k : ℕ) → Stands s (word w) at → lookup env w ≡ Some k → k < g → go_target_at s env g at ≡ Ok (k, (next_tok s at).after)
target_of s env g w at k h e l =
    chain (λ w. target_by g (next_tok s at) (lookup env w)) (word_of s w at h)
    (ap (target_by g (next_tok s at)) e ∙ cond-true (ltb k g) _ _ (le-leb (suc k) g l))

shut_of : (s : List ℕ) (at b : ℕ) (ns : List Record) → Spelt s (closing ∷ []) at b → shut s at ns ≡ Ok (b, ns)
shut_of s at b ns h = chain (λ a. Ok (a, ns)) (take_of closing s at h.0) (ap (λ z. Ok (z, ns)) h.1)

pub spelt_split : (s : List ℕ) (ts us : List Tok) (a c : ℕ) → Spelt s (ts ++ us) a c → (b : ℕ) × Spelt s ts a b × Spelt s us b c
spelt_split s [] us a c h = (a, refl, h)
spelt_split s (t ∷ ts) us a c h = let r = spelt_split s ts us (next_tok s a).after c h.1 in (r.0, (h.0, r.1), r.2)

pub complete : (t : Tree) (n : ℕ) (s : List ℕ) (cap a p : ℕ) (env : List Bound) (g b : ℕ) → 64 ≤ n + p → Spelt s (spell t) a b → Good env g p t → p + size t ≤ 64 → p + size t ≤ cap → term_at n s cap a p env g ≡ Ok (b, flatten env p t)
complete stop n s cap a p env g b h sp good few fits =
    let u = unroll n p h (omega arith) s cap in
    u.1 a env g ∙ chain _ (head_of s cap a p End sp.0 sp.1.0 (omega arith) (omega arith)) (shut_of s _ b _ sp.1.1)
complete (act w t) n s cap a p env g b h sp good few fits =
    let u = unroll n p h (omega arith) s cap in
    let r = sp.1.1 in
    let named = (one_to_one w good.0.0).1 good.0.1 in
    let q = spelt_split s (spell t) (closing ∷ []) _ b r.1 in
    u.1 a env g ∙ chain _ (head_of s cap a p Do sp.0 sp.1.0 (omega arith) (omega arith))
    (chain _ (motion_of_word s w _ good.0.0 r.0 named)
    (chain _ (complete t u.0 s cap _ (p + 1) env p q.0 u.2 q.1 good.1 (omega arith) (omega arith))
    (shut_of s q.0 b _ q.2 ∙ ap (λ z. Ok (b, row 1 z ∷ flatten env (p + 1) t)) (value_some _ _ named))))
complete (tau t) n s cap a p env g b h sp good few fits =
    let u = unroll n p h (omega arith) s cap in
    let q = spelt_split s (spell t) (closing ∷ []) _ b sp.1.1 in
    u.1 a env g ∙ chain _ (head_of s cap a p Tau sp.0 sp.1.0 (omega arith) (omega arith))
    (chain _ (complete t u.0 s cap _ (p + 1) env g q.0 u.2 q.1 good (omega arith) (omega arith))
    (shut_of s q.0 b _ q.2))
complete (or l r) n s cap a p env g b h sp good few fits =
    let u = unroll n p h (omega arith) s cap in
    let q = spelt_split s (spell l) (spell r ++ (closing ∷ [])) _ b sp.1.1 in
    let v = spelt_split s (spell r) (closing ∷ []) q.0 b q.2 in
    let long = length_flatten env (p + 1) l in
    u.1 a env g ∙ chain _ (head_of s cap a p Or sp.0 sp.1.0 (omega arith) (omega arith))
    (chain _ (complete l u.0 s cap _ (p + 1) env g q.0 u.2 q.1 good.0 (omega arith) (omega arith))
    (chain _ (ap (λ z. term_at u.0 s cap q.0 (p + 1 + z) env g) long ∙ complete r u.0 s cap q.0 (p + 1 + size l) env g v.0 (omega (arith, u.2)) v.1 good.1 (omega arith) (omega arith))
    (shut_of s v.0 b _ v.2 ∙ ap (λ z. Ok (b, row 3 (p + 1 + z) ∷ (flatten env (p + 1) l ++ flatten env (p + 1 + size l) r))) long)))
complete (loop x t) n s cap a p env g b h sp good few fits =
    let u = unroll n p h (omega arith) s cap in
    let r = sp.1.1 in
    let q = spelt_split s (spell t) (closing ∷ []) _ b r.1 in
    u.1 a env g ∙ chain _ (head_of s cap a p Rec sp.0 sp.1.0 (omega arith) (omega arith))
    (chain _ (word_of s x _ r.0)
    (chain (λ t. shut s t.0 (row 4 0 ∷ t.1)) (complete t u.0 s cap _ (p + 1) (binds x p ∷ env) g q.0 u.2 q.1 good (omega arith) (omega arith))
    (shut_of s q.0 b _ q.2)))
complete (again x) n s cap a p env g b h sp good few fits =
    let u = unroll n p h (omega arith) s cap in
    let r = sp.1.1 in
    u.1 a env g ∙ chain _ (head_of s cap a p Go sp.0 sp.1.0 (omega arith) (omega arith))
    (chain _ (target_of s env g x _ good.0 r.0 good.1 good.2)
    (shut_of s _ b _ r.1 ∙ ap (λ z. Ok (b, row 5 z ∷ [])) (value_some _ _ good.1)))
