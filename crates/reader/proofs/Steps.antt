-- What a form reads as, one way at a time.
use Rattle.std.proofs.Common.{◌≡◌, ℕ, zero, suc, ◌+◌, ◌<◌, ◌≤◌, List, [], ◌∷◌, ◌++◌, length, set, IfOk, Ok, Err, MatchResult, Result, sym, refl, ap, ◌∙◌, subst, add-zero, arith, length-append, Bor}
use Rattle.std.proofs.lemmas.List.{set_comm}
use Rattle.common.specs.declared.fault.Located.{Located}
use Rattle.formtable.specs.declared.record.Record.{Record}
use Rattle.formtable.specs.Kinds.{row}
use Rattle.lexer.specs.Lex.{closing}
use Rattle.lexer.specs.declared.token.Placed.{Placed}
use Rattle.lexer.specs.declared.fault.TextFault.{TextFault}
use Rattle.reader.specs.declared.cursor.Cursor.{Cursor}
use Rattle.reader.specs.declared.heads.Shape.{Shape}
use Rattle.reader.specs.declared.scope.Scope.{Scope}
use Rattle.reader.specs.declared.heads.Shape.TheVariants.{End, Do, Tau, Or, Rec, Go}
use Rattle.reader.specs.Tokens.{bind, next_tok, takes, words, WordIs}
use Rattle.reader.specs.Reading.{Bound, binds, Outcome, shut, head_at, motion_at, go_target_at, body, step, term_at, around, put, Reads}

-- below 64 forms there is fuel left
pub unroll : (n p : ℕ) → 64 ≤ n + p → p < 64 → (s : List ℕ) (cap : ℕ) → (m : ℕ) × ((at : ℕ) (env : List Bound) (g : ℕ) → term_at n s cap at p env g ≡ step s cap (term_at m s cap) at p env g) × (64 ≤ m + (p + 1))
unroll zero p h l s cap = absurd (omega arith)
unroll (suc m) p h l s cap = (m, λ at env g. refl, omega arith)

pub chain : {A B : Type 0} {x : Result A (Located TextFault)} {a : A} {o : Result B (Located TextFault)} (k : A → Result B (Located TextFault)) → x ≡ Ok a → k a ≡ o → bind x k ≡ o
chain k e h = ap (λ y. bind y k) e ∙ h

pub broke : {A B : Type 0} {x : Result A (Located TextFault)} {f : Located TextFault} (k : A → Result B (Located TextFault)) → x ≡ Err f → bind x k ≡ Err f
broke k e = ap (λ y. bind y k) e

-- what a call that came to an answer found
pub got : (o : Outcome) (q : ℕ) (xs : List Record) (r : Result ℕ (Located TextFault)) (at : ℕ) (ys : List Record) (end : ℕ) → Reads o q xs r at ys → r ≡ Ok end
    → (ns : List Record) × (o ≡ Ok (at, ns)) × (end ≡ q + length ns) × (ys ≡ put xs q ns)
got o q xs r at ys end h e = grind arith

pub failed : (o : Outcome) (q : ℕ) (xs : List Record) (r : Result ℕ (Located TextFault)) (at : ℕ) (ys : List Record) (f : Located TextFault) → Reads o q xs r at ys → r ≡ Err f → o ≡ Err f
failed o q xs r at ys f h e = grind arith

-- writes

put_append : (xs : List Record) (q : ℕ) (ls rs : List Record) → put xs q (ls ++ rs) ≡ put (put xs q ls) (q + length ls) rs
put_append xs q [] rs = ap (λ z. put xs z rs) (sym (add-zero q))
put_append xs q (l ∷ ls) rs =
    let e : q + 1 + length ls ≡ q + suc (length ls) = omega arith in
    put_append (set xs q l) (q + 1) ls rs ∙ ap (λ z. put (put (set xs q l) (q + 1) ls) z rs) e

set_put : (xs : List Record) (p q : ℕ) (n : Record) (ls : List Record) → p < q → set (put xs q ls) p n ≡ put (set xs p n) q ls
set_put xs p q n [] h = refl
set_put xs p q n (l ∷ ls) h =
    set_put (set xs q l) p (q + 1) n ls (omega arith) ∙ ap (λ z. put z (q + 1) ls) (set_comm xs q p l n (omega arith))

-- what a call says of the text, a list of cap places and a scope, by those that it was called with
pub recap : {text text' : Bor (List ℕ)} {cap : ℕ} (b q : ℕ) {env env' : List Bound} {g g' : ℕ} (ws : List Record) (r : Result ℕ (Located TextFault)) (at : ℕ) (ys : List Record) → text' ≡ text → length ws ≡ cap → env' ≡ env → g' ≡ g
    → ((n : ℕ) → 64 ≤ n + q → Reads (term_at n text'.now (length ws) b q env' g') q ws r at ys) → (n : ℕ) → 64 ≤ n + q → Reads (term_at n text.now cap b q env g) q ws r at ys
recap {text} {text'} {cap} b q {env} {env'} {g} {g'} ws r at ys t e v w h n l =
    subst (λ z. Reads (term_at n z.now cap b q env g) q ws r at ys) t
    (subst (λ z. Reads (term_at n text'.now z b q env g) q ws r at ys) e
    (subst (λ z. Reads (term_at n text'.now (length ws) b q z g) q ws r at ys) v (subst (λ z. Reads (term_at n text'.now (length ws) b q env' z) q ws r at ys) w (h n l))))

-- a word that was read of the same text: its letters, and the place after it
pub worded : {text text' : Bor (List ℕ)} {a : ℕ} {w : Placed (Bor (List ℕ))} {b : ℕ} → text' ≡ text → WordIs text' a w × (b ≡ w.next) → (words (next_tok text.now a) ≡ Ok w.what.now) × ((next_tok text.now a).after ≡ b)
worded {text} {text'} {a} {w} {b} t h = (sym (ap (λ z. words (next_tok z.now a)) t) ∙ h.0.is, sym (h.1 ∙ h.0.to ∙ ap (λ z. (next_tok z.now a).after) t))

-- a form that is read: the text, the places of its bracket and of its record, the list, what stands around it; its form word, and the place after that
pub record Site : Type 0 where
  pub text : Bor (List ℕ)
  pub at : ℕ
  pub p : ℕ
  pub xs : List Record
  pub env : List Bound
  pub g : ℕ
  pub sh : Shape
  pub a : ℕ

abbrev pub site : Cursor → ℕ → List Record → Scope → Shape → ℕ → Site
site cursor p xs scope sh a = record { text = cursor.text; at = cursor.at; p = p; xs = xs; env = around scope; g = scope.guard; sh = sh; a = a }

module _ (f : Site) where
  abbrev pub Body : ℕ → Outcome
  Body m = body f.text.now (term_at m f.text.now (length f.xs)) f.p f.env f.g f.a f.sh

  -- behind its head the body follows, with fuel that is enough for the forms inside
  pub headed : f.p < 64 → Ok (f.sh, f.a) ≡ head_at f.text.now (length f.xs) f.at f.p → (r : Result ℕ (Located TextFault)) (b : ℕ) (ys : List Record) → ((m : ℕ) → 64 ≤ m + (f.p + 1) → Reads (Body m) f.p f.xs r b ys)
      → (n : ℕ) → 64 ≤ n + f.p → Reads (term_at n f.text.now (length f.xs) f.at f.p f.env f.g) f.p f.xs r b ys
  headed l d r b ys k n h =
      let u = unroll n f.p h l f.text.now (length f.xs) in
      subst (λ z. Reads z f.p f.xs r b ys) (sym (u.1 f.at f.env f.g ∙ chain _ (sym d) refl)) (k u.0 u.2)

  pub refused : f.p < 64 → Ok (f.sh, f.a) ≡ head_at f.text.now (length f.xs) f.at f.p → (r : Result ℕ (Located TextFault)) (b : ℕ) (ys : List Record) {e : Located TextFault} → r ≡ Err e → ((m : ℕ) → 64 ≤ m + (f.p + 1) → Body m ≡ Err e)
      → (n : ℕ) → 64 ≤ n + f.p → Reads (term_at n f.text.now (length f.xs) f.at f.p f.env f.g) f.p f.xs r b ys
  refused l d r b ys e k = headed l d r b ys (λ m h. subst (λ z. Reads z f.p f.xs r b ys) (sym (k m h)) e)

  -- what stands behind its form word, all but the closing bracket: its record, the place after the records inside it, the cursor behind them, and what the list then is
  pub record Inside (m : ℕ) (nd : Record) (end : ℕ) (cursor : Cursor) (ys : List Record) : Type 0 where
    pub same : cursor.text ≡ f.text
    pub rows : List Record
    pub is : Body m ≡ shut f.text.now cursor.at (nd ∷ rows)
    pub ends : end ≡ f.p + suc (length rows)
    pub wrote : ys ≡ put f.xs (f.p + 1) rows

module _ (f : Site) (m : ℕ) where
  abbrev inner : ℕ → ℕ → List Bound → ℕ → Outcome
  inner = term_at m f.text.now (length f.xs)

  abbrev with : Shape → Outcome
  with = body f.text.now inner f.p f.env f.g f.a

  -- the body form by form; its first words were read of the same text

  pub of_end : f.sh ≡ End → Body f m ≡ shut f.text.now f.a (row 0 0 ∷ [])
  of_end e = ap with e

  pub of_do : {text : Bor (List ℕ)} {k b : ℕ} → f.sh ≡ Do → text ≡ f.text → Ok (k, b) ≡ motion_at text.now f.a → Body f m ≡ bind (inner b (f.p + 1) f.env f.p) (λ t. shut f.text.now t.0 (row 1 k ∷ t.1))
  of_do e t d = ap with e ∙ chain _ (sym (d ∙ ap (λ z. motion_at z.now f.a) t)) refl

  pub no_motion : {text : Bor (List ℕ)} {z : Located TextFault} → f.sh ≡ Do → text ≡ f.text → Err z ≡ motion_at text.now f.a → Body f m ≡ Err z
  no_motion e t d = ap with e ∙ broke _ (sym (d ∙ ap (λ z. motion_at z.now f.a) t))

  pub of_tau : f.sh ≡ Tau → Body f m ≡ bind (inner f.a (f.p + 1) f.env f.g) (λ t. shut f.text.now t.0 (row 2 0 ∷ t.1))
  of_tau e = ap with e

  abbrev Both : Outcome
  Both = bind (inner f.a (f.p + 1) f.env f.g) (λ l. bind (inner l.0 (f.p + 1 + length l.1) f.env f.g) (λ t. shut f.text.now t.0 (row 3 (f.p + 1 + length l.1) ∷ (l.1 ++ t.1))))

  pub of_or : f.sh ≡ Or → Body f m ≡ Both
  of_or e = ap with e

  pub of_rec : {text : Bor (List ℕ)} {w : Placed (Bor (List ℕ))} {b : ℕ} → f.sh ≡ Rec → text ≡ f.text → WordIs text f.a w × (b ≡ w.next) → Body f m ≡ bind (inner b (f.p + 1) (binds w.what.now f.p ∷ f.env) f.g) (λ t. shut f.text.now t.0 (row 4 0 ∷ t.1))
  of_rec {text} {w} {b} e t h =
      let d = worded t h in
      ap with e ∙ chain _ d.0 (ap (λ z. bind (inner z (f.p + 1) (binds w.what.now f.p ∷ f.env) f.g) (λ t. shut f.text.now t.0 (row 4 0 ∷ t.1))) d.1)

  pub of_go : {text : Bor (List ℕ)} {k b : ℕ} → f.sh ≡ Go → text ≡ f.text → Ok (k, b) ≡ go_target_at text.now f.env f.g f.a → Body f m ≡ shut f.text.now b (row 5 k ∷ [])
  of_go e t d = ap with e ∙ chain _ (sym (d ∙ ap (λ z. go_target_at z.now f.env f.g f.a) t)) refl

  -- no form inside
  pub none : {nd : Record} {cursor : Cursor} → cursor.text ≡ f.text → Body f m ≡ shut f.text.now cursor.at (nd ∷ []) → Inside f m nd (f.p + 1) cursor f.xs
  none t k = record { same = t; rows = []; is = k; ends = omega arith; wrote = refl }

  -- one form inside, which comes to o
  module _ (nd : Record) (o : Outcome) (k : Body f m ≡ bind o (λ t. shut f.text.now t.0 (nd ∷ t.1))) (r : Result ℕ (Located TextFault)) (b : ℕ) (ys : List Record) (h : Reads o (f.p + 1) f.xs r b ys) where
    pub one : {end : ℕ} {text : Bor (List ℕ)} → r ≡ Ok end → text ≡ f.text → Inside f m nd end (record { text = text; at = b }) ys
    one {end} e t = let x = got o _ _ r b ys end h e in record {
      same = t;
      rows = x.0;
      is = k ∙ chain (λ t. shut f.text.now t.0 (nd ∷ t.1)) x.1 refl;
      ends = omega (arith, x.2);
      wrote = x.3;
    }

    pub one_failed : {z : Located TextFault} → r ≡ Err z → Body f m ≡ Err z
    one_failed {z} e = k ∙ broke (λ t. shut f.text.now t.0 (nd ∷ t.1)) (failed o _ _ r b ys z h e)

  -- two forms inside
  module _ (k : Body f m ≡ Both) (r : Result ℕ (Located TextFault)) (b : ℕ) (ys : List Record) (h : Reads (inner f.a (f.p + 1) f.env f.g) (f.p + 1) f.xs r b ys) where
    module _ {mid : ℕ} (e : r ≡ Ok mid) (r₂ : Result ℕ (Located TextFault)) (b₂ : ℕ) (zs : List Record) (h₂ : Reads (inner b mid f.env f.g) mid ys r₂ b₂ zs) where
      pub two : {end : ℕ} {text : Bor (List ℕ)} → r₂ ≡ Ok end → text ≡ f.text → Inside f m (row 3 mid) end (record { text = text; at = b₂ }) zs
      two {end} e₂ t =
          let x = got _ _ _ r b ys mid h e in
          let y = got _ _ _ r₂ b₂ zs end h₂ e₂ in
          record {
            same = t;
            rows = x.0 ++ y.0;
            is = k ∙ chain _ x.1 (chain _ (ap (λ z. inner b z f.env f.g) (sym x.2) ∙ y.1) (ap (λ z. shut f.text.now b₂ (row 3 z ∷ (x.0 ++ y.0))) (sym x.2)));
            ends = omega (arith, x.2, y.2, length-append x.0 y.0);
            wrote = y.3 ∙ ap (λ z. put z mid y.0) x.3 ∙ ap (λ z. put (put f.xs (f.p + 1) x.0) z y.0) x.2 ∙ sym (put_append f.xs (f.p + 1) x.0 y.0);
          }

  -- the closing bracket
  pub closed : {nd : Record} {end : ℕ} {cursor : Cursor} {ys : List Record} (r : Result ℕ (Located TextFault)) (b : ℕ) → Inside f m nd end cursor ys
      → MatchResult r (λ x. (x ≡ end) × (Ok b ≡ takes closing (next_tok cursor.text.now cursor.at))) (λ z. Err z ≡ takes closing (next_tok cursor.text.now cursor.at)) → Reads (Body f m) f.p f.xs r b (set ys f.p nd)
  closed {nd} {end} {cursor} {ys} (Ok x) b i (l, e) =
      let d = e ∙ ap (λ z. takes closing (next_tok z.now cursor.at)) i.same in
      subst (λ z. Reads z f.p f.xs (Ok x) b (set ys f.p nd)) (sym (i.is ∙ chain (λ z. Ok (z, nd ∷ i.rows)) (sym d) refl))
      (ap Ok (l ∙ i.ends), refl, ap (λ z. set z f.p nd) i.wrote ∙ set_put f.xs f.p (f.p + 1) nd i.rows (omega arith))
  closed {nd} {end} {cursor} {ys} (Err z) b i e =
      let d = e ∙ ap (λ z. takes closing (next_tok z.now cursor.at)) i.same in
      subst (λ o. Reads o f.p f.xs (Err z) b (set ys f.p nd)) (sym (i.is ∙ broke (λ z. Ok (z, nd ∷ i.rows)) (sym d))) refl

-- the same bounds hold of the answer, where its value is the one that it was given
pub bounded : {p end n : ℕ} (A : Type 0) (B : Located TextFault → Type 0) (r : Result ℕ (Located TextFault)) → MatchResult r (λ x. (x ≡ end) × A) B → (p < end) × (end ≤ 64) × (end ≤ n) → IfOk r (λ x. (p < x) × (x ≤ 64) × (x ≤ n))
bounded A B (Ok x) h b = (omega (arith, h.0, b), omega (arith, h.0, b), omega (arith, h.0, b))
bounded A B (Err f) h b = tt
