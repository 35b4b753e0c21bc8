-- The first token at fault from a place on, and how it is found one part at a time.
use Rattle.std.proofs.Common.{◌≡◌, ℕ, ◌⊎◌, List, [], ◌∷◌, ◌++◌, Ok, Err, Result, sym, refl, ap, ◌∙◌, subst, ⊎_elim, append_assoc, append-nil, arith}
use Rattle.common.specs.declared.fault.Located.{Located}
use Rattle.lexer.specs.declared.fault.TextFault.{TextFault}
use Rattle.lexer.specs.declared.fault.TextFault.TheVariants.{BadToken, Unexpected}
use Rattle.lexer.specs.Faults.{text_number}
use Rattle.lexer.specs.Lex.{Tok, word}
use Rattle.reader.specs.Tokens.{fault_at, bind, Next, token, ending, bad, next_tok, takes_by, words_by, ends_by}
use Rattle.reader.specs.Tokens.{stray as stray_at}
use Rattle.reader.specs.Plans.{Stands, Spelt}
use Rattle.reader.specs.Stops.{Ahead, Wrong}
use Rattle.reader.proofs.Spots.{same_self}
use Rattle.reader.proofs.Spellings.{spelt_append, spelt_split}

-- a refusal comes from the first part or from the second
pub unbind_err : {A B : Type 0} (x : Result A (Located TextFault)) (k : A → Result B (Located TextFault)) (f : Located TextFault) → bind x k ≡ Err f → (x ≡ Err f) ⊎ ((a : A) × (x ≡ Ok a) × (k a ≡ Err f))
unbind_err {A} {B} x k f e = grind arith

pub err_same : {A : Type 0} {f g : Located TextFault} → ◌≡◌ {A = Result A (Located TextFault)} (Err f) (Err g) → g ≡ f
err_same {A} {f} {g} e = cc

-- faults are apart by their numbers
pub apart : {f g : TextFault} → (text_number f ≡ text_number g → ⊥) → f ≡ g → ⊥
apart h e = h (ap text_number e)

-- what no rule allows

stray_place : (k : Next) (p : ℕ) → (stray_at k p).place ≡ p
stray_place k p = grind arith

stray_bad : (k : Next) (p : ℕ) → (stray_at k p).fault ≡ BadToken → k ≡ bad
stray_bad k p e = grind arith

stray_lawful : (k : Next) (p : ℕ) → (stray_at k p).fault ≡ Unexpected → k ≡ bad → ⊥
stray_lawful k p e b = apart {f = BadToken} {g = Unexpected} (λ z. omega arith) (sym (ap (λ z. (stray_at z p).fault) b) ∙ e)

stray_fault : (k : Next) (p : ℕ) → ((stray_at k p).fault ≡ BadToken) ⊎ ((stray_at k p).fault ≡ Unexpected)
stray_fault k p = grind arith

stray_wrong : (cap : ℕ) (ts : List Tok) (j k : Next) (p : ℕ) → Wrong cap ts j (stray_at k p).fault
stray_wrong cap ts j k p = grind arith

-- and the same wherever it stands
stray_anywhere : (k : Next) (p q : ℕ) → stray_at k q ≡ fault_at (stray_at k p).fault q
stray_anywhere k p q = grind arith

-- something else than the wanted
abbrev pub Unlike : (Next → Type 0) → Next → ℕ → Located TextFault → Type 0
Unlike Want k p f = (Want k → ⊥) × (f ≡ stray_at k p)

abbrev pub IsWord : Next → Type 0
IsWord k = (w : List ℕ) × (k ≡ token (word w))

pub not_taken : (t : Tok) (k : Next) (p a : ℕ) (f : Located TextFault) → takes_by t k p a ≡ Err f → Unlike (λ j. j ≡ token t) k p f
not_taken t k p a f h = grind (arith, same_self)

pub not_word : (k : Next) (p : ℕ) (f : Located TextFault) → words_by k p ≡ Err f → Unlike IsWord k p f
not_word k p f h = grind arith

pub not_end : (k : Next) (p : ℕ) (f : Located TextFault) → ends_by k p ≡ Err f → Unlike (λ j. j ≡ ending) k p f
not_end k p f h = grind arith

-- the first token at fault from a on: B says that tokens begin what is read there, M that they are it and more, C which tokens can stand before a;
-- R s a f says that the text s from a on is refused by f
pub record StopsAt (cap : ℕ) (B M C : List Tok → Type 0) (R : List ℕ → ℕ → Located TextFault → Type 0) (s : List ℕ) (a : ℕ) (f : Located TextFault) : Type 0 where
  pub before : List Tok
  pub at : ℕ
  pub spelt : Spelt s before a at
  pub place : (next_tok s at).place ≡ f.place
  pub begins : B before
  pub broken : f.fault ≡ BadToken → (next_tok s at).what ≡ bad
  pub strays : f.fault ≡ Unexpected → ((next_tok s at).what ≡ bad → ⊥) × ((more : List Tok) → Ahead (next_tok s at).what more → M (before ++ more) → ⊥)
  pub other : (f.fault ≡ BadToken → ⊥) → (f.fault ≡ Unexpected → ⊥) → (t : Tok) × ((next_tok s at).what ≡ token t) × B (before ++ (t ∷ []))
  pub wrong : (pre : List Tok) → C pre → Wrong cap (pre ++ before) (next_tok s at).what f.fault
  pub decides : (s' : List ℕ) (a' at' : ℕ) → Spelt s' before a' at' → (next_tok s' at').what ≡ (next_tok s at).what → R s' a' (fault_at f.fault (next_tok s' at').place)

-- the word w is refused by n wherever it stands
abbrev pub Again : (List ℕ → ℕ → Located TextFault → Type 0) → List ℕ → TextFault → Type 0
Again R w n = (s' : List ℕ) (a' : ℕ) → Stands s' (word w) a' → R s' a' (fault_at n (next_tok s' a').place)

elsewhere : (R : List ℕ → ℕ → Located TextFault → Type 0) (s : List ℕ) (a : ℕ) (f : Located TextFault) (n : TextFault) (w : List ℕ) → Stands s (word w) a → f.fault ≡ n → Again R w n
    → (s' : List ℕ) (a' at' : ℕ) → a' ≡ at' → (next_tok s' at').what ≡ (next_tok s a).what → R s' a' (fault_at f.fault (next_tok s' at').place)
elsewhere R s a f n w h e again s' a' at' d l =
    subst (λ z. R s' z (fault_at f.fault (next_tok s' at').place)) (sym d)
    (subst (λ z. R s' at' (fault_at z (next_tok s' at').place)) (sym e) (again s' at' (l ∙ h)))

module _ {cap : ℕ} {B M C : List Tok → Type 0} {R : List ℕ → ℕ → Located TextFault → Type 0} (s : List ℕ) (a : ℕ) (f : Located TextFault) where
  -- what stands next is something else than what every spelling has
  pub here : (Want : Next → Type 0) → Unlike Want (next_tok s a).what (next_tok s a).place f → B [] → ((more : List Tok) → Ahead (next_tok s a).what more → M more → Want (next_tok s a).what)
      → ((s' : List ℕ) (a' : ℕ) → (Want (next_tok s' a').what → ⊥) → R s' a' (stray_at (next_tok s' a').what (next_tok s' a').place)) → StopsAt cap B M C R s a f
  here Want u b k again =
      let j = (next_tok s a).what in
      let p = (next_tok s a).place in
      let n : f.fault ≡ (stray_at j p).fault = ap (λ z. z.fault) u.1 in
      record {
        before = [];
        at = a;
        spelt = refl;
        place = sym (ap (λ z. z.place) u.1 ∙ stray_place j p);
        begins = b;
        broken = λ e. stray_bad j p (sym n ∙ e);
        strays = λ e. (stray_lawful j p (sym n ∙ e), λ more h m. u.0 (k more h m));
        other = λ x y. absurd (⊎_elim (λ e. x (n ∙ e)) (λ e. y (n ∙ e)) (stray_fault j p));
        wrong = λ pre c. subst (Wrong cap (pre ++ []) j) (sym n) (stray_wrong cap (pre ++ []) j j p);
        decides = λ s' a' at' h l. subst (λ z. R s' z (fault_at f.fault (next_tok s' at').place)) (sym h)
            (subst (R s' at') (ap (λ z. stray_at z (next_tok s' at').place) l ∙ stray_anywhere j p (next_tok s' at').place ∙ ap (λ z. fault_at z (next_tok s' at').place) (sym n))
            (again s' at' (λ z. u.0 (subst Want l z))));
      }

  -- a word stands next that no spelling has there
  pub odd : (w : List ℕ) → Stands s (word w) a → f ≡ fault_at Unexpected (next_tok s a).place → B [] → ((v : List ℕ) (more : List Tok) → Stands s (word v) a → M (word v ∷ more) → ⊥)
      → ((more : List Tok) → M more → (v : List ℕ) × (us : List Tok) × (more ≡ word v ∷ us)) → Again R w Unexpected → StopsAt cap B M C R s a f
  odd w h e b k l again =
      let n : f.fault ≡ Unexpected = ap (λ z. z.fault) e in
      record {
        before = [];
        at = a;
        spelt = refl;
        place = sym (ap (λ z. z.place) e);
        begins = b;
        broken = λ z. absurd (apart {f = Unexpected} {g = BadToken} (λ y. omega arith) (sym n ∙ z));
        strays = λ z. (λ d. word_bad (sym h ∙ d), λ more x m. let y = l more m in k y.0 y.1 (subst (Ahead (next_tok s a).what) y.2 x) (subst M y.2 m));
        other = λ x y. absurd (y n);
        wrong = λ pre c. subst (Wrong cap (pre ++ []) (next_tok s a).what) (sym n) tt;
        decides = elsewhere R s a f Unexpected w h n again;
      }
    where
      word_bad : token (word w) ≡ bad → ⊥
      word_bad d = cc

  -- a word stands next with which some spelling goes on
  pub fair : (n : TextFault) → (n ≡ BadToken → ⊥) → (n ≡ Unexpected → ⊥) → f ≡ fault_at n (next_tok s a).place → (w : List ℕ) → Stands s (word w) a → B [] → B (word w ∷ []) → Again R w n
      → ((pre : List Tok) → C pre → Wrong cap pre (token (word w)) n) → StopsAt cap B M C R s a f
  fair n p q e w h b c again why =
      let m : f.fault ≡ n = ap (λ z. z.fault) e in
      record {
        before = [];
        at = a;
        spelt = refl;
        place = sym (ap (λ z. z.place) e);
        begins = b;
        broken = λ z. absurd (p (sym m ∙ z));
        strays = λ z. absurd (q (sym m ∙ z));
        other = λ _ _. (word w, h, c);
        wrong = λ pre d. subst (λ z. Wrong cap z (next_tok s a).what f.fault) (sym (append-nil pre))
            (subst (λ z. Wrong cap pre z f.fault) (sym h) (subst (Wrong cap pre (token (word w))) (sym m) (why pre d)));
        decides = elsewhere R s a f n w h m again;
      }

  -- the fault lies after the tokens hd
  pub after : {B' M' C' : List Tok → Type 0} {R' : List ℕ → ℕ → Located TextFault → Type 0} (hd : List Tok) (b : ℕ) → Spelt s hd a b → ((ts : List Tok) → B' ts → B (hd ++ ts)) → ((ts : List Tok) → M (hd ++ ts) → M' ts)
      → ((pre : List Tok) → C pre → C' (pre ++ hd)) → ((s' : List ℕ) (a' b' : ℕ) (g : Located TextFault) → Spelt s' hd a' b' → R' s' b' g → R s' a' g) → StopsAt cap B' M' C' R' s b f → StopsAt cap B M C R s a f
  after hd b h up down into over x = record {
    before = hd ++ x.before;
    at = x.at;
    spelt = spelt_append s hd x.before a b x.at h x.spelt;
    place = x.place;
    begins = up x.before x.begins;
    broken = x.broken;
    strays = λ e. ((x.strays e).0, λ more k m. (x.strays e).1 more k (down (x.before ++ more) (subst M (append_assoc hd x.before more) m)));
    other = λ p q. let o = x.other p q in (o.0, o.1, subst B (sym (append_assoc hd x.before (o.0 ∷ []))) (up _ o.2));
    wrong = λ pre c. subst (λ z. Wrong cap z (next_tok s x.at).what f.fault) (append_assoc pre hd x.before) (x.wrong (pre ++ hd) (into pre c));
    decides = λ s' a' at' h l. let q = spelt_split s' hd x.before a' at' h in over s' a' q.0 _ q.1 (x.decides s' q.0 at' q.2 l);
  }
