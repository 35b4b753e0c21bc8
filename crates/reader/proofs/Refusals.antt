-- A refused text is refused at its first token at fault.
use Rattle.std.proofs.Common.{◌≡◌, ℕ, ◌+◌, ◌<◌, ◌≤◌, leb, List, [], ◌∷◌, ◌++◌, length, Ok, Err, codes, Result, sym, refl, ap, ◌∙◌, subst, ⊎_elim, append_assoc, append-nil, arith, Bor}
use Rattle.std.proofs.lemmas.Bool.{cond-true, cond-false, le-leb, lt-leb}
use Rattle.common.specs.declared.fault.Located.{Located}
use Rattle.formtable.specs.declared.record.Record.{Record}
use Rattle.lexer.specs.declared.fault.TextFault.{TextFault}
use Rattle.lexer.specs.declared.fault.TextFault.TheVariants.{TooLong}
use Rattle.lexer.specs.Lex.{Tok, opening, closing, word}
use Rattle.reader.specs.declared.reading.Plan.{Plan}
use Rattle.reader.specs.Tokens.{fault_at, bind, token, ending, next_tok, takes, words, ends}
use Rattle.reader.specs.Reading.{Outline, outlined, term_at, read_plan, Told}
use Rattle.reader.specs.Plans.{Tree, stop, spell, spell_plan, Stands, Spelt, size, flatten, Good}
use Rattle.reader.specs.Stops.{BeginsPlan, IsPlan, Ahead, FirstFault, Stops}
use Rattle.reader.proofs.Contexts.{Context, Then, at_first}
use Rattle.reader.proofs.Faults.{Part, By, AtItems, no_word, no_close, no_term, past_word, past_term, in_term_at}
use Rattle.reader.proofs.Grammar.{Item, name, inner, rest, After, word_out, close_out, term_out}
use Rattle.reader.proofs.Grammar.{shut as shutting}
use Rattle.reader.proofs.Spellings.{ok_err, take_is, word_is, take_of, word_of, spelt_append, spelt_split, Found, sound, complete}
use Rattle.reader.proofs.Spots.{take_err, end_err}
use Rattle.reader.proofs.Steps.{chain, broke}
use Rattle.reader.proofs.Stopping.{unbind_err, err_same, not_taken, not_end, StopsAt, here, after}
use Rattle.reader.proofs.Texts.{keyword}

-- another way on is refused where this one is
bind_err : {A B C : Type 0} (x : Result A (Located TextFault)) (k : A → Result B (Located TextFault)) (j : A → Result C (Located TextFault)) (g : Located TextFault) → bind x k ≡ Err g → ((a : A) → k a ≡ Err g → j a ≡ Err g) → bind x j ≡ Err g
bind_err (Ok a) k j g e h = h a e
bind_err (Err f) k j g e h = ap Err (sym (err_same e))

-- the parts of a plan, the last first; the name comes in by the way in which the records are handed out

abbrev last_of : List ℕ → (List Record → Outline) → List Record → ℕ → Result Outline (Located TextFault)
last_of s out ns e = bind (ends (next_tok s e)) (λ z. Ok (out ns))

abbrev closing_of : List ℕ → (List Record → Outline) → ℕ × List Record → Result Outline (Located TextFault)
closing_of s out t = bind (takes closing (next_tok s t.0)) (last_of s out t.1)

abbrev term_from : ℕ → (List Record → Outline) → Part Outline
term_from cap out s b = bind (term_at 64 s cap b 0 [] 0) (closing_of s out)

abbrev name_from : ℕ → Part Outline
name_from cap s b = bind (words (next_tok s b)) (λ w. term_from cap (outlined w (next_tok s b).place) s (next_tok s b).after)

abbrev plan_from : ℕ → Part Outline
plan_from cap s a = bind (takes opening (next_tok s a)) (λ b. bind (takes keyword (next_tok s b)) (name_from cap s))

-- the name does not count for a refusal
unnamed : (cap : ℕ) (out other : List Record → Outline) (s : List ℕ) (b : ℕ) (g : Located TextFault) → term_from cap out s b ≡ Err g → term_from cap other s b ≡ Err g
unnamed cap out other s b g e = bind_err (term_at 64 s cap b 0 [] 0) (closing_of s out) (closing_of s other) g e
    (λ t d. bind_err (takes closing (next_tok s t.0)) (last_of s out t.1) (last_of s other t.1) g d
    (λ b c. bind_err (ends (next_tok s b)) (λ z. Ok (out t.1)) (λ z. Ok (other t.1)) g c (λ z q. absurd (ok_err q))))

abbrev plan_items : List Item
plan_items = name ∷ (inner ∷ (shutting ∷ []))

abbrev key : List Tok
key = opening ∷ (keyword ∷ [])

made_plan : (ts : List Tok) → After plan_items ts [] → (x : List ℕ) × (t : Tree) × (spell_plan x t ≡ opening ∷ (word (codes "plan") ∷ ts))
made_plan ts (w, us, e, (t, vs, d, (ws, c, z))) = (w, t, ap (λ y. opening ∷ (word (codes "plan") ∷ y)) (sym (e ∙ ap (λ y. word w ∷ y) (d ∙ ap (λ y. spell t ++ y) (c ∙ ap (λ y. closing ∷ y) z)))))

plan_is : (x : List ℕ) (t : Tree) (ts : List Tok) → spell_plan x t ≡ opening ∷ (word (codes "plan") ∷ ts) → After plan_items ts []
plan_is x t ts e = (x, spell t ++ (closing ∷ []), sym (ap (λ z. rest (rest z)) e), (t, closing ∷ [], refl, ([], refl, refl)))

-- nothing stands before a plan
abbrev Nothing : List Tok → Type 0
Nothing ts = ts ≡ []

named : (cap : ℕ) (w : List ℕ) (pre : List Tok) → Then (Then Nothing key) (word w ∷ []) pre → Context cap [] 0 0 pre
named cap w pre (ts, (us, z, e), d) = subst (Context cap [] 0 0) (sym (d ∙ ap (λ y. y ++ (word w ∷ [])) (e ∙ ap (λ y. y ++ key) z))) (at_first cap w)

module _ (cap : ℕ) (s : List ℕ) (f : Located TextFault) where
  abbrev AtPlan : ℕ → Type 0
  AtPlan a = StopsAt cap BeginsPlan IsPlan Nothing (By (plan_from cap)) s a f

  abbrev AtKey : ℕ → Type 0
  AtKey a = StopsAt cap (λ ts. BeginsPlan (opening ∷ ts)) (λ ts. IsPlan (opening ∷ ts)) (λ ts. Unit {0}) (By (λ s' b. bind (takes keyword (next_tok s' b)) (name_from cap s'))) s a f

  -- the bracket, the word plan, and the rest
  no_open : (a : ℕ) → takes opening (next_tok s a) ≡ Err f → AtPlan a
  no_open a e = here s a f (λ j. j ≡ token opening) (not_taken opening (next_tok s a).what (next_tok s a).place (next_tok s a).after f e) (codes "x", stop, _, refl)
      (λ more k m. subst (Ahead (next_tok s a).what) (sym m.2) k)
      (λ s' a' n. broke _ (take_err opening (next_tok s' a').what (next_tok s' a').place (next_tok s' a').after n))

  no_key : (a : ℕ) → takes keyword (next_tok s a) ≡ Err f → AtKey a
  no_key a e = here s a f (λ j. j ≡ token keyword) (not_taken keyword (next_tok s a).what (next_tok s a).place (next_tok s a).after f e) (codes "x", stop, _, refl)
      (λ more k m. subst (Ahead (next_tok s a).what) (sym (ap rest m.2)) k)
      (λ s' a' n. broke (name_from cap s') (take_err keyword (next_tok s' a').what (next_tok s' a').place (next_tok s' a').after n))

  -- reading on after these two tokens, of any text
  from_key : (s' : List ℕ) (a b : ℕ) → Spelt s' key a b → plan_from cap s' a ≡ name_from cap s' b
  from_key s' a b l = chain (λ b. bind (takes keyword (next_tok s' b)) (name_from cap s')) (take_of opening s' a l.0)
      (chain (name_from cap s') (take_of keyword s' (next_tok s' a).after l.1.0) (ap (name_from cap s') l.1.1))

  past_key : (a b : ℕ) → Spelt s key a b → AtItems cap s f plan_items (Then Nothing key) (name_from cap) b → AtPlan a
  past_key a b h x = after s a f {R' = By (name_from cap)} key b h
      (λ ts k. let m = made_plan (ts ++ k.0) k.1 in (m.0, m.1, k.0, m.2))
      (λ ts m. ([], plan_is m.0 m.1 ts m.2))
      (λ pre c. (pre, c, refl))
      (λ s' a' b' g l r. from_key s' a' b' l ∙ r) x

  -- reading on after a plan that may be read, of any text
  from_plan : (s' : List ℕ) (x : List ℕ) (t : Tree) (a b : ℕ) (g : Located TextFault) → Good [] 0 0 t → 0 + size t ≤ 64 → 0 + size t ≤ cap → Spelt s' (spell_plan x t) a b → ends (next_tok s' b) ≡ Err g → plan_from cap s' a ≡ Err g
  from_plan s' x t a b g good few fits l r =
      let c = (next_tok s' (next_tok s' a).after).after in
      let n = next_tok s' c in
      let out = outlined x n.place in
      let q = spelt_split s' (spell t) (closing ∷ []) n.after b l.1.1.1 in
      from_key s' a c (l.0, (l.1.0, refl))
      ∙ chain (λ w. term_from cap (outlined w n.place) s' n.after) (word_of s' x c l.1.1.0)
      (chain (closing_of s' out) (complete t 64 s' cap n.after 0 [] 0 q.0 (omega arith) q.1 good few fits)
      (chain (last_of s' out (flatten [] 0 t)) (take_of closing s' q.0 q.2.0)
      (ap (last_of s' out (flatten [] 0 t)) q.2.1 ∙ broke (λ y. Ok (out (flatten [] 0 t))) r)))

  -- nothing stands after a plan
  no_end : (x : List ℕ) (t : Tree) (a b : ℕ) → Good [] 0 0 t → 0 + size t ≤ 64 → 0 + size t ≤ cap → Spelt s (spell_plan x t) a b → ends (next_tok s b) ≡ Err f → AtPlan a
  no_end x t a b good few fits h e = after s a f {B' = λ ts. ts ≡ []} {M' = λ ts. ts ≡ []} {C' = λ ts. Unit {0}} {R' = By (λ s' b. ends (next_tok s' b))} (spell_plan x t) b h
      (λ ts k. (x, t, [], sym (append-nil (spell_plan x t)) ∙ ap (λ z. spell_plan x t ++ z) (sym k) ∙ sym (append-nil (spell_plan x t ++ ts))))
      (λ ts m. close_out [] ts [] (term_out (shutting ∷ []) t (closing ∷ ts) []
      (subst (λ z. After (inner ∷ (shutting ∷ [])) z []) (append_assoc (spell t) (closing ∷ []) ts) (word_out (inner ∷ (shutting ∷ [])) x _ [] (plan_is m.0 m.1 _ m.2)))))
      (λ pre c. tt)
      (λ s' a' b' g l r. from_plan s' x t a' b' g good few fits l r)
      (here s b f (λ j. j ≡ ending) (not_end (next_tok s b).what (next_tok s b).place f e) refl (λ more k m. subst (Ahead (next_tok s b).what) m k)
      (λ s' a' n. end_err (next_tok s' a').what (next_tok s' a').place n))

  past_name : (a b : ℕ) (w : List ℕ) (out : List Record → Outline) → Spelt s key a b → Stands s (word w) b → AtItems cap s f (inner ∷ (shutting ∷ [])) (Then (Then Nothing key) (word w ∷ [])) (term_from cap out) (next_tok s b).after → AtPlan a
  past_name a b w out h k x = past_key a b h (past_word cap s f (inner ∷ (shutting ∷ [])) (name_from cap) (term_from cap out) b (next_tok s b).after w k refl
      (λ s' a' g st r. chain (λ w. term_from cap (outlined w (next_tok s' a').place) s' (next_tok s' a').after) (word_of s' w a' st) (unnamed cap out (outlined w (next_tok s' a').place) s' (next_tok s' a').after g r)) x)

  module _ (a b : ℕ) (w : List ℕ) (out : List Record → Outline) (h : Spelt s key a b) (k : Stands s (word w) b) where
    in_close : (x : ℕ × List Record) → Found s cap (next_tok s b).after 0 [] 0 x.0 x.1 → closing_of s out x ≡ Err f → AtPlan a
    in_close x t e = ⊎_elim
        (λ d. past_name a b w out h k (past_term cap s f (shutting ∷ []) (term_from cap out) (λ s' b'. closing_of s' out (b', x.1)) (next_tok s b).after x.0 t.tree t.spelt
        (λ s' a' b' sp. chain (closing_of s' out) (complete t.tree 64 s' cap a' 0 [] 0 b' (omega arith) sp t.good t.few t.fits ∙ ap (λ z. Ok (b', z)) (sym t.table)) refl)
        (no_close cap s f [] (λ s' e. last_of s' out x.1 e) x.0 d)))
        (λ u. let whole = spelt_append s (spell t.tree) (closing ∷ []) (next_tok s b).after x.0 u.0 t.spelt (take_is closing s x.0 u.0 u.1) in
        ⊎_elim (no_end w t.tree a u.0 t.good t.few t.fits (spelt_append s key (word w ∷ (spell t.tree ++ (closing ∷ []))) a b u.0 h (k, whole)))
        (λ j. absurd (ok_err j.2))
        (unbind_err (ends (next_tok s u.0)) (λ z. Ok (out x.1)) f u.2))
        (unbind_err (takes closing (next_tok s x.0)) (last_of s out x.1) f e)

    in_named : term_from cap out s (next_tok s b).after ≡ Err f → AtPlan a
    in_named e = let c = (next_tok s b).after in ⊎_elim
        (λ d. past_name a b w out h k (no_term cap s f (shutting ∷ []) (λ s' a'. term_at 64 s' cap a' 0 [] 0) (λ s'. closing_of s' out) c (named cap w) (in_term_at cap s f 64 c 0 [] 0 (omega arith) d)))
        (λ u. in_close u.0 (sound 64 s cap c 0 [] 0 u.0.0 u.0.1 u.1) u.2)
        (unbind_err (term_at 64 s cap c 0 [] 0) (closing_of s out) f e)

  in_keyed : (a b : ℕ) → Spelt s key a b → name_from cap s b ≡ Err f → AtPlan a
  in_keyed a b h e = ⊎_elim
      (λ d. past_key a b h (no_word cap s f (inner ∷ (shutting ∷ [])) (name_from cap) b d (λ s' a' g r. broke _ r)))
      (λ u. in_named a b u.0 (outlined u.0 (next_tok s b).place) h (word_is s b u.0 u.1) u.2)
      (unbind_err (words (next_tok s b)) (λ w. term_from cap (outlined w (next_tok s b).place) s (next_tok s b).after) f e)

  in_opened : (a b : ℕ) → Spelt s (opening ∷ []) a b → bind (takes keyword (next_tok s b)) (name_from cap s) ≡ Err f → AtPlan a
  in_opened a b h e = ⊎_elim
      (λ d. after s a f {R' = By (λ s' b. bind (takes keyword (next_tok s' b)) (name_from cap s'))} (opening ∷ []) b h (λ ts c. c) (λ ts m. m) (λ pre c. tt)
      (λ s' a' b' g l r. chain (λ b. bind (takes keyword (next_tok s' b)) (name_from cap s')) (take_of opening s' a' l.0) (ap (λ z. bind (takes keyword (next_tok s' z)) (name_from cap s')) l.1 ∙ r))
      (no_key b d))
      (λ u. let k = take_is keyword s b u.0 u.1 in in_keyed a u.0 (spelt_append s (opening ∷ []) (keyword ∷ []) a b u.0 h (k.0, k.1)) u.2)
      (unbind_err (takes keyword (next_tok s b)) (name_from cap s) f e)

  in_plan : plan_from cap s 0 ≡ Err f → AtPlan 0
  in_plan e = ⊎_elim (no_open 0)
      (λ u. in_opened 0 u.0 (take_is opening s 0 u.0 u.1) u.2)
      (unbind_err (takes opening (next_tok s 0)) (λ a. bind (takes keyword (next_tok s a)) (name_from cap s)) f e)

-- a text that is not too long is read from its plan
short_read : (s : List ℕ) (cap : ℕ) → length s ≤ 16384 → read_plan s cap ≡ plan_from cap s 0
short_read s cap h = cond-true (leb (length s) 16384) _ _ (le-leb _ _ h)

first_fault : (s : List ℕ) (cap : ℕ) (f : Located TextFault) → length s ≤ 16384 → read_plan s cap ≡ Err f → FirstFault s cap f
first_fault s cap f h e =
    let x = in_plan cap s f (sym (short_read s cap h) ∙ e) in
    record {
      before = x.before;
      at = x.at;
      spelt = x.spelt;
      place = x.place;
      begins = x.begins;
      broken = x.broken;
      strays = x.strays;
      other = x.other;
      wrong = x.wrong [] refl;
      decides = λ s' at' short sp l. short_read s' cap short ∙ x.decides s' 0 at' sp l;
    }

too_long : (s : List ℕ) (cap : ℕ) (f : Located TextFault) → 16384 < length s → read_plan s cap ≡ Err f → f ≡ fault_at TooLong 0
too_long s cap f h e = err_same (sym (cond-false (leb (length s) 16384) _ _ (lt-leb _ _ h)) ∙ e)

pub stops : (text : Bor (List ℕ)) (cap : ℕ) (ys : List Record) (o : Result Outline (Located TextFault)) (r : Result Plan (Located TextFault)) → read_plan text.now cap ≡ o → Told o text cap r ys → Stops text.now cap r
stops text cap ys (Ok x) (Ok plan) e h = tt
stops text cap ys (Ok x) (Err g) e h = absurd h
stops text cap ys (Err g) (Ok plan) e h = tt
stops text cap ys (Err g) (Err f) e h =
    let d = e ∙ ap Err (sym h.0) in (λ long. too_long text.now cap f long d, λ short. first_fault text.now cap f short d)
