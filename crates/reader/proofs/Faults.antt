-- The first token at fault in a form.
use Rattle.std.proofs.Common.{◌≡◌, ℕ, zero, suc, ◌+◌, ◌<◌, ◌≤◌, Bool, true, false, cond, ltb, leb, List, [], ◌∷◌, ◌++◌, length, Some, None, Ok, Err, codes, Option, Result, sym, refl, ap, ◌∙◌, subst, ⊎_elim, append_assoc, append-nil, arith}
use Rattle.std.proofs.lemmas.Bool.{cond-true, cond-false}
use Rattle.common.specs.declared.fault.Located.{Located}
use Rattle.formtable.specs.declared.record.Record.{Record}
use Rattle.formtable.specs.Kinds.{row}
use Rattle.lexer.specs.declared.fault.TextFault.{TextFault}
use Rattle.lexer.specs.declared.fault.TextFault.TheVariants.{BadToken, Unexpected, NoMotion, NotBound, NotGuarded, TooManyForms, ListShort}
use Rattle.lexer.specs.Lex.{Tok, opening, closing, word}
use Rattle.motions.specs.Naming.{motion_of}
use Rattle.reader.specs.declared.heads.Shape.{Shape}
use Rattle.reader.specs.declared.heads.Shape.TheVariants.{End, Do, Tau, Or, Rec, Go}
use Rattle.reader.specs.Tokens.{fault_at, bind, Spot, token, next_tok, takes, words}
use Rattle.reader.specs.Reading.{shape_of, room_for, form_by, form_word, head_at, motion_by, motion_at, Bound, binds, lookup, target_by, go_target_at, Outcome, shut, body, step, term_at}
use Rattle.reader.specs.Plans.{Tree, stop, spell, Stands, Spelt, size, flatten, Good}
use Rattle.reader.specs.Stops.{Ahead, Wrong}
use Rattle.reader.proofs.Contexts.{Context, Then, in_do, in_rec, in_plain, past_form}
use Rattle.reader.proofs.Grammar.{Item, name, inner, items, rest, first, bytes, After, fill, fill_after, shape_in, parts, made, shaped_as, word_out, term_out}
use Rattle.reader.proofs.Grammar.{shut as shutting}
use Rattle.reader.proofs.Reasons.{then_then, then_map, wrong_motion, wrong_name, wrong_guard, wrong_many, wrong_short}
use Rattle.reader.proofs.Spellings.{ok_err, word_for, formed, shaped, take_is, word_is, Headed, headed, moved, aimed, word_of, take_of, head_of, motion_of_word, target_of, Sound, sound, complete}
use Rattle.reader.proofs.Spots.{letters_by, take_err, word_err}
use Rattle.reader.proofs.Steps.{chain, broke}
use Rattle.reader.proofs.Stopping.{unbind_err, err_same, apart, IsWord, not_taken, not_word, StopsAt, Again, here, odd, fair, after}
use Rattle.reader.proofs.Tables.{length_flatten}

-- terms and items

abbrev pub BeginsTerm : List Tok → Type 0
BeginsTerm ts = (t : Tree) × (rest : List Tok) × (spell t ≡ ts ++ rest)

abbrev pub TermThen : List Tok → Type 0
TermThen ts = (t : Tree) × (tail : List Tok) × (spell t ++ tail ≡ ts)

abbrev pub BeginsItems : List Item → List Tok → Type 0
BeginsItems is ts = (rest : List Tok) × After is (ts ++ rest) []

abbrev pub ItemsThen : List Item → List Tok → Type 0
ItemsThen is ts = (tail : List Tok) × After is ts tail

-- a part of the reader: what it comes to, by the text and the place
abbrev pub Part : Type 0 → Type 0
Part X = List ℕ → ℕ → Result X (Located TextFault)

abbrev pub By : {X : Type 0} → Part X → List ℕ → ℕ → Located TextFault → Type 0
By k s a f = k s a ≡ Err f

module _ (cap : ℕ) (s : List ℕ) (f : Located TextFault) where
  abbrev pub AtItems : {X : Type 0} → List Item → (List Tok → Type 0) → Part X → ℕ → Type 0
  AtItems is C k a = StopsAt cap (BeginsItems is) (ItemsThen is) C (By k) s a f

  abbrev pub AtTerm : (List Tok → Type 0) → Part (ℕ × List Record) → ℕ → Type 0
  AtTerm C i a = StopsAt cap BeginsTerm TermThen C (By i) s a f

  pub no_word : {X : Type 0} {C : List Tok → Type 0} (is : List Item) (k : Part X) (a : ℕ) → words (next_tok s a) ≡ Err f → ((s' : List ℕ) (a' : ℕ) (g : Located TextFault) → words (next_tok s' a') ≡ Err g → k s' a' ≡ Err g) → AtItems (name ∷ is) C k a
  no_word is k a e again =
      here s a f IsWord (not_word (next_tok s a).what (next_tok s a).place f e) (fill (name ∷ is), fill_after (name ∷ is))
      (λ more h m. (m.1.0, subst (Ahead (next_tok s a).what) m.1.2 h))
      (λ s' a' n. again s' a' _ (word_err (next_tok s' a').what (next_tok s' a').place (λ w d. n (w, d))))

  pub no_close : {X : Type 0} {C : List Tok → Type 0} (is : List Item) (k : List ℕ → ℕ → Result X (Located TextFault)) (a : ℕ) → takes closing (next_tok s a) ≡ Err f → AtItems (shutting ∷ is) C (λ s' a'. bind (takes closing (next_tok s' a')) (k s')) a
  no_close is k a e =
      here s a f (λ j. j ≡ token closing) (not_taken closing (next_tok s a).what (next_tok s a).place (next_tok s a).after f e) (fill (shutting ∷ is), fill_after (shutting ∷ is))
      (λ more h m. subst (Ahead (next_tok s a).what) m.1.1 h)
      (λ s' a' n. broke (k s') (take_err closing (next_tok s' a').what (next_tok s' a').place (next_tok s' a').after n))

  pub no_term : {X : Type 0} {C D : List Tok → Type 0} (is : List Item) (i : Part (ℕ × List Record)) (k : List ℕ → (ℕ × List Record) → Result X (Located TextFault)) (a : ℕ) → ((pre : List Tok) → C pre → D pre) → AtTerm D i a → AtItems (inner ∷ is) C (λ s' a'. bind (i s' a') (k s')) a
  no_term {C = C} {D = D} is i k a into x = after s a f [] a refl
      (λ ts b. (b.1 ++ fill is, (b.0, fill is, sym (append_assoc ts b.1 (fill is)) ∙ ap (λ z. z ++ fill is) (sym b.2), fill_after is)))
      (λ ts m. (m.1.0, m.1.1, sym m.1.2))
      (λ pre c. subst D (sym (append-nil pre)) (into pre c))
      (λ s' a' b' g h r. broke (k s') (ap (i s') h ∙ r)) x

  pub past_word : {X Y : Type 0} {C : List Tok → Type 0} (is : List Item) (k : Part X) (k₁ : Part Y) (a b : ℕ) (w : List ℕ) → Stands s (word w) a → (next_tok s a).after ≡ b
      → ((s' : List ℕ) (a' : ℕ) (g : Located TextFault) → Stands s' (word w) a' → k₁ s' (next_tok s' a').after ≡ Err g → k s' a' ≡ Err g) → AtItems is (Then C (word w ∷ [])) k₁ b → AtItems (name ∷ is) C k a
  past_word is k k₁ a b w h e over x =
      after s a f (word w ∷ []) b (h, e) (λ ts c. (c.0, (w, ts ++ c.0, refl, c.1))) (λ ts m. (m.0, word_out is w ts m.0 m.1)) (λ pre c. (pre, c, refl))
      (λ s' a' b' g l r. over s' a' g l.0 (ap (k₁ s') l.1 ∙ r)) x

  pub past_term : {X : Type 0} {C : List Tok → Type 0} (is : List Item) (k k₁ : Part X) (a b : ℕ) (t : Tree) → Spelt s (spell t) a b → ((s' : List ℕ) (a' b' : ℕ) → Spelt s' (spell t) a' b' → k s' a' ≡ k₁ s' b') → AtItems is (Then C (spell t)) k₁ b → AtItems (inner ∷ is) C k a
  past_term is k k₁ a b t h over x =
      after s a f (spell t) b h (λ ts c. (c.0, (t, ts ++ c.0, append_assoc (spell t) ts c.0, c.1))) (λ ts m. (m.0, term_out is t ts m.0 m.1)) (λ pre c. (pre, c, refl))
      (λ s' a' b' g l r. over s' a' b' l ∙ r) x

  -- a word that some spelling has there, and a fault that is not of the grammar
  fair_word : {X : Type 0} {C : List Tok → Type 0} (is : List Item) (k : Part X) (a : ℕ) (n : TextFault) → (n ≡ BadToken → ⊥) → (n ≡ Unexpected → ⊥) → f ≡ fault_at n (next_tok s a).place → (w : List ℕ) → Stands s (word w) a
      → ((s' : List ℕ) (a' : ℕ) → Stands s' (word w) a' → k s' a' ≡ Err (fault_at n (next_tok s' a').place)) → ((pre : List Tok) → C pre → Wrong cap pre (token (word w)) n) → AtItems (name ∷ is) C k a
  fair_word is k a n p q e w h again why = fair s a f n p q e w h (fill (name ∷ is), fill_after (name ∷ is)) (fill is, (w, fill is, refl, fill_after is)) again why

  module _ {X : Type 0} (is : List Item) (k : List ℕ → (ℕ × ℕ) → Result X (Located TextFault)) (a : ℕ) (env : List Bound) (g p : ℕ) where
    no_motion : motion_at s a ≡ Err f → AtItems (name ∷ is) (Then (Context cap env g p) (opening ∷ (word (codes "do") ∷ []))) (λ s' a'. bind (motion_at s' a') (k s')) a
    no_motion e = ⊎_elim (λ d. no_word is _ a d (λ s' a' g h. broke (k s') (broke _ h)))
        (λ u. by u.0 (motion_of u.0) refl (word_is s a u.0 u.1) u.2)
        (unbind_err (words (next_tok s a)) (λ w. motion_by (next_tok s a) (motion_of w)) f e)
      where
        by : (w : List ℕ) (o : Option ℕ) → motion_of w ≡ o → Stands s (word w) a → motion_by (next_tok s a) o ≡ Err f → AtItems (name ∷ is) (Then (Context cap env g p) (opening ∷ (word (codes "do") ∷ []))) (λ s' a'. bind (motion_at s' a') (k s')) a
        by w None i h e = fair_word is _ a NoMotion (apart (λ z. omega arith)) (apart (λ z. omega arith)) (err_same e) w h
            (λ s' a' h. broke (k s') (chain (λ w. motion_by (next_tok s' a') (motion_of w)) (word_of s' w a' h) (ap (motion_by (next_tok s' a')) i)))
            (λ pre c. wrong_motion pre w c i)
        by w (Some m) i h e = absurd (ok_err e)

    no_target : go_target_at s env g a ≡ Err f → AtItems (name ∷ is) (Then (Context cap env g p) (opening ∷ (word (codes "go") ∷ []))) (λ s' a'. bind (go_target_at s' env g a') (k s')) a
    no_target e = ⊎_elim (λ d. no_word is _ a d (λ s' a' g h. broke (k s') (broke _ h)))
        (λ u. by u.0 (lookup env u.0) refl (word_is s a u.0 u.1) u.2)
        (unbind_err (words (next_tok s a)) (λ w. target_by g (next_tok s a) (lookup env w)) f e)
      where
        guard : (w : List ℕ) (i : ℕ) (b : Bool) → ltb i g ≡ b → lookup env w ≡ Some i → Stands s (word w) a → cond {A = Result (ℕ × ℕ) (Located TextFault)} b (Ok (i, (next_tok s a).after)) (Err (fault_at NotGuarded (next_tok s a).place)) ≡ Err f
            → AtItems (name ∷ is) (Then (Context cap env g p) (opening ∷ (word (codes "go") ∷ []))) (λ s' a'. bind (go_target_at s' env g a') (k s')) a
        guard w i true c j h e = absurd (ok_err e)
        guard w i false c j h e = fair_word is _ a NotGuarded (apart (λ z. omega arith)) (apart (λ z. omega arith)) (err_same e) w h
            (λ s' a' h. broke (k s') (chain (λ w. target_by g (next_tok s' a') (lookup env w)) (word_of s' w a' h) (ap (target_by g (next_tok s' a')) j ∙ cond-false (ltb i g) _ _ c)))
            (λ pre d. wrong_guard pre w d i j c)

        by : (w : List ℕ) (o : Option ℕ) → lookup env w ≡ o → Stands s (word w) a → target_by g (next_tok s a) o ≡ Err f → AtItems (name ∷ is) (Then (Context cap env g p) (opening ∷ (word (codes "go") ∷ []))) (λ s' a'. bind (go_target_at s' env g a') (k s')) a
        by w None i h e = fair_word is _ a NotBound (apart (λ z. omega arith)) (apart (λ z. omega arith)) (err_same e) w h
            (λ s' a' h. broke (k s') (chain (λ w. target_by g (next_tok s' a') (lookup env w)) (word_of s' w a' h) (ap (target_by g (next_tok s' a')) i)))
            (λ pre c. wrong_name pre w c i)
        by w (Some i) j h e = guard w i (ltb i g) refl j h e

  no_shut : {C : List Tok → Type 0} (is : List Item) (a : ℕ) (ns : List Record) → shut s a ns ≡ Err f → AtItems (shutting ∷ is) C (λ s' a'. shut s' a' ns) a
  no_shut is a ns e = ⊎_elim (no_close is (λ s' b. Ok (b, ns)) a) (λ u. absurd (ok_err u.2)) (unbind_err (takes closing (next_tok s a)) (λ b. Ok (b, ns)) f e)

  -- the opening bracket and the form word

  begins_form : (g : Shape) → BeginsTerm (opening ∷ (word (word_for g) ∷ []))
  begins_form g = let m = made g (fill (items g)) (fill_after (items g)) in (m.0, fill (items g), m.1)

  abbrev Formed : List Tok → Type 0
  Formed ts = TermThen (opening ∷ ts)

  -- after the bracket comes a form word
  form_next : (ts : List Tok) → Formed ts → (g : Shape) × (us : List Tok) × (ts ≡ word (word_for g) ∷ us)
  form_next ts m = let p = parts m.0 m.1 in (shape_in m.0, p.0, ap rest (sym m.2 ∙ p.1))

  module _ (p : ℕ) (env : List Bound) (g : ℕ) (k : List ℕ → (Shape × ℕ) → Outcome) where
    abbrev form_part : Part (ℕ × List Record)
    form_part s' b' = bind (form_word s' cap p b') (k s')

    abbrev AtForm : ℕ → Type 0
    AtForm a = StopsAt cap (λ ts. BeginsTerm (opening ∷ ts)) Formed (Then (Context cap env g p) (opening ∷ [])) (By form_part) s a f

    -- the same word meets the same test
    form_again : (w : List ℕ) (n : TextFault) (o : Option Shape) → shape_of w ≡ o → ((t : Spot) → form_by cap p t o ≡ Err (fault_at n t.place)) → Again (By form_part) w n
    form_again w n o i e s' a' h = broke (k s') (chain (λ w. form_by cap p (next_tok s' a') (shape_of w)) (word_of s' w a' h) (ap (form_by cap p (next_tok s' a')) i ∙ e (next_tok s' a')))

    no_form : (a : ℕ) (w : List ℕ) (o : Option Shape) → Stands s (word w) a → shape_of w ≡ o → form_by cap p (next_tok s a) o ≡ Err f → AtForm a
    no_form a w None h i e = odd s a f w h (err_same e) (stop, _, refl)
        (λ v more st m. let n = form_next (word v ∷ more) m in none n.0 (sym (formed n.0) ∙ ap shape_of (sym (ap (λ z. bytes (first z)) n.2)) ∙ ap (λ z. shape_of (letters_by z)) (sym st ∙ h) ∙ i))
        (λ more m. let n = form_next more m in (word_for n.0, n.1, n.2))
        (form_again w Unexpected None i (λ t. refl))
      where
        none : (g : Shape) → ◌≡◌ {A = Option Shape} (Some g) None → ⊥
        none g e = cc
    no_form a w (Some c) h i e = one (leb 64 p) refl e
      where
        full : (n : TextFault) → (n ≡ BadToken → ⊥) → (n ≡ Unexpected → ⊥) → f ≡ fault_at n (next_tok s a).place → ((t : Spot) → room_for cap p t c ≡ Err (fault_at n t.place))
            → ((pre : List Tok) → Then (Context cap env g p) (opening ∷ []) pre → Wrong cap pre (token (word w)) n) → AtForm a
        full n q r e x why = fair s a f n q r e w h (stop, _, refl) (subst (λ z. BeginsTerm (opening ∷ (word z ∷ []))) (sym (shaped w c i)) (begins_form c)) (form_again w n (Some c) i x) why

        two : leb 64 p ≡ false → (b : Bool) → leb cap p ≡ b → cond {A = Result (Shape × ℕ) (Located TextFault)} b (Err (fault_at ListShort (next_tok s a).place)) (Ok (c, (next_tok s a).after)) ≡ Err f → AtForm a
        two d true j e = full ListShort (apart (λ z. omega arith)) (apart (λ z. omega arith)) (err_same e) (λ t. cond-false (leb 64 p) _ _ d ∙ cond-true (leb cap p) _ _ j) (λ pre x. wrong_short pre w x c i d j)
        two d false j e = absurd (ok_err e)

        one : (b : Bool) → leb 64 p ≡ b → cond {A = Result (Shape × ℕ) (Located TextFault)} b (Err (fault_at TooManyForms (next_tok s a).place)) (cond (leb cap p) (Err (fault_at ListShort (next_tok s a).place)) (Ok (c, (next_tok s a).after))) ≡ Err f → AtForm a
        one true d e = full TooManyForms (apart (λ z. omega arith)) (apart (λ z. omega arith)) (err_same e) (λ t. cond-true (leb 64 p) _ _ d) (λ pre x. wrong_many pre w x c i d)
        one false d e = two d (leb cap p) refl e

    in_bracket : (b : ℕ) → form_word s cap p b ≡ Err f → AtForm b
    in_bracket b e = ⊎_elim
        (λ h. here s b f IsWord (not_word (next_tok s b).what (next_tok s b).place f h) (stop, _, refl)
        (λ more x m. let n = form_next more m in (word_for n.0, subst (Ahead (next_tok s b).what) n.2 x))
        (λ s' a' n. broke (k s') (broke _ (word_err (next_tok s' a').what (next_tok s' a').place (λ w d. n (w, d))))))
        (λ v. no_form b v.0 (shape_of v.0) (word_is s b v.0 v.1) refl v.2)
        (unbind_err (words (next_tok s b)) (λ w. form_by cap p (next_tok s b) (shape_of w)) f e)

    no_head : (a : ℕ) → head_at s cap a p ≡ Err f → AtTerm (Context cap env g p) (λ s' a'. bind (head_at s' cap a' p) (k s')) a
    no_head a e = ⊎_elim
        (λ h. here s a f (λ j. j ≡ token opening) (not_taken opening (next_tok s a).what (next_tok s a).place (next_tok s a).after f h) (stop, _, refl)
        (λ more x m. subst (Ahead (next_tok s a).what) (sym m.2 ∙ (parts m.0 m.1).1) x)
        (λ s' a' n. broke (k s') (broke (form_word s' cap p) (take_err opening (next_tok s' a').what (next_tok s' a').place (next_tok s' a').after n))))
        (λ u. after s a f (opening ∷ []) u.0 (take_is opening s a u.0 u.1) (λ ts c. c) (λ ts m. m) (λ pre c. (pre, c, refl))
        (λ s' a' b' j l r. ap (λ z. bind z (k s')) (chain (form_word s' cap p) (take_of opening s' a' l.0) refl) ∙ ap (form_part s') l.1 ∙ r)
        (in_bracket u.0 u.2))
        (unbind_err (takes opening (next_tok s a)) (form_word s cap p) f e)

  -- the items of each form

  module _ (inn : List ℕ → ℕ → ℕ → List Bound → ℕ → Outcome) (reads : Sound s cap (inn s)) (p : ℕ)
      (comp : (t : Tree) (s' : List ℕ) (a q : ℕ) (env : List Bound) (g b : ℕ) → p < q → Spelt s' (spell t) a b → Good env g q t → q + size t ≤ 64 → q + size t ≤ cap → inn s' a q env g ≡ Ok (b, flatten env q t))
      (ih : (a q : ℕ) (env : List Bound) (g : ℕ) → p < q → inn s a q env g ≡ Err f → AtTerm (Context cap env g q) (λ s' a'. inn s' a' q env g) a) where
    -- an inner form and what follows it
    in_term : {C : List Tok → Type 0} (is : List Item) (a q : ℕ) (env : List Bound) (g : ℕ) (k : List ℕ → (ℕ × List Record) → Outcome) → p < q → ((pre : List Tok) → C pre → Context cap env g q pre) → bind (inn s a q env g) (k s) ≡ Err f
        → ((t : Tree) (b : ℕ) (ns : List Record) → length ns ≡ size t → q + size t ≤ 64 → q + size t ≤ cap → k s (b, ns) ≡ Err f → AtItems is (Then C (spell t)) (λ s' b'. k s' (b', ns)) b) → AtItems (inner ∷ is) C (λ s' a'. bind (inn s' a' q env g) (k s')) a
    in_term is a q env g k l into e n = ⊎_elim (λ d. no_term is (λ s' a'. inn s' a' q env g) k a into (ih a q env g l d))
        (λ u. let x = reads a q env g u.0.0 u.0.1 u.1 in
        past_term is (λ s' a'. bind (inn s' a' q env g) (k s')) (λ s' b'. k s' (b', u.0.1)) a u.0.0 x.tree x.spelt
        (λ s' a' b' sp. chain (k s') (comp x.tree s' a' q env g b' l sp x.good x.few x.fits ∙ ap (λ z. Ok (b', z)) (sym x.table)) refl)
        (n x.tree u.0.0 u.0.1 (ap length x.table ∙ length_flatten env q x.tree) x.few x.fits u.2))
        (unbind_err (inn s a q env g) (k s) f e)

    module _ (few : p < 64) (fits : p < cap) (env : List Bound) (g a : ℕ) where
      abbrev Headless : Shape → List Tok → Type 0
      Headless c = Then (Context cap env g p) (opening ∷ (word (word_for c) ∷ []))

      in_body : (c : Shape) → body s (inn s) p env g a c ≡ Err f → AtItems (items c) (Headless c) (λ s' a'. body s' (inn s') p env g a' c) a
      in_body End e = no_shut [] a _ e
      in_body Do e = ⊎_elim (no_motion (inner ∷ (shutting ∷ [])) (λ s' m. bind (inn s' m.1 (p + 1) env p) (λ t. shut s' t.0 (row 1 m.0 ∷ t.1))) a env g p)
          (λ u. let m = moved s a u.0.0 u.0.1 u.1 in
          past_word (inner ∷ (shutting ∷ [])) (λ s' a'. body s' (inn s') p env g a' Do) (λ s' b'. bind (inn s' b' (p + 1) env p) (λ t. shut s' t.0 (row 1 u.0.0 ∷ t.1))) a u.0.1 m.0 m.1 m.3
          (λ s' a' h st r. chain (λ m. bind (inn s' m.1 (p + 1) env p) (λ t. shut s' t.0 (row 1 m.0 ∷ t.1))) (motion_of_word s' m.0 a' u.0.0 st m.2) r)
          (in_term (shutting ∷ []) u.0.1 (p + 1) env p (λ s' t. shut s' t.0 (row 1 u.0.0 ∷ t.1)) (omega arith)
          (λ pre c. in_do few fits pre m.0 (then_then (opening ∷ (word (codes "do") ∷ [])) (word m.0 ∷ []) pre c)) u.2 (λ t b ns i x y d. no_shut [] b _ d)))
          (unbind_err (motion_at s a) (λ m. bind (inn s m.1 (p + 1) env p) (λ t. shut s t.0 (row 1 m.0 ∷ t.1))) f e)
      in_body Tau e = in_term (shutting ∷ []) a (p + 1) env g (λ s' t. shut s' t.0 (row 2 0 ∷ t.1)) (omega arith) (λ pre c. in_plain few fits pre (codes "tau") c) e (λ t b ns i x y d. no_shut [] b _ d)
      in_body Or e =
          in_term (inner ∷ (shutting ∷ [])) a (p + 1) env g (λ s' l. bind (inn s' l.0 (p + 1 + length l.1) env g) (λ r. shut s' r.0 (row 3 (p + 1 + length l.1) ∷ (l.1 ++ r.1)))) (omega arith)
          (λ pre c. in_plain few fits pre (codes "or") c) e
          (λ t b ns i x y d. in_term (shutting ∷ []) b (p + 1 + length ns) env g (λ s' r. shut s' r.0 (row 3 (p + 1 + length ns) ∷ (ns ++ r.1))) (omega arith)
          (λ pre c. past_form t (p + 1 + length ns) pre (ap (λ z. p + 1 + z) i) (omega arith) (omega arith) (then_map (spell t) pre (λ z h. in_plain few fits z (codes "or") h) c)) d
          (λ u c ms j v w z. no_shut [] c _ z))
      in_body Rec e = ⊎_elim (λ d. no_word (inner ∷ (shutting ∷ [])) (λ s' a'. body s' (inn s') p env g a' Rec) a d (λ s' a' h r. broke _ r))
          (λ u. let st = word_is s a u.0 u.1 in
          let env' = binds u.0 p ∷ env in
          past_word (inner ∷ (shutting ∷ [])) (λ s' a'. body s' (inn s') p env g a' Rec) (λ s' b'. bind (inn s' b' (p + 1) env' g) (λ t. shut s' t.0 (row 4 0 ∷ t.1))) a (next_tok s a).after u.0 st refl
          (λ s' a' h st r. chain (λ w. bind (inn s' (next_tok s' a').after (p + 1) (binds w p ∷ env) g) (λ t. shut s' t.0 (row 4 0 ∷ t.1))) (word_of s' u.0 a' st) r)
          (in_term (shutting ∷ []) (next_tok s a).after (p + 1) env' g (λ s' t. shut s' t.0 (row 4 0 ∷ t.1)) (omega arith)
          (λ pre c. in_rec few fits pre u.0 (then_then (opening ∷ (word (codes "rec") ∷ [])) (word u.0 ∷ []) pre c)) u.2 (λ t b ns i x y d. no_shut [] b _ d)))
          (unbind_err (words (next_tok s a)) (λ w. bind (inn s (next_tok s a).after (p + 1) (binds w p ∷ env) g) (λ t. shut s t.0 (row 4 0 ∷ t.1))) f e)
      in_body Go e = ⊎_elim (no_target (shutting ∷ []) (λ s' k. shut s' k.1 (row 5 k.0 ∷ [])) a env g p)
          (λ u. let m = aimed s env g a u.0.0 u.0.1 u.1 in
          past_word (shutting ∷ []) (λ s' a'. body s' (inn s') p env g a' Go) (λ s' b'. shut s' b' (row 5 u.0.0 ∷ [])) a u.0.1 m.0 m.1 m.4
          (λ s' a' h st r. chain (λ k. shut s' k.1 (row 5 k.0 ∷ [])) (target_of s' env g m.0 a' u.0.0 st m.2 m.3) r)
          (no_shut [] _ _ u.2))
          (unbind_err (go_target_at s env g a) (λ k. shut s k.1 (row 5 k.0 ∷ [])) f e)

    in_step : (env : List Bound) (g a : ℕ) → step s cap (inn s) a p env g ≡ Err f → AtTerm (Context cap env g p) (λ s' a'. step s' cap (inn s') a' p env g) a
    in_step env g a e = ⊎_elim (no_head p env g (λ s' f. body s' (inn s') p env g f.1 f.0) a)
        (λ u. let h = headed s cap a p u.0.0 u.0.1 u.1 in past_head u.0.0 u.0.1 h (in_body h.few h.fits env g u.0.1 u.0.0 u.2))
        (unbind_err (head_at s cap a p) (λ f. body s (inn s) p env g f.1 f.0) f e)
      where
        past_head : (c : Shape) (b : ℕ) → Headed s cap a p c b → AtItems (items c) (Then (Context cap env g p) (opening ∷ (word (word_for c) ∷ []))) (λ s' a'. body s' (inn s') p env g a' c) b → AtTerm (Context cap env g p) (λ s' a'. step s' cap (inn s') a' p env g) a
        past_head c b h x = after s a f (opening ∷ (word (word_for c) ∷ [])) b (h.opn, (h.wrd, h.after))
            (λ ts k. let m = made c (ts ++ k.0) k.1 in (m.0, k.0, m.1))
            (λ ts m. (m.1, shaped_as m.0 m.1 c ts m.2))
            (λ pre c. (pre, c, refl))
            (λ s' a' b' j l r. chain (λ f. body s' (inn s') p env g f.1 f.0) (head_of s' cap a' p c l.0 l.1.0 h.few h.fits) (ap (λ z. body s' (inn s') p env g z c) l.1.1 ∙ r)) x

  -- with a level for each form that there may be
  pub in_term_at : (n a p : ℕ) (env : List Bound) (g : ℕ) → 64 ≤ n + p → term_at n s cap a p env g ≡ Err f → AtTerm (Context cap env g p) (λ s' a'. term_at n s' cap a' p env g) a
  in_term_at zero a p env g h e =
      ⊎_elim (no_head p env g (λ s' f. body s' (λ a q e h. Err (fault_at TooManyForms a)) p env g f.1 f.0) a)
      (λ u. absurd (omega (arith, (headed s cap a p u.0.0 u.0.1 u.1).few)))
      (unbind_err (head_at s cap a p) (λ f. body s (λ a q e h. Err (fault_at TooManyForms a)) p env g f.1 f.0) f e)
  in_term_at (suc n) a p env g h e = in_step (λ s'. term_at n s' cap) (sound n s cap) p
      (λ t s' a' q env g b l sp good few fits. complete t n s' cap a' q env g b (omega arith) sp good few fits)
      (λ a q env g l d. in_term_at n a q env g (omega arith) d) env g a e
