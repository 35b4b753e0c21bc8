-- One byte of `lex`, and of a word.
use Rattle.std.proofs.Common.{◌≡◌, ℕ, suc, ◌+◌, ◌<◌, ◌≤◌, true, false, List, [], ◌∷◌, length, get_or, take, drop, sym, refl, ap, ◌∙◌, ⊎_elim, add-zero, arith, length-drop}
use Rattle.std.specs.List.{prefix_len, slice_range}
use Rattle.std.proofs.lemmas.Bool.{cases_Bool, cond-true, cond-false}
use Rattle.std.proofs.lemmas.Bool.Decides.{nat_tests}
use Rattle.std.proofs.lemmas.List.{drop_more, at_drop_more, at_drop_all, drop-drop, get_or-drop, take_rest}
use Rattle.std.proofs.lemmas.List.Sums.{prefix_len_stops}
use Rattle.lexer.specs.declared.lex.Class.{Class}
use Rattle.lexer.specs.declared.lex.Class.TheVariants.{Blank}
use Rattle.lexer.specs.declared.fault.TextFault.TheVariants.{BadToken}
use Rattle.lexer.specs.Bytes.{alnum, blank, class_of}
use Rattle.lexer.specs.Lex.{lex, by_class, word_step, Step, word, read, fault, opening, closing, ended}

-- what `lex` gives at a byte of class k, by the bytes from it on and by those behind it
abbrev pub at_byte : Class → List ℕ → List ℕ → ℕ → Step
at_byte k bs rest i = by_class k (read opening i (i + 1)) (read closing i (i + 1)) (lex rest (i + 1)) (word_step bs i) (fault BadToken i)

blank_class : (b : ℕ) → blank b ≡ true → class_of b ≡ Blank
blank_class b h = grind (arith, nat_tests)

solid_class : (b : ℕ) → blank b ≡ false → class_of b ≡ Blank → ⊥
solid_class b h = grind (arith, nat_tests)

-- blanks at the front are passed over
past_blanks : (bs : List ℕ) (i : ℕ) → lex (drop (prefix_len blank bs) bs) (i + prefix_len blank bs) ≡ lex bs i
past_blanks [] i = refl
past_blanks (b ∷ bs) i =
    ⊎_elim
    (λ y. let n : prefix_len blank (b ∷ bs) ≡ suc (prefix_len blank bs) = cond-true (blank b) (1 + prefix_len blank bs) 0 y ∙ omega arith in
    let j : i + suc (prefix_len blank bs) ≡ i + 1 + prefix_len blank bs = omega arith in
    ap (λ (k : ℕ). lex (drop k (b ∷ bs)) (i + k)) n
    ∙ ap (lex (drop (prefix_len blank bs) bs)) j
    ∙ past_blanks bs (i + 1)
    ∙ sym (ap (λ k. at_byte k (b ∷ bs) bs i) (blank_class b y)))
    (λ n. ap (λ (k : ℕ). lex (drop k (b ∷ bs)) (i + k)) (cond-false (blank b) (1 + prefix_len blank bs) 0 n) ∙ ap (lex (b ∷ bs)) (add-zero i))
    (cases_Bool (blank b))

-- how many blanks stand at the front of the rest
pub front_blanks : (t : List ℕ) (at : ℕ) {rest : List ℕ} {n : ℕ} → rest ≡ slice_range t at (length t) → n ≡ prefix_len blank rest → n ≡ prefix_len blank (drop at t)
front_blanks t at d e = e ∙ ap (prefix_len blank) (d ∙ take_rest t at)

-- the first byte of t from `at` on that is not blank stands n further
module _ (t : List ℕ) (at n : ℕ) (e : n ≡ prefix_len blank (drop at t)) where
  lex_past : lex (drop (at + n) t) (at + n) ≡ lex (drop at t) at
  lex_past =
      ap (λ (k : ℕ). lex (drop (at + k) t) (at + k)) e
      ∙ ap (λ l. lex l (at + prefix_len blank (drop at t))) (sym (drop-drop (prefix_len blank (drop at t)) at t))
      ∙ past_blanks (drop at t) at

  -- it is b, of class k
  pub lex_at : (b : ℕ) → (at + n < length t) × ((d : ℕ) → b ≡ get_or t (at + n) d) → (k : Class) → k ≡ class_of b → at_byte k (drop (at + n) t) (drop (at + n + 1) t) (at + n) ≡ lex (drop at t) at
  lex_at b h k c =
      ap (λ z. at_byte z (drop (at + n) t) (drop (at + n + 1) t) (at + n)) (c ∙ ap class_of (h.1 0))
      ∙ ap (λ l. at_byte (class_of (get_or t (at + n) 0)) l (drop (at + n + 1) t) (at + n)) (drop_more t (at + n) 0 h.0)
      ∙ sym (at_drop_more (λ l. lex l (at + n)) t (at + n) 0 h.0)
      ∙ lex_past

  pub lex_end : length t ≤ at + n → ended ≡ lex (drop at t) at
  lex_end h = sym (at_drop_all (λ l. lex l (at + n)) t (at + n) h) ∙ lex_past

  pub not_blank : (b : ℕ) → (at + n < length t) × ((d : ℕ) → b ≡ get_or t (at + n) d) → Blank ≡ class_of b → ⊥
  not_blank b h c =
      solid_class b
      (ap blank (h.1 0)
      ∙ ap (λ k. blank (get_or t (at + k) 0)) e
      ∙ ap blank (sym (get_or-drop at t (prefix_len blank (drop at t)) 0))
      ∙ prefix_len_stops blank (drop at t) 0 (omega (arith, length-drop at t)))
      (sym c)

module _ (bs : List ℕ) (i n : ℕ) (e : n ≡ prefix_len alnum bs) where
  pub word_over : 8 < n → fault BadToken i ≡ word_step bs i
  word_over h = grind arith

  pub word_within : n ≤ 8 → read (word (take n bs)) i (i + n) ≡ word_step bs i
  word_within h = grind arith
