-- What stands next in a text, from what the lexer answers; what is refused where a rule asks for something else.
use Rattle.std.proofs.Common.{◌≡◌, ℕ, ◌+◌, true, List, [], ◌∷◌, length, drop, Some, None, Ok, Err, Option, Result, sym, ap, ◌∙◌, subst, arith, Bor}
use Rattle.std.proofs.lemmas.Slice.Eq.{bytes_eq-Decides}
use Rattle.common.specs.declared.fault.Located.{Located}
use Rattle.lexer.specs.declared.fault.TextFault.{TextFault}
use Rattle.lexer.specs.declared.fault.TextFault.TheVariants.{BadToken, Unexpected}
use Rattle.lexer.specs.declared.token.Placed.{Placed}
use Rattle.lexer.specs.declared.token.Token.{Token}
use Rattle.lexer.specs.Lex.{Tok, opening, closing, word, Step, ended, read, fault, tok_of, step_of, word_step, lex, InText}
use Rattle.reader.specs.Tokens.{fault_at, Next, token, ending, bad, spot_at, spot_of, next_tok, stray, same_tok, takes_by, words_by, ends_by, ends, TokenIs, NoToken}

-- the lexer knows one fault

abbrev One : Step → Type 0
One ended = Unit {0}
One (read t p a) = Unit {0}
One (fault f p) = f ≡ BadToken

one_word : (bs : List ℕ) (i : ℕ) → One (word_step bs i)
one_word bs i = grind arith

one_fault : (bs : List ℕ) (i : ℕ) → One (lex bs i)
one_fault [] i = tt
one_fault (b ∷ bs) i = grind (arith, one_fault bs (i + 1), one_word (b ∷ bs) i)

-- two constructors are apart
pub token_ending : {t : Tok} → ◌≡◌ {A = Next} ending (token t) → ⊥
token_ending {t} e = cc

pub token_bad : {t : Tok} → ◌≡◌ {A = Next} bad (token t) → ⊥
token_bad {t} e = cc

-- tokens that are found the same are the same, and a token is found the same as itself

pub same_is : (t u : Tok) → same_tok t u ≡ true → t ≡ u
same_is t u e = grind (arith, bytes_eq-Decides)

pub same_self : (t : Tok) → same_tok t t ≡ true
same_self t = grind (arith, bytes_eq-Decides)

-- the letters of a word, and none of anything else
abbrev pub letters_by : Next → List ℕ
letters_by (token opening) = []
letters_by (token closing) = []
letters_by (token (word w)) = w
letters_by ending = []
letters_by bad = []

-- what stands next, by the lexer's answer r
module _ (text : Bor (List ℕ)) (at : ℕ) (r : Result (Option (Placed Token)) (Located TextFault)) (h : step_of r ≡ lex (drop at text.now) at) where
  at_step : next_tok text.now at ≡ spot_of (length text.now) (step_of r)
  unfolding next_tok
  at_step = ap (spot_of (length text.now)) (sym h)

  tok_read : (t : Placed Token) → r ≡ Ok (Some t) → next_tok text.now at ≡ spot_at (token (tok_of t.what)) t.place t.next
  tok_read t e = at_step ∙ ap (λ z. spot_of (length text.now) (step_of z)) e

  tok_ended : r ≡ Ok None → next_tok text.now at ≡ spot_at ending (length text.now) (length text.now)
  tok_ended e = at_step ∙ ap (λ z. spot_of (length text.now) (step_of z)) e

  tok_fault : (f : Located TextFault) → r ≡ Err f → next_tok text.now at ≡ spot_at bad f.place f.place
  tok_fault f e = at_step ∙ ap (λ z. spot_of (length text.now) (step_of z)) e

  fault_is : (f : Located TextFault) → r ≡ Err f → f ≡ fault_at BadToken f.place
  fault_is f e = ap (λ z. fault_at z f.place) (subst One (sym h ∙ ap step_of e) (one_fault (drop at text.now) at))

  pub token_is : (t : Placed Token) → r ≡ Ok (Some t) → InText text r → TokenIs text at t
  token_is t e part = record { is = tok_read t e; part = subst (InText text) e part }

  pub no_token : (f : Located TextFault) → r ≡ Ok None → f ≡ fault_at Unexpected (length text.now) → NoToken text.now at f
  no_token f e d = let q = tok_ended e in record {
    none = λ t d. token_ending (sym (ap (λ z. z.what) q) ∙ d);
    is = d ∙ sym (ap (λ z. stray z.what z.place) q);
  }

  pub bad_token : (f : Located TextFault) → r ≡ Err f → NoToken text.now at f
  bad_token f e = let q = tok_fault f e in record {
    none = λ t d. token_bad (sym (ap (λ z. z.what) q) ∙ d);
    is = fault_is f e ∙ sym (ap (λ z. stray z.what z.place) q);
  }

  pub not_ended : (t : Placed Token) (f : Located TextFault) → r ≡ Ok (Some t) → f ≡ fault_at Unexpected t.place → Err f ≡ ends (next_tok text.now at)
  not_ended t f e d = ap Err d ∙ sym (ap ends (tok_read t e))

  pub bad_end : (f : Located TextFault) → r ≡ Err f → Err f ≡ ends (next_tok text.now at)
  bad_end f e = ap Err (fault_is f e) ∙ sym (ap ends (tok_fault f e))

  pub end_is : r ≡ Ok None → Ok tt ≡ ends (next_tok text.now at)
  end_is e = sym (ap ends (tok_ended e))

-- what is not wanted is refused

pub take_err : (t : Tok) (k : Next) (p a : ℕ) → (k ≡ token t → ⊥) → takes_by t k p a ≡ Err (stray k p)
take_err t k p a h = grind (arith, bytes_eq-Decides)

pub word_err : (k : Next) (p : ℕ) → ((w : List ℕ) → k ≡ token (word w) → ⊥) → words_by k p ≡ Err (stray k p)
word_err k p h = grind arith

pub end_err : (k : Next) (p : ℕ) → (k ≡ ending → ⊥) → ends_by k p ≡ Err (stray k p)
end_err k p h = grind arith
