-- What stands next in a text, and what a rule of the grammar asks of it.
use Rattle.std.specs.Prelude.{◌≡◌, ℕ, ◌+◌, Bool, true, false, cond, List, length, drop, Ok, Err, Result, ◌≢◌}
use Rattle.std.specs.Borrow.{Bor}
use Rattle.std.specs.Str.{bytes_eq}
use Rattle.common.specs.declared.fault.Located.{Located}
use Rattle.lexer.specs.declared.fault.TextFault.{TextFault}
use Rattle.lexer.specs.declared.fault.TextFault.TheVariants.{BadToken, Unexpected}
use Rattle.lexer.specs.declared.token.Placed.{Placed}
use Rattle.lexer.specs.declared.token.Token.{Token}
use Rattle.lexer.specs.Lex.{Tok, opening, closing, word, Step, ended, read, fault, tok_of, lex, PartAt}

-- a fault at a place
abbrev pub fault_at : TextFault → ℕ → Located TextFault
fault_at f p = record { fault = f; place = p }

-- an answer, and what follows from it; a fault stays
abbrev pub bind : {A B E : Type 0} → Result A E → (A → Result B E) → Result B E
bind (Ok a) k = k a
bind (Err e) k = Err e

-- a token; the end of the text; a byte outside the set, or a word that is too long
pub data Next : Type 0 where
  token : Tok → Next
  ending : Next
  bad : Next

-- what stands next, its place, and the place after it
pub record Spot : Type 0 where
  pub what : Next
  pub place : ℕ
  pub after : ℕ

abbrev pub spot_at : Next → ℕ → ℕ → Spot
spot_at k p a = record { what = k; place = p; after = a }

-- what the lexer read in a text of n bytes
abbrev pub spot_of : ℕ → Step → Spot
spot_of n ended = spot_at ending n n
spot_of n (read t p a) = spot_at (token t) p a
spot_of n (fault f p) = spot_at bad p p

-- what stands next in a text from a place on
unfoldable pub next_tok : List ℕ → ℕ → Spot
next_tok s at = spot_of (length s) (lex (drop at s) at)

-- the fault of what no rule allows here
abbrev pub stray : Next → ℕ → Located TextFault
stray (token t) p = fault_at Unexpected p
stray ending p = fault_at Unexpected p
stray bad p = fault_at BadToken p

-- are two tokens the same
abbrev pub same_tok : Tok → Tok → Bool
same_tok opening opening = true
same_tok closing closing = true
same_tok (word v) (word w) = bytes_eq v w
same_tok _ _ = false

abbrev pub takes_by : Tok → Next → ℕ → ℕ → Result ℕ (Located TextFault)
takes_by t (token u) p a = cond (same_tok u t) (Ok a) (Err (fault_at Unexpected p))
takes_by t ending p a = Err (fault_at Unexpected p)
takes_by t bad p a = Err (fault_at BadToken p)

abbrev pub words_by : Next → ℕ → Result (List ℕ) (Located TextFault)
words_by (token opening) p = Err (fault_at Unexpected p)
words_by (token closing) p = Err (fault_at Unexpected p)
words_by (token (word w)) p = Ok w
words_by ending p = Err (fault_at Unexpected p)
words_by bad p = Err (fault_at BadToken p)

abbrev pub ends_by : Next → ℕ → Result (Unit {0}) (Located TextFault)
ends_by (token t) p = Err (fault_at Unexpected p)
ends_by ending p = Ok tt
ends_by bad p = Err (fault_at BadToken p)

-- the token t: the place after it
abbrev pub takes : Tok → Spot → Result ℕ (Located TextFault)
takes t k = takes_by t k.what k.place k.after

-- a word: its letters
abbrev pub words : Spot → Result (List ℕ) (Located TextFault)
words t = words_by t.what t.place

-- the end of the text
abbrev pub ends : Spot → Result (Unit {0}) (Located TextFault)
ends t = ends_by t.what t.place

-- an answer with the place that the cursor reached
abbrev pub reached : {A : Type 0} → Result A (Located TextFault) → ℕ → Result (A × ℕ) (Located TextFault)
reached (Ok x) at = Ok (x, at)
reached (Err f) at = Err f

-- that place alone
abbrev pub passed : Result (Unit {0}) (Located TextFault) → ℕ → Result ℕ (Located TextFault)
passed (Ok x) at = Ok at
passed (Err f) at = Err f

-- the token that was read, its word that very part of the text
pub record TokenIs (text : Bor (List ℕ)) (at : ℕ) (t : Placed Token) : Type 0 where
  pub is : next_tok text.now at ≡ spot_at (token (tok_of t.what)) t.place t.next
  pub part : PartAt text t.place t.what

-- no token stands next, and this is the fault
pub record NoToken (s : List ℕ) (at : ℕ) (f : Located TextFault) : Type 0 where
  pub none : (t : Tok) → (next_tok s at).what ≢ token t
  pub is : f ≡ stray (next_tok s at).what (next_tok s at).place

-- a part of the text that begins at a place, and no copy of it
pub record PartFrom (text : Bor (List ℕ)) (place : ℕ) (part : Bor (List ℕ)) : Type 0 where
  pub block : part.ref_ptr.0 ≡ text.ref_ptr.0
  pub offset : part.ref_ptr.1 ≡ place + text.ref_ptr.1

-- the word that was read, as that very part of the text
pub record WordIs (text : Bor (List ℕ)) (at : ℕ) (w : Placed (Bor (List ℕ))) : Type 0 where
  pub is : words (next_tok text.now at) ≡ Ok w.what.now
  pub from : w.place ≡ (next_tok text.now at).place
  pub to : w.next ≡ (next_tok text.now at).after
  pub part : PartFrom text w.place w.what
