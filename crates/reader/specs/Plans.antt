-- Plans as trees: how one is spelt, when its names are good, its records and its term.
use Rattle.std.specs.Prelude.{◌≡◌, ℕ, ◌+◌, ◌<◌, List, [], ◌∷◌, ◌++◌, Some, codes}
use Rattle.std.specs.Option.{unwrap_or}
use Rattle.formtable.specs.declared.record.Record.{Record}
use Rattle.formtable.specs.Kinds.{row}
use Rattle.formtable.specs.Terms.{Term, nil, prefix, sum, var, recur}
use Rattle.lexer.specs.Lex.{Tok, opening, closing, word}
use Rattle.motions.specs.Naming.{Names, motion_of}
use Rattle.reader.specs.Tokens.{token, next_tok}
use Rattle.reader.specs.Reading.{Bound, binds, lookup}

-- a term as the text writes it
pub data Tree : Type 0 where
  stop : Tree
  act : List ℕ → Tree → Tree
  tau : Tree → Tree
  or : Tree → Tree → Tree
  loop : List ℕ → Tree → Tree
  again : List ℕ → Tree

-- the tokens of a term: (end), (do MOTION TERM), (tau TERM), (or TERM TERM), (rec NAME TERM), (go NAME)
abbrev pub spell : Tree → List Tok
spell stop = opening ∷ (word (codes "end") ∷ (closing ∷ []))
spell (act w t) = opening ∷ (word (codes "do") ∷ (word w ∷ (spell t ++ (closing ∷ []))))
spell (tau t) = opening ∷ (word (codes "tau") ∷ (spell t ++ (closing ∷ [])))
spell (or l r) = opening ∷ (word (codes "or") ∷ (spell l ++ (spell r ++ (closing ∷ []))))
spell (loop x t) = opening ∷ (word (codes "rec") ∷ (word x ∷ (spell t ++ (closing ∷ []))))
spell (again x) = opening ∷ (word (codes "go") ∷ (word x ∷ (closing ∷ [])))

-- the tokens of a plan: (plan NAME TERM)
abbrev pub spell_plan : List ℕ → Tree → List Tok
spell_plan name t = opening ∷ (word (codes "plan") ∷ (word name ∷ (spell t ++ (closing ∷ []))))

-- the next token of the text from a on
abbrev pub Stands : List ℕ → Tok → ℕ → Type 0
Stands s t a = (next_tok s a).what ≡ token t

-- these are the tokens of the text from a to b
abbrev pub Spelt : List ℕ → List Tok → ℕ → ℕ → Type 0
Spelt s [] a b = a ≡ b
Spelt s (t ∷ ts) a b = Stands s t a × Spelt s ts (next_tok s a).after b

-- the number of its forms
abbrev pub size : Tree → ℕ
size stop = 1
size (act w t) = size t + 1
size (tau t) = size t + 1
size (or l r) = size l + size r + 1
size (loop x t) = size t + 1
size (again x) = 1

-- the records, in the order of the opening brackets, from place p on
abbrev pub flatten : List Bound → ℕ → Tree → List Record
flatten env p stop = row 0 0 ∷ []
flatten env p (act w t) = row 1 (unwrap_or (motion_of w) 0) ∷ flatten env (p + 1) t
flatten env p (tau t) = row 2 0 ∷ flatten env (p + 1) t
flatten env p (or l r) = row 3 (p + 1 + size l) ∷ (flatten env (p + 1) l ++ flatten env (p + 1 + size l) r)
flatten env p (loop x t) = row 4 0 ∷ flatten (binds x p ∷ env) (p + 1) t
flatten env p (again x) = row 5 (unwrap_or (lookup env x) 0) ∷ []

-- the term that it writes: each name read as the place of its rec
abbrev pub term_of : List Bound → ℕ → Tree → Term
term_of env p stop = nil
term_of env p (act w t) = prefix (unwrap_or (motion_of w) 0) (term_of env (p + 1) t)
term_of env p (tau t) = prefix 0 (term_of env (p + 1) t)
term_of env p (or l r) = sum (term_of env (p + 1) l) (term_of env (p + 1 + size l) r)
term_of env p (loop x t) = recur p (term_of (binds x p ∷ env) (p + 1) t)
term_of env p (again x) = var (unwrap_or (lookup env x) 0)

-- every motion is known, every name is bound, and every go stands in a do inside its rec; g is the place of the innermost do
abbrev pub Good : List Bound → ℕ → ℕ → Tree → Type 0
Good env g p stop = Unit {0}
Good env g p (act w t) = ((m : ℕ) × Names w m) × Good env p (p + 1) t
Good env g p (tau t) = Good env g (p + 1) t
Good env g p (or l r) = Good env g (p + 1) l × Good env g (p + 1 + size l) r
Good env g p (loop x t) = Good (binds x p ∷ env) g (p + 1) t
Good env g p (again x) = (k : ℕ) × (lookup env x ≡ Some k) × (k < g)
