-- The term of each place of a form table.
use Rattle.std.specs.Prelude.{Some, None, Option, ℕ, zero, suc, Bool, cond, ◌&&◌, List, length}
use Rattle.formtable.specs.Kinds.{is_rec}
use Rattle.formtable.specs.Layout.{form_at, past, reaches}
use Rattle.formtable.specs.Terms.{Term, nil, prefix, sum, var, recur, put}
use Rattle.formtable.specs.declared.record.Form.{Form}
use Rattle.formtable.specs.declared.record.Form.TheVariants.{End, Do, Tau, Or, Rec, Go}
use Rattle.formtable.specs.declared.record.Record.{Record}

-- the subterm that the form at i writes, by those of its inner forms; a recursion's variable is its place
abbrev pub sub_by : (ℕ → Term) → ℕ → Option Form → Term
sub_by next i (Some End) = nil
sub_by next i (Some (Do a)) = prefix a (next (suc i))
sub_by next i (Some Tau) = prefix 0 (next (suc i))
sub_by next i (Some (Or r)) = sum (next (suc i)) (next r)
sub_by next i (Some Rec) = recur i (next (suc i))
sub_by next i (Some (Go k)) = var k
sub_by next i None = nil

-- the same within n levels of forms
abbrev pub sub_in : ℕ → List Record → ℕ → Term
sub_in zero rs i = nil
sub_in (suc n) rs i = sub_by (λ p. sub_in n rs p) i (form_at rs i)

-- the subterm of place i: variables of the recursions around it are free in it
abbrev pub subterm : List Record → ℕ → Term
subterm rs i = sub_in (length rs) rs i

-- does a rec at k stand around i, for k before i
abbrev pub around : List Record → ℕ → ℕ → Bool
around rs k i = is_rec (form_at rs k) && reaches i (past rs k)

-- t with each recursion that stands before n and around i put in for its variable
abbrev pub enclosed : List Record → ℕ → ℕ → Term → Term
enclosed rs i zero t = t
enclosed rs i (suc k) t = cond (around rs k i) (put k (enclosed rs k k (subterm rs k)) (enclosed rs i k t)) (enclosed rs i k t)

-- the term of place i: its subterm with every enclosing recursion put in for its variable
abbrev pub term : List Record → ℕ → Term
term rs i = enclosed rs i i (subterm rs i)
