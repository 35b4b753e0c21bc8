-- What a lane's answer says is so, and a table stands where its answers are the expected ones.
use Rattle.std.proofs.Common.{◌≡◌, ℕ, List, [], ◌∷◌, map, length, Ok, Err, codes, Result, refl, subst}
use Rattle.std.specs.List.{AllByRecursion}
use Rattle.std.proofs.lemmas.List.{take_at}
use Rattle.common.specs.declared.fault.Located.{Located}
use Rattle.process.specs.Meaning.{Proc, Limits}
use Rattle.formtable.specs.Meaning.{process}
use Rattle.formtable.specs.Vet as forms
use Rattle.formtable.specs.declared.record.Record.{Record}
use Rattle.formtable.specs.Bounds.{vetted_limits}
use Rattle.formtable.specs.Vetted.{passed_vetted}
use Rattle.rowtable.specs.Rows as rows
use Rattle.rowtable.specs.Rows.{meant}
use Rattle.rowtable.specs.Tables as tables
use Rattle.lexer.specs.declared.fault.TextFault.{TextFault}
use Rattle.reader.specs.Reading.{Outline, read_plan}
use Rattle.gate.specs.Follow.{plain}
use Rattle.search.specs.Rule.{searched}
use Rattle.search.specs.Search as search
use Rattle.search.specs.Theorems.{Shortest, Tells}
use Rattle.search.proofs.Holding.{plain_holds}
use Rattle.worked.specs.Lane.{Given, plan_text, form_table, row_table, Answer, Lane, passing, vetted, read_as, given, judged, answer_by, plan_of, permit_of, answer, Says, Stands}

-- a process that is given keeps the limits
abbrev Kept : Result Proc ℕ → Type 0
Kept (Ok p) = Limits p
Kept (Err n) = Unit {0}

passing_kept : (r : Result (Unit {0}) ℕ) (p : Proc) → (r ≡ Ok tt → Limits p) → Kept (passing r p)
passing_kept (Ok v) p f = f refl
passing_kept (Err n) p f = tt

vetted_kept : (rs : List Record) → Kept (vetted rs)
vetted_kept rs = passing_kept (forms.verdict rs) (process rs) (λ e. vetted_limits rs (passed_vetted rs e))

read_kept : (r : Result Outline (Located TextFault)) → Kept (read_as r)
read_kept (Ok x) = vetted_kept x.rows
read_kept (Err f) = tt

given_kept : (k : ℕ) (g : Given) → Kept (given k g)
given_kept k (plan_text s) = read_kept (read_plan (codes s) k)
given_kept k (form_table rs) = vetted_kept rs
given_kept k (row_table w) =
    passing_kept (rows.verdict w.states w.rows) (meant w)
    (λ e. tables.table_limits w.states w.rows (tables.accepted w.states w.rows e))

-- what a search tells by its lists is what the lane's answer says
said : (plan permit : Proc) (n m : ℕ) (o : search.Outcome) → Tells plain plan permit (search.answer_of o) (search.rows_after o n) (search.motions_after o m)
    → Says (judged plan permit o) (Ok plan) (Ok permit)
said plan permit n m (search.inside rows) t = t.2
said plan permit n m (search.beyond w) t = subst (Shortest plan permit) (take_at w _ (length w) refl) t
said plan permit n m (search.fault k) t = tt

-- what an answer says is so
answer_so : (p q : Result Proc ℕ) (n m : ℕ) → Kept p → Kept q → Says (answer_by p q n m) p q
answer_so (Err k) q n m L M = tt
answer_so (Ok plan) (Err k) n m L M = tt
answer_so (Ok plan) (Ok permit) n m L M = said plan permit n m (searched plain plan permit n m) (plain_holds.tells plan permit L M n m)

-- a lane with the expected answer stands
stands : (l : Lane) → answer l ≡ l.expected → Stands l
stands l e =
    record {
      answered = e;
      is_so =
          subst (λ (a : Answer). Says a (plan_of l) (permit_of l)) e
          (answer_so (plan_of l) (permit_of l) l.rows l.motions (given_kept l.records l.plan) (given_kept l.records l.permit));
    }

-- a table with the expected answers stands
pub all_stand : (ls : List Lane) → map answer ls ≡ map (λ l. l.expected) ls → AllByRecursion Stands ls
all_stand [] e = tt
all_stand (l ∷ ls) e = (stands l (cc), all_stand ls (cc))
