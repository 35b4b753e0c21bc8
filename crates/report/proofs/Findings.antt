-- What the outcome of a search stands for, and what it tells.
use Rattle.std.proofs.Common.{◌≡◌, ℕ, ◌-◌, List, [], ◌++◌, length, take, replicate, Ok, Err, Result, sym, refl, ap, ◌∙◌, subst, arith, Bor}
use Rattle.std.proofs.lemmas.List.{take_at}
use Rattle.process.specs.Meaning.{Proc, Limits}
use Rattle.process.specs.Runs.{Run, nothing, silent, motion}
use Rattle.certificate.specs.declared.Row.{Row}
use Rattle.formtable.specs.Meaning.{process, Meant}
use Rattle.formtable.specs.Table.{held}
use Rattle.formtable.specs.Vet.{verdict}
use Rattle.formtable.specs.declared.record.Record.{Record}
use Rattle.formtable.specs.Bounds.{vetted_limits}
use Rattle.formtable.proofs.Meanings.{meant}
use Rattle.formtable.specs.Vetted.{passed_vetted}
use Rattle.gate.specs.Follow.{plain}
use Rattle.common.specs.declared.fault.Located.{Located}
use Rattle.formtable.specs.Places.{term}
use Rattle.lexer.specs.declared.fault.TextFault.{TextFault}
use Rattle.reader.specs.Plans.{Tree, term_of}
use Rattle.reader.specs.Promises.{Readable, Taken}
use Rattle.reader.specs.Reading as reading
use Rattle.reader.specs.Reading.{empty_record, Outline}
use Rattle.reader.specs.declared.reading.Plan.{Plan}
use Rattle.search.specs.Rule.{searched}
use Rattle.search.specs.Search as search
use Rattle.search.specs.Search.{inside, beyond, fault, answer_of}
use Rattle.search.specs.Theorems.{Shortest, Tells, Exactly}
use Rattle.search.specs.declared.answer.Answer.{Answer}
use Rattle.search.specs.declared.answer.Answer.TheVariants as answers
use Rattle.search.proofs.Holding.{plain_holds}
use Rattle.report.specs.Finding.{Finding, by_search, by_text, found}
use Rattle.report.specs.Lines.{answer_text, beyond_text}
use Rattle.report.specs.Outcomes.{StandsFor}
use Rattle.report.specs.Says.{TermWithin, TermBeyond, AllKnown, SearchTold, Told}
use Rattle.report.specs.Sizes.{Sizes}
use Rattle.report.specs.declared.lines.Found.{Found}

-- an answer of the search, with the lists that it leaves, stands for its outcome
answer_stands : (o : search.Outcome) (rs : List Record) (n : Sizes) (plan : Found) (records : List Record) (rows : List Row) (motions : List ℕ) → Ok plan.answer ≡ answer_of o
    → records ≡ rs ++ replicate (n.records - length rs) empty_record → rows ≡ search.rows_after o n.rows → motions ≡ search.motions_after o n.motions
    → StandsFor (by_search plan.name.now rs o) n (Ok plan) records rows motions
answer_stands (inside xs) rs n plan records rows motions a r x y =
    let e : plan.answer ≡ answers.Within (length xs) = cc in
    record { bytes_are = ap (λ (u : Answer). answer_text plan.name.now u motions) e; records_are = r; rows_are = x; motions_are = y }
answer_stands (beyond w) rs n plan records rows motions a r x y =
    let e : plan.answer ≡ answers.Beyond (length w) = cc in
    let whole : take (length w) motions ≡ w = ap (take (length w)) y ∙ take_at w (replicate (n.motions - length w) 0) (length w) refl in
    record {
      bytes_are = ap (λ (u : Answer). answer_text plan.name.now u motions) e ∙ ap (beyond_text plan.name.now) whole;
      records_are = r;
      rows_are = x;
      motions_are = y;
    }
answer_stands (fault k) rs n plan records rows motions a r x y = let z : ◌≡◌ {A = ℕ} 0 1 = cc in absurd (omega arith)

-- a process does only known motions
known_run : {p : Proc} {s e : ℕ} {w : List ℕ} → Limits p → Run p s w e → AllKnown w
known_run L nothing = tt
known_run L (silent h q) = known_run L q
known_run L (motion {s = s} {t = t} {a = a} g h q) = (g, L.known_motions s a t h, known_run L q)

module _ (permit : Proc) (M : Limits permit) (rs : List Record) (v : verdict rs ≡ Ok tt) (n m : ℕ) where
  plan_limits : Limits (process rs)
  plan_limits = vetted_limits rs (passed_vetted rs v)

  means : Meant rs
  means = meant rs (passed_vetted rs v)

  by_outcome : (o : search.Outcome) → Tells plain (process rs) permit (answer_of o) (search.rows_after o n) (search.motions_after o m) → SearchTold permit rs o
  by_outcome (inside xs) t = λ w l. t.2 w ((means.traces w).1 l)
  by_outcome (beyond w) t =
      let S : Shortest (process rs) permit w = subst (Shortest (process rs) permit) (take_at w (replicate (m - length w) 0) (length w) refl) t in (
        record {
          of_term = (means.traces w).0 S.of_plan;
          not_permit = S.not_permit;
          least = λ u l x. S.least u ((means.traces u).1 l) x;
        },
        known_run plan_limits S.of_plan.1,
      )
  by_outcome (fault k) t = tt

  -- what the search of vetted records tells of their term
  search_told : SearchTold permit rs (searched plain (process rs) permit n m)
  search_told = by_outcome (searched plain (process rs) permit n m) (plain_holds.tells (process rs) permit plan_limits M n m)

-- the search of a table that holds the vetted records is the search of them
pub of_records : {n m : ℕ} {answer : Result Answer ℕ} {rows : List Row} {motions : List ℕ} (permit : Proc) (held_by raw : List Record) → verdict raw ≡ Ok tt → held_by ≡ held (verdict raw) raw
    → Exactly plain (process held_by) permit n m answer rows motions → Exactly plain (process raw) permit n m answer rows motions
of_records {n} {m} {answer} {rows} {motions} permit held_by raw v e x =
    subst (λ (rs : List Record). Exactly plain (process rs) permit n m answer rows motions) (e ∙ ap (λ (u : Result (Unit {0}) ℕ). held u raw) v) x

-- the search of the records raw of a plan of that name
abbrev search_of : Proc → Sizes → List ℕ → List Record → Finding
search_of permit n name raw = by_search name raw (searched plain (process raw) permit n.rows n.motions)

-- a plan that was read is searched
read_found : (permit : Proc) (n : Sizes) (x : Result Outline (Located TextFault)) (text : Bor (List ℕ)) (plan : Plan) (ys : List Record) → reading.Told x text n.records (Ok plan) ys
    → (search_of permit n plan.name.now (take plan.count ys) ≡ by_text permit n x) × (ys ≡ take plan.count ys ++ replicate (n.records - length (take plan.count ys)) empty_record)
read_found permit n (Ok x) text plan ys (p, q) =
    let same : take plan.count ys ≡ x.rows = ap (λ (k : ℕ). take k ys) p.all ∙ ap (take (length x.rows)) q ∙ take_at x.rows (replicate (n.records - length x.rows) empty_record) (length x.rows) refl in (
      ap (λ (w : List ℕ). search_of permit n w (take plan.count ys)) p.letters ∙ ap (search_of permit n x.name) same,
      q ∙ ap (λ (rs : List Record). rs ++ replicate (n.records - length rs) empty_record) (sym same),
    )
read_found permit n (Err f) text plan ys p = absurd p

-- what is found of it tells what the search tells
finding_told : (permit : Proc) (s : List ℕ) (cap : ℕ) (name : List ℕ) (raw : List Record) (o : search.Outcome) (t : Tree) → Readable s cap name t → term raw 0 ≡ term_of [] 0 t → SearchTold permit raw o
    → Told permit s cap (by_search name raw o)
finding_told permit s cap name raw (inside xs) t r e p = (t, r, subst (TermWithin permit) e p)
finding_told permit s cap name raw (beyond w) t r e p = ((t, r, subst (TermBeyond permit w) e p.0), p.1)
finding_told permit s cap name raw (fault k) t r e p = tt

module _ (permit : Proc) (text : Bor (List ℕ)) (n : Sizes) (plan : Plan) (ys : List Record) (h : reading.Told (reading.read_plan text.now n.records) text n.records (Ok plan) ys)
    (v : verdict (take plan.count ys) ≡ Ok tt) where
  abbrev raw : List Record
  raw = take plan.count ys

  -- the finding on the text is that of the search
  is_found : search_of permit n plan.name.now raw ≡ found permit text.now n
  is_found = (read_found permit n (reading.read_plan text.now n.records) text plan ys h).0

  -- an answer of the search stands for it, with the records that were read
  pub stands_found : {answer : Answer} {rows : List Row} {motions : List ℕ} → Exactly plain (process raw) permit n.rows n.motions (Ok answer) rows motions
      → StandsFor (found permit text.now n) n (Ok (record { name = plan.name; answer = answer })) ys rows motions
  stands_found {answer} {rows} {motions} x =
      let found_so : Found = record { name = plan.name; answer = answer } in
      subst (λ (f : Finding). StandsFor f n (Ok found_so) ys rows motions) is_found
      (answer_stands (searched plain (process raw) permit n.rows n.motions) raw n found_so ys rows motions x.answer_is
      (read_found permit n (reading.read_plan text.now n.records) text plan ys h).1 x.rows_are x.motions_are)

  -- it tells of the term that the text writes
  pub told_found : Limits permit → Taken text n.records plan ys → Told permit text.now n.records (found permit text.now n)
  told_found M t =
      subst (Told permit text.now n.records) is_found
      (finding_told permit text.now n.records plan.name.now raw (searched plain (process raw) permit n.rows n.motions) t.tree t.readable t.means (search_told permit M raw v n.rows n.motions))
