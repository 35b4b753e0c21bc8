-- The whole text, and the records after the count.
use Rattle.std.proofs.Common.{◌≡◌, ℕ, suc, ◌+◌, ◌-◌, ◌≤◌, leb, List, [], ◌∷◌, ◌++◌, length, take, set, replicate, IfOk, Ok, Err, MatchResult, codes, Result, sym, refl, ap, ◌∙◌, subst, append_assoc, append-nil, add-zero, zero-add, arith, length-set, Bor}
use Rattle.std.proofs.lemmas.Bool.{cond-true, le-leb}
use Rattle.std.proofs.lemmas.List.{take_more_set}
use Rattle.common.specs.declared.fault.Located.{Located}
use Rattle.common.specs.Lists.{filled_from}
use Rattle.formtable.specs.declared.record.Record.{Record}
use Rattle.lexer.specs.Lex.{opening, closing, word}
use Rattle.lexer.specs.declared.token.Placed.{Placed}
use Rattle.lexer.specs.declared.fault.TextFault.{TextFault}
use Rattle.reader.specs.declared.reading.Plan.{Plan}
use Rattle.reader.specs.declared.cursor.Cursor.{Cursor}
use Rattle.reader.specs.Tokens.{bind, next_tok, takes, ends, PartFrom, WordIs}
use Rattle.reader.specs.Reading.{Outline, outlined, term_at, put, Reads, read_plan, empty_record, PlanIs, Plans, Told}
use Rattle.reader.proofs.Steps.{chain, recap, worded}

pub plans_err : {o : Result Outline (Located TextFault)} {f : Located TextFault} (text : Bor (List ℕ)) (xs : List Record) (r : Result Plan (Located TextFault)) (ys : List Record) → r ≡ Err f → o ≡ Err f → Plans o text xs r ys
plans_err {o} {f} text xs r ys e k = grind arith

-- what is left of a plan behind its name
abbrev pub behind_name : List ℕ → ℕ → List ℕ → ℕ → ℕ → Result Outline (Located TextFault)
behind_name s cap name start b =
    bind (term_at 64 s cap b 0 [] 0)
    (λ t. bind (takes closing (next_tok s t.0)) (λ e. bind (ends (next_tok s e)) (λ z. Ok (outlined name start t.1))))

pub plans_ok : {o : Result Outline (Located TextFault)} (x : Outline) (text : Bor (List ℕ)) (xs : List Record) (plan : Plan) (ys : List Record) → PlanIs text x plan → ys ≡ put xs 0 x.rows → o ≡ Ok x → Plans o text xs (Ok plan) ys
plans_ok {o} x text xs plan ys i w k = grind arith

-- a plan whose name w was read, up to the place b; from there its term is read, with the answer r
pub record Titled (text : Bor (List ℕ)) (xs : List Record) (w : Placed (Bor (List ℕ))) (same : Bor (List ℕ)) (b : ℕ) (r : Result ℕ (Located TextFault)) (at : ℕ) (ys : List Record) : Type 0 where
  pub same_text : same ≡ text
  pub is : read_plan text.now (length xs) ≡ behind_name text.now (length xs) w.what.now w.place b
  pub part : PartFrom text w.place w.what
  pub read : Reads (term_at 64 text.now (length xs) b 0 [] 0) 0 xs r at ys

-- the cursors c, d and e stand before its first three tokens, and g behind them
pub titled : {text : Bor (List ℕ)} (xs : List Record) {c d e g : Cursor} {w : Placed (Bor (List ℕ))} (r : Result ℕ (Located TextFault)) (at : ℕ) (ys : List Record) → length text.now ≤ 16384 → c ≡ record { text = text; at = 0 }
    → d.text ≡ c.text → Ok d.at ≡ takes opening (next_tok c.text.now c.at) → e.text ≡ d.text → Ok e.at ≡ takes (word (codes "plan")) (next_tok d.text.now d.at) → g.text ≡ e.text → WordIs e.text e.at w × (g.at ≡ w.next)
    → ((n : ℕ) → 64 ≤ n + 0 → Reads (term_at n g.text.now (length xs) g.at 0 [] 0) 0 xs r at ys) → Titled text xs w g.text g.at r at ys
titled {text} xs {c} {d} {e} {g} {w} r at ys short start t₁ o t₂ k t₃ h reads =
    let behind = behind_name text.now (length xs) w.what.now in
    let td = t₁ ∙ ap (λ z. z.text) start in
    let te = t₂ ∙ td in
    let x = worded te h in
    let place : (next_tok text.now e.at).place ≡ w.place = sym (h.0.from ∙ ap (λ z. (next_tok z.now e.at).place) te) in
    record {
      same_text = t₃ ∙ te;
      is = cond-true (leb (length text.now) 16384) _ _ (le-leb _ _ short)
          ∙ chain _ (sym (o ∙ ap (λ z. takes opening (next_tok z.text.now z.at)) start))
          (chain _ (sym (k ∙ ap (λ z. takes (word (codes "plan")) (next_tok z.now d.at)) td))
          (chain _ x.0 (ap (λ z. behind z (next_tok text.now e.at).after) place ∙ ap (behind w.place) x.1)));
      part = subst (λ z. PartFrom z w.place w.what) te h.0.part;
      read = recap g.at 0 xs r at ys (t₃ ∙ te) refl refl refl reads 64 (omega arith);
    }

take_put : (xs : List Record) (q : ℕ) (ns : List Record) → q + length ns ≤ length xs → take (q + length ns) (put xs q ns) ≡ take q xs ++ ns
take_put xs q [] h = ap (λ z. take z xs) (add-zero q) ∙ sym (append-nil (take q xs))
take_put xs q (n ∷ ns) h =
    let e : q + suc (length ns) ≡ q + 1 + length ns = omega arith in
    ap (λ z. take z (put (set xs q n) (q + 1) ns)) e
    ∙ take_put (set xs q n) (q + 1) ns (omega (arith, length-set xs q n))
    ∙ ap (λ z. z ++ ns) (take_more_set xs q n (omega arith))
    ∙ append_assoc (take q xs) (n ∷ []) ns

-- what is kept of the list, and empty records after it
pub told : (text : Bor (List ℕ)) (xs ys zs : List Record) (o : Result Outline (Located TextFault)) (r : Result Plan (Located TextFault)) (kept : ℕ) → Plans o text xs r ys → IfOk r (λ plan. plan.count ≤ length xs) → length ys ≡ length xs
    → MatchResult r (λ plan. kept ≡ plan.count) (λ f. kept ≡ 0) → zs ≡ filled_from ys kept empty_record → Told o text (length xs) r zs
told text xs ys zs (Ok x) (Ok plan) kept h l k e c =
    let empty : ℕ → List Record = λ n. replicate (length xs - n) empty_record in
    let n : kept ≡ 0 + length x.rows = omega (arith, h.0.all) in (
      h.0,
      c
          ∙ ap (λ z. take kept ys ++ replicate (z - kept) empty_record) k
          ∙ ap (λ z. take kept z ++ empty kept) h.1
          ∙ ap (λ z. take z (put xs 0 x.rows) ++ empty z) n
          ∙ ap (λ z. z ++ empty (0 + length x.rows)) (take_put xs 0 x.rows (omega (arith, h.0.all)))
          ∙ ap (λ z. x.rows ++ empty z) (zero-add (length x.rows)),
    )
told text xs ys zs (Ok x) (Err f) kept h l k e c = h
told text xs ys zs (Err f) (Ok plan) kept h l k e c = h
told text xs ys zs (Err f) (Err g) kept h l k e c =
    let n : length ys - 0 ≡ length xs = omega arith in
    (h, c ∙ ap (λ z. take z ys ++ replicate (length ys - z) empty_record) e ∙ ap (λ z. replicate z empty_record) n)
