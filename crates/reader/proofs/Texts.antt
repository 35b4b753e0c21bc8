-- A text is read exactly when it is a plan that may be read, and what is read is that plan.
use Rattle.std.proofs.Common.{◌≡◌, ℕ, ◌-◌, ◌≤◌, cond, leb, List, [], ◌∷◌, ◌++◌, length, take, drop, replicate, Ok, Err, codes, Result, sym, refl, ap, ◌∙◌, subst, arith, Bor}
use Rattle.std.proofs.Math.Seq.{take-append_seam}
use Rattle.std.proofs.lemmas.List.{drop_at}
use Rattle.std.proofs.lemmas.Bool.{cond-true, le-leb}
use Rattle.common.specs.declared.fault.Located.{Located}
use Rattle.formtable.specs.declared.record.Record.{Record}
use Rattle.formtable.specs.Places.{term}
use Rattle.formtable.specs.Vet.{verdict}
use Rattle.lexer.specs.declared.fault.TextFault.{TextFault}
use Rattle.lexer.specs.declared.fault.TextFault.TheVariants.{TooLong}
use Rattle.lexer.specs.Lex.{Tok, opening, closing, word}
use Rattle.reader.specs.declared.reading.Plan.{Plan}
use Rattle.reader.specs.Tokens.{fault_at, Next, token, ending, next_tok, ends_by, takes, words, ends, PartFrom}
use Rattle.reader.specs.Reading.{empty_record, Outline, outlined, term_at, plan_at, read_plan, Told, Leaves}
use Rattle.reader.specs.Plans.{Tree, spell, Stands, Spelt, size, flatten, Good}
use Rattle.reader.specs.Promises.{token_place, Written, Readable, Spells, Vets}
use Rattle.reader.proofs.Steps.{chain}
use Rattle.reader.proofs.Tables.{length_flatten, size_above}
use Rattle.reader.proofs.Vets.{vets}
use Rattle.reader.proofs.Meanings.{means}
use Rattle.reader.proofs.Spellings.{ok_err, unbind, take_is, word_is, take_of, word_of, spelt_append, spelt_split, sound, complete}

end_is : (k : Next) (p : ℕ) (z : Unit {0}) → ends_by k p ≡ Ok z → k ≡ ending
end_is k p z e = grind arith

abbrev pub keyword : Tok
keyword = word (codes "plan")

-- the name is the third token
record Planned (s : List ℕ) (cap : ℕ) (x : Outline) : Type 0 where
  tree : Tree
  written : Written s x.name tree
  good : Good [] 0 0 tree
  few : size tree ≤ 64
  fits : size tree ≤ cap
  table : x.rows ≡ flatten [] 0 tree
  place : x.start ≡ token_place s 2 0

planned : (s : List ℕ) (cap : ℕ) (x : Outline) → plan_at s cap ≡ Ok x → Planned s cap x
planned s cap x e =
    let u = unbind (takes opening (next_tok s 0)) _ _ e in
    let o = take_is opening s 0 u.0 u.1 in
    let a = (next_tok s 0).after in
    let v = unbind (takes keyword (next_tok s u.0)) _ _ u.2 in
    let k = take_is keyword s a v.0 (subst (λ z. takes keyword (next_tok s z) ≡ Ok v.0) (sym o.1) v.1) in
    let b = (next_tok s a).after in
    let w = unbind (words (next_tok s v.0)) _ _ v.2 in
    let y = unbind (term_at 64 s cap (next_tok s v.0).after 0 [] 0) _ _ w.2 in
    let f = sound 64 s cap _ _ _ _ _ _ y.1 in
    let c = unbind (takes closing (next_tok s y.0.0)) _ _ y.2 in
    let z = unbind (ends (next_tok s c.0)) _ _ c.2 in
    let q : outlined w.0 (next_tok s v.0).place y.0.1 ≡ x = same _ x z.2 in
    let t = f.tree in
    let close = spelt_append s (spell t) (closing ∷ []) _ _ c.0 f.spelt (take_is closing s y.0.0 c.0 c.1) in
    let named : Stands s (word x.name) v.0 = word_is s v.0 w.0 w.1 ∙ ap (λ z. token (word z.name)) q in
    record {
      tree = t;
      written = record {
        after = c.0;
        spelt = (o.0, (k.0, subst (λ z. Spelt s (word x.name ∷ (spell t ++ (closing ∷ []))) z c.0) (sym k.1) (named, close)));
        last = end_is (next_tok s c.0).what (next_tok s c.0).place z.0 z.1;
      };
      good = f.good;
      few = omega (arith, f.few);
      fits = omega (arith, f.fits);
      table = sym (ap (λ z. z.rows) q) ∙ f.table;
      place = sym (ap (λ z. z.start) q) ∙ ap (λ z. (next_tok s z).place) (sym k.1);
    }
  where
    same : (y x : Outline) → ◌≡◌ {A = Result Outline (Located TextFault)} (Ok y) (Ok x) → y ≡ x
    same y x e = cc

plan_of_text : (s : List ℕ) (cap : ℕ) (name : List ℕ) (t : Tree) → Written s name t → Good [] 0 0 t → size t ≤ 64 → size t ≤ cap → (p : ℕ) × (plan_at s cap ≡ Ok (outlined name p (flatten [] 0 t)))
plan_of_text s cap name t w good few fits =
    let sp = w.spelt in
    let a = (next_tok s 0).after in
    let b = (next_tok s a).after in
    let n = next_tok s b in
    let x = spelt_split s (spell t) (closing ∷ []) n.after w.after sp.1.1.1 in
    let c = (next_tok s x.0).after in
    let last : (next_tok s c).what ≡ ending = ap (λ z. (next_tok s z).what) x.2.1 ∙ w.last in (
      n.place,
      chain _ (take_of opening s 0 sp.0)
          (chain _ (take_of keyword s a sp.1.0)
          (chain _ (word_of s name b sp.1.1.0)
          (chain _ (complete t 64 s cap n.after 0 [] 0 x.0 (omega arith) x.1 good (omega arith) (omega arith))
          (chain _ (take_of closing s x.0 x.2.0)
          (chain (λ z. Ok (outlined name n.place (flatten [] 0 t))) (ap (λ z. ends_by z (next_tok s c).place) last) refl))))),
    )

-- the whole text, with its limit

limited : (s : List ℕ) (plan : Result Outline (Located TextFault)) (x : Outline) → cond (leb (length s) 16384) plan (Err (fault_at TooLong 0)) ≡ Ok x → (length s ≤ 16384) × (plan ≡ Ok x)
limited s plan x e = grind arith

within : (s : List ℕ) (cap : ℕ) (x : Outline) → read_plan s cap ≡ Ok x → (length s ≤ 16384) × (plan_at s cap ≡ Ok x)
within s cap x e = limited s (plan_at s cap) x e

read_of : (s : List ℕ) (cap : ℕ) (name : List ℕ) (t : Tree) → Readable s cap name t → (p : ℕ) × (read_plan s cap ≡ Ok (outlined name p (flatten [] 0 t)))
read_of s cap name t h =
    let p = plan_of_text s cap name t h.written h.good h.few h.fits in
    (p.0, cond-true (leb (length s) 16384) _ _ (le-leb _ _ h.short) ∙ p.1)

module _ (text : Bor (List ℕ)) (cap : ℕ) (ys : List Record) where
  -- the records that count are those read
  front_is : (x : Outline) (plan : Plan) → Told (Ok x) text cap (Ok plan) ys → take plan.count ys ≡ x.rows
  front_is x plan h = ap (λ z. take z ys) h.0.all ∙ ap (take (length x.rows)) h.1 ∙ take-append_seam x.rows _

  pub spells : (o : Result Outline (Located TextFault)) (r : Result Plan (Located TextFault)) → read_plan text.now cap ≡ o → Told o text cap r ys → Spells text cap r ys
  spells (Ok x) (Ok plan) e h =
      let l = within text.now cap x e in
      let p = planned text.now cap x l.1 in
      let t = p.tree in
      let long : length x.rows ≡ size t = ap length p.table ∙ length_flatten [] 0 t in
      record {
        tree = t;
        readable = record { short = l.0; written = subst (λ z. Written text.now z t) (sym h.0.letters) p.written; good = p.good; few = p.few; fits = p.fits };
        part = subst (λ z. PartFrom text z plan.name) p.place h.0.part;
        all = h.0.all ∙ long;
        records = h.1 ∙ ap (λ z. x.rows ++ replicate (cap - z) empty_record) long ∙ ap (λ z. z ++ replicate (cap - size t) empty_record) p.table;
        means = ap (λ rs. term rs 0) (front_is x plan h ∙ p.table) ∙ means t p.good p.few;
      }
  spells (Ok x) (Err f) e h = absurd h
  spells (Err f) (Ok plan) e h = absurd h
  spells (Err f) (Err g) e h = λ name t k. ok_err (sym (read_of text.now cap name t k).1 ∙ e)

  pub leaves : (o : Result Outline (Located TextFault)) (r : Result Plan (Located TextFault)) → read_plan text.now cap ≡ o → Told o text cap r ys → Leaves r cap ys
  leaves (Ok x) (Ok plan) e h =
      let p = planned text.now cap x (within text.now cap x e).1 in
      let n : plan.count ≡ size p.tree = h.0.all ∙ ap length p.table ∙ length_flatten [] 0 p.tree in
      let m = sym h.0.all in (
        omega (arith, size_above p.tree),
        omega (arith, p.few),
        omega (arith, p.fits),
        ap (drop plan.count) h.1 ∙ drop_at x.rows (replicate (cap - length x.rows) empty_record) plan.count m ∙ ap (λ z. replicate (cap - z) empty_record) m,
      )
  leaves (Ok x) (Err f) e h = absurd h
  leaves (Err f) (Ok plan) e h = absurd h
  leaves (Err f) (Err g) e h = h.1

  pub passes : (o : Result Outline (Located TextFault)) (r : Result Plan (Located TextFault)) → read_plan text.now cap ≡ o → Told o text cap r ys → Vets r ys
  passes (Ok x) (Ok plan) e h =
      let p = planned text.now cap x (within text.now cap x e).1 in
      ap verdict (front_is x plan h ∙ p.table)
      ∙ vets p.tree p.good p.few
  passes (Ok x) (Err f) e h = absurd h
  passes (Err f) (Ok plan) e h = absurd h
  passes (Err f) (Err g) e h = tt
