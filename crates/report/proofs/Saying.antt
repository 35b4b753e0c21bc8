-- The bytes of a report can be read in one way only, and so they say what was found.
use Rattle.std.proofs.Common.{◌≡◌, ℕ, ◌-◌, ◌≤◌, true, false, ◌&&◌, eqb, leb, List, [], ◌∷◌, ◌++◌, length, get_or, take, drop, replicate, None, Ok, Err, codes, Result, unwrap_or, sym, refl, ap, ◌∙◌, subst, arith}
use Rattle.std.specs.List.{slice_get, flat_map}
use Rattle.std.proofs.lemmas.List.{append_assoc, append_cancel_left, take_at}
use Rattle.std.proofs.lemmas.List.Elements.{All-get_or}
use Rattle.std.proofs.lemmas.List.Sums.{AllPass-from_list_all}
use Rattle.std.proofs.lemmas.Option.{unwrap_or-slice_get}
use Rattle.std.proofs.lemmas.Bool.{both_ways, and_parts, ne_eqb, cond-false}
use Rattle.process.specs.Meaning.{Proc}
use Rattle.lexer.specs.Bytes.{alnum, word_bytes, is_word}
use Rattle.lexer.specs.Lex.{Tok, word, Step, ended, read, fault, lex}
use Rattle.lexer.proofs.Words.{lexed_word}
use Rattle.motions.specs.Naming.{names}
use Rattle.motions.proofs.Distinctness.{names_distinct}
use Rattle.reader.specs.Plans.{Tree, Stands}
use Rattle.reader.specs.Promises.{Readable}
use Rattle.reader.specs.Tokens.{token, spot_of, next_tok}
use Rattle.common.specs.Faults.{numbered}
use Rattle.certificate.specs.declared.Row.{Row}
use Rattle.formtable.specs.declared.record.Record.{Record}
use Rattle.writing.specs.Faults.{output_number}
use Rattle.writing.specs.declared.fault.OutputFault.{OutputFault}
use Rattle.report.specs.Exactly.{bytes_of}
use Rattle.report.specs.Finding.{Finding, lies_within, goes_beyond, is_refused}
use Rattle.report.proofs.Texts.{beyond_grouped}
use Rattle.report.specs.Lines.{letters, spaced, within_text, beyond_text, text_of, WritesAll}
use Rattle.report.specs.Outcomes.{StandsFor}
use Rattle.report.specs.Says.{TermWithin, TermBeyond, Writes, AllKnown, Told, Says, Reports}
use Rattle.report.specs.Sizes.{Sizes}
use Rattle.report.specs.declared.lines.Found.{Found}
use Rattle.report.specs.declared.refusal.Refusal.{Refusal}

-- a list that begins with no letter and no digit
abbrev Breaks : List ℕ → Type 0
Breaks [] = ⊥
Breaks (b ∷ bs) = alnum b ≡ false

-- two words in front of such lists are the same, and so are the lists
split : (xs ys us vs : List ℕ) → word_bytes xs ≡ true → word_bytes ys ≡ true → Breaks us → Breaks vs → xs ++ us ≡ ys ++ vs → (xs ≡ ys) × (us ≡ vs)
split [] [] us vs p q a b e = (refl, e)
split [] (y ∷ ys) [] vs p q a b e = absurd a
split [] (y ∷ ys) (u ∷ us) vs p q a b e = let h : u ≡ y = cc in absurd (both_ways (alnum u) a (ap alnum h ∙ (and_parts (alnum y) (word_bytes ys) q).0))
split (x ∷ xs) [] us [] p q a b e = absurd b
split (x ∷ xs) [] us (v ∷ vs) p q a b e = let h : v ≡ x = cc in absurd (both_ways (alnum v) b (ap alnum h ∙ (and_parts (alnum x) (word_bytes xs) p).0))
split (x ∷ xs) (y ∷ ys) us vs p q a b e =
    let h : x ≡ y = cc in
    let t : xs ++ us ≡ ys ++ vs = cc in
    let r = split xs ys us vs (and_parts (alnum x) (word_bytes xs) p).1 (and_parts (alnum y) (word_bytes ys) q).1 a b t in
    (ap (λ (z : ℕ). z ∷ xs) h ∙ ap (λ (zs : List ℕ). y ∷ zs) r.0, r.1)

-- the names of motions are words, each its own

letters_there : (m : ℕ) → 1 ≤ m → letters m ≡ get_or names (m - 1) []
letters_there m h = ap (λ (o : _). unwrap_or o []) (cond-false (eqb m 0) None (slice_get names (m - 1)) (ne_eqb m 0 (λ e. omega arith))) ∙ unwrap_or-slice_get names (m - 1) []

letters_word : (m : ℕ) → 1 ≤ m → m ≤ 24 → word_bytes (letters m) ≡ true
letters_word m h k =
    ap word_bytes (letters_there m h)
    ∙ All-get_or (λ (w : List ℕ). word_bytes w ≡ true) names (m - 1) [] (omega arith) (AllPass-from_list_all word_bytes names refl)

letters_same : (m n : ℕ) → 1 ≤ m → m ≤ 24 → 1 ≤ n → n ≤ 24 → letters m ≡ letters n → m ≡ n
letters_same m n a b c d e =
    let i : m - 1 ≡ n - 1 = names_distinct (m - 1) (n - 1) (omega arith) (omega arith) (sym (letters_there m a) ∙ e ∙ letters_there n c) in
    omega arith

-- the end of the line of motions
abbrev tail : List ℕ
tail = codes ")\n"

breaks_after : (ms : List ℕ) → Breaks (flat_map spaced ms ++ tail)
breaks_after [] = refl
breaks_after (m ∷ ms) = refl

-- a line of known motions can be read in one way only
motions_same : (ms ns : List ℕ) → AllKnown ms → AllKnown ns → flat_map spaced ms ++ tail ≡ flat_map spaced ns ++ tail → ms ≡ ns
motions_same [] [] p q e = refl
motions_same [] (n ∷ ns) p q e = let z : ◌≡◌ {A = ℕ} 41 32 = ap (λ (l : List ℕ). get_or l 0 0) e in absurd (omega arith)
motions_same (m ∷ ms) [] p q e = let z : ◌≡◌ {A = ℕ} 32 41 = ap (λ (l : List ℕ). get_or l 0 0) e in absurd (omega arith)
motions_same (m ∷ ms) (n ∷ ns) (p0, p1, p2) (q0, q1, q2) e =
    let t : letters m ++ (flat_map spaced ms ++ tail) ≡ letters n ++ (flat_map spaced ns ++ tail) =
    sym (append_assoc (letters m) (flat_map spaced ms) tail) ∙ ap (drop 1) e ∙ append_assoc (letters n) (flat_map spaced ns) tail in
    let r = split (letters m) (letters n) (flat_map spaced ms ++ tail) (flat_map spaced ns ++ tail) (letters_word m p0 p1) (letters_word n q0 q1) (breaks_after ms) (breaks_after ns) t in
    ap (λ (k : ℕ). k ∷ ms) (letters_same m n p0 p1 q0 q1 r.0) ∙ ap (λ (ks : List ℕ). n ∷ ks) (motions_same ms ns p2 q2 r.1)

-- the name of a plan that was read is a word

spot_word : (n : ℕ) (bs : List ℕ) (i : ℕ) (w : List ℕ) (st : Step) → lex bs i ≡ st → (spot_of n st).what ≡ token (word w) → word_bytes w ≡ true
spot_word n bs i w ended l e = let z : ◌≡◌ {A = ℕ} 0 1 = cc in absurd (omega arith)
spot_word n bs i w (read t p a) l e = let h : t ≡ word w = cc in lexed_word bs i w p a (l ∙ ap (λ (u : Tok). read u p a) h)
spot_word n bs i w (fault f p) l e = let z : ◌≡◌ {A = ℕ} 0 1 = cc in absurd (omega arith)

stands_word : (s w : List ℕ) (a : ℕ) → Stands s (word w) a → word_bytes w ≡ true
unfolding next_tok
stands_word s w a e = spot_word (length s) (drop a s) a w (lex (drop a s) a) refl e

name_word : (s : List ℕ) (cap : ℕ) (name : List ℕ) (t : Tree) → Readable s cap name t → word_bytes name ≡ true
name_word s cap name t r = stands_word s name _ r.written.spelt.1.1.0

word_of_name : (name : List ℕ) → is_word name ≡ true → word_bytes name ≡ true
word_of_name name h =
    (and_parts (leb (length name) 8) (word_bytes name) (and_parts (leb 1 (length name)) (leb (length name) 8 && word_bytes name) h).1).1

-- the two lines of a plan: its name, and what stands behind it
module _ (a b xs ys : List ℕ) (p : word_bytes a ≡ true) (q : word_bytes b ≡ true) (e : codes "(plan " ++ (a ++ (41 ∷ xs)) ≡ codes "(plan " ++ (b ++ (41 ∷ ys))) where
  lines_same : (a ≡ b) × (41 ∷ xs ≡ 41 ∷ ys)
  lines_same = split a b (41 ∷ xs) (41 ∷ ys) p q refl refl (append_cancel_left (codes "(plan ") (a ++ (41 ∷ xs)) (b ++ (41 ∷ ys)) e)

module _ (permit : Proc) (s : List ℕ) (cap : ℕ) (name : List ℕ) (word : word_bytes name ≡ true) where
  says_within : (f : Finding) (k : ℕ) → Told permit s cap f → bytes_of f ≡ within_text name k → Writes s cap name (TermWithin permit)
  says_within (lies_within n rs rows) k (t, r, p) e =
      let h = lines_same n name _ _ (name_word s cap n t r) word e in
      subst (λ (x : List ℕ). Writes s cap x (TermWithin permit)) h.0 (t, r, p)
  says_within (goes_beyond n rs w) k ((t, r, p), u) e =
      let h = lines_same n name _ _ (name_word s cap n t r) word (sym (beyond_grouped n w) ∙ e) in
      let z : ◌≡◌ {A = ℕ} 98 119 = ap (λ (l : List ℕ). get_or l 3 0) h.1 in absurd (omega arith)
  says_within (is_refused x y) k u e = let z : ◌≡◌ {A = ℕ} 114 112 = ap (λ (l : List ℕ). get_or l 1 0) e in absurd (omega arith)

  says_beyond : (f : Finding) (ms : List ℕ) → AllKnown ms → Told permit s cap f → bytes_of f ≡ beyond_text name ms → Writes s cap name (TermBeyond permit ms)
  says_beyond (lies_within n rs rows) ms known (t, r, p) e =
      let h = lines_same n name _ _ (name_word s cap n t r) word (e ∙ beyond_grouped name ms) in
      let z : ◌≡◌ {A = ℕ} 119 98 = ap (λ (l : List ℕ). get_or l 3 0) h.1 in absurd (omega arith)
  says_beyond (goes_beyond n rs w) ms known ((t, r, p), u) e =
      let h = lines_same n name _ _ (name_word s cap n t r) word (sym (beyond_grouped n w) ∙ e ∙ beyond_grouped name ms) in
      let same : w ≡ ms = motions_same w ms u known (ap (drop 9) h.1) in
      subst (λ (x : List ℕ). Writes s cap x (TermBeyond permit ms)) h.0 (subst (λ (v : List ℕ). Writes s cap n (TermBeyond permit v)) same (t, r, p))
  says_beyond (is_refused x y) ms known u e = let z : ◌≡◌ {A = ℕ} 114 112 = ap (λ (l : List ℕ). get_or l 1 0) e in absurd (omega arith)

-- the bytes of a finding say what it tells
bytes_say : (permit : Proc) (s : List ℕ) (cap : ℕ) (f : Finding) → Told permit s cap f → Says permit s cap (bytes_of f)
bytes_say permit s cap f t =
    record {
      within = λ name k w e. says_within permit s cap name (word_of_name name w) f k t e;
      beyond = λ name ms w known e. says_beyond permit s cap name (word_of_name name w) f ms known t e;
    }

-- so does what is written of it
pub reports : (permit : Proc) (s : List ℕ) (cap : ℕ) (f : Finding) (n : Sizes) (found : Result Found Refusal) (records : List Record) (rows : List Row) (motions old new : List ℕ) (written : Result ℕ OutputFault)
    → Told permit s cap f → StandsFor f n found records rows motions → WritesAll old (text_of found motions) written new → Reports permit s cap (numbered output_number written) new
reports permit s cap f n found records rows motions old new (Err e) t h w = tt
reports permit s cap f n found records rows motions old new (Ok count) t h (w0, w1, w2) =
    let bytes = text_of found motions in
    let shown : take count new ≡ bytes = ap (take count) w2 ∙ take_at bytes (replicate (length old - count) 0) count (sym w0) in
    subst (Says permit s cap) (sym (shown ∙ bytes_stand found h)) (bytes_say permit s cap f t)
  where
    bytes_stand : (x : Result Found Refusal) → StandsFor f n x records rows motions → text_of x motions ≡ bytes_of f
    bytes_stand (Ok plan) k = k.bytes_are
    bytes_stand (Err refusal) k = ap bytes_of (sym k)
