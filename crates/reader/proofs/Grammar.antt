-- The rules of the grammar one item at a time, and a spelling's end.
use Rattle.std.proofs.Common.{◌≡◌, ℕ, List, [], ◌∷◌, ◌++◌, Some, codes, sym, refl, ap, ◌∙◌, subst, append_assoc}
use Rattle.lexer.specs.Lex.{Tok, opening, closing, word}
use Rattle.reader.specs.declared.heads.Shape.{Shape}
use Rattle.reader.specs.declared.heads.Shape.TheVariants.{End, Do, Tau, Or, Rec, Go}
use Rattle.reader.specs.Reading.{shape_of}
use Rattle.reader.specs.Plans.{Tree, stop, act, tau, or, loop, again, spell}
use Rattle.reader.proofs.Spellings.{word_for, formed}

-- what follows the form word
pub data Item : Type 0 where
  name : Item
  inner : Item
  shut : Item

abbrev pub items : Shape → List Item
items End = shut ∷ []
items Do = name ∷ (inner ∷ (shut ∷ []))
items Tau = inner ∷ (shut ∷ [])
items Or = inner ∷ (inner ∷ (shut ∷ []))
items Rec = name ∷ (inner ∷ (shut ∷ []))
items Go = name ∷ (shut ∷ [])

-- these tokens are the items, and then the tail
abbrev pub After : List Item → List Tok → List Tok → Type 0
After [] ts tail = ts ≡ tail
After (name ∷ is) ts tail = (w : List ℕ) × (us : List Tok) × (ts ≡ word w ∷ us) × After is us tail
After (inner ∷ is) ts tail = (t : Tree) × (us : List Tok) × (ts ≡ spell t ++ us) × After is us tail
After (shut ∷ is) ts tail = (us : List Tok) × (ts ≡ closing ∷ us) × After is us tail

-- some tokens that are the items
abbrev pub fill : List Item → List Tok
fill [] = []
fill (name ∷ is) = word (codes "x") ∷ fill is
fill (inner ∷ is) = spell stop ++ fill is
fill (shut ∷ is) = closing ∷ fill is

pub fill_after : (is : List Item) → After is (fill is) []
fill_after [] = refl
fill_after (name ∷ is) = (codes "x", fill is, refl, fill_after is)
fill_after (inner ∷ is) = (stop, fill is, refl, fill_after is)
fill_after (shut ∷ is) = (fill is, refl, fill_after is)

-- parts of a list of tokens
abbrev pub rest : List Tok → List Tok
rest [] = []
rest (t ∷ ts) = ts

abbrev pub first : List Tok → Tok
first [] = opening
first (t ∷ ts) = t

abbrev pub bytes : Tok → List ℕ
bytes opening = []
bytes closing = []
bytes (word w) = w

abbrev pub shape_in : Tree → Shape
shape_in stop = End
shape_in (act w t) = Do
shape_in (tau t) = Tau
shape_in (or l r) = Or
shape_in (loop x t) = Rec
shape_in (again x) = Go

-- a tree's spelling is its form word and the items
pub parts : (t : Tree) (tail : List Tok) → (us : List Tok) × (spell t ++ tail ≡ opening ∷ (word (word_for (shape_in t)) ∷ us)) × After (items (shape_in t)) us tail
parts stop tail = (closing ∷ tail, refl, (tail, refl, refl))
parts (act w t) tail = (word w ∷ ((spell t ++ (closing ∷ [])) ++ tail), refl, (w, _, refl, (t, closing ∷ tail, append_assoc (spell t) (closing ∷ []) tail, (tail, refl, refl))))
parts (tau t) tail = ((spell t ++ (closing ∷ [])) ++ tail, refl, (t, closing ∷ tail, append_assoc (spell t) (closing ∷ []) tail, (tail, refl, refl)))
parts (or l r) tail = (
  (spell l ++ (spell r ++ (closing ∷ []))) ++ tail,
  refl,
  (l, (spell r ++ (closing ∷ [])) ++ tail, append_assoc (spell l) (spell r ++ (closing ∷ [])) tail, (r, closing ∷ tail, append_assoc (spell r) (closing ∷ []) tail, (tail, refl, refl))),
)
parts (loop x t) tail = (word x ∷ ((spell t ++ (closing ∷ [])) ++ tail), refl, (x, _, refl, (t, closing ∷ tail, append_assoc (spell t) (closing ∷ []) tail, (tail, refl, refl))))
parts (again x) tail = (word x ∷ (closing ∷ tail), refl, (x, closing ∷ tail, refl, (tail, refl, refl)))

-- a form word and its items are a tree's spelling
pub made : (f : Shape) (ts : List Tok) → After (items f) ts [] → (t : Tree) × (spell t ≡ opening ∷ (word (word_for f) ∷ ts))
made End ts (us, e, z) = (stop, ap (λ y. opening ∷ (word (codes "end") ∷ y)) (sym (e ∙ ap (λ y. closing ∷ y) z)))
made Do ts (w, us, e, (t, vs, d, (ws, c, z))) = (act w t, ap (λ y. opening ∷ (word (codes "do") ∷ y)) (sym (e ∙ ap (λ y. word w ∷ y) (d ∙ ap (λ y. spell t ++ y) (c ∙ ap (λ y. closing ∷ y) z)))))
made Tau ts (t, vs, d, (ws, c, z)) = (tau t, ap (λ y. opening ∷ (word (codes "tau") ∷ y)) (sym (d ∙ ap (λ y. spell t ++ y) (c ∙ ap (λ y. closing ∷ y) z))))
made Or ts (l, us, e, (r, vs, d, (ws, c, z))) = (or l r, ap (λ y. opening ∷ (word (codes "or") ∷ y)) (sym (e ∙ ap (λ y. spell l ++ y) (d ∙ ap (λ y. spell r ++ y) (c ∙ ap (λ y. closing ∷ y) z)))))
made Rec ts (w, us, e, (t, vs, d, (ws, c, z))) = (loop w t, ap (λ y. opening ∷ (word (codes "rec") ∷ y)) (sym (e ∙ ap (λ y. word w ∷ y) (d ∙ ap (λ y. spell t ++ y) (c ∙ ap (λ y. closing ∷ y) z)))))
made Go ts (w, us, e, (ws, c, z)) = (again w, ap (λ y. opening ∷ (word (codes "go") ∷ y)) (sym (e ∙ ap (λ y. word w ∷ y) (c ∙ ap (λ y. closing ∷ y) z))))

same_shape : (f g : Shape) → word_for f ≡ word_for g → f ≡ g
same_shape f g e = some (sym (formed f) ∙ ap shape_of e ∙ formed g)
  where
    some : Some f ≡ Some g → f ≡ g
    some e = cc

-- the form word says the shape
pub shaped_as : (t : Tree) (tail : List Tok) (f : Shape) (ts : List Tok) → spell t ++ tail ≡ opening ∷ (word (word_for f) ∷ ts) → After (items f) ts tail
shaped_as t tail f ts e =
    let p = parts t tail in
    let q = sym p.1 ∙ e in
    let s = same_shape (shape_in t) f (ap (λ z. bytes (first (rest z))) q) in
    let d : p.0 ≡ ts = ap (λ z. rest (rest z)) q in
    subst (λ z. After (items z) ts tail) s (subst (λ z. After (items (shape_in t)) z tail) d p.2)

-- one item less
pub word_out : (is : List Item) (w : List ℕ) (ts tail : List Tok) → After (name ∷ is) (word w ∷ ts) tail → After is ts tail
word_out is w ts tail (v, us, e, h) = subst (λ z. After is z tail) (sym (ap rest e)) h

pub close_out : (is : List Item) (ts tail : List Tok) → After (shut ∷ is) (closing ∷ ts) tail → After is ts tail
close_out is ts tail (us, e, h) = subst (λ z. After is z tail) (sym (ap rest e)) h

-- what follows a spelling of t is the same however it is read
abbrev SameEnd : Tree → Type 0
SameEnd t = (u : Tree) (x y : List Tok) → spell t ++ x ≡ spell u ++ y → x ≡ y

term_by : (is : List Item) (t : Tree) → SameEnd t → (ts tail : List Tok) → After (inner ∷ is) (spell t ++ ts) tail → After is ts tail
term_by is t same ts tail (u, us, e, h) = subst (λ z. After is z tail) (sym (same u ts us e)) h

pub same_end : (t : Tree) → SameEnd t
same_end stop u x y e = close_out [] x y (shaped_as u y End _ (sym e))
same_end (act w t) u x y e =
    let k = word_out (inner ∷ (shut ∷ [])) w _ y (shaped_as u y Do _ (sym e)) in
    close_out [] x y (term_by (shut ∷ []) t (same_end t) (closing ∷ x) y (subst (λ z. After (inner ∷ (shut ∷ [])) z y) (append_assoc (spell t) (closing ∷ []) x) k))
same_end (tau t) u x y e =
    let k = shaped_as u y Tau _ (sym e) in
    close_out [] x y (term_by (shut ∷ []) t (same_end t) (closing ∷ x) y (subst (λ z. After (inner ∷ (shut ∷ [])) z y) (append_assoc (spell t) (closing ∷ []) x) k))
same_end (or l r) u x y e =
    let k = shaped_as u y Or _ (sym e) in
    let j = term_by (inner ∷ (shut ∷ [])) l (same_end l) _ y (subst (λ z. After (inner ∷ (inner ∷ (shut ∷ []))) z y) (append_assoc (spell l) (spell r ++ (closing ∷ [])) x) k) in
    close_out [] x y (term_by (shut ∷ []) r (same_end r) (closing ∷ x) y (subst (λ z. After (inner ∷ (shut ∷ [])) z y) (append_assoc (spell r) (closing ∷ []) x) j))
same_end (loop w t) u x y e =
    let k = word_out (inner ∷ (shut ∷ [])) w _ y (shaped_as u y Rec _ (sym e)) in
    close_out [] x y (term_by (shut ∷ []) t (same_end t) (closing ∷ x) y (subst (λ z. After (inner ∷ (shut ∷ [])) z y) (append_assoc (spell t) (closing ∷ []) x) k))
same_end (again w) u x y e = close_out [] x y (word_out (shut ∷ []) w _ y (shaped_as u y Go _ (sym e)))

pub term_out : (is : List Item) (t : Tree) (ts tail : List Tok) → After (inner ∷ is) (spell t ++ ts) tail → After is ts tail
term_out is t ts tail h = term_by is t (same_end t) ts tail h
