-- What the text of a plan reads as.
use Rattle.std.specs.Prelude.{◌≡◌, ℕ, zero, suc, ◌+◌, ◌-◌, ◌<◌, ◌≤◌, cond, List, [], ◌∷◌, ◌++◌, length, drop, replicate, Some, None, Ok, Err, codes, Option, Result, nat_le, nat_lt, slice_set}
use Rattle.std.specs.Borrow.{Bor}
use Rattle.std.specs.Str.{bytes_eq}
use Rattle.common.specs.declared.fault.Located.{Located}
use Rattle.lexer.specs.Lex.{opening, closing, word}
use Rattle.lexer.specs.declared.fault.TextFault.{TextFault}
use Rattle.lexer.specs.declared.fault.TextFault.TheVariants.{TooLong, Unexpected, NoMotion, NotBound, NotGuarded, TooManyForms, ListShort}
use Rattle.motions.specs.Naming.{motion_of}
use Rattle.formtable.specs.declared.record.Record.{Record}
use Rattle.formtable.specs.Kinds.{row}
use Rattle.reader.specs.declared.heads.Shape.{Shape}
use Rattle.reader.specs.declared.heads.Shape.TheVariants.{End, Do, Tau, Or, Rec, Go}
use Rattle.reader.specs.declared.reading.Plan.{Plan}
use Rattle.reader.specs.declared.scope.Binding.{Binding, Binding', Held-Binding-outer, None', Some'}
use Rattle.reader.specs.declared.scope.Scope.{Scope}
use Rattle.reader.specs.Tokens.{fault_at, bind, Spot, next_tok, takes, words, ends, PartFrom}

-- the form that a form word opens
abbrev pub shape_of : List ℕ → Option Shape
shape_of w =
    cond (bytes_eq w (codes "end")) (Some End)
    (cond (bytes_eq w (codes "do")) (Some Do)
    (cond (bytes_eq w (codes "tau")) (Some Tau)
    (cond (bytes_eq w (codes "or")) (Some Or)
    (cond (bytes_eq w (codes "rec")) (Some Rec)
    (cond (bytes_eq w (codes "go")) (Some Go) None)))))

-- a form word: there may be 64 forms, and no more than the list has places
abbrev pub room_for : ℕ → ℕ → Spot → Shape → Result (Shape × ℕ) (Located TextFault)
room_for cap p t f =
    cond (nat_le 64 p) (Err (fault_at TooManyForms t.place))
    (cond (nat_le cap p) (Err (fault_at ListShort t.place)) (Ok (f, t.after)))

abbrev pub form_by : ℕ → ℕ → Spot → Option Shape → Result (Shape × ℕ) (Located TextFault)
form_by cap p t None = Err (fault_at Unexpected t.place)
form_by cap p t (Some f) = room_for cap p t f

abbrev pub form_word : List ℕ → ℕ → ℕ → ℕ → Result (Shape × ℕ) (Located TextFault)
form_word s cap p at = bind (words (next_tok s at)) (λ w. form_by cap p (next_tok s at) (shape_of w))

-- the opening bracket and the form word of the form whose record is the one at p
abbrev pub head_at : List ℕ → ℕ → ℕ → ℕ → Result (Shape × ℕ) (Located TextFault)
head_at s cap at p = bind (takes opening (next_tok s at)) (form_word s cap p)

abbrev pub motion_by : Spot → Option ℕ → Result (ℕ × ℕ) (Located TextFault)
motion_by t None = Err (fault_at NoMotion t.place)
motion_by t (Some m) = Ok (m, t.after)

-- the motion that the next word names, and the place after it
abbrev pub motion_at : List ℕ → ℕ → Result (ℕ × ℕ) (Located TextFault)
motion_at s at = bind (words (next_tok s at)) (λ w. motion_by (next_tok s at) (motion_of w))

-- a rec around a form: the name that it binds, and its place
pub record Bound : Type 0 where
  pub name : List ℕ
  pub place : ℕ

abbrev pub binds : List ℕ → ℕ → Bound
binds n p = record { name = n; place = p }

-- the place of the innermost rec that binds a name; the innermost stands first
abbrev pub lookup : List Bound → List ℕ → Option ℕ
lookup [] w = None
lookup (b ∷ bs) w = cond (bytes_eq b.name w) (Some b.place) (lookup bs w)

-- a go to the rec at k is guarded if the innermost do around it, at g, stands inside that rec
abbrev pub guarded_at : ℕ → Spot → ℕ → Result (ℕ × ℕ) (Located TextFault)
guarded_at g t k = cond (nat_lt k g) (Ok (k, t.after)) (Err (fault_at NotGuarded t.place))

abbrev pub target_by : ℕ → Spot → Option ℕ → Result (ℕ × ℕ) (Located TextFault)
target_by g t None = Err (fault_at NotBound t.place)
target_by g t (Some k) = guarded_at g t k

-- the place of the rec that the next word names, and the place after it; g is 0 where no do stands around
abbrev pub go_target_at : List ℕ → List Bound → ℕ → ℕ → Result (ℕ × ℕ) (Located TextFault)
go_target_at s env g at = bind (words (next_tok s at)) (λ w. target_by g (next_tok s at) (lookup env w))

-- the place after a form, and its records
abbrev pub Outcome : Type 0
Outcome = Result (ℕ × List Record) (Located TextFault)

-- the closing bracket after a form with these records
abbrev pub shut : List ℕ → ℕ → List Record → Outcome
shut s at ns = bind (takes closing (next_tok s at)) (λ a. Ok (a, ns))

-- what follows the form word of the form at p, by what its inner forms read as
abbrev pub body : List ℕ → (ℕ → ℕ → List Bound → ℕ → Outcome) → ℕ → List Bound → ℕ → ℕ → Shape → Outcome
body s inner p env g at End = shut s at (row 0 0 ∷ [])
body s inner p env g at Do =
    bind (motion_at s at) (λ m. bind (inner m.1 (p + 1) env p) (λ t. shut s t.0 (row 1 m.0 ∷ t.1)))
body s inner p env g at Tau = bind (inner at (p + 1) env g) (λ t. shut s t.0 (row 2 0 ∷ t.1))
body s inner p env g at Or =
    bind (inner at (p + 1) env g)
    (λ l. bind (inner l.0 (p + 1 + length l.1) env g)
    (λ r. shut s r.0 (row 3 (p + 1 + length l.1) ∷ (l.1 ++ r.1))))
body s inner p env g at Rec =
    bind (words (next_tok s at))
    (λ w. bind (inner (next_tok s at).after (p + 1) (binds w p ∷ env) g) (λ t. shut s t.0 (row 4 0 ∷ t.1)))
body s inner p env g at Go = bind (go_target_at s env g at) (λ k. shut s k.1 (row 5 k.0 ∷ []))

-- a whole form
abbrev pub step : List ℕ → ℕ → (ℕ → ℕ → List Bound → ℕ → Outcome) → ℕ → ℕ → List Bound → ℕ → Outcome
step s cap inner at p env g = bind (head_at s cap at p) (λ f. body s inner p env g f.1 f.0)

-- the form at a place whose record is the one at p; at most n forms lie in one another
abbrev pub term_at : ℕ → List ℕ → ℕ → ℕ → ℕ → List Bound → ℕ → Outcome
term_at zero s cap at p env g = step s cap (λ a q e h. Err (fault_at TooManyForms a)) at p env g
term_at (suc n) s cap at p env g = step s cap (term_at n s cap) at p env g

-- the recs from a binding outwards
abbrev mutual
  pub recs_from : Binding → List Bound
  recs_from (Binding' name rec outer) = binds name.now rec ∷ recs_behind outer

  pub recs_behind : Held-Binding-outer → List Bound
  recs_behind None' = []
  recs_behind (Some' p binding) = recs_from binding

abbrev pub recs_at : Option (Bor Binding) → List Bound
recs_at None = []
recs_at (Some binding) = recs_from binding.now

-- the recs of a scope
abbrev pub around : Scope → List Bound
around scope = recs_at scope.inner

-- xs with ns written from p on
abbrev pub put : List Record → ℕ → List Record → List Record
put xs p [] = xs
put xs p (n ∷ ns) = put (slice_set xs p n) (p + 1) ns

-- what a call that should come to o leaves: its answer r, the cursor at a place, and ys in the place of xs
abbrev pub Reads : Outcome → ℕ → List Record → Result ℕ (Located TextFault) → ℕ → List Record → Type 0
Reads (Ok x) p xs r at ys = (r ≡ Ok (p + length x.1)) × (at ≡ x.0) × (ys ≡ put xs p x.1)
Reads (Err f) p xs r at ys = r ≡ Err f

-- the plan of a text: its name, where that stands, and its records
pub record Outline : Type 0 where
  pub name : List ℕ
  pub start : ℕ
  pub rows : List Record

abbrev pub outlined : List ℕ → ℕ → List Record → Outline
outlined w p ns = record { name = w; start = p; rows = ns }

-- (plan NAME TERM), and nothing after it
abbrev pub plan_at : List ℕ → ℕ → Result Outline (Located TextFault)
plan_at s cap =
    bind (takes opening (next_tok s 0))
    (λ a. bind (takes (word (codes "plan")) (next_tok s a))
    (λ b. bind (words (next_tok s b))
    (λ w. bind (term_at 64 s cap (next_tok s b).after 0 [] 0)
    (λ t. bind (takes closing (next_tok s t.0))
    (λ e. bind (ends (next_tok s e)) (λ z. Ok (outlined w (next_tok s b).place t.1)))))))

-- a text of at most 16,384 bytes is read, into a list of cap records
abbrev pub read_plan : List ℕ → ℕ → Result Outline (Located TextFault)
read_plan s cap = cond (nat_le (length s) 16384) (plan_at s cap) (Err (fault_at TooLong 0))

-- the empty record
abbrev pub empty_record : Record
empty_record = row 0 0

-- the plan x that was read: its name, which is that very part of the text, and its count
pub record PlanIs (text : Bor (List ℕ)) (x : Outline) (plan : Plan) : Type 0 where
  pub letters : plan.name.now ≡ x.name
  pub part : PartFrom text x.start plan.name
  pub all : plan.count ≡ length x.rows

-- what whole leaves: ys in the place of xs
abbrev pub Plans : Result Outline (Located TextFault) → Bor (List ℕ) → List Record → Result Plan (Located TextFault) → List Record → Type 0
Plans (Ok x) text xs (Ok plan) ys = PlanIs text x plan × (ys ≡ put xs 0 x.rows)
Plans (Ok x) text xs (Err e) ys = ⊥
Plans (Err f) text xs (Ok plan) ys = ⊥
Plans (Err f) text xs (Err e) ys = e ≡ f

-- the answer r of reading, and the records ys that it leaves in a list of cap: the plan's, and empty ones after them; after a refusal only empty ones
abbrev pub Told : Result Outline (Located TextFault) → Bor (List ℕ) → ℕ → Result Plan (Located TextFault) → List Record → Type 0
Told (Ok x) text cap (Ok plan) ys = PlanIs text x plan × (ys ≡ x.rows ++ replicate (cap - length x.rows) empty_record)
Told (Ok x) text cap (Err e) ys = ⊥
Told (Err f) text cap (Ok plan) ys = ⊥
Told (Err f) text cap (Err e) ys = (e ≡ f) × (ys ≡ replicate cap empty_record)

-- an accepted plan has 1 to 64 records, and empty ones stand after them; after a refusal every record is empty
abbrev pub Leaves : Result Plan (Located TextFault) → ℕ → List Record → Type 0
Leaves (Ok plan) n records =
    (0 < plan.count) × (plan.count ≤ 64) × (plan.count ≤ n) × (drop plan.count records ≡ replicate (n - plan.count) empty_record)
Leaves (Err fault) n records = records ≡ replicate n empty_record
