-- The tests of vetting, in their order.
use Rattle.std.specs.Prelude.{ℕ, zero, Bool, true, false, ◌&&◌, List, length, Some, None, Ok, Err, Option, Result, ◌==◌, nat_le, nat_lt}
use Rattle.std.specs.List.{list_all, list_any, range_with_len}
use Rattle.formtable.specs.Kinds.{kind_of, is_rec, is_do}
use Rattle.formtable.specs.Layout.{form_at, past, reaches}
use Rattle.formtable.specs.declared.record.Form.{Form}
use Rattle.formtable.specs.declared.record.Form.TheVariants.{End, Do, Tau, Or, Rec, Go}
use Rattle.formtable.specs.declared.record.Record.{Record}

-- p holds of each number below n
abbrev pub each : (ℕ → Bool) → ℕ → Bool
each p n = list_all p (range_with_len 0 n)

-- p holds of some number below n
abbrev pub some : (ℕ → Bool) → ℕ → Bool
some p n = list_any p (range_with_len 0 n)

-- there are 1 to 64 records
abbrev pub fits : List Record → Bool
fits rs = nat_lt 0 (length rs) && nat_le (length rs) 64

-- may the argument a stand with the form: a motion with a do, any place with an or and a go, 0 with the others
abbrev pub allowed_by : ℕ → Option Form → Bool
allowed_by a (Some End) = a == 0
allowed_by a (Some (Do m)) = nat_lt 0 a && nat_le a 24
allowed_by a (Some Tau) = a == 0
allowed_by a (Some (Or r)) = true
allowed_by a (Some Rec) = a == 0
allowed_by a (Some (Go k)) = true
allowed_by a None = false

-- a known kind with an argument that it may have
abbrev pub allowed : Record → Bool
allowed r = allowed_by r.argument (kind_of r.kind r.argument)

-- every record is such
abbrev pub all_allowed : List Record → Bool
all_allowed rs = list_all allowed rs

-- is the place o there, and n
abbrev pub is_at : ℕ → Option ℕ → Bool
is_at n None = false
is_at n (Some p) = p == n

-- laid out well: Past(0) is the length
abbrev pub laid_out : List Record → Bool
laid_out rs = is_at (length rs) (past rs zero)

-- the test of the place that a go names; other forms pass
abbrev pub of_go : (ℕ → Bool) → Option Form → Bool
of_go p (Some (Go k)) = p k
of_go p _ = true

-- p holds of each go's place and the place that it names
abbrev pub each_go : (ℕ → ℕ → Bool) → List Record → Bool
each_go p rs = each (λ j. of_go (p j) (form_at rs j)) (length rs)

-- the place j stands inside a rec at k: k < j < Past(k)
abbrev pub bound : List Record → ℕ → ℕ → Bool
bound rs j k = is_rec (form_at rs k) && nat_lt k j && reaches j (past rs k)

-- where a go stands at j, it names a rec around it
abbrev pub bound_by : List Record → ℕ → Option Form → Bool
bound_by rs j f = of_go (bound rs j) f

-- each go does
abbrev pub all_bound : List Record → Bool
all_bound rs = each_go (bound rs) rs

-- a do at d stands behind k, and the place j inside it: k < d, j < Past(d)
abbrev pub guards : List Record → ℕ → ℕ → ℕ → Bool
guards rs k j d = nat_lt k d && is_do (form_at rs d) && reaches j (past rs d)

-- some do before j guards it
abbrev pub guarded : List Record → ℕ → ℕ → Bool
guarded rs j k = some (guards rs k j) j

-- where a go stands at j, it is guarded
abbrev pub guarded_by : List Record → ℕ → Option Form → Bool
guarded_by rs j f = of_go (guarded rs j) f

-- each go is
abbrev pub all_guarded : List Record → Bool
all_guarded rs = each_go (guarded rs) rs

-- a test that fails decides, by its number; one that passes leaves it to the rest
abbrev pub unless : Bool → ℕ → Result (Unit {0}) ℕ → Result (Unit {0}) ℕ
unless true n r = r
unless false n r = Err n

-- the first test that fails, each over the whole table before the next
abbrev pub verdict : List Record → Result (Unit {0}) ℕ
verdict rs =
    unless (fits rs) 21
    (unless (all_allowed rs) 22 (unless (laid_out rs) 23 (unless (all_bound rs) 24 (unless (all_guarded rs) 25 (Ok tt)))))

-- no test fails
abbrev pub vetted : List Record → Bool
vetted rs = fits rs && all_allowed rs && laid_out rs && all_bound rs && all_guarded rs
