-- The moves that rows give, and the limits of a vetted table.
use Rattle.std.specs.Prelude.{◌≡◌, ℕ, ◌+◌, ◌<◌, ◌≤◌, Bool, true, false, cond, ◌&&◌, ◌⊎◌, List, [], ◌∷◌, ◌++◌, map, filter, length, get_or, take, drop, Ok, ◌==◌, ◌≢◌, nat_le, nat_lt, slice_index_or, slice_set, refl}
use Rattle.std.proofs.Common.{sym, ap, ◌∙◌, inl, inr, arith}
use Rattle.std.specs.List.{AllByRecursion}
use Rattle.std.proofs.lemmas.Bool.{eq-eqb, ne_eqb, ltb-true, leb-true, and_parts}
use Rattle.std.proofs.lemmas.List.{length-map, at_drop_more, take_more, take_more_set}
use Rattle.std.proofs.lemmas.List.Sums.{length-filter, count_by-le-length}
use Rattle.process.specs.Meaning.{HasMove, Limits}
use Rattle.rowtable.specs.Rows.{move_of, moves_of, table_meaning, ok_states, ok_row, ok_rows, unless, verdict, vetted}
use Rattle.rowtable.specs.Table.{contents}
use Rattle.rowtable.specs.declared.table.RowTable.{RowTable}
use Rattle.rowtable.specs.declared.transition.Transition.{Transition}

-- the rows of s
abbrev pub rows_of : ℕ → List Transition → List Transition
rows_of s rs = filter (λ r. r.from == s) rs

-- the moves of s, by the test of the first row
first : (s : ℕ) (r : Transition) (rs : List Transition) (b : Bool) → (r.from == s) ≡ b → moves_of s (r ∷ rs) ≡ map move_of (cond b (r ∷ rows_of s rs) (rows_of s rs))
first s r rs b t = ap (λ c. map move_of (cond c (r ∷ rows_of s rs) (rows_of s rs))) t

pub length_moves : (s : ℕ) (rs : List Transition) → length (moves_of s rs) ≤ length rs
length_moves s rs = omega (arith, length-map (rows_of s rs) move_of, length-filter (λ r. r.from == s) rs, count_by-le-length (λ r. r.from == s) rs)

-- a row that passes the test
pub record Fine (n : ℕ) (r : Transition) : Type 0 where
  pub from : r.from < n
  pub to : r.to < n
  pub motion : r.motion ≤ 24

pub fine_rows : (n : ℕ) (rs : List Transition) → ok_rows n rs ≡ true → AllByRecursion (Fine n) rs
fine_rows n [] e = tt
fine_rows n (r ∷ rs) e =
    let h = and_parts (ok_row n r) (ok_rows n rs) e in
    let f = and_parts (nat_lt r.from n) (nat_lt r.to n && nat_le r.motion 24) h.0 in
    let k = and_parts (nat_lt r.to n) (nat_le r.motion 24) f.1 in
    (record { from = ltb-true _ _ f.0; to = ltb-true _ _ k.0; motion = leb-true _ _ k.1 }, fine_rows n rs h.1)

-- each move of a state is by a known motion to a state that exists
bounded : (n s a t : ℕ) (rs : List Transition) → AllByRecursion (Fine n) rs → HasMove (moves_of s rs) a t → (a ≤ 24) × (t < n)
bounded n s a t [] f h = absurd h
bounded n s a t (r ∷ rs) f h = go (r.from == s) (bounded n s a t rs f.1) h
  where
    one : ((r.motion ≡ a) × (r.to ≡ t)) ⊎ HasMove (moves_of s rs) a t → (HasMove (moves_of s rs) a t → (a ≤ 24) × (t < n)) → (a ≤ 24) × (t < n)
    one (inl e) rest = (omega (arith, e.0, f.0.motion), omega (arith, e.1, f.0.to))
    one (inr h) rest = rest h

    go : (b : Bool) → (HasMove (moves_of s rs) a t → (a ≤ 24) × (t < n)) → HasMove (map move_of (cond b (r ∷ rows_of s rs) (rows_of s rs))) a t → (a ≤ 24) × (t < n)
    go true rest h = one h rest
    go false rest h = rest h

-- a state that does not exist has no moves
pub no_moves : (n s : ℕ) (rs : List Transition) → n ≤ s → AllByRecursion (Fine n) rs → moves_of s rs ≡ []
no_moves n s [] h f = refl
no_moves n s (r ∷ rs) h f =
    let below : r.from < n = f.0.from in
    first s r rs false (ne_eqb r.from s (omega arith)) ∙ no_moves n s rs h f.1

-- what vetting has tested
pub record Valid (n : ℕ) (rs : List Transition) : Type 0 where
  pub some : 1 ≤ n
  pub few : n ≤ 64
  pub short : length rs ≤ 255
  pub fine : AllByRecursion (Fine n) rs

-- a table that passes every test is so
pub from_vetted : (n : ℕ) (rs : List Transition) → vetted n rs ≡ true → Valid n rs
from_vetted n rs e =
    let h = and_parts (ok_states n) (nat_le (length rs) 255 && ok_rows n rs) e in
    let s = and_parts (nat_le 1 n) (nat_le n 64) h.0 in
    let k = and_parts (nat_le (length rs) 255) (ok_rows n rs) h.1 in
    record { some = leb-true _ _ s.0; few = leb-true _ _ s.1; short = leb-true _ _ k.0; fine = fine_rows n rs k.1 }

-- a vetted table keeps it
pub passed : (t : RowTable) → Valid t.states (contents t).rows
passed t = from_vetted t.states (contents t).rows t.ok

-- the process that it means keeps the limits
pub table_limits : (n : ℕ) (rs : List Transition) → vetted n rs ≡ true → Limits (table_meaning n rs)
table_limits n rs e =
    let v = from_vetted n rs e in
    record {
      some_state = v.some;
      few_states = v.few;
      known_motions = λ s a t h. (bounded n s a t rs v.fine h).0;
      targets_inside = λ s a t h. (bounded n s a t rs v.fine h).1;
      short_lists = λ s. omega (arith, v.short, length_moves s rs);
      none_beyond = λ s k. no_moves n s rs k v.fine;
    }

-- acceptance says that every test is passed
pub accepted : (n : ℕ) (rs : List Transition) → verdict n rs ≡ Ok tt → vetted n rs ≡ true
accepted n rs e = all (ok_states n) (nat_le (length rs) 255) (ok_rows n rs) e
  where
    all : (a b c : Bool) → unless a 31 (unless b 32 (unless c 33 (Ok tt))) ≡ Ok tt → (a && (b && c)) ≡ true
    all true true true e = refl
    all true true false e = cc
    all true false c e = cc
    all false b c e = cc

-- one row more, as a loop goes over the rows
module _ (rs : List Transition) (i s : ℕ) (d : Transition) (within : i < length rs) where
  pub moves_yes : (get_or rs i d).from ≡ s → moves_of s (drop i rs) ≡ move_of (slice_index_or rs i d) ∷ moves_of s (drop (i + 1) rs)
  moves_yes t = at_drop_more (moves_of s) rs i d within ∙ first s (slice_index_or rs i d) (drop (i + 1) rs) true (eq-eqb _ _ t)

  pub moves_no : ((get_or rs i d).from ≢ s) → moves_of s (drop i rs) ≡ moves_of s (drop (i + 1) rs)
  moves_no t = at_drop_more (moves_of s) rs i d within ∙ first s (slice_index_or rs i d) (drop (i + 1) rs) false (ne_eqb _ _ t)

-- the same, as the test goes over them
pub ok_more : (n : ℕ) (rs : List Transition) (i : ℕ) (d : Transition) (b : Bool) → i < length rs → b ≡ ok_row n (slice_index_or rs i d) → (b && ok_rows n (drop (i + 1) rs)) ≡ ok_rows n (drop i rs)
ok_more n rs i d b within e = ap (λ c. c && ok_rows n (drop (i + 1) rs)) e ∙ sym (at_drop_more (ok_rows n) rs i d within)

-- the same, as they are copied
pub copied_more : (xs ys : List Transition) (i : ℕ) (d : Transition) → i < length xs → i < length ys → take i xs ≡ take i ys → take (i + 1) (slice_set xs i (slice_index_or ys i d)) ≡ take (i + 1) ys
copied_more xs ys i d h k e = take_more_set xs i (slice_index_or ys i d) h ∙ ap (λ zs. zs ++ slice_index_or ys i d ∷ []) e ∙ sym (take_more ys i d k)
