-- The lists of a process's moves, and the process that they make.
use Rattle.std.proofs.Common.{◌≡◌, ℕ, zero, suc, ◌+◌, ◌*◌, ◌<◌, ◌≤◌, ◌⊎◌, List, [], ◌∷◌, ◌++◌, map, length, sum_by, add-one, refl, sym, ap, ◌∙◌, subst, inl, inr, arith, length-append, append_assoc, append-nil}
use Rattle.std.proofs.lemmas.Bool.{cases_lt}
use Rattle.std.proofs.lemmas.List.{get_or_past}
use Rattle.std.proofs.lemmas.List.FromFn.{length-map-range_with_len, get_or-map-range_with_len, map-range_with_len_more, take-map-range_with_len, sum_by-map-range_with_len_more}
use Rattle.std.proofs.lemmas.List.Sums.{sum_by-take-le, sum_by-cons, sum_by_push}
use Rattle.process.specs.Meaning.{Proc, Limits}
use Rattle.process.specs.declared.moves.Move.{Move}
use Rattle.movetable.specs.Lists.{lists_below, moves_at, moves_in_all, proc_of, pushed}
use Rattle.movetable.proofs.Laying.{pushed_last}

module _ (p : Proc) where
  pub length_below : (n : ℕ) → length (lists_below p n) ≡ n
  length_below n = length-map-range_with_len p.moves 0 n

  -- all moves, state by state
  pub by_state : (xs : List ℕ) → sum_by (λ s. length (p.moves s)) xs ≡ sum_by length (map p.moves xs)
  by_state [] = refl
  by_state (s ∷ xs) = omega (arith, sum_by-cons (λ t. length (p.moves t)) s xs, sum_by-cons length (p.moves s) (map p.moves xs), by_state xs)

  -- a state has at most 255 of them
  pub few_below : Limits p → (n : ℕ) → sum_by length (lists_below p n) ≤ 255 * n
  few_below L zero = omega arith
  few_below L (suc n) =
      let more = sum_by-map-range_with_len_more length p.moves 0 n n (omega arith) in
      let e = ap (λ k. sum_by length (lists_below p k)) (add-one n) in
      omega (arith, few_below L n, L.short_lists n)

  -- some of the states have no more moves than all
  within_all : (n : ℕ) → n ≤ p.states → sum_by length (lists_below p n) ≤ moves_in_all p
  within_all n l = omega (arith, sum_by-take-le length (lists_below p p.states) n, ap (sum_by length) (take-map-range_with_len p.moves 0 p.states n l))

  -- as the moves of state n are added: ys are there, and these are left
  module _ (n : ℕ) (ls : List (List Move)) (ys left : List Move) (are : ls ≡ lists_below p n ++ ys ∷ []) (all : ys ++ left ≡ p.moves n) where
    pub some_state : 0 < length ls
    some_state = omega (arith, ap length are, length-append (lists_below p n) (ys ∷ []))

    pub room_for : (room : ℕ) (m : Move) (rest : List Move) → moves_in_all p ≤ room → n < p.states → left ≡ m ∷ rest → sum_by length ls < room
    room_for room m rest h l e = omega (
      arith,
      ap (sum_by length) are,
      sum_by_push length (lists_below p n) ys,
      sum_by-map-range_with_len_more length p.moves 0 n n (omega arith),
      within_all (n + 1) (omega arith),
      length-append ys left,
      ap length all,
      ap length e,
    )

    pub more_pushed : (m : Move) (now : List (List Move)) → now ≡ pushed m ls → now ≡ lists_below p n ++ (ys ++ m ∷ []) ∷ []
    more_pushed m now e = e ∙ ap (pushed m) are ∙ pushed_last m (lists_below p n) ys

    pub fewer_left : (m : Move) (rest : List Move) → left ≡ m ∷ rest → (ys ++ m ∷ []) ++ rest ≡ p.moves n
    fewer_left m rest e = append_assoc ys (m ∷ []) rest ∙ ap (λ ms. ys ++ ms) (sym e) ∙ all

    pub none_left : left ≡ [] → ls ≡ lists_below p (n + 1)
    none_left e =
        are
        ∙ ap (λ ms. lists_below p n ++ ms ∷ []) (sym (append-nil ys) ∙ ap (λ ms. ys ++ ms) (sym e) ∙ all)
        ∙ sym (map-range_with_len_more p.moves 0 n n (omega arith))

  -- the lists of all states make the process itself
  module _ (L : Limits p) (n : ℕ) (ls : List (List Move)) (are : ls ≡ lists_below p n) (whole : n ≡ p.states) where
    pub count_is : length ls ≡ p.states
    count_is = omega (arith, ap length are, length_below n)

    moves_are : (s : ℕ) → (s < n) ⊎ (n ≤ s) → moves_at ls s ≡ p.moves s
    moves_are s (inl l) = ap (λ xs. moves_at xs s) are ∙ get_or-map-range_with_len p.moves 0 n s s [] l (omega arith)
    moves_are s (inr l) = get_or_past ls s [] (omega (arith, count_is)) ∙ sym (L.none_beyond s (omega arith))

    pub same_process : proc_of ls ≡ p
    same_process = λ i. record { states = count_is i; moves = λ s. moves_are s (cases_lt s n) i }

    pub same_limits : Limits (proc_of ls)
    same_limits = subst Limits (sym same_process) L
