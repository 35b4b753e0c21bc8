-- How lists of moves change as they are laid out.
use Rattle.std.proofs.Common.{◌≡◌, ℕ, zero, suc, ◌+◌, ◌-◌, ◌<◌, ◌≤◌, List, [], ◌∷◌, ◌++◌, map, length, get_or, take, drop, set, sum_by, sym, refl, ap, ap₂, ◌∙◌, arith, add-one}
use Rattle.std.proofs.Math.Nat.{sub_self}
use Rattle.std.specs.List.{between, range_with_len}
use Rattle.std.proofs.lemmas.List.{same_lists, take-set-le, get_or-set_same, get_or-set_other, get_or_past, length-set}
use Rattle.std.proofs.lemmas.List.Edits.{length-between, between_more}
use Rattle.std.proofs.lemmas.List.FromFn.{length-map-range_with_len, get_or-map-range_with_len, map-range_with_len_more, sum_by-map-range_with_len_more}
use Rattle.std.proofs.lemmas.Grind.{get_or-set_at}
use Rattle.std.proofs.lemmas.Slice.{between_is}
use Rattle.process.specs.declared.moves.Move.{Move}
use Rattle.movetable.specs.Laid.{list_at, lists, Laid}
use Rattle.movetable.specs.Lists.{moves_at, pushed}

-- two rows of values that agree below n
same_below : {X : Type 0} (f g : ℕ → X) (n : ℕ) → ((s : ℕ) → s < n → f s ≡ g s) → map f (range_with_len 0 n) ≡ map g (range_with_len 0 n)
same_below f g n h =
    same_lists _ _ (length-map-range_with_len f 0 n ∙ sym (length-map-range_with_len g 0 n))
    (λ k d l. let below : k < n = omega (arith, length-map-range_with_len f 0 n) in
    get_or-map-range_with_len f 0 n k k d below (omega arith) ∙ h k below ∙ sym (get_or-map-range_with_len g 0 n k k d below (omega arith)))

-- as many states as lists
pub length_lists : (starts : List ℕ) (ms : List Move) (n : ℕ) → length (lists starts ms n) ≡ n
length_lists starts ms n = length-map-range_with_len (list_at starts ms) 0 n

-- a state more, without moves
pub lists_more : (starts : List ℕ) (ms : List Move) (n : ℕ) → n + 1 < length starts
    → lists (set starts (n + 1) (get_or starts n 0)) ms (n + 1) ≡ lists starts ms n ++ [] ∷ []
lists_more starts ms n h =
    map-range_with_len_more (list_at to ms) 0 n n (omega arith)
    ∙ ap₂ (λ ls l. ls ++ l ∷ []) (same_below _ _ n (λ s l. ap₂ (λ i j. between i j ms) (kept s (omega arith)) (kept (s + 1) (omega arith)))) last
  where
    end : ℕ
    end = get_or starts n 0

    to : List ℕ
    to = set starts (n + 1) end

    kept : (s : ℕ) → s ≤ n → get_or to s 0 ≡ get_or starts s 0
    kept s l = get_or-set_other starts (n + 1) s end 0 (λ e. omega arith)

    last : list_at to ms n ≡ []
    last = ap₂ (λ i j. between i j ms) (kept n (omega arith)) (get_or-set_same starts (n + 1) end 0 h) ∙ ap (λ k. take k (drop end ms)) (sub_self end)

pub pushed_last : (m : Move) (ls : List (List Move)) (ms : List Move) → pushed m (ls ++ ms ∷ []) ≡ ls ++ (ms ++ m ∷ []) ∷ []
pushed_last m [] ms = refl
pushed_last m (l ∷ []) ms = refl
pushed_last m (l ∷ k ∷ ls) ms = ap (λ xs. l ∷ xs) (pushed_last m (k ∷ ls) ms)

-- moves that are laid out
module _ (room n : ℕ) (starts : List ℕ) (ms : List Move) (ls : List (List Move)) (laid : Laid room n starts) (full : length ms ≡ room) (are : lists starts ms n ≡ ls) where
  -- those of a state stand within the room
  pub at_place : (s : ℕ) → s < n → between (get_or starts s 0) (get_or starts (s + 1) 0) ms ≡ moves_at ls s
  at_place s l = sym (get_or-map-range_with_len (list_at starts ms) 0 n s s [] l (omega arith)) ∙ ap (λ xs. moves_at xs s) are

  pub end_within : (s : ℕ) → s < n → get_or starts (s + 1) 0 ≤ room
  end_within s l = omega (arith, laid.rising (s + 1) n (omega arith) (omega arith), laid.within)

  pub none_past : (s : ℕ) → n ≤ s → [] ≡ moves_at ls s
  none_past s l = sym (get_or_past ls s [] (omega (arith, ap length are, length_lists starts ms n)))

  -- the lists go up to the last start
  total_is : (k : ℕ) → k ≤ n → sum_by length (lists starts ms k) ≡ get_or starts k 0
  total_is zero l = sym laid.first
  total_is (suc k) l =
      let e : get_or starts (k + 1) 0 ≡ get_or starts (suc k) 0 = ap (λ j. get_or starts j 0) (add-one k) in
      let more = sum_by-map-range_with_len_more length (list_at starts ms) 0 k k (omega arith) in
      let here = length-between ms (get_or starts k 0) (get_or starts (k + 1) 0) (omega (arith, end_within k (omega arith))) in
      let up = laid.rising k (k + 1) (omega arith) (omega arith) in
      let below = total_is k (omega arith) in
      ap (λ j. sum_by length (lists starts ms j)) (sym (add-one k)) ∙ omega arith

  -- there is room behind the end where the lists leave room
  pub room_left : sum_by length ls < room → get_or starts n 0 < room
  room_left h = omega (arith, total_is n (omega arith), ap (sum_by length) are)

-- a move more in the last list
module _ (starts : List ℕ) (ms : List Move) (n : ℕ) (m : Move) (some : 0 < n) (h : n < length starts) (space : get_or starts n 0 < length ms)
    (rising : (s t : ℕ) → s ≤ t → t ≤ n → get_or starts s 0 ≤ get_or starts t 0) where
  abbrev end : ℕ
  end = get_or starts n 0

  abbrev to : List ℕ
  to = set starts n (end + 1)

  abbrev now : List Move
  now = set ms end m

  kept : (s : ℕ) → s < n → get_or to s 0 ≡ get_or starts s 0
  kept s l = get_or-set_other starts n s (end + 1) 0 (λ e. omega arith)

  -- a part that ends before the new move
  untouched : (i j : ℕ) → j ≤ end → between i j now ≡ between i j ms
  untouched i j l = between_is now i j ∙ ap (drop i) (take-set-le j ms end m l) ∙ sym (between_is ms i j)

  before : (s : ℕ) → s + 1 < n → list_at to now s ≡ list_at starts ms s
  before s l =
      ap₂ (λ i j. between i j now) (kept s (omega arith)) (kept (s + 1) (omega arith))
      ∙ untouched (get_or starts s 0) (get_or starts (s + 1) 0) (rising (s + 1) n (omega arith) (omega arith))

  last : (s : ℕ) → s + 1 ≡ n → list_at to now s ≡ list_at starts ms s ++ m ∷ []
  last s e =
      ap₂ (λ i j. between i j now) (kept s (omega arith)) (ap (λ k. get_or to k 0) e ∙ get_or-set_same starts n (end + 1) 0 h)
      ∙ between_more now (get_or starts s 0) end m (rising s n (omega arith) (omega arith)) (omega (arith, length-set ms end m))
      ∙ ap₂ (λ xs x. xs ++ x ∷ []) (untouched (get_or starts s 0) end (omega arith) ∙ ap (λ k. between (get_or starts s 0) (get_or starts k 0) ms) (sym e)) (get_or-set_same ms end m m space)

  at_last : (s : ℕ) → s + 1 ≡ n → lists to now n ≡ pushed m (lists starts ms n)
  at_last s e =
      ap (lists to now) (sym e)
      ∙ map-range_with_len_more (list_at to now) 0 s s (omega arith)
      ∙ ap₂ (λ ls l. ls ++ l ∷ []) (same_below _ _ s (λ t l. before t (omega arith))) (last s e)
      ∙ sym (pushed_last m (lists starts ms s) (list_at starts ms s))
      ∙ ap (pushed m) (sym (map-range_with_len_more (list_at starts ms) 0 s s (omega arith)) ∙ ap (lists starts ms) e)

  pub lists_pushed : lists to now n ≡ pushed m (lists starts ms n)
  lists_pushed = at_last (n - 1) (omega arith)

-- the starts stay laid out
pub laid_pushed : (room n : ℕ) (starts : List ℕ) → Laid room n starts → 0 < n → n < length starts → get_or starts n 0 < room → Laid room n (set starts n (get_or starts n 0 + 1))
laid_pushed room n starts laid some h space =
    record {
      small = laid.small;
      few = laid.few;
      first = grind (arith, get_or-set_other, laid.first);
      rising = λ s t l k. grind (arith, get_or-set_at, get_or-set_other, laid.rising s t l k, laid.rising s n);
      within = grind (arith, get_or-set_at);
    }
