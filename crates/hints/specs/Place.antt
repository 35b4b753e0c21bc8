-- Where a place of a text stands. A place past the end of the text is taken for its end.
use Rattle.std.specs.Prelude.{ℕ, ◌+◌, ◌-◌, max, Bool, not, List, length, take, drop, count_by, ◌==◌}
use Rattle.std.specs.List.{prefix_len, suffix_len}
use Rattle.lexer.specs.Bytes.{alnum}
use Rattle.hints.specs.declared.place.Position.{Position}
use Rattle.hints.specs.declared.place.Spot.{Spot}

-- what stands before the place
abbrev pub before : Spot → List ℕ
before s = take s.place s.text.now

-- what stands from the place on
abbrev pub after : Spot → List ℕ
after s = drop s.place s.text.now

abbrev pub is_feed : ℕ → Bool
is_feed b = b == 10

abbrev pub not_feed : ℕ → Bool
not_feed b = not (is_feed b)

-- the line: 1, and 1 more for every line feed before the place; the column: 1, and 1 more for every byte before it in its line
abbrev pub position_of : Spot → Position
position_of s = record { line = 1 + count_by is_feed (before s); column = 1 + suffix_len not_feed (before s) }

-- the line in which the place stands, without its line feed
abbrev pub line_around : Spot → List ℕ
line_around s =
    let back = suffix_len not_feed (before s) in take (back + prefix_len not_feed (after s)) (drop (length (before s) - back) s.text.now)

-- the length of the token that begins at the place: a word's letters, and 1 for anything else
abbrev pub token_len : Spot → ℕ
token_len s = max (prefix_len alnum (after s)) 1
