-- The rows listed in the caller's list.
use Rattle.std.specs.Prelude.{◌≡◌, ℕ, ◌≤◌, min, List, length, take}
use Rattle.certificate.specs.declared.Row.{Row}
use Rattle.search.specs.declared.listing.Listed.{Listed}

-- the rows listed
abbrev pub listed : Listed → List Row
listed l = take l.count l.rows.now

-- how many rows there is room for
abbrev pub room : Listed → ℕ
room l = min (length l.rows.now) 1024

-- rows may be added, in the same list; those listed before stand as they stood
pub record Grows (old new : Listed) : Type 0 where
  pub same_reference : new.rows.ghost_name ≡ old.rows.ghost_name
  pub same_length : length new.rows.now ≡ length old.rows.now
  pub more : old.count ≤ new.count
  pub same_rows : take old.count new.rows.now ≡ listed old
