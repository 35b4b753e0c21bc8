-- How a motion is shown.
use Rattle.std.specs.Prelude.{ℕ, List, codes, unwrap_or}
use Rattle.motions.specs.Naming.{name_of}
use Rattle.motions.specs.declared.shown.Named.{Named}

-- by its name, and as unknown where it has none
abbrev pub shown : Named → List ℕ
shown n = unwrap_or (name_of n.motion) (codes "unknown")
