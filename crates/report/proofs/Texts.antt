-- The line of motions, grouped to the right.
use Rattle.std.proofs.Common.{◌≡◌, ℕ, List, ◌++◌, codes}
use Rattle.std.specs.List.{flat_map}
use Rattle.std.proofs.lemmas.List.{append_assoc}
use Rattle.report.specs.Lines.{spaced, beyond_text}

regroup : (a b c d e : List ℕ) → ((a ++ (b ++ c)) ++ d) ++ e ≡ a ++ (b ++ (c ++ (d ++ e)))
regroup a b c d e = simp append_assoc

pub beyond_grouped : (name motions : List ℕ) → beyond_text name motions ≡ codes "(plan " ++ (name ++ (codes ")\n(beyond" ++ (flat_map spaced motions ++ codes ")\n")))
beyond_grouped name motions = regroup (codes "(plan ") name (codes ")\n(beyond") (flat_map spaced motions) (codes ")\n")
