use Rattle.std.proofs.Common.{rules, tests, refl, arith}
use Rattle.std.proofs.lemmas.Iterator.{YieldsList-from_range}
use Rattle.std.proofs.lemmas.Iterator.Search.{any_from_yields_List}
use Rattle.formtable.specs.Vet.{guards}
use Rattle.formtable.proofs.vet.guarded.Goals as goal

pub returns : goal.returns
returns c =
    any_from_yields_List (guards c.args.raw.now c.args.k c.args.j) _ _ _ c.any.ensures.ran
    (YieldsList-from_range 0 c.args.j c.args.j refl (omega arith))
    (λ x b q k. search (rules, tests))
