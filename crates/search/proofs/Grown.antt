-- Rows added to those listed, on and on.
use Rattle.std.proofs.Common.{take, sym, ap, ◌∙◌, arith, take-take}
use Rattle.search.specs.Listed.{Grows}
use Rattle.search.specs.declared.listing.Listed.{Listed}

pub grows_on : (a b c : Listed) → Grows a b → Grows b c → Grows a c
grows_on a b c A B =
    record {
      same_reference = cc;
      same_length = cc;
      more = omega arith;
      same_rows =
          sym (take-take a.count b.count c.rows.now A.more) ∙ ap (take a.count) B.same_rows
          ∙ take-take a.count b.count b.rows.now A.more ∙ A.same_rows;
    }
