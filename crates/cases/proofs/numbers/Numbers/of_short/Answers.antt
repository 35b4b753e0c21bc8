use Rattle.cases.proofs.numbers.Numbers.of_short.Goals as goal

pub returns : goal.returns
returns c = rw c.into_iter.ensures.rest c.in_ok-parsed.ensures
