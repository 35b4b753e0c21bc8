use Rattle.std.proofs.Common.{◌≡◌, [], ◌∷◌, ◌++◌, append_assoc, append-nil, rules}
use Rattle.cases.proofs.numbers.parsed.Goals as goal

pub loop-word-preserved : goal.loop-word-preserved
loop-word-preserved g c = λ ns h.
    let e : c.push.new.self.items ≡ c.loop-word.all.items ++ c.into.result ∷ [] = search rules in
    let s = c.in-Some.ensures.steps in
    rw (e, append_assoc)
    (c.loop-word.invariant (c.into.result ∷ ns)
    (c.in-Some.word.now, _, record { gap = s.0; is = s.1; some = s.2; blank = s.3; solid = s.4; parted = s.5 }, (c.in_ok-parse.field-0, c.in_ok-parse.ensures.value, c.into.ensures), h))

pub returns : goal.returns
returns g c = rw append-nil at (c.loop-word.invariant [] c.in-None.ensures.steps.1)
