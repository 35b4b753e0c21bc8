use Rattle.comparison.proofs.admissions.vet_good.Goals as goal

pub returns-in-Ok : goal.returns-in-Ok
returns-in-Ok c = let h = rw c.in-Ok.is at c.in_ok-vet_next.ensures in (h.0, h.1, (h.2, h.3))
