use Rattle.std.proofs.Common.{length, sym, ap, ◌∙◌}
use Rattle.movetable.proofs.Laying.{length_lists}
use Rattle.movetable.proofs.lists.MoveLists.states.Goals as goal

pub returns : goal.returns
returns g c =
    let t = c.self.inside in
    sym (length_lists t.starts t.moves t.states) ∙ ap length c.self.view_is
