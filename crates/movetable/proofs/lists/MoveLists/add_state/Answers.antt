use Rattle.std.proofs.Common.{[], ◌∷◌, ◌++◌, ap, ◌∙◌, rules}
use Rattle.movetable.proofs.Laying.{lists_more}
use Rattle.movetable.proofs.lists.MoveLists.add_state.Goals as goal

pub returns : goal.returns
returns g c =
    let t = c.self.inside in
    lists_more t.starts t.moves t.states (search rules) ∙ ap (λ ls. ls ++ [] ∷ []) c.self.view_is
