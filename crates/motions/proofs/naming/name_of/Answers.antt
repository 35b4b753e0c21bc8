use Rattle.std.proofs.Common.{◌≡◌, suc, sym, ap, ◌∙◌, arith}
use Rattle.std.proofs.lemmas.Grind.{common_steps}
use Rattle.std.proofs.lemmas.Option.{gets, slice_get-map}
use Rattle.std.specs.Option.{option_map}
use Rattle.std.specs.List.{slice_get}
use Rattle.motions.specs.Naming.{letters_of, name_of}
use Rattle.motions.proofs.Lookups.{name_suc, short_there}
use Rattle.motions.proofs.naming.name_of.Goals as goal

pub returns : goal.returns
returns c =
    let xs = c.table.result.now in
    let i = c.from.result in
    let mirrored : option_map (λ x. x.now) c.map.result ≡ option_map letters_of (slice_get xs i) = grind (arith, common_steps, gets) in
    let there = mirrored ∙ sym (slice_get-map letters_of xs i) ∙ ap (λ ws. slice_get ws i) c.table.ensures.is in
    let next : suc i ≡ c.args.motion = omega (arith, c.in_ok-place.ensures) in
    record {
      is = there ∙ sym (name_suc i) ∙ ap name_of next;
      short = short_there c.map.result i there;
    }
