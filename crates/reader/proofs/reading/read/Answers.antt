use Rattle.std.proofs.Common.{length, refl}
use Rattle.reader.proofs.Refusals.{stops}
use Rattle.reader.proofs.Texts.{spells, passes, leaves}
use Rattle.reader.proofs.reading.read.Goals as goal

pub returns : goal.returns
returns c =
    let is = c.read_and_clear.ensures in
    let text = c.args.text in
    let cap = length c.args.records.now in
    record {
      is = is;
      leaves = leaves text cap _ _ _ refl is;
      spells = spells text cap _ _ _ refl is;
      vets = passes text cap _ _ _ refl is;
      stops = stops text cap _ _ _ refl is;
    }
