use Rattle.std.proofs.Common.{rules}
use Rattle.reader.proofs.Whole.{told}
use Rattle.reader.proofs.reading.read_and_clear.Goals as goal

pub returns : goal.returns
returns c =
    told c.args.text c.args.records.now _ _ _ _ _ c.whole-read.ensures.reads c.whole-read.ensures.within c.whole-read.auto.records (search rules) c.fill_from.ensures
