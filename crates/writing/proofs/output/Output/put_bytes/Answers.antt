use Rattle.std.proofs.Common.{rules}
use Rattle.std.proofs.lemmas.Slice.{take-put_mid, drop-put_mid}
use Rattle.writing.proofs.output.Output.put_bytes.Goals as goal

pub returns : goal.returns
returns c = search (rules, take-put_mid, drop-put_mid)
