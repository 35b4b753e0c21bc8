use Rattle.std.proofs.Common.{rules}
use Rattle.formtable.specs.Table.{contents}
use Rattle.formtable.proofs.Meanings.{judged, meant}
use Rattle.formtable.proofs.table.FormTable.vet.Goals as goal

pub returns-in_err-tested-clause-means : goal.returns-in_err-tested-clause-means
returns-in_err-tested-clause-means c = meant (contents c.new.result) c.new.result.passed

pub returns-in_err-tested-clause-judged : goal.returns-in_err-tested-clause-judged
returns-in_err-tested-clause-judged c = judged c.args.raw.now

pub returns-clause-means : goal.returns-clause-means
returns-clause-means c = meant _ (search rules)

pub returns-clause-judged : goal.returns-clause-judged
returns-clause-judged c = judged c.args.raw.now
