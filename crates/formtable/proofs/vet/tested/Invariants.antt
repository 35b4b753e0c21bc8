use Rattle.formtable.specs.Vet.{bound, guarded}
use Rattle.formtable.proofs.vet.tested.Given as goal

abbrev pub ghost-each_go : goal.ghost-each_go
ghost-each_go a = bound a.raw.now

abbrev pub ghost-each_go-2 : goal.ghost-each_go-2
ghost-each_go-2 a = guarded a.raw.now
