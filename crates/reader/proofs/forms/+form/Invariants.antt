use Rattle.std.proofs.Common.{◌-◌}
use Rattle.reader.proofs.forms.+form.Given as goal

abbrev pub decreases-form : goal.decreases-form
decreases-form l = 64 - l.place
