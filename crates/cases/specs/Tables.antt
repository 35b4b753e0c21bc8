-- What a table of either kind means.
use Rattle.process.specs.Meaning.{Proc}
use Rattle.formtable.specs.Table.{meaning as forms_meaning}
use Rattle.rowtable.specs.Table.{meaning_of as rows_meaning}
use Rattle.cases.specs.declared.table.Table.{Table}
use Rattle.cases.specs.declared.table.Table.TheVariants.{Rows, Forms}

-- the process that the table inside means
abbrev pub meaning_of : Table → Proc
meaning_of (Rows t) = rows_meaning t
meaning_of (Forms t) = forms_meaning t
