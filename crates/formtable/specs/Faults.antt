-- The numbers of a form table's faults.
use Rattle.std.specs.Prelude.{ℕ}
use Rattle.formtable.specs.declared.fault.FormFault.{FormFault}
use Rattle.formtable.specs.declared.fault.FormFault.TheVariants.{Length, Kind, Layout, Unbound, Unguarded}

-- by which number each fault is known
abbrev pub form_number : FormFault → ℕ
form_number Length = 21
form_number Kind = 22
form_number Layout = 23
form_number Unbound = 24
form_number Unguarded = 25
