-- The rows that are left on a way back.
use Rattle.std.specs.Prelude.{List}
use Rattle.certificate.specs.declared.Row.{Row}
use Rattle.search.specs.Back.{way_back}
use Rattle.search.specs.declared.shown.WayBack.{WayBack}

abbrev pub left_of : WayBack → List Row
left_of w = way_back w.at w.rows.now w.at
