-- The numbers of a text's faults.
use Rattle.std.specs.Prelude.{ℕ}
use Rattle.lexer.specs.declared.fault.TextFault.{TextFault}
use Rattle.lexer.specs.declared.fault.TextFault.TheVariants.{TooLong, BadToken, Unexpected, NoMotion, NotBound, NotGuarded, TooManyForms, ListShort}

abbrev pub text_number : TextFault → ℕ
text_number TooLong = 11
text_number BadToken = 12
text_number Unexpected = 13
text_number NoMotion = 14
text_number NotBound = 15
text_number NotGuarded = 16
text_number TooManyForms = 17
text_number ListShort = 51
