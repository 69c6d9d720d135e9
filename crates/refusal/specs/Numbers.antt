-- The numbers of the refusals.
use Rattle.std.specs.Prelude.{ℕ}
use Rattle.refusal.specs.declared.reason.Refusal.{Refusal}
use Rattle.refusal.specs.declared.reason.Refusal.TheVariants.{OutOfLimits, NoRoot, OutOfRange, TableFull, WrongLength, Inconsistent, RowFails, BadLayout, OtherPrime, TooLarge, WrongCount, NotANumber, BufferTooShort}

abbrev pub number_of : Refusal → ℕ
number_of OutOfLimits = 1
number_of NoRoot = 2
number_of OutOfRange = 3
number_of TableFull = 4
number_of WrongLength = 5
number_of Inconsistent = 6
number_of RowFails = 7
number_of BadLayout = 8
number_of OtherPrime = 9
number_of TooLarge = 10
number_of WrongCount = 11
number_of NotANumber = 12
number_of BufferTooShort = 13
