-- The number of each refusal. Every contract speaks of refusals by these numbers.
use Rattle.std.specs.Prelude.{ℕ}
use Rattle.coding.specs.declared.refusals.Refusal.{Refusal}
use Rattle.coding.specs.declared.refusals.Refusal.TheVariants.{TextTooLong, ForeignByte, BadNames, BadValues, NotSquare, LengthOutOfRange, SplitsOutOfRange, TooLittleRoom, NumberOutOfRange, DigitTooLarge, BeyondLength, RankTooLarge, ShareBooked, ShareNotBooked, ShareMissing}

abbrev pub number_of : Refusal → ℕ
number_of TextTooLong = 1
number_of ForeignByte = 2
number_of BadNames = 3
number_of BadValues = 4
number_of NotSquare = 5
number_of LengthOutOfRange = 6
number_of SplitsOutOfRange = 7
number_of TooLittleRoom = 8
number_of NumberOutOfRange = 9
number_of DigitTooLarge = 10
number_of BeyondLength = 11
number_of RankTooLarge = 12
number_of ShareBooked = 13
number_of ShareNotBooked = 14
number_of ShareMissing = 15
