-- The number of each refusal. Assumes nothing.
use Rattle.std.specs.Prelude.{ℕ}
use Rattle.source.specs.declared.fault.Fault.{Fault}
use Rattle.source.specs.declared.fault.Fault.TheVariants.{SizeBelowTwo, TooManySlots, SizeAboveSlots, TooManyReaders, OtherSlots, OtherChannel, NotOpen, BatchAboveSize, GrowthAboveSlots, DrainAboveBuffer, TooManyLegs, OutOfNumbers, MisplacedOpening, UnknownMark, CutShort, OutputFull}

abbrev pub number_of : Fault → ℕ
number_of SizeBelowTwo = 1
number_of TooManySlots = 2
number_of SizeAboveSlots = 3
number_of TooManyReaders = 4
number_of OtherSlots = 5
number_of OtherChannel = 6
number_of NotOpen = 7
number_of BatchAboveSize = 8
number_of GrowthAboveSlots = 9
number_of DrainAboveBuffer = 10
number_of TooManyLegs = 11
number_of OutOfNumbers = 12
number_of MisplacedOpening = 13
number_of UnknownMark = 14
number_of CutShort = 15
number_of OutputFull = 16
