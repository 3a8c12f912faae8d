-- The faults: each with its number, the layer that refuses, and the node that it names, or 0 where it names none.
use Rattle.std.specs.Prelude.{ℕ}
use Rattle.base.specs.declared.fault.Fault.{Fault}
use Rattle.base.specs.declared.fault.Fault.TheVariants.{BadHeader, BadSizes, StoresTooSmall, BadRecord, BadLink, NoChild, PathFull, AtRoot, NodesFull, EntriesFull, TextFull, Malformed, Overfull}

abbrev pub number : Fault → ℕ
number BadHeader = 1
number BadSizes = 2
number StoresTooSmall = 3
number (BadRecord n) = 4
number (BadLink n) = 5
number (NoChild n) = 6
number (PathFull n) = 7
number (AtRoot n) = 8
number (NodesFull n) = 9
number (EntriesFull n) = 10
number (TextFull n) = 11
number Malformed = 12
number Overfull = 13

abbrev pub layer : Fault → ℕ
layer BadHeader = 2
layer BadSizes = 2
layer StoresTooSmall = 2
layer (BadRecord n) = 2
layer (BadLink n) = 2
layer (NoChild n) = 3
layer (PathFull n) = 3
layer (AtRoot n) = 3
layer (NodesFull n) = 2
layer (EntriesFull n) = 2
layer (TextFull n) = 2
layer Malformed = 1
layer Overfull = 1

abbrev pub node : Fault → ℕ
node BadHeader = 0
node BadSizes = 0
node StoresTooSmall = 0
node (BadRecord n) = n
node (BadLink n) = n
node (NoChild n) = n
node (PathFull n) = n
node (AtRoot n) = n
node (NodesFull n) = n
node (EntriesFull n) = n
node (TextFull n) = n
node Malformed = 0
node Overfull = 0
