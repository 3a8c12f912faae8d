use Rattle.store.specs.Stores.{held_of}
use Rattle.deciding.proofs.ReadPieces.{ReadSoFar}
use Rattle.deciding.proofs.pieces.Pieces.with_arguments.Given as goal

abbrev pub invariant-loop-argument : goal.invariant-loop-argument
invariant-loop-argument l = ReadSoFar (held_of l.stores) l.arguments l.fn.self l.pieces l.argument-index
