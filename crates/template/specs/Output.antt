-- Writing as far as there is room, and counting what is written: with an empty output the same walk measures.
use Rattle.std.specs.Prelude.{◌≡◌, ℕ, ◌+◌, ◌^◌, ◌<◌, ◌≤◌, List, ◌++◌, length, take, drop}
use Rattle.template.specs.declared.output.Output.{Output}

-- The piece goes behind what was written. It is counted, as far as there is a number, and written where it has room.
pub record Fills (old : Output) (piece : List ℕ) (new : Output) : Type 0 where
  pub same_reference : new.bytes.ghost_name ≡ old.bytes.ghost_name
  pub same_length : length new.bytes.now ≡ length old.bytes.now
  pub counted : old.len + length piece < 2 ^ 64 → new.len ≡ old.len + length piece
  pub uncounted : 2 ^ 64 ≤ old.len + length piece → 2 ^ 64 ≤ new.len + 1
  pub written : old.len + length piece < 2 ^ 64 → old.len + length piece ≤ length old.bytes.now → new.bytes.now ≡ take old.len old.bytes.now ++ piece ++ drop (old.len + length piece) old.bytes.now
