-- The bytes of one character, the first of an array of four.
use Rattle.std.specs.Prelude.{ℕ, List, take}
use Rattle.text.specs.declared.encoded.Encoded.{Encoded}

abbrev pub bytes_of : Encoded → List ℕ
bytes_of e = take e.len e.bytes
