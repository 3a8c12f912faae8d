-- What a host says of one node, in a byte.
use Rattle.std.specs.Prelude.{ℕ, ◌%◌, ◌^◌, true, false, Option, option_map, ◌==◌}
use Rattle.std.specs.Int.{bit_at}
use Rattle.std.specs.List.{slice_get}
use Rattle.host.specs.declared.value_type.ValueType.TheVariants.{Undetermined}
use Rattle.host.specs.declared.row.Row.{Row}
use Rattle.host.specs.ValueType.{types}

-- The row that a byte spells: bit 7 says that the node has effects, bit 6 that it is a global name, and the bits
-- below are the number of its type. Where no type has that number, it spells none. (No section of ECMA-262: a format
-- of ours.)
abbrev pub row_of : ℕ → Option Row
row_of byte = option_map (λ k. record { effects = bit_at byte 7 == 1; global = bit_at byte 6 == 1; value_type = k }) (slice_get types (byte % 2 ^ 6))

-- What is said where nothing is known. (No section.)
abbrev pub silent_row : Row
silent_row = record { effects = true; global = false; value_type = Undetermined }
