-- How much the memory for a payoff's stores has room for.
use Rattle.std.specs.Prelude.{min, vec_len}
use Rattle.store.specs.declared.stores.Counts.{Counts}
use Rattle.cases.specs.declared.memory.Memory.{Memory}

-- The most that a file may hold.
abbrev pub limits : Counts
limits = record { nodes = 4096; entries = 16384; text = 65536 }

abbrev pub none : Counts
none = record { nodes = 0; entries = 0; text = 0 }

-- These rooms, but none larger than any file needs.
abbrev pub within_limits : Counts → Counts
within_limits rooms = record { nodes = min rooms.nodes limits.nodes; entries = min rooms.entries limits.entries; text = min rooms.text limits.text }

abbrev pub rooms_in : Memory → Counts
rooms_in m = record { nodes = vec_len m.nodes; entries = vec_len m.entries; text = vec_len m.text }
