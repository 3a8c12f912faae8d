-- How much the stores of a payoff may hold, however much room they have.
use Rattle.std.specs.Prelude.{◌≤◌, length}
use Rattle.tree.specs.Heap.{Held}

abbrev pub WithinLimits : Held → Type 0
WithinLimits h = (length h.nodes ≤ 4096) × (length h.entries ≤ 16384) × (length h.text ≤ 65536)
