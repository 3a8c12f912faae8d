-- Decoding a record.
use Rattle.std.specs.Prelude.{◌≡◌, ◌≢◌, Result, MatchResult}
use Rattle.tree.specs.declared.node.Node.{Node}
use Rattle.file.specs.declared.record.Record.{Record}
use Rattle.file.specs.declared.record.UnknownRecord.{UnknownRecord}
use Rattle.file.specs.Format.{record_of}

-- The result is the node of this record, or the record is that of no node.
abbrev pub Decodes : Record → Result Node UnknownRecord → Type 0
Decodes r result = MatchResult result (λ n. record_of n ≡ r) (λ e. (n : Node) → record_of n ≢ r)
