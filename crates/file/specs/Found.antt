-- The layout that sections show, and what is found of its records and links.
use Rattle.std.specs.Prelude.{ℕ, ◌<◌, List, map, length, Option}
use Rattle.tree.specs.Heap.{Held, look}
use Rattle.tree.specs.Laws.{parents}
use Rattle.file.specs.declared.sections.Sections.{Sections}
use Rattle.file.specs.Arrays.{bytes_of}
use Rattle.file.specs.Format.{word}
use Rattle.file.specs.Layout.{Layout}
use Rattle.file.specs.Lawful.{LawfulRecord, LinksRow, Contents}
use Rattle.file.specs.Tables.{Tallies, Lowest}

-- The layout that sections show.
abbrev pub laid : Sections → Layout
laid s =
    record {
      top = s.root;
      count = length s.nodes.now;
      rows = bytes_of s.nodes.now;
      entries = map (λ entry. word entry 0) s.entries.now;
      text = s.text.now;
    }

-- The first n records are lawful, and all are.
abbrev pub RecordsTo : Layout → ℕ → Type 0
RecordsTo l n = (x : ℕ) → x < n → LawfulRecord l x

abbrev pub AllRecords : Layout → Type 0
AllRecords l = RecordsTo l l.count

-- Each child of node x has a lower number, and may stand where it stands.
abbrev pub LinksAt : Held → ℕ → Type 0
LinksAt h x = LinksRow (look h) x (look h x)

-- The table counts the parents of each of n nodes, and the lowest node with a wrong link is known.
abbrev pub CountsParents : Held → ℕ → List ℕ → Option ℕ → Type 0
CountsParents h n table wrong = Tallies table (parents (look h) n) × Lowest (LinksAt h) n wrong

abbrev pub LinksCounted : Layout → List ℕ → Option ℕ → Type 0
LinksCounted l table wrong = (h : Held) → Contents l h → CountsParents h l.count table wrong
