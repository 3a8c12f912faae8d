-- The header of a file, and its sections.
use Rattle.std.specs.Prelude.{◌≡◌, ℕ, ◌+◌, ◌*◌, ◌≤◌, List, length}
use Rattle.tree.specs.Heap.{cut}
use Rattle.file.specs.Format.{word, words}

-- The eight words of the header: version, root, then count and offset of nodes, entries and text.
abbrev pub version : List ℕ → ℕ
version file = word file 0

abbrev pub root : List ℕ → ℕ
root file = word file 4

abbrev pub node_count : List ℕ → ℕ
node_count file = word file 8

abbrev pub node_offset : List ℕ → ℕ
node_offset file = word file 12

abbrev pub entry_count : List ℕ → ℕ
entry_count file = word file 16

abbrev pub entry_offset : List ℕ → ℕ
entry_offset file = word file 20

abbrev pub text_count : List ℕ → ℕ
text_count file = word file 24

abbrev pub text_offset : List ℕ → ℕ
text_offset file = word file 28

-- The file has a header, of the one version there is.
abbrev pub Versioned : List ℕ → Type 0
Versioned file = (32 ≤ length file) × (version file ≡ 1)

-- The counts keep to the limits, and the sections follow the header and each other, up to the file's end.
pub record Sized (file : List ℕ) : Type 0 where
  pub some_node : 1 ≤ node_count file
  pub few_nodes : node_count file ≤ 4096
  pub few_entries : entry_count file ≤ 16384
  pub little_text : text_count file ≤ 65536
  pub nodes_first : node_offset file ≡ 32
  pub entries_next : entry_offset file ≡ 32 + 20 * node_count file
  pub text_last : text_offset file ≡ 32 + 20 * node_count file + 4 * entry_count file
  pub whole : length file ≡ 32 + 20 * node_count file + 4 * entry_count file + text_count file

-- A file as it is laid out: the root's number, how many nodes there are, the bytes of their records, the entries and
-- the text.
pub record Layout : Type 0 where
  pub top : ℕ
  pub count : ℕ
  pub rows : List ℕ
  pub entries : List ℕ
  pub text : List ℕ

abbrev pub layout : List ℕ → Layout
layout file =
    record {
      top = root file;
      count = node_count file;
      rows = cut file (node_offset file) (20 * node_count file);
      entries = words (cut file (entry_offset file) (4 * entry_count file)) 0 (entry_count file);
      text = cut file (text_offset file) (text_count file);
    }
