-- How much a lawful file holds.
use Rattle.std.proofs.Common.{◌≡◌, ℕ, ◌*◌, List, length, ap, ◌∙◌, arith}
use Rattle.tree.specs.Heap.{Held, cut}
use Rattle.tree.specs.Limits.{WithinLimits}
use Rattle.tree.proofs.Cuts.{length_cut}
use Rattle.file.specs.Layout.{layout, node_count, entry_count, text_count, entry_offset, text_offset}
use Rattle.file.specs.Lawful.{LawfulFile}
use Rattle.file.proofs.Contained.{how_many}
use Rattle.file.proofs.Words.{length_words}

-- The counts of a lawful file are those of what it holds.
module _ (file : List ℕ) (h : Held) (f : LawfulFile file h) where
  pub nodes_counted : length h.nodes ≡ node_count file
  nodes_counted = how_many (layout file) h f.contents

  pub entries_counted : length h.entries ≡ entry_count file
  entries_counted = ap length f.contents.listed ∙ length_words (cut file (entry_offset file) (4 * entry_count file)) 0 (entry_count file)

  pub text_counted : length h.text ≡ text_count file
  text_counted = ap length f.contents.texted ∙ length_cut file (text_offset file) (text_count file) (omega arith)

  -- And so they keep to the limits.
  pub limited : WithinLimits h
  limited = (omega (arith, nodes_counted, f.sized.few_nodes), omega (arith, entries_counted, f.sized.few_entries), omega (arith, text_counted, f.sized.little_text))
