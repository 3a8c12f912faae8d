-- The sections that are cut out of a file.
use Rattle.std.proofs.Common.{◌≡◌, ℕ, ◌-◌, ◌*◌, ◌/◌, List, map, length, sym, ap, ◌∙◌, subst, arith, take_all}
use Rattle.std.specs.Simd.{first_chunks}
use Rattle.tree.specs.Heap.{cut}
use Rattle.tree.proofs.Cuts.{length_cut}
use Rattle.file.specs.declared.header.Header.{Header}
use Rattle.file.specs.Arrays.{AllOfLength, bytes_of}
use Rattle.file.specs.Format.{word, words}
use Rattle.file.specs.Layout.{Sized, Layout, layout}
use Rattle.file.specs.Steps.{header_of, InLimits, InPlace}
use Rattle.file.proofs.Chunks.{chunks_of_length, bytes_of_chunks, words_of_chunks}

pub sized : (file : List ℕ) (h : Header) → h ≡ header_of file → InLimits h → InPlace h (length file) → Sized file
sized file h is limits place =
    let l = subst InLimits is limits in
    let p = subst (λ g. InPlace g (length file)) is place in
    record { some_node = l.0; few_nodes = l.1; few_entries = l.2; little_text = l.3; nodes_first = p.0; entries_next = p.1; text_last = p.2; whole = omega (arith, p.3) }

-- The layout that a header shows.
abbrev of_header : List ℕ → Header → Layout
of_header file h =
    record {
      top = h.root;
      count = h.nodes.count;
      rows = cut file h.nodes.offset (20 * h.nodes.count);
      entries = words (cut file h.entries.offset (4 * h.entries.count)) 0 h.entries.count;
      text = cut file h.text.offset h.text.count;
    }

-- The bytes of the nodes' section, and of that of the entries.
abbrev rows_of : List ℕ → Header → List ℕ
rows_of file h = cut file h.nodes.offset (h.entries.offset - h.nodes.offset)

abbrev entries_of : List ℕ → Header → List ℕ
entries_of file h = cut file h.entries.offset (h.text.offset - h.entries.offset)

module _ (file : List ℕ) (h : Header) (limits : InLimits h) (place : InPlace h (length file)) where
  rows_length : length (rows_of file h) ≡ 20 * h.nodes.count
  rows_length = length_cut file h.nodes.offset (h.entries.offset - h.nodes.offset) (omega arith) ∙ omega arith

  entries_length : length (entries_of file h) ≡ 4 * h.entries.count
  entries_length = length_cut file h.entries.offset (h.text.offset - h.entries.offset) (omega arith) ∙ omega arith

  nodes_counted : length (rows_of file h) / 20 ≡ h.nodes.count
  nodes_counted = omega (arith, rows_length)

  entries_counted : length (entries_of file h) / 4 ≡ h.entries.count
  entries_counted = omega (arith, entries_length)

  module _ (nodes : List (List ℕ)) (cut_nodes : nodes ≡ first_chunks 20 (length (rows_of file h) / 20) (rows_of file h)) (many : length nodes ≡ length (rows_of file h) / 20) where
    pub how_many_nodes : length nodes ≡ h.nodes.count
    how_many_nodes = many ∙ nodes_counted

    pub whole_records : AllOfLength 20 nodes
    whole_records = subst (AllOfLength 20) (sym cut_nodes) (chunks_of_length 20 (length (rows_of file h) / 20) (rows_of file h) (omega (arith, rows_length)))

    rows_same : bytes_of nodes ≡ cut file h.nodes.offset (20 * h.nodes.count)
    rows_same =
        let len : h.entries.offset - h.nodes.offset ≡ 20 * h.nodes.count = omega arith in
        ap bytes_of cut_nodes
        ∙ bytes_of_chunks 20 (length (rows_of file h) / 20) (rows_of file h)
        ∙ take_all (20 * (length (rows_of file h) / 20)) (rows_of file h) (omega (arith, rows_length))
        ∙ ap (cut file h.nodes.offset) len

    module _ (entries : List (List ℕ)) (cut_entries : entries ≡ first_chunks 4 (length (entries_of file h) / 4) (entries_of file h)) where
      entries_same : map (λ entry. word entry 0) entries ≡ words (cut file h.entries.offset (4 * h.entries.count)) 0 h.entries.count
      entries_same =
          let len : h.text.offset - h.entries.offset ≡ 4 * h.entries.count = omega arith in
          ap (map (λ entry. word entry 0)) cut_entries
          ∙ words_of_chunks (length (entries_of file h) / 4) (entries_of file h)
          ∙ ap (words (entries_of file h) 0) entries_counted
          ∙ ap (λ n. words (cut file h.entries.offset n) 0 h.entries.count) len

      text_same : cut file h.text.offset (length file - h.text.offset) ≡ cut file h.text.offset h.text.count
      text_same = let len : length file - h.text.offset ≡ h.text.count = omega arith in ap (cut file h.text.offset) len

      pub cut_as_laid : h ≡ header_of file → (l : Layout)
          → l ≡ record { top = h.root; count = length nodes; rows = bytes_of nodes; entries = map (λ entry. word entry 0) entries; text = cut file h.text.offset (length file - h.text.offset) }
          → l ≡ layout file
      cut_as_laid is l e =
          let a = how_many_nodes in
          let b = rows_same in
          let c = entries_same in
          let d = text_same in
          let f : l ≡ of_header file h = cc in
          f ∙ ap (of_header file) is
