-- A lawful file is determined by what it holds.
use Rattle.std.proofs.Common.{◌≡◌, ℕ, zero, suc, ◌+◌, ◌-◌, ◌*◌, ◌/◌, ◌%◌, ◌<◌, ◌≤◌, List, length, get_or, Some, Option, sym, ap, ◌∙◌, subst, inl, inr, arith, length-take}
use Rattle.std.specs.List.{slice_get}
use Rattle.std.proofs.lemmas.List.{ext_get_or, get_or_past}
use Rattle.std.proofs.lemmas.Bool.{cases_lt}
use Rattle.tree.specs.Heap.{Held, cut}
use Rattle.tree.proofs.Cuts.{getD_cut}
use Rattle.file.specs.declared.record.Record.{Record}
use Rattle.file.specs.Format.{word, words, record_at, records}
use Rattle.file.specs.Layout.{layout, node_count, node_offset, entry_count, entry_offset, text_count, text_offset}
use Rattle.file.specs.Lawful.{LawfulFile}
use Rattle.file.specs.Laws.{Bytes, SameContentsSameFile}
use Rattle.file.proofs.Contained.{nth_records}
use Rattle.file.proofs.Counted.{nodes_counted, entries_counted, text_counted}
use Rattle.file.proofs.Words.{nth_words}

-- Two lists have the same byte, or the same word, at a place.
abbrev SameByte : List ℕ → List ℕ → ℕ → Type 0
SameByte xs ys i = get_or xs i 0 ≡ get_or ys i 0

abbrev SameWord : List ℕ → List ℕ → ℕ → Type 0
SameWord xs ys at = word xs at ≡ word ys at

-- The items of a cut of bytes are bytes.
bytes_cut : (xs : List ℕ) (start len : ℕ) → Bytes xs → Bytes (cut xs start len)
bytes_cut xs start len b i =
    elim (cases_lt i len) [
      | inl lt ↦ rw (getD_cut xs start len i 0 lt) (b (start + i))
      | inr le ↦ rw (get_or_past (cut xs start len) i 0 (simp length-take (omega arith))) (omega arith)
    ]

-- Two lists whose cuts are the same are the same there.
cuts_apart : (xs ys : List ℕ) (s t m n : ℕ) → s ≡ t → m ≡ n → ((k : ℕ) → k < m → SameByte (cut xs s m) (cut ys t n) k) → (i : ℕ) → s ≤ i → i < s + m → SameByte xs ys i
cuts_apart xs ys s t m n p q same i le lt =
    let k = i - s in
    let a : i ≡ s + k = omega arith in
    let b : t + k ≡ i = omega arith in
    ap (λ j. get_or xs j 0) a ∙ sym (getD_cut xs s m k 0 (omega arith)) ∙ same k (omega arith) ∙ getD_cut ys t n k 0 (omega arith) ∙ ap (λ j. get_or ys j 0) b

module _ (xs ys : List ℕ) (bx : Bytes xs) (by : Bytes ys) where
  -- A word determines its four bytes.
  word_bytes : (at : ℕ) → SameWord xs ys at → (k : ℕ) → k < 4 → SameByte xs ys (at + k)
  word_bytes at e zero lt = let z : at ≡ at + 0 = omega arith in subst (SameByte xs ys) z (omega (arith, bx at, by at))
  word_bytes at e (suc zero) lt = omega (arith, bx at, by at, bx (at + 1), by (at + 1))
  word_bytes at e (suc (suc zero)) lt = omega (arith, bx at, by at, bx (at + 1), by (at + 1), bx (at + 2), by (at + 2))
  word_bytes at e (suc (suc (suc zero))) lt = omega (arith, bx at, by at, bx (at + 1), by (at + 1), bx (at + 2), by (at + 2))
  word_bytes at e (suc (suc (suc (suc k)))) lt = absurd (omega arith)

  -- And n words determine theirs.
  words_bytes : (at n : ℕ) → ((j : ℕ) → j < n → SameWord xs ys (at + 4 * j)) → (k : ℕ) → k < 4 * n → SameByte xs ys (at + k)
  words_bytes at n same k lt =
      let e : at + 4 * (k / 4) + k % 4 ≡ at + k = omega arith in
      subst (SameByte xs ys) e (word_bytes (at + 4 * (k / 4)) (same (k / 4) (omega arith)) (k % 4) (omega arith))

  -- A record is five words, of which the first has its kind, flag and zeros.
  record_words : (x : ℕ) → record_at xs x ≡ record_at ys x → (j : ℕ) → j < 5 → SameWord xs ys (20 * x + 4 * j)
  record_words x e zero lt =
      let z : 20 * x ≡ 20 * x + 0 = omega arith in
      subst (SameWord xs ys) z (omega (arith, ap (λ r. r.kind) e, ap (λ r. r.flag) e, ap (λ r. r.zeros) e))
  record_words x e (suc zero) lt = ap (λ r. r.a) e
  record_words x e (suc (suc zero)) lt = ap (λ r. r.b) e
  record_words x e (suc (suc (suc zero))) lt = ap (λ r. r.c) e
  record_words x e (suc (suc (suc (suc zero)))) lt = ap (λ r. r.d) e
  record_words x e (suc (suc (suc (suc (suc j))))) lt = absurd (omega arith)

  -- The records of a section determine its bytes.
  records_bytes : (m n : ℕ) → m ≡ n → records xs 0 m ≡ records ys 0 n → (k : ℕ) → k < 20 * m → SameByte xs ys k
  records_bytes m n c e k lt =
      let x = k / 20 in
      let f : ◌≡◌ {A = Option Record} (Some (record_at xs (0 + x))) (Some (record_at ys (0 + x))) =
      sym (nth_records xs 0 m x (omega arith)) ∙ ap (λ rs. slice_get rs x) e ∙ nth_records ys 0 n x (omega arith) in
      let g : record_at xs (0 + x) ≡ record_at ys (0 + x) = cc in
      let z : 20 * (0 + x) + k % 20 ≡ k = omega arith in
      subst (SameByte xs ys) z (words_bytes (20 * (0 + x)) 5 (record_words (0 + x) g) (k % 20) (omega arith))

  -- And so do its entries.
  entries_bytes : (m n : ℕ) → m ≡ n → words xs 0 m ≡ words ys 0 n → (k : ℕ) → k < 4 * m → SameByte xs ys k
  entries_bytes m n c e k lt = let z : 0 + k ≡ k = omega arith in subst (SameByte xs ys) z (words_bytes 0 m same k lt)
    where
      same : (j : ℕ) → j < m → SameWord xs ys (0 + 4 * j)
      same j low =
          let f : ◌≡◌ {A = Option ℕ} (Some (word xs (4 * (0 + j)))) (Some (word ys (4 * (0 + j)))) =
          sym (nth_words xs 0 m j low) ∙ ap (λ ws. slice_get ws j) e ∙ nth_words ys 0 n j (omega arith) in
          let g : SameWord xs ys (4 * (0 + j)) = cc in
          let z : 4 * (0 + j) ≡ 0 + 4 * j = omega arith in
          subst (SameWord xs ys) z g

-- Two lawful files that hold the same.
module _ (file other : List ℕ) (h : Held) (bf : Bytes file) (bo : Bytes other) (f : LawfulFile file h) (g : LawfulFile other h) where
  -- The counts, and the lengths.
  nodes_same : node_count file ≡ node_count other
  nodes_same = sym (nodes_counted file h f) ∙ nodes_counted other h g

  entries_same : entry_count file ≡ entry_count other
  entries_same = sym (entries_counted file h f) ∙ entries_counted other h g

  text_same : text_count file ≡ text_count other
  text_same = sym (text_counted file h f) ∙ text_counted other h g

  lengths_same : length file ≡ length other
  lengths_same = omega (arith, nodes_same, entries_same, text_same)

  -- The words of the header.
  header_same : (j : ℕ) → j < 8 → SameWord file other (0 + 4 * j)
  header_same zero lt = f.versioned.1 ∙ sym g.versioned.1
  header_same (suc zero) lt = omega arith
  header_same (suc (suc zero)) lt = nodes_same
  header_same (suc (suc (suc zero))) lt = f.sized.nodes_first ∙ sym g.sized.nodes_first
  header_same (suc (suc (suc (suc zero)))) lt = entries_same
  header_same (suc (suc (suc (suc (suc zero))))) lt = omega (arith, nodes_same)
  header_same (suc (suc (suc (suc (suc (suc zero)))))) lt = text_same
  header_same (suc (suc (suc (suc (suc (suc (suc zero))))))) lt = omega (arith, nodes_same, entries_same)
  header_same (suc (suc (suc (suc (suc (suc (suc (suc j)))))))) lt = absurd (omega arith)

  -- The bytes of the header, and of each section.
  in_header : (i : ℕ) → i < 32 → SameByte file other i
  in_header i lt = let z : 0 + i ≡ i = omega arith in subst (SameByte file other) z (words_bytes file other bf bo 0 8 header_same i lt)

  in_records : (i : ℕ) → node_offset file ≤ i → i < node_offset file + 20 * node_count file → SameByte file other i
  in_records =
      let rows = (layout file).rows in
      let others = (layout other).rows in
      let m = node_count file in
      let n = node_count other in
      cuts_apart file other (node_offset file) (node_offset other) (20 * m) (20 * n) (header_same 3 (omega arith)) (ap (λ k. 20 * k) nodes_same)
      (records_bytes rows others (bytes_cut file (node_offset file) (20 * m) bf) (bytes_cut other (node_offset other) (20 * n) bo) m n nodes_same (sym f.contents.recorded ∙ g.contents.recorded))

  in_entries : (i : ℕ) → entry_offset file ≤ i → i < entry_offset file + 4 * entry_count file → SameByte file other i
  in_entries =
      let m = entry_count file in
      let n = entry_count other in
      let es = cut file (entry_offset file) (4 * m) in
      let others = cut other (entry_offset other) (4 * n) in
      cuts_apart file other (entry_offset file) (entry_offset other) (4 * m) (4 * n) (header_same 5 (omega arith)) (ap (λ k. 4 * k) entries_same)
      (entries_bytes es others (bytes_cut file (entry_offset file) (4 * m) bf) (bytes_cut other (entry_offset other) (4 * n) bo) m n entries_same (sym f.contents.listed ∙ g.contents.listed))

  in_text : (i : ℕ) → text_offset file ≤ i → i < text_offset file + text_count file → SameByte file other i
  in_text =
      cuts_apart file other (text_offset file) (text_offset other) (text_count file) (text_count other) (header_same 7 (omega arith)) text_same
      (λ k lt. ap (λ t. get_or t k 0) (sym f.contents.texted ∙ g.contents.texted))

  -- Each byte lies in one of these.
  everywhere : (i : ℕ) → i < length file → SameByte file other i
  everywhere i lt =
      elim (cases_lt i 32) [
        | inl a ↦ in_header i a
        | inr a ↦ elim (cases_lt i (entry_offset file)) [
          | inl b ↦ in_records i (omega arith) (omega arith)
          | inr b ↦ elim (cases_lt i (text_offset file)) [
            | inl c ↦ in_entries i b (omega arith)
            | inr c ↦ in_text i c (omega arith)
          ]
        ]
      ]

  one_file : file ≡ other
  one_file = ext_get_or 0 file other lengths_same everywhere

pub same_contents_same_file : SameContentsSameFile
same_contents_same_file = one_file
