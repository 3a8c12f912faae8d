-- A section cut into arrays, and its bytes.
use Rattle.std.proofs.Common.{◌≡◌, ℕ, zero, suc, ◌+◌, ◌*◌, ◌<◌, ◌≤◌, List, [], ◌∷◌, ◌++◌, map, length, get_or, take, drop, Some, sym, refl, ap, ◌∙◌, arith, length-drop, get_or-drop, get_or-take}
use Rattle.std.specs.List.{slice_get}
use Rattle.std.specs.Simd.{first_chunks}
use Rattle.std.proofs.lemmas.List.{get_or_append_left, get_or-append-add, length-take-le}
use Rattle.std.proofs.Math.Seq.{take-add, drop-nil}
use Rattle.file.specs.Arrays.{AllOfLength, bytes_of}
use Rattle.file.specs.Format.{word, words, record_at, records}

drop_drop : {X : Type 0} (n m : ℕ) (xs : List X) → drop n (drop m xs) ≡ drop (m + n) xs
drop_drop n zero xs = ap (λ k. drop k xs) (omega arith)
drop_drop n (suc m) [] = drop-nil n ∙ sym (drop-nil (suc m + n))
drop_drop n (suc m) (x ∷ xs) = let e : suc (m + n) ≡ suc m + n = omega arith in drop_drop n m xs ∙ ap (λ k. drop k (x ∷ xs)) e

-- Arrays that are cut off bytes are of one length, and have those bytes.
pub chunks_of_length : (n k : ℕ) (xs : List ℕ) → n * k ≤ length xs → AllOfLength n (first_chunks n k xs)
chunks_of_length n zero xs le i c e = absurd (let z : ◌≡◌ {A = ℕ} 0 1 = cc in omega arith)
chunks_of_length n (suc k) xs le zero c e =
    let f : take n xs ≡ c = cc in
    ap length (sym f) ∙ length-take-le n xs (omega (arith, le))
chunks_of_length n (suc k) xs le (suc i) c e = chunks_of_length n k (drop n xs) (omega (arith, le, length-drop n xs)) i c e

pub bytes_of_chunks : (n k : ℕ) (xs : List ℕ) → bytes_of (first_chunks n k xs) ≡ take (n * k) xs
bytes_of_chunks n zero xs = let e : 0 ≡ n * 0 = omega arith in ap (λ m. take m xs) e
bytes_of_chunks n (suc k) xs =
    let e : n + n * k ≡ n * suc k = omega arith in
    ap (λ ys. take n xs ++ ys) (bytes_of_chunks n k (drop n xs)) ∙ sym (take-add n (n * k) xs) ∙ ap (λ m. take m xs) e

-- Their first words are the words of the bytes.
word_of_chunk : (xs : List ℕ) (at : ℕ) → word (take 4 (drop at xs)) 0 ≡ word xs at
word_of_chunk xs at = omega (arith, byte 0 (omega arith), byte 1 (omega arith), byte 2 (omega arith), byte 3 (omega arith), ap (λ i. get_or xs i 0) start)
  where
    start : at + 0 ≡ at
    start = omega arith

    byte : (i : ℕ) → i < 4 → get_or (take 4 (drop at xs)) i 0 ≡ get_or xs (at + i) 0
    byte i lt = get_or-take 4 (drop at xs) i 0 lt ∙ get_or-drop at xs i 0

words_from : (k j : ℕ) (xs : List ℕ) → map (λ c. word c 0) (first_chunks 4 k (drop (4 * j) xs)) ≡ words xs j k
words_from zero j xs = refl
words_from (suc k) j xs =
    let e : 4 * j + 4 ≡ 4 * suc j = omega arith in
    ap (λ w. w ∷ map (λ c. word c 0) (first_chunks 4 k (drop 4 (drop (4 * j) xs)))) (word_of_chunk xs (4 * j))
    ∙ ap (λ ys. word xs (4 * j) ∷ map (λ c. word c 0) (first_chunks 4 k ys)) (drop_drop 4 (4 * j) xs ∙ ap (λ m. drop m xs) e)
    ∙ ap (λ ws. word xs (4 * j) ∷ ws) (words_from k (suc j) xs)

pub words_of_chunks : (k : ℕ) (xs : List ℕ) → map (λ c. word c 0) (first_chunks 4 k xs) ≡ words xs 0 k
words_of_chunks k xs = words_from k 0 xs

-- What stands in one of the arrays stands in the bytes.
byte_at : (n : ℕ) (arrays : List (List ℕ)) → AllOfLength n arrays → (x : ℕ) (c : List ℕ) → slice_get arrays x ≡ Some c → (j : ℕ) → j < n → get_or (bytes_of arrays) (n * x + j) 0 ≡ get_or c j 0
byte_at n [] all x c e j lt = absurd (let z : ◌≡◌ {A = ℕ} 0 1 = cc in omega arith)
byte_at n (d ∷ ds) all zero c e j lt =
    let f : d ≡ c = cc in
    let here : n * 0 + j ≡ j = omega arith in
    ap (λ i. get_or (d ++ bytes_of ds) i 0) here
    ∙ get_or_append_left d (bytes_of ds) 0 j (omega (arith, all 0 d refl))
    ∙ ap (λ b. get_or b j 0) f
byte_at n (d ∷ ds) all (suc x) c e j lt =
    let there : n * suc x + j ≡ length d + (n * x + j) = omega (arith, all 0 d refl) in
    ap (λ i. get_or (d ++ bytes_of ds) i 0) there
    ∙ get_or-append-add d (bytes_of ds) (n * x + j) 0
    ∙ byte_at n ds (λ k. all (suc k)) x c e j lt

module _ (arrays : List (List ℕ)) (all : AllOfLength 20 arrays) (x : ℕ) (c : List ℕ) (at : slice_get arrays x ≡ Some c) where
  byte : (j : ℕ) → j < 20 → get_or (bytes_of arrays) (20 * x + j) 0 ≡ get_or c j 0
  byte = byte_at 20 arrays all x c at

  word_same : (j : ℕ) → j + 3 < 20 → word (bytes_of arrays) (20 * x + j) ≡ word c j
  word_same j lt =
      let e1 : 20 * x + (j + 1) ≡ 20 * x + j + 1 = omega arith in
      let e2 : 20 * x + (j + 2) ≡ 20 * x + j + 2 = omega arith in
      let e3 : 20 * x + (j + 3) ≡ 20 * x + j + 3 = omega arith in
      omega (
        arith,
        byte j (omega arith),
        byte (j + 1) (omega arith),
        byte (j + 2) (omega arith),
        byte (j + 3) (omega arith),
        ap (λ i. get_or (bytes_of arrays) i 0) e1,
        ap (λ i. get_or (bytes_of arrays) i 0) e2,
        ap (λ i. get_or (bytes_of arrays) i 0) e3,
      )

  -- The record of an array is the record of the bytes.
  pub record_of_array : record_at (bytes_of arrays) x ≡ record_at c 0
  record_of_array =
      let bytes = bytes_of arrays in
      let start : 20 * x + 0 ≡ 20 * x = omega arith in
      let kind : get_or bytes (20 * x) 0 ≡ get_or c 0 0 = ap (λ i. get_or bytes i 0) (sym start) ∙ byte 0 (omega arith) in
      let flag = byte 1 (omega arith) in
      let low = byte 2 (omega arith) in
      let high = byte 3 (omega arith) in
      let a = word_same 4 (omega arith) in
      let b = word_same 8 (omega arith) in
      let d = word_same 12 (omega arith) in
      let e = word_same 16 (omega arith) in
      cc

records_from : (bytes : List ℕ) (x : ℕ) (arrays : List (List ℕ)) → ((k : ℕ) (c : List ℕ) → slice_get arrays k ≡ Some c → record_at bytes (x + k) ≡ record_at c 0) → records bytes x (length arrays) ≡ map (λ c. record_at c 0) arrays
records_from bytes x [] each = refl
records_from bytes x (c ∷ cs) each =
    let start : x ≡ x + 0 = omega arith in
    ap (λ r. r ∷ records bytes (suc x) (length cs)) (ap (record_at bytes) start ∙ each 0 c refl)
    ∙ ap (λ rs. record_at c 0 ∷ rs) (records_from bytes (suc x) cs (λ k d e. let next : suc x + k ≡ x + suc k = omega arith in ap (record_at bytes) next ∙ each (suc k) d e))

pub records_of_arrays : (arrays : List (List ℕ)) → AllOfLength 20 arrays → records (bytes_of arrays) 0 (length arrays) ≡ map (λ c. record_at c 0) arrays
records_of_arrays arrays all =
    records_from (bytes_of arrays) 0 arrays
    (λ k c e. let at : 0 + k ≡ k = omega arith in ap (record_at (bytes_of arrays)) at ∙ record_of_array arrays all k c e)
