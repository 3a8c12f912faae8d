-- Records that are written one behind the other.
use Rattle.std.proofs.Common.{◌≡◌, ℕ, zero, suc, ◌+◌, ◌*◌, ◌<◌, ◌≤◌, List, [], ◌∷◌, ◌++◌, map, length, take, drop, Some, Ok, Err, Result, IsOk, refl, sym, ap, ◌∙◌, inl, inr, arith, length-append, length-drop, take_at, drop_at, take_all}
use Rattle.std.specs.List.{slice_get}
use Rattle.std.proofs.lemmas.List.{map-append, length-map, length-take-le, take_more, flat_map_more}
use Rattle.std.proofs.lemmas.Option.{get_or_from_slice_get}
use Rattle.base.specs.declared.fault.Fault.{Fault}
use Rattle.base.specs.Runs.{Appended}
use Rattle.base.proofs.Fronts.{front_more}
use Rattle.tree.specs.declared.node.Node.{Node}
use Rattle.file.specs.Arrays.{AllOfLength, bytes_of}
use Rattle.file.specs.Format.{record_at, record_of, records}
use Rattle.file.proofs.Chunks.{records_of_arrays}
use Rattle.lending.specs.Lending.{Recorded}

-- The records of the first i nodes are written, each in 20 bytes, up to `end`.
pub record RowsUpTo (nodes : List Node) (i : ℕ) (old new : List ℕ) (end : ℕ) : Type 0 where
  pub rows : List (List ℕ)
  pub long : AllOfLength 20 rows
  pub are : map (λ row. record_at row 0) rows ≡ map record_of (take i nodes)
  pub ends : end ≡ length (bytes_of rows)
  pub written : new ≡ bytes_of rows ++ drop (length (bytes_of rows)) old

pub none_written : (nodes : List Node) (memory : List ℕ) → RowsUpTo nodes 0 memory memory 0
none_written nodes memory = record { rows = []; long = λ k array is. absurd (let z : ◌≡◌ {A = ℕ} 0 1 = cc in omega arith); are = refl; ends = refl; written = refl }

all_more : (rows : List (List ℕ)) (row : List ℕ) → AllOfLength 20 rows → length row ≡ 20 → AllOfLength 20 (rows ++ row ∷ [])
all_more [] row all e zero c is = let f : row ≡ c = cc in ap length (sym f) ∙ e
all_more [] row all e (suc k) c is = absurd (let z : ◌≡◌ {A = ℕ} 0 1 = cc in omega arith)
all_more (r ∷ rs) row all e zero c is = all zero c is
all_more (r ∷ rs) row all e (suc k) c is = all_more rs row (λ j. all (suc j)) e k c is

bytes_long : (rows : List (List ℕ)) → AllOfLength 20 rows → length (bytes_of rows) ≡ 20 * length rows
bytes_long [] all = refl
bytes_long (r ∷ rs) all = omega (arith, length-append r (bytes_of rs), all 0 r refl, bytes_long rs (λ k. all (suc k)))

module _ (nodes : List Node) (i : ℕ) (old mid : List ℕ) (end : ℕ) (f : RowsUpTo nodes i old mid end) (lt : i < length nodes) where
  many : length f.rows ≡ i
  many = sym (length-map f.rows (λ row. record_at row 0)) ∙ ap length f.are ∙ length-map (take i nodes) record_of ∙ length-take-le i nodes (omega arith)

  module _ (row new : List ℕ) (long : length row ≡ 20) where
    -- There is room for one more.
    pub row_fits : (r : Result ℕ Fault) → 20 * length nodes ≤ length old → Appended mid end row new r → IsOk r
    row_fits (Ok n) le a = refl
    row_fits (Err e) le a =
        let same : length mid ≡ length old =
        omega (arith, ap length f.written, length-append (bytes_of f.rows) (drop (length (bytes_of f.rows)) old), length-drop (length (bytes_of f.rows)) old, bytes_long f.rows f.long, many, lt, le) in
        absurd (elim a.1 [
          | inl short ↦ short.1 (omega (arith, f.ends, bytes_long f.rows f.long, many, long, lt, le, same))
          | inr never ↦ never.1
        ])

    -- The next one is written.
    pub next_row : (end' : ℕ) (n : Node) → slice_get nodes i ≡ Some n → record_at row 0 ≡ record_of n → Appended mid end row new (Ok end') → RowsUpTo nodes (i + 1) old new end'
    next_row end' n here is a =
        let more = front_more old (bytes_of f.rows) row mid new end end' f.ends f.written a in
        let all : bytes_of f.rows ++ row ≡ bytes_of (f.rows ++ row ∷ []) = flat_map_more (λ r. r) [] f.rows row in
        record {
          rows = f.rows ++ row ∷ [];
          long = all_more f.rows row f.long long;
          are =
              map-append (λ r. record_at r 0) f.rows (row ∷ [])
              ∙ ap (λ rs. rs ++ record_at row 0 ∷ []) f.are
              ∙ ap (λ r. map record_of (take i nodes) ++ r ∷ []) is
              ∙ sym (map-append record_of (take i nodes) (n ∷ []))
              ∙ ap (λ m. map record_of (take i nodes ++ m ∷ [])) (sym (get_or_from_slice_get nodes i n n here))
              ∙ ap (map record_of) (sym (take_more nodes i n lt));
          ends = more.0 ∙ ap length all;
          written = more.1 ∙ ap (λ l. l ++ drop (length l) old) all;
        }

-- The records of all are written.
pub all_recorded : (nodes : List Node) (i : ℕ) (old new : List ℕ) (end : ℕ) → RowsUpTo nodes i old new end → length nodes ≤ i → Recorded nodes old new
all_recorded nodes i old new end f le =
    let all : map (λ row. record_at row 0) f.rows ≡ map record_of nodes = f.are ∙ ap (map record_of) (take_all i nodes le) in
    let many : length f.rows ≡ length nodes = sym (length-map f.rows (λ row. record_at row 0)) ∙ ap length all ∙ length-map nodes record_of in
    let long : length (bytes_of f.rows) ≡ 20 * length nodes = omega (arith, bytes_long f.rows f.long, many) in
    let rest = drop (length (bytes_of f.rows)) old in
    let front : take (20 * length nodes) new ≡ bytes_of f.rows = ap (take (20 * length nodes)) f.written ∙ take_at (bytes_of f.rows) rest (20 * length nodes) long in (
      ap (λ l. records l 0 (length nodes)) front ∙ ap (records (bytes_of f.rows) 0) (sym many) ∙ records_of_arrays f.rows f.long ∙ all,
      ap (drop (20 * length nodes)) f.written ∙ drop_at (bytes_of f.rows) rest (20 * length nodes) long ∙ ap (λ n. drop n old) long,
    )
