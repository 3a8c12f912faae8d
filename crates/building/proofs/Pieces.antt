-- The pieces of a template, as they are made one after the other, and the space that they take.
use Rattle.std.proofs.Common.{◌≡◌, ℕ, suc, ◌+◌, ◌*◌, ◌≤◌, Bool, true, false, cond, ◌&&◌, List, [], ◌∷◌, ◌++◌, length, Some, None, Option, bytes_eq, nat_le, sym, refl, ap, ◌∙◌, subst, inl, inr, arith, length-append, is_some}
use lib.Utf8.{encode}
use Rattle.std.proofs.lemmas.Bool.{cases_Bool, and_parts, and_right, leb-true, le-leb, lt-leb}
use Rattle.std.proofs.lemmas.List.{append-nil}
use Rattle.text.specs.Utf16.{trailing, paired}
use Rattle.text.specs.Points.{ends}
use Rattle.text.specs.Laws.{begins_trailing}
use Rattle.text.specs.Stored.{stored}
use Rattle.text.proofs.Pairing.{leading_range, not_trailing_below}
use Rattle.text.proofs.Rejoin.{joins_as_units}
use Rattle.text.proofs.Widths.{encode_3, encode_4}
use Rattle.text.proofs.Borders.{last_cases, some_last}
use Rattle.template.specs.Escaped.{raw_of}
use Rattle.tree.specs.declared.node.Node.{Node}
use Rattle.tree.specs.Tree.{Tree, Trees, tree, none, more, label, labels, Look, Denotes, DenoteAll}
use Rattle.tree.specs.Heap.{Held, look}
use Rattle.tree.proofs.Cuts.{nth_low, cut_more}
use Rattle.tree.proofs.Growing.{stored as stored_at}
use Rattle.store.specs.declared.stores.Counts.{Counts}
use Rattle.meaning.specs.Expression.{Expression, Arguments, Pieces, Units, Quasi}
use Rattle.meaning.specs.Trees.{tree_of, quasi_tree, piece_trees}
use Rattle.rules.specs.Building.{text_of, new_quasi, add_piece, pieces_of, quasi_count, template_of}
use Rattle.rules.specs.Space.{bytes_of, new_nodes, new_nodes_of, new_bytes, new_bytes_of, piece_count, new_entries}
use Rattle.building.specs.Quasis.{IsQuasi, raw_written}
use Rattle.building.specs.Templates.{Ended, continued, entries_of, texts_length, AreQuasis, AllDenoted, need}

-- ---- one more argument

pub continued_string : (next : ℕ) (ds : Ended) (u : Units) (l : ℕ) (v : Units) (xs : Arguments) → continued next ds u (Arguments.argument (Expression.string l v) xs) ≡ continued next ds (u ++ v) xs
unfolding pieces_of add_piece text_of
continued_string next [] u l v xs = refl
continued_string next (d ∷ ds) u l v xs = ap (Pieces.piece (new_quasi next d.0) d.1) (continued_string (suc next) ds u l v xs)

pub continued_spread : (next : ℕ) (ds : Ended) (u : Units) (l : ℕ) (x : Expression) (xs : Arguments) → continued next ds u (Arguments.spread_argument l x xs) ≡ continued next ds u xs
unfolding pieces_of
continued_spread next [] u l x xs = refl
continued_spread next (d ∷ ds) u l x xs = ap (Pieces.piece (new_quasi next d.0) d.1) (continued_spread (suc next) ds u l x xs)

pub continued_other : (next : ℕ) (ds : Ended) (u : Units) (x : Expression) (xs : Arguments) → text_of x ≡ None → continued next ds u (Arguments.argument x xs) ≡ continued next (ds ++ (u, x) ∷ []) [] xs
unfolding pieces_of add_piece
continued_other next [] u x xs e = ap (add_piece next u x (λ n v. pieces_of n v xs)) e
continued_other next (d ∷ ds) u x xs e = ap (Pieces.piece (new_quasi next d.0) d.1) (continued_other (suc next) ds u x xs e)

-- ---- one more quasi

pub entries_append : (next : ℕ) (ds : Ended) (u : Units) (x : Expression) → entries_of next (ds ++ (u, x) ∷ []) ≡ entries_of next ds ++ ((next + length ds) ∷ label (tree_of x) ∷ [])
entries_append next [] u x = ap (λ n. n ∷ label (tree_of x) ∷ []) (omega arith)
entries_append next (d ∷ ds) u x =
    ap (λ ns. next ∷ label (tree_of d.1) ∷ ns) (entries_append (suc next) ds u x
    ∙ ap (λ n. entries_of (suc next) ds ++ (n ∷ label (tree_of x) ∷ [])) (omega arith))

pub entries_length : (next : ℕ) (ds : Ended) → length (entries_of next ds) ≡ 2 * length ds
entries_length next [] = refl
entries_length next (d ∷ ds) = omega (arith, entries_length (suc next) ds)

pub texts_append : (ds : Ended) (u : Units) (x : Expression) → texts_length (ds ++ (u, x) ∷ []) ≡ texts_length ds + (length (stored u) + length (raw_written u))
texts_append [] u x = omega arith
texts_append (d ∷ ds) u x = omega (arith, texts_append ds u x)

pub denoted_append : (h : Look) (ds : Ended) (u : Units) (x : Expression) → AllDenoted h ds → Denotes h (tree_of x) → AllDenoted h (ds ++ (u, x) ∷ [])
denoted_append h [] u x a d = (d, tt)
denoted_append h (e ∷ ds) u x a d = (a.0, denoted_append h ds u x a.1 d)

pub quasi_more : (bytes behind : List ℕ) (n : Node) (u : Units) → IsQuasi bytes n u → IsQuasi (bytes ++ behind) n u
quasi_more bytes behind n u q =
    let a = leb-true (q.raw.start + q.raw.len) (length bytes) q.raw_inside in
    let b = leb-true (q.cooked.start + q.cooked.len) (length bytes) q.cooked_inside in
    record {
      raw = q.raw;
      cooked = q.cooked;
      is = q.is;
      raw_inside = le-leb (q.raw.start + q.raw.len) (length (bytes ++ behind)) (omega (arith, length-append bytes behind, a));
      raw_text = cut_more bytes q.raw.start q.raw.len behind a ∙ q.raw_text;
      cooked_inside = le-leb (q.cooked.start + q.cooked.len) (length (bytes ++ behind)) (omega (arith, length-append bytes behind, b));
      cooked_text = cut_more bytes q.cooked.start q.cooked.len behind b ∙ q.cooked_text;
    }

pub quasis_more : (bytes behind : List ℕ) (ns : List Node) (ds : Ended) → AreQuasis bytes ns ds → AreQuasis (bytes ++ behind) ns ds
quasis_more bytes behind [] [] q = tt
quasis_more bytes behind [] (d ∷ ds) q = absurd q
quasis_more bytes behind (n ∷ ns) [] q = absurd q
quasis_more bytes behind (n ∷ ns) (d ∷ ds) q = (quasi_more bytes behind n d.0 q.0, quasis_more bytes behind ns ds q.1)

pub quasis_append : (bytes : List ℕ) (ns : List Node) (ds : Ended) (n : Node) (u : Units) (x : Expression) → AreQuasis bytes ns ds → IsQuasi bytes n u → AreQuasis bytes (ns ++ n ∷ []) (ds ++ (u, x) ∷ [])
quasis_append bytes [] [] n u x q i = (i, tt)
quasis_append bytes [] (d ∷ ds) n u x q i = absurd q
quasis_append bytes (m ∷ ns) [] n u x q i = absurd q
quasis_append bytes (m ∷ ns) (d ∷ ds) n u x q i = (q.0, quasis_append bytes ns ds n u x q.1 i)

pub quasis_length : (bytes : List ℕ) (ns : List Node) (ds : Ended) → AreQuasis bytes ns ds → length ns ≡ length ds
quasis_length bytes [] [] q = refl
quasis_length bytes [] (d ∷ ds) q = absurd q
quasis_length bytes (n ∷ ns) [] q = absurd q
quasis_length bytes (n ∷ ns) (d ∷ ds) q = ap suc (quasis_length bytes ns ds q.1)

-- ---- the space of the parts

-- What stands in the stores takes no space.
mutual
  unfolding new_nodes new_nodes_of new_bytes new_bytes_of

  old_nodes : (h : Held) (t : Tree) → Denotes (look h) t → (new_nodes (length h.nodes) t ≡ 0) × (new_bytes (length h.nodes) t ≡ 0)
  old_nodes h (tree l o ts) d =
      let low : nat_le (length h.nodes) l ≡ false = let s = stored_at h l o (labels ts) d.0 in lt-leb (length h.nodes) l (nth_low h.nodes l s.0 s.1) in
      let i = old_nodes_of h ts d.1 in
      (ap (λ b. cond b 1 0 + new_nodes_of (length h.nodes) ts) low ∙ omega (arith, i.0), ap (λ b. cond b (bytes_of o) 0 + new_bytes_of (length h.nodes) ts) low ∙ omega (arith, i.1))

  old_nodes_of : (h : Held) (ts : Trees) → DenoteAll (look h) ts → (new_nodes_of (length h.nodes) ts ≡ 0) × (new_bytes_of (length h.nodes) ts ≡ 0)
  old_nodes_of h none d = (refl, refl)
  old_nodes_of h (more t ts) d =
      let a = old_nodes h t d.0 in
      let b = old_nodes_of h ts d.1 in
      (omega (arith, a.0, b.0), omega (arith, a.1, b.1))

raw_length : (u : Units) → cond (bytes_eq (raw_of u) (stored u)) 0 (length (raw_of u)) ≡ length (raw_written u)
raw_length u = go (bytes_eq (raw_of u) (stored u))
  where
    go : (b : Bool) → cond b 0 (length (raw_of u)) ≡ length (cond b [] (raw_of u))
    go true = refl
    go false = refl

-- A new quasi.
quasi_space : (next n : ℕ) (u : Units) → next ≤ n → (new_nodes next (quasi_tree (new_quasi n u)) ≡ 1) × (new_bytes next (quasi_tree (new_quasi n u)) ≡ length (stored u) + length (raw_written u))
unfolding new_nodes new_nodes_of new_bytes new_bytes_of new_quasi bytes_of
quasi_space next n u le =
    let high : nat_le next n ≡ true = le-leb next n le in (
      ap (λ b. cond b 1 0 + 0) high,
      ap (λ b. cond b (length (stored u) + cond (bytes_eq (raw_of u) (stored u)) 0 (length (raw_of u))) 0 + 0) high ∙ omega (arith, raw_length u),
    )

-- A longer text takes no less.
pub longer_text : (us vs : Units) → length (stored us) ≤ length (stored (us ++ vs))
longer_text us vs =
    elim (cases_Bool (ends false us && begins_trailing vs)) [
      | inr f ↦ omega (arith, ap length (joins_as_units.0 us vs f), length-append (stored us) (stored vs))
      | inl t ↦ let b = and_parts (ends false us) (begins_trailing vs) t in met vs b.0 b.1
    ]
  where
    met : (ws : Units) → ends false us ≡ true → begins_trailing ws ≡ true → length (stored us) ≤ length (stored (us ++ ws))
    met [] e b = absurd (cc)
    met (l ∷ ws) e b =
        elim (last_cases us) [
          | inl lacks ↦ absurd (cc (e, sym (some_last us) ∙ ap is_some lacks))
          | inr some ↦
              let r = leading_range some.1 some.3 in
              let before : stored us ≡ stored some.0 ++ encode some.1 =
              ap stored some.2
              ∙ joins_as_units.0 some.0 (some.1 ∷ []) (and_right (ends false some.0) (trailing some.1) (not_trailing_below some.1 (omega arith)))
              ∙ ap (λ k. stored some.0 ++ k) (append-nil (encode some.1)) in
              let both : stored (us ++ l ∷ ws) ≡ stored some.0 ++ encode (paired some.1 l) ++ stored ws =
              ap (λ k. stored (k ++ l ∷ ws)) some.2 ∙ joins_as_units.1 some.0 ws some.1 l some.3 b in
              let three = ap length (encode_3 some.1 (omega arith) (omega arith)) in
              let four = ap length (encode_4 (paired some.1 l) (omega arith)) in
              omega (
                arith,
                ap length before,
                length-append (stored some.0) (encode some.1),
                three,
                ap length both,
                length-append (stored some.0 ++ encode (paired some.1 l)) (stored ws),
                length-append (stored some.0) (encode (paired some.1 l)),
                four,
              )
        ]

-- ---- the space of the pieces

nodes_in : ℕ → Pieces → ℕ
nodes_in next ps = new_nodes_of next (piece_trees ps)

bytes_in : ℕ → Pieces → ℕ
bytes_in next ps = new_bytes_of next (piece_trees ps)

record Takes (next : ℕ) (ps : Pieces) (nodes entries bytes : ℕ) : Type 0 where
  nodes_taken : nodes_in next ps ≡ nodes
  entries_taken : piece_count ps ≡ entries
  bytes_taken : bytes_in next ps ≡ bytes

one_last : (next n : ℕ) (u : Units) → next ≤ n → Takes next (Pieces.last (new_quasi n u)) 1 1 (length (stored u) + length (raw_written u))
unfolding nodes_in bytes_in piece_count new_nodes_of new_bytes_of
one_last next n u le = let q = quasi_space next n u le in record { nodes_taken = omega (arith, q.0); entries_taken = refl; bytes_taken = omega (arith, q.1) }

one_more : (next n : ℕ) (u : Units) (x : Expression) (ps : Pieces) → next ≤ n
    → Takes next (Pieces.piece (new_quasi n u) x ps) (1 + new_nodes next (tree_of x) + nodes_in next ps) (2 + piece_count ps) (length (stored u) + length (raw_written u) + new_bytes next (tree_of x) + bytes_in next ps)
unfolding nodes_in bytes_in piece_count new_nodes_of new_bytes_of
one_more next n u x ps le = let q = quasi_space next n u le in record { nodes_taken = omega (arith, q.0); entries_taken = refl; bytes_taken = omega (arith, q.1) }

-- Behind those that are ended, the rest takes what it takes.
ended_take : (h : Held) (n : ℕ) (ds : Ended) (u : Units) (rest : Arguments) → length h.nodes ≤ n → AllDenoted (look h) ds
    → Takes (length h.nodes) (continued n ds u rest) (length ds + nodes_in (length h.nodes) (pieces_of (n + length ds) u rest))
    (2 * length ds + piece_count (pieces_of (n + length ds) u rest)) (texts_length ds + bytes_in (length h.nodes) (pieces_of (n + length ds) u rest))
ended_take h n [] u rest le d =
    let e : n + 0 ≡ n = omega arith in
    record {
      nodes_taken = omega (arith, ap (λ m. nodes_in (length h.nodes) (pieces_of m u rest)) e);
      entries_taken = omega (arith, ap (λ m. piece_count (pieces_of m u rest)) e);
      bytes_taken = omega (arith, ap (λ m. bytes_in (length h.nodes) (pieces_of m u rest)) e);
    }
ended_take h n (d ∷ ds) u rest le all =
    let e : suc n + length ds ≡ n + suc (length ds) = omega arith in
    let i = subst (λ m. Takes (length h.nodes) (continued (suc n) ds u rest) (length ds + nodes_in (length h.nodes) (pieces_of m u rest)) (2 * length ds + piece_count (pieces_of m u rest)) (texts_length ds + bytes_in (length h.nodes) (pieces_of m u rest)))
    e (ended_take h (suc n) ds u rest (omega arith) all.1) in
    let o = old_nodes h (tree_of d.1) all.0 in
    let m = one_more (length h.nodes) n d.0 d.1 (continued (suc n) ds u rest) le in
    record {
      nodes_taken = omega (arith, m.nodes_taken, i.nodes_taken, o.0);
      entries_taken = omega (arith, m.entries_taken, i.entries_taken);
      bytes_taken = omega (arith, m.bytes_taken, i.bytes_taken, o.1);
    }

-- A text and what follows take no less than the text.
record AtLeast (next : ℕ) (ps : Pieces) (bytes : ℕ) : Type 0 where
  a_node : 1 ≤ nodes_in next ps
  an_entry : 1 ≤ piece_count ps
  its_bytes : bytes ≤ bytes_in next ps

text_takes : (next n : ℕ) (u : Units) (rest : Arguments) → next ≤ n → AtLeast next (pieces_of n u rest) (length (stored u))
unfolding pieces_of add_piece
text_takes next n u Arguments.no_arguments le = let m = one_last next n u le in record { a_node = omega (arith, m.nodes_taken); an_entry = omega (arith, m.entries_taken); its_bytes = omega (arith, m.bytes_taken) }
text_takes next n u (Arguments.spread_argument l x xs) le = text_takes next n u xs le
text_takes next n u (Arguments.argument x xs) le = go (λ v. text_takes next n (u ++ v) xs le) (text_of x)
  where
    go : ((v : Units) → AtLeast next (pieces_of n (u ++ v) xs) (length (stored (u ++ v)))) → (o : Option Units) → AtLeast next (add_piece n u x (λ m v. pieces_of m v xs) o) (length (stored u))
    go f (Some v) = let i = f v in record { a_node = i.a_node; an_entry = i.an_entry; its_bytes = omega (arith, i.its_bytes, longer_text u v) }
    go f None =
        let m = one_more next n u x (pieces_of (suc n) [] xs) le in
        record { a_node = omega (arith, m.nodes_taken); an_entry = omega (arith, m.entries_taken); its_bytes = omega (arith, m.bytes_taken) }

-- ---- the space of the whole

pub need_last : (next l : ℕ) (u : Units) → need next (Pieces.last (new_quasi l u)) ≡ record { nodes = 1; entries = 0; text = length (stored u) }
unfolding template_of new_quasi new_nodes new_nodes_of new_bytes new_bytes_of bytes_of new_entries
need_last next l u =
    let high : nat_le next next ≡ true = le-leb next next (omega arith) in
    ap (λ b. record { nodes = cond b 1 0 + 0; entries = 0; text = cond b (length (stored u)) 0 + 0 }) high ∙ ap (λ k. record { nodes = 1; entries = 0; text = k }) (omega arith)

need_piece : (next : ℕ) (q : Quasi) (x : Expression) (ps : Pieces)
    → need next (Pieces.piece q x ps) ≡ record { nodes = 1 + nodes_in next (Pieces.piece q x ps); entries = piece_count (Pieces.piece q x ps); text = bytes_in next (Pieces.piece q x ps) }
unfolding template_of new_nodes new_bytes bytes_of new_entries nodes_in bytes_in
need_piece next q x ps =
    let high : nat_le next (next + quasi_count (Pieces.piece q x ps)) ≡ true = le-leb next (next + quasi_count (Pieces.piece q x ps)) (omega arith) in
    ap (λ b. record {
      nodes = cond b 1 0 + new_nodes_of next (piece_trees (Pieces.piece q x ps));
      entries = cond b (piece_count (Pieces.piece q x ps)) 0;
      text = cond b 0 0 + new_bytes_of next (piece_trees (Pieces.piece q x ps));
    }) high
    ∙ ap (λ k. record { nodes = 1 + new_nodes_of next (piece_trees (Pieces.piece q x ps)); entries = piece_count (Pieces.piece q x ps); text = k }) (omega arith)

-- Of no quasi so far: a string or a template has room for the text.
text_needs : (next n : ℕ) (u : Units) (rest : Arguments) → next ≤ n → length (stored u) ≤ (need next (pieces_of n u rest)).text
unfolding pieces_of add_piece
text_needs next n u Arguments.no_arguments le = omega (arith, ap (λ k. k.text) (need_last next n u))
text_needs next n u (Arguments.spread_argument l x xs) le = text_needs next n u xs le
text_needs next n u (Arguments.argument x xs) le = go (λ v. text_needs next n (u ++ v) xs le) (text_of x)
  where
    go : ((v : Units) → length (stored (u ++ v)) ≤ (need next (pieces_of n (u ++ v) xs)).text) → (o : Option Units)
        → length (stored u) ≤ (need next (add_piece n u x (λ m v. pieces_of m v xs) o)).text
    go f (Some v) = omega (arith, f v, longer_text u v)
    go f None = omega (arith, ap (λ k. k.text) (need_piece next (new_quasi n u) x (pieces_of (suc n) [] xs)), (one_more next n u x (pieces_of (suc n) [] xs) le).bytes_taken)

module _ (h : Held) where
  pub enough_text : (ds : Ended) (u : Units) (rest : Arguments) → AllDenoted (look h) ds → texts_length ds + length (stored u) ≤ (need (length h.nodes) (continued (length h.nodes) ds u rest)).text
  enough_text [] u rest d = omega (arith, text_needs (length h.nodes) (length h.nodes) u rest (omega arith))
  enough_text (d ∷ ds) u rest all =
      let t = ended_take h (length h.nodes) (d ∷ ds) u rest (omega arith) all in
      let w = text_takes (length h.nodes) (length h.nodes + length (d ∷ ds)) u rest (omega arith) in
      omega (arith, ap (λ k. k.text) (need_piece (length h.nodes) (new_quasi (length h.nodes) d.0) d.1 (continued (suc (length h.nodes)) ds u rest)), t.bytes_taken, w.its_bytes)

  pub record Enough (ds : Ended) (c : Counts) : Type 0 where
    pub some_nodes : length ds + 2 ≤ c.nodes
    pub some_entries : 2 * length ds + 1 ≤ c.entries
    pub some_text : texts_length ds ≤ c.text

  pub enough : (ds : Ended) (u : Units) (rest : Arguments) → AllDenoted (look h) ds → 1 ≤ length ds → Enough ds (need (length h.nodes) (continued (length h.nodes) ds u rest))
  enough [] u rest d some = absurd (omega (arith, some))
  enough (d ∷ ds) u rest all some =
      let t = ended_take h (length h.nodes) (d ∷ ds) u rest (omega arith) all in
      let w = text_takes (length h.nodes) (length h.nodes + length (d ∷ ds)) u rest (omega arith) in
      let n = need_piece (length h.nodes) (new_quasi (length h.nodes) d.0) d.1 (continued (suc (length h.nodes)) ds u rest) in
      record {
        some_nodes = omega (arith, ap (λ k. k.nodes) n, t.nodes_taken, w.a_node);
        some_entries = omega (arith, ap (λ k. k.entries) n, t.entries_taken, w.an_entry);
        some_text = omega (arith, ap (λ k. k.text) n, t.bytes_taken);
      }

  -- All quasis, the last one too.
  pub all_taken : (ds : Ended) (u : Units) → AllDenoted (look h) ds → 1 ≤ length ds
      → need (length h.nodes) (continued (length h.nodes) ds u Arguments.no_arguments) ≡ record { nodes = length ds + 2; entries = 2 * length ds + 1; text = texts_length ds + (length (stored u) + length (raw_written u)) }
  unfolding pieces_of
  all_taken [] u d some = absurd (omega (arith, some))
  all_taken (d ∷ ds) u all some =
      let t = ended_take h (length h.nodes) (d ∷ ds) u Arguments.no_arguments (omega arith) all in
      let w = one_last (length h.nodes) (length h.nodes + length (d ∷ ds)) u (omega arith) in
      let n = need_piece (length h.nodes) (new_quasi (length h.nodes) d.0) d.1 (continued (suc (length h.nodes)) ds u Arguments.no_arguments) in
      n ∙ same_counts (omega (arith, t.nodes_taken, w.nodes_taken)) (omega (arith, t.entries_taken, w.entries_taken)) (omega (arith, t.bytes_taken, w.bytes_taken))
    where
      same_counts : {a b c x y z : ℕ} → a ≡ x → b ≡ y → c ≡ z → ◌≡◌ {A = Counts} (record { nodes = a; entries = b; text = c }) (record { nodes = x; entries = y; text = z })
      same_counts e f g = cc
