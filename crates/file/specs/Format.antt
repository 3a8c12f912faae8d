-- The file format: words, and the record of a node.
use Rattle.std.specs.Prelude.{ℕ, zero, suc, ◌+◌, ◌*◌, ◌/◌, ◌%◌, ◌^◌, Bool, true, false, List, [], ◌∷◌, slice_index}
use Rattle.tree.specs.declared.node.Node.{Node}
use Rattle.tree.specs.declared.node.Node.TheVariants.{String, Number, Boolean, Null, Name, Hole, Spread, Array, StaticMember, ComputedMember, Call, Template, Quasi, Unary, Binary, Opaque}
use Rattle.tree.specs.declared.node.UnaryOperator.{UnaryOperator}
use Rattle.tree.specs.declared.node.UnaryOperator.TheVariants.{Plus, Minus, Void}
use Rattle.tree.specs.declared.node.BinaryOperator.{BinaryOperator}
use Rattle.tree.specs.declared.node.BinaryOperator.TheVariants.{Exponentiation, Subtraction, Division}
use Rattle.tree.specs.declared.node.FirstChild.{FirstChild}
use Rattle.tree.specs.declared.node.FirstChild.TheVariants.{Value, Reference}
use Rattle.file.specs.declared.record.Record.{Record}

-- A word: four bytes from `at` on, the lowest first.
abbrev pub word : List ℕ → ℕ → ℕ
word bytes at = slice_index bytes at + slice_index bytes (at + 1) * 0x100 + slice_index bytes (at + 2) * 0x10000 + slice_index bytes (at + 3) * 0x1000000

-- n words from word k on.
abbrev pub words : List ℕ → ℕ → ℕ → List ℕ
words bytes k zero = []
words bytes k (suc n) = word bytes (4 * k) ∷ words bytes (suc k) n

-- A record takes 20 bytes: kind, flag, two bytes that are zero, and the words a to d. This is record x of a section.
abbrev pub record_at : List ℕ → ℕ → Record
record_at bytes x =
    record {
      kind = slice_index bytes (20 * x);
      flag = slice_index bytes (20 * x + 1);
      zeros = slice_index bytes (20 * x + 2) + slice_index bytes (20 * x + 3) * 0x100;
      a = word bytes (20 * x + 4);
      b = word bytes (20 * x + 8);
      c = word bytes (20 * x + 12);
      d = word bytes (20 * x + 16);
    }

-- n records from record x on.
abbrev pub records : List ℕ → ℕ → ℕ → List Record
records bytes x zero = []
records bytes x (suc n) = record_at bytes x ∷ records bytes (suc x) n

-- The flags.
abbrev pub flag_of_boolean : Bool → ℕ
flag_of_boolean false = 0
flag_of_boolean true = 1

abbrev pub flag_of_unary : UnaryOperator → ℕ
flag_of_unary Plus = 0
flag_of_unary Minus = 1
flag_of_unary Void = 2

abbrev pub flag_of_binary : BinaryOperator → ℕ
flag_of_binary Exponentiation = 0
flag_of_binary Subtraction = 1
flag_of_binary Division = 2

abbrev pub flag_of_first : FirstChild → ℕ
flag_of_first Value = 0
flag_of_first Reference = 1

-- A record by its kind, flag and words.
abbrev pub row : (kind flag a b c d : ℕ) → Record
row kind flag a b c d = record { kind = kind; flag = flag; zeros = 0; a = a; b = b; c = c; d = d }

-- How each node is recorded. The first number is that of its kind. What a kind does not use is 0.
abbrev pub record_of : Node → Record
record_of (String t) = row 1 0 t.start t.len 0 0
record_of (Number bits) = row 2 0 (bits % 2 ^ 32) (bits / 2 ^ 32) 0 0
record_of (Boolean b) = row 3 (flag_of_boolean b) 0 0 0 0
record_of Null = row 4 0 0 0 0 0
record_of (Name t) = row 5 0 t.start t.len 0 0
record_of Hole = row 6 0 0 0 0 0
record_of (Spread x) = row 7 0 x 0 0 0
record_of (Array es) = row 8 0 es.start es.len 0 0
record_of (StaticMember x p) = row 9 0 x p.start p.len 0
record_of (ComputedMember x k) = row 10 0 x k 0 0
record_of (Call f es) = row 11 0 f es.start es.len 0
record_of (Template es) = row 12 0 es.start es.len 0 0
record_of (Quasi r c) = row 13 0 r.start r.len c.start c.len
record_of (Unary op x) = row 14 (flag_of_unary op) x 0 0 0
record_of (Binary op x y) = row 15 (flag_of_binary op) x y 0 0
record_of (Opaque es m f) = row 16 (flag_of_first f) es.start es.len m 0
