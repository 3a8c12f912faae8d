-- `escape_string_for_template_literal`, step by step. A text is the list of its code points, as `JSStr::chars` gives
-- them.
use Rattle.std.specs.Prelude.{ℕ, ◌-◌, Bool, false, cond, ◌&&◌, ◌||◌, List, [], ◌∷◌, ◌++◌, length, replicate, ◌==◌, nat_le, nat_lt}
use Rattle.std.specs.Fmt.{digits}

-- `to_char` gives none: a surrogate is no `char`. The Rust's documentation of `char`.
abbrev pub no_char : ℕ → Bool
no_char c = nat_le 0xD800 c && nat_lt c 0xE000

-- `as_str` gives none: some code point is no `char`.
abbrev pub no_str : List ℕ → Bool
no_str [] = false
no_str (c ∷ cs) = no_char c || no_str cs

-- `{:04x}`: hexadecimal digits, at least four of them.
abbrev pub padded : List ℕ → List ℕ
padded ds = replicate (4 - length ds) 0x30 ++ ds

-- One character where there is some that is no `char`.
abbrev pub pushed : ℕ → List ℕ
pushed c =
    cond (no_char c) (0x5C ∷ 0x75 ∷ padded (digits 16 false c))
    (cond (c == 0x5C || c == 0x60 || c == 0x24) (0x5C ∷ c ∷ [])
    (cond (c == 0x0D) (0x5C ∷ 0x72 ∷ []) (c ∷ [])))

abbrev pub pushed_all : List ℕ → List ℕ
pushed_all [] = []
pushed_all (c ∷ cs) = pushed c ++ pushed_all cs

-- `s.contains(['\\', '`', '$', '\r'])`
abbrev pub contains : List ℕ → Bool
contains [] = false
contains (c ∷ cs) = (c == 0x5C || c == 0x60 || c == 0x24 || c == 0x0D) || contains cs

-- `s.cow_replace(c, run)`
abbrev pub replaced : ℕ → List ℕ → List ℕ → List ℕ
replaced c run [] = []
replaced c run (d ∷ ds) = cond (d == c) run (d ∷ []) ++ replaced c run ds

abbrev pub all_replaced : List ℕ → List ℕ
all_replaced cs = replaced 0x0D (0x5C ∷ 0x72 ∷ []) (replaced 0x24 (0x5C ∷ 0x24 ∷ []) (replaced 0x60 (0x5C ∷ 0x60 ∷ []) (replaced 0x5C (0x5C ∷ 0x5C ∷ []) cs)))

abbrev pub escape_string_for_template_literal : List ℕ → List ℕ
escape_string_for_template_literal cs = cond (no_str cs) (pushed_all cs) (cond (contains cs) (all_replaced cs) cs)
