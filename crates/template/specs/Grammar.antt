-- Template literal text as ECMA-262's lexical grammar has it ("Template Literal Lexical Components",
-- "String Literals", "Line Terminators"). A production is a constructor; `source` is the code points that it
-- stands for, and `value` its TV, a list of 16-bit code units ("Static Semantics: TV", "Static Semantics: SV").
use Rattle.std.specs.Prelude.{◌≡◌, ℕ, ◌+◌, ◌*◌, ◌<◌, ◌≤◌, Bool, true, false, cond, ◌||◌, List, [], ◌∷◌, ◌++◌, length, ◌==◌, nat_eq, nat_lt}
use Rattle.std.proofs.Math.Utf8.{scalar}
use Rattle.std.specs.Char.{digit_value}
use Rattle.text.specs.Utf16.{utf16}

-- LineTerminatorSequence
pub data LineEnd : Type 0 where
  lf : LineEnd
  cr : LineEnd
  ls : LineEnd
  ps : LineEnd
  crlf : LineEnd

abbrev pub line_source : LineEnd → List ℕ
line_source lf = 0x000A ∷ []
line_source cr = 0x000D ∷ []
line_source ls = 0x2028 ∷ []
line_source ps = 0x2029 ∷ []
line_source crlf = 0x000D ∷ 0x000A ∷ []

-- CR and CR LF have the value LF.
abbrev pub line_value : LineEnd → List ℕ
line_value lf = 0x000A ∷ []
line_value cr = 0x000A ∷ []
line_value ls = 0x2028 ∷ []
line_value ps = 0x2029 ∷ []
line_value crlf = 0x000A ∷ []

-- What follows begins with a character that passes the test: for [lookahead].
abbrev pub starts : (ℕ → Bool) → List ℕ → Bool
starts p [] = false
starts p (c ∷ cs) = p c

abbrev pub line_allowed : LineEnd → List ℕ → Type 0
line_allowed lf rest = Unit {0}
line_allowed cr rest = starts (λ c. nat_eq c 0x000A) rest ≡ false
line_allowed ls rest = Unit {0}
line_allowed ps rest = Unit {0}
line_allowed crlf rest = Unit {0}

-- LineTerminator
abbrev pub is_line_terminator : ℕ → Bool
is_line_terminator c = c == 0x000A || c == 0x000D || c == 0x2028 || c == 0x2029

-- DecimalDigit
abbrev pub is_decimal : ℕ → Bool
is_decimal c = nat_lt (digit_value c) 10

-- HexDigit, and the MV of HexDigits, from the value of the digits before.
abbrev pub is_hex : ℕ → Bool
is_hex c = nat_lt (digit_value c) 16

abbrev pub mv_from : ℕ → List ℕ → ℕ
mv_from v [] = v
mv_from v (d ∷ ds) = mv_from (v * 16 + digit_value d) ds

abbrev pub mv : List ℕ → ℕ
mv ds = mv_from 0 ds

abbrev pub HexDigits : List ℕ → Type 0
HexDigits [] = Unit {0}
HexDigits (d ∷ ds) = (is_hex d ≡ true) × HexDigits ds

-- SingleEscapeCharacter: one of ' " \ b f n r t v; with "String Single Character Escape Sequences".
abbrev pub is_single : ℕ → Bool
is_single c = c == 0x27 || c == 0x22 || c == 0x5C || c == 0x62 || c == 0x66 || c == 0x6E || c == 0x72 || c == 0x74 || c == 0x76

abbrev pub single_value : ℕ → ℕ
single_value c =
    cond (c == 0x62) 0x0008
    (cond (c == 0x74) 0x0009
    (cond (c == 0x6E) 0x000A
    (cond (c == 0x76) 0x000B
    (cond (c == 0x66) 0x000C
    (cond (c == 0x72) 0x000D c)))))

-- EscapeCharacter: a SingleEscapeCharacter, a DecimalDigit, x or u
abbrev pub is_escape : ℕ → Bool
is_escape c = is_single c || is_decimal c || c == 0x78 || c == 0x75

-- TemplateEscapeSequence
pub data Escape : Type 0 where
  -- CharacterEscapeSequence :: SingleEscapeCharacter
  single : ℕ → Escape
  -- CharacterEscapeSequence :: NonEscapeCharacter
  non_escape : ℕ → Escape
  -- 0 [lookahead ∉ DecimalDigit]
  null : Escape
  -- HexEscapeSequence :: x HexDigit HexDigit
  hex : ℕ → ℕ → Escape
  -- UnicodeEscapeSequence :: u Hex4Digits
  hex4 : ℕ → ℕ → ℕ → ℕ → Escape
  -- UnicodeEscapeSequence :: u{ CodePoint }
  code_point : List ℕ → Escape

abbrev pub escape_source : Escape → List ℕ
escape_source (single c) = c ∷ []
escape_source (non_escape c) = c ∷ []
escape_source null = 0x30 ∷ []
escape_source (hex a b) = 0x78 ∷ a ∷ b ∷ []
escape_source (hex4 a b c d) = 0x75 ∷ a ∷ b ∷ c ∷ d ∷ []
escape_source (code_point ds) = 0x75 ∷ 0x7B ∷ (ds ++ 0x7D ∷ [])

-- The code point that an escape stands for; a surrogate is a code unit of its own.
abbrev pub escape_code : Escape → ℕ
escape_code (single c) = single_value c
escape_code (non_escape c) = c
escape_code null = 0
escape_code (hex a b) = mv (a ∷ b ∷ [])
escape_code (hex4 a b c d) = mv (a ∷ b ∷ c ∷ d ∷ [])
escape_code (code_point ds) = mv ds

abbrev pub escape_allowed : Escape → List ℕ → Type 0
escape_allowed (single c) rest = is_single c ≡ true
escape_allowed (non_escape c) rest = (scalar c ≡ true) × (is_escape c ≡ false) × (is_line_terminator c ≡ false)
escape_allowed null rest = starts is_decimal rest ≡ false
escape_allowed (hex a b) rest = HexDigits (a ∷ b ∷ [])
escape_allowed (hex4 a b c d) rest = HexDigits (a ∷ b ∷ c ∷ d ∷ [])
escape_allowed (code_point ds) rest = HexDigits ds × (0 < length ds) × (mv ds ≤ 0x10FFFF)

-- TemplateCharacter
pub data TemplateCharacter : Type 0 where
  -- $ [lookahead ≠ {]
  dollar : TemplateCharacter
  -- \ TemplateEscapeSequence
  escape : Escape → TemplateCharacter
  -- LineContinuation
  continuation : LineEnd → TemplateCharacter
  -- LineTerminatorSequence
  line_end : LineEnd → TemplateCharacter
  -- SourceCharacter but not one of ` or \ or $ or LineTerminator
  other : ℕ → TemplateCharacter

abbrev pub source : TemplateCharacter → List ℕ
source dollar = 0x24 ∷ []
source (escape e) = 0x5C ∷ escape_source e
source (continuation l) = 0x5C ∷ line_source l
source (line_end l) = line_source l
source (other c) = c ∷ []

-- TV
abbrev pub value : TemplateCharacter → List ℕ
value dollar = 0x24 ∷ []
value (escape e) = utf16 (escape_code e)
value (continuation l) = []
value (line_end l) = line_value l
value (other c) = utf16 c

-- What the production asks of its own characters and of what follows. Raw text holds no lone surrogate.
abbrev pub Allowed : TemplateCharacter → List ℕ → Type 0
Allowed dollar rest = starts (λ c. nat_eq c 0x7B) rest ≡ false
Allowed (escape e) rest = escape_allowed e rest
Allowed (continuation l) rest = line_allowed l rest
Allowed (line_end l) rest = line_allowed l rest
Allowed (other c) rest = (scalar c ≡ true) × ((c == 0x60 || c == 0x5C || c == 0x24) ≡ false) × (is_line_terminator c ≡ false)

-- TemplateCharacters, before what follows them
abbrev pub sources : List TemplateCharacter → List ℕ
sources [] = []
sources (t ∷ ts) = source t ++ sources ts

abbrev pub values : List TemplateCharacter → List ℕ
values [] = []
values (t ∷ ts) = value t ++ values ts

abbrev pub AllAllowed : List TemplateCharacter → List ℕ → Type 0
AllAllowed [] rest = Unit {0}
AllAllowed (t ∷ ts) rest = Allowed t (sources ts ++ rest) × AllAllowed ts rest
