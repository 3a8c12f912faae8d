-- Words that one space separates. Assumes nothing.
use Rattle.std.proofs.Common.{◌≡◌, ◌==◌, ℕ, ◌/◌, ◌%◌, ◌<◌, false, List, [], ◌∷◌, ◌++◌, All, refl, arith, rules}
use Rattle.std.proofs.lemmas.Bool.{ne_eqb}
use Rattle.std.proofs.lemmas.Bool.Decides.{nat_tests}
use Rattle.std.proofs.lemmas.List.Elements.{All-nil, All-cons, All-from_recursion}
use Rattle.std.proofs.lemmas.List.Splits.{slice_split_none, slice_split_at}
use Rattle.std.specs.Char.{digit_char, digit_value}
use Rattle.std.specs.Str.Parse.{AllDigits}
use Rattle.script.specs.Hex.{hexed}
use Rattle.script.specs.Parts.{name_of}
use Rattle.script.specs.Words.{words}
use Rattle.script.specs.declared.request.Call.{Call}
use Rattle.script.specs.declared.request.Call.TheVariants.{Escape, Cook}

-- No space is among the bytes.
abbrev NoSpace : ℕ → Type 0
NoSpace b = (b == 0x20) ≡ false

abbrev pub Spaceless : List ℕ → Type 0
Spaceless = All NoSpace

pub name_spaceless : (call : Call) → Spaceless (name_of call)
name_spaceless Escape = All-from_recursion NoSpace (name_of Escape) (search rules)
name_spaceless Cook = All-from_recursion NoSpace (name_of Cook) (search rules)

hex_digit : (v : ℕ) → (digit_char v == 0x20) ≡ false
hex_digit v = ne_eqb (digit_char v) 0x20 (λ e. grind (arith, nat_tests))

pub hexed_spaceless : (bs : List ℕ) → Spaceless (hexed bs)
hexed_spaceless [] = All-nil NoSpace
hexed_spaceless (b ∷ bs) = All-cons NoSpace (digit_char (b / 16)) (digit_char (b % 16) ∷ hexed bs) (hex_digit (b / 16)) (All-cons NoSpace (digit_char (b % 16)) (hexed bs) (hex_digit (b % 16)) (hexed_spaceless bs))

decimal_digit : (c : ℕ) → digit_value c < 10 → (c == 0x20) ≡ false
decimal_digit c d = ne_eqb c 0x20 (λ e. grind (arith, nat_tests))

pub digits_spaceless : (ds : List ℕ) → AllDigits 10 ds → Spaceless ds
digits_spaceless [] d = All-nil NoSpace
digits_spaceless (c ∷ ds) d = All-cons NoSpace c ds (decimal_digit c d.0) (digits_spaceless ds d.1)

pub one_word : (xs : List ℕ) → Spaceless xs → words xs ≡ xs ∷ []
one_word xs s = slice_split_none (λ b. b == 0x20) xs s

pub next_word : (xs ys : List ℕ) → Spaceless xs → words (xs ++ 0x20 ∷ ys) ≡ xs ∷ words ys
next_word xs ys s = slice_split_at (λ b. b == 0x20) xs 0x20 ys s refl
