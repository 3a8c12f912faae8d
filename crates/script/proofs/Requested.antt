-- What the words of a line ask for. Assumes nothing.
use Rattle.std.proofs.Common.{◌≡◌, ℕ, zero, suc, ◌-◌, ◌/◌, ◌%◌, ◌^◌, ◌<◌, ◌≤◌, ◌⊎◌, List, [], ◌∷◌, ◌++◌, Ok, Err, Result, ◌≢◌, length, get_or, sym, refl, ap, ◌∙◌, subst, inl, inr, append-nil, arith, Bor, IsUtf8, map}
use Rattle.std.proofs.lemmas.Bool.Decides.{nat_tests}
use Rattle.std.proofs.lemmas.Grind.{common_steps}
use Rattle.std.proofs.lemmas.Fmt.{IsAscii-from_digits}
use Rattle.std.proofs.lemmas.List.Splits.{join_with_byte-slice_split}
use Rattle.std.proofs.lemmas.Str.{IsUtf8-from_ascii, IsAscii-append}
use Rattle.std.specs.Char.{digit_char}
use Rattle.std.specs.List.{join_with_byte}
use Rattle.std.specs.Str.{IsAscii}
use Rattle.std.specs.Str.Parse.{IsNumeral, digits_value}
use Rattle.script.specs.Hex.{hexed}
use Rattle.script.specs.Parts.{name_of}
use Rattle.script.specs.Requests.{RoomSaid, Asks, PartsRead, RequestRead}
use Rattle.script.specs.Words.{Bytes, words}
use Rattle.script.specs.declared.request.Call.{Call}
use Rattle.script.specs.declared.request.Call.TheVariants.{Escape, Cook}
use Rattle.script.specs.declared.request.Request.{Request}
use Rattle.script.specs.declared.flaw.Flaw.{Flaw}
use Rattle.script.specs.declared.flaw.Flaw.TheVariants.{Malformed, Memory}
use Rattle.script.proofs.Spaces.{name_spaceless, hexed_spaceless, digits_spaceless, one_word, next_word}

-- Nothing asks for what the line says.
abbrev pub Idle : List ℕ → Type 0
Idle line = (call : Call) (bytes : List ℕ) (room : ℕ) → Bytes bytes → Asks line call bytes room → ⊥

pub idle : (line : List ℕ) (e : Flaw) → Idle line → RequestRead line (Err e)
idle line Malformed i = i
idle line Memory i = tt

-- What begins with the name of no call asks for nothing.
pub unnamed : (line : List ℕ) → ((rest : List ℕ) → line ≢ name_of Escape ++ 0x20 ∷ rest) → ((rest : List ℕ) → line ≢ name_of Cook ++ 0x20 ∷ rest) → Idle line
unnamed line no_escape no_cook Escape bytes room b a = no_escape (hexed bytes ++ a.0) a.2
unnamed line no_escape no_cook Cook bytes room b a = no_cook (hexed bytes ++ a.0) a.2

-- The words of a line that asks for something.
abbrev Said : List (List ℕ) → Call → List ℕ → ℕ → Type 0
Said ws call bytes room =
    ((ws ≡ name_of call ∷ hexed bytes ∷ []) × (room ≡ 2 ^ 64 - 1))
    ⊎ ((digits : List ℕ) × (ws ≡ name_of call ∷ hexed bytes ∷ digits ∷ []) × IsNumeral 10 digits × (digits_value 10 digits ≡ room) × (room < 2 ^ 64))

two : (call : Call) (bytes : List ℕ) → words (name_of call ++ 0x20 ∷ hexed bytes) ≡ name_of call ∷ hexed bytes ∷ []
two call bytes = next_word (name_of call) (hexed bytes) (name_spaceless call) ∙ ap (λ ws. name_of call ∷ ws) (one_word (hexed bytes) (hexed_spaceless bytes))

three : (call : Call) (bytes digits : List ℕ) → IsNumeral 10 digits → words (name_of call ++ 0x20 ∷ (hexed bytes ++ 0x20 ∷ digits)) ≡ name_of call ∷ hexed bytes ∷ digits ∷ []
three call bytes digits n =
    next_word (name_of call) (hexed bytes ++ 0x20 ∷ digits) (name_spaceless call)
    ∙ ap (λ ws. name_of call ∷ ws) (next_word (hexed bytes) digits (hexed_spaceless bytes))
    ∙ ap (λ ws. name_of call ∷ hexed bytes ∷ ws) (one_word digits (digits_spaceless digits n.1))

said : (line : List ℕ) (call : Call) (bytes : List ℕ) (room : ℕ) (end : List ℕ) → RoomSaid room end → line ≡ name_of call ++ 0x20 ∷ (hexed bytes ++ end) → Said (words line) call bytes room
said line call bytes room end (inl r) e =
    inl
    (ap words (e ∙ ap (λ l. name_of call ++ 0x20 ∷ (hexed bytes ++ l)) r.0 ∙ ap (λ l. name_of call ++ 0x20 ∷ l) (append-nil (hexed bytes))) ∙ two call bytes, r.1)
said line call bytes room end (inr r) e =
    inr
    (r.0, ap words (e ∙ ap (λ l. name_of call ++ 0x20 ∷ (hexed bytes ++ l)) r.1) ∙ three call bytes r.0 r.2, r.2, r.3, r.4)

joined : (line : List ℕ) (ws : List (List ℕ)) → words line ≡ ws → line ≡ join_with_byte 0x20 ws
joined line ws e = sym (join_with_byte-slice_split 0x20 line) ∙ ap (join_with_byte 0x20) e

-- The words of a line, from those that were read.
pub words_read : (line : List ℕ) (v s : List (Bor (List ℕ))) → map (λ x. x.now) v ≡ words line → s ≡ v → words line ≡ map (λ x. x.now) s
words_read line v s e same = sym e ∙ ap (map (λ x. x.now)) (sym same)

-- A list of three borrowed texts.
pub three_of : (v : List (Bor (List ℕ))) (d : Bor (List ℕ)) → 3 ≤ length v → length v < 4 → map (λ x. x.now) v ≡ (get_or v 0 d).now ∷ (get_or v 1 d).now ∷ (get_or v 2 d).now ∷ []
three_of [] d l m = absurd (omega arith)
three_of (x ∷ []) d l m = absurd (omega arith)
three_of (x ∷ y ∷ []) d l m = absurd (omega arith)
three_of (x ∷ y ∷ z ∷ []) d l m = refl
three_of (x ∷ y ∷ z ∷ t ∷ v) d l m = absurd (omega arith)

word : ℕ → List (List ℕ) → List ℕ
word k ws = get_or ws k []

-- A line of two words.
two_said : (name text : List ℕ) (ws : List (List ℕ)) (call : Call) (bytes : List ℕ) (room : ℕ) → ws ≡ name ∷ text ∷ [] → Said ws call bytes room → (name_of call ≡ name) × (hexed bytes ≡ text)
unfolding word
two_said name text ws call bytes room e (inl s) = (ap (word 0) (sym s.0 ∙ e), ap (word 1) (sym s.0 ∙ e))
two_said name text ws call bytes room e (inr s) = absurd (omega (arith, ap length (sym s.1 ∙ e)))

pub two_words : (line name text : List ℕ) (r : Result Request Flaw) → words line ≡ name ∷ text ∷ [] → PartsRead name text (2 ^ 64 - 1) r → RequestRead line r
two_words line name text (Ok q) e p =
    ([], inl (refl, p.2), joined line _ e ∙ ap (λ l. l ++ 0x20 ∷ text) (sym p.0) ∙ ap (λ l. name_of q.call ++ 0x20 ∷ l) (sym p.1 ∙ sym (append-nil (hexed q.text.items))))
two_words line name text (Err Malformed) e p =
    λ call bytes room b a.
    let s = two_said name text (words line) call bytes room e (said line call bytes room a.0 a.1 a.2) in
    p call bytes b s.0 s.1
two_words line name text (Err Memory) e p = tt

-- A line of three words.
three_said : (name text digits : List ℕ) (ws : List (List ℕ)) (call : Call) (bytes : List ℕ) (room : ℕ) → ws ≡ name ∷ text ∷ digits ∷ [] → Said ws call bytes room → (name_of call ≡ name) × (hexed bytes ≡ text) × IsNumeral 10 digits × (digits_value 10 digits < 2 ^ 64)
unfolding word
three_said name text digits ws call bytes room e (inl s) = absurd (omega (arith, ap length (sym s.0 ∙ e)))
three_said name text digits ws call bytes room e (inr s) =
    let same : s.0 ≡ digits = ap (word 2) (sym s.1 ∙ e) in (
      ap (word 0) (sym s.1 ∙ e),
      ap (word 1) (sym s.1 ∙ e),
      subst (IsNumeral 10) same s.2,
      subst (λ n. n < 2 ^ 64) (sym s.3 ∙ ap (digits_value 10) same) s.4,
    )

pub three_words : (line name text digits : List ℕ) (room : ℕ) (r : Result Request Flaw) → words line ≡ name ∷ text ∷ digits ∷ [] → IsNumeral 10 digits × (digits_value 10 digits ≡ room) → room < 2 ^ 64 → PartsRead name text room r → RequestRead line r
three_words line name text digits room (Ok q) e n l p = (
  0x20 ∷ digits,
  inr (digits, refl, n.0, n.1 ∙ sym p.2, subst (λ k. k < 2 ^ 64) (sym p.2) l),
  joined line _ e ∙ ap (λ l. l ++ 0x20 ∷ (text ++ 0x20 ∷ digits)) (sym p.0) ∙ ap (λ l. name_of q.call ++ 0x20 ∷ (l ++ 0x20 ∷ digits)) (sym p.1),
)
three_words line name text digits room (Err Malformed) e n l p =
    λ call bytes asked b a.
    let s = three_said name text digits (words line) call bytes asked e (said line call bytes asked a.0 a.1 a.2) in
    p call bytes b s.0 s.1
three_words line name text digits room (Err Memory) e n l p = tt

-- The third word is no number of 64 bits.
pub no_room : (line name text digits : List ℕ) → words line ≡ name ∷ text ∷ digits ∷ [] → (IsNumeral 10 digits → digits_value 10 digits < 2 ^ 64 → ⊥) → Idle line
no_room line name text digits e bad call bytes room b a =
    let s = three_said name text digits (words line) call bytes room e (said line call bytes room a.0 a.1 a.2) in
    bad s.2 s.3

-- There are not two or three words.
counted : (ws : List (List ℕ)) (call : Call) (bytes : List ℕ) (room : ℕ) → Said ws call bytes room → (length ws ≡ 2) ⊎ (length ws ≡ 3)
counted ws call bytes room (inl s) = inl (ap length s.0)
counted ws call bytes room (inr s) = inr (ap length s.1)

pub miscounted : (line : List ℕ) → (length (words line) ≡ 2 → ⊥) → (length (words line) ≡ 3 → ⊥) → Idle line
miscounted line not_two not_three call bytes room b a =
    elim (counted (words line) call bytes room (said line call bytes room a.0 a.1 a.2)) [ inl n ↦ not_two n | inr n ↦ not_three n ]

-- Only UTF-8 asks for something.
ascii_name : (call : Call) → IsAscii (name_of call)
ascii_name Escape i = grind (arith, common_steps)
ascii_name Cook i = grind (arith, common_steps)

hex_low : (v : ℕ) → v < 16 → digit_char v < 128
hex_low v l = grind (arith, nat_tests)

ascii_hexed : (bs : List ℕ) → Bytes bs → IsAscii (hexed bs)
ascii_hexed [] ok i = omega arith
ascii_hexed (b ∷ bs) ok zero = hex_low (b / 16) (omega (arith, ok.0))
ascii_hexed (b ∷ bs) ok (suc zero) = hex_low (b % 16) (omega arith)
ascii_hexed (b ∷ bs) ok (suc (suc i)) = ascii_hexed bs ok.1 i

ascii_space : (xs : List ℕ) → IsAscii xs → IsAscii (0x20 ∷ xs)
ascii_space xs a zero = omega arith
ascii_space xs a (suc i) = a i

ascii_end : (room : ℕ) (end : List ℕ) → RoomSaid room end → IsAscii end
ascii_end room end (inl r) = subst IsAscii (sym r.0) (λ i. omega arith)
ascii_end room end (inr r) = subst IsAscii (sym r.1) (ascii_space r.0 (IsAscii-from_digits r.0 r.2.1))

pub no_text : (line : List ℕ) → ¬ (IsUtf8 line) → Idle line
no_text line not_text call bytes room b a =
    let tail : IsAscii (hexed bytes ++ a.0) = IsAscii-append (hexed bytes) a.0 (ascii_hexed bytes b) (ascii_end room a.0 a.1) in
    let all : IsAscii (name_of call ++ 0x20 ∷ (hexed bytes ++ a.0)) = IsAscii-append (name_of call) (0x20 ∷ (hexed bytes ++ a.0)) (ascii_name call) (ascii_space (hexed bytes ++ a.0) tail) in
    not_text (IsUtf8-from_ascii line (subst IsAscii (sym a.2) all))
