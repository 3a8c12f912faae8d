-- What is written of bytes, digit by digit. Assumes nothing.
use Rattle.std.proofs.Common.{◌≡◌, ℕ, ◌+◌, ◌/◌, ◌%◌, ◌<◌, ◌≤◌, Bool, true, false, cond, ltb, List, [], ◌∷◌, ◌++◌, length, get_or, take, sym, ap, ◌∙◌, append-nil, arith}
use lib.Utf8.{encode}
use Rattle.std.proofs.Output.{has_written_append, has_written_of_eq, writes_in_calls_nil}
use Rattle.std.proofs.lemmas.List.{take_more, take_all}
use Rattle.std.proofs.lemmas.Str.{encode_ascii}
use Rattle.std.specs.declared.fmt.Formatter.{Formatter}
use Rattle.std.specs.Char.{digit_char}
use Rattle.std.specs.Fmt.{IsPlainFormatter, HasWritten}
use Rattle.script.specs.Hex.{two_digits, hexed}
use Rattle.script.proofs.Pairs.{hexed_push}

low : (b : Bool) (v : ℕ) → v < 16 → cond b (48 + v) (87 + v) < 128
low true v l = omega arith
low false v l = omega arith

ascii : (c v : ℕ) → v < 16 → c ≡ digit_char v → encode c ≡ digit_char v ∷ []
ascii c v l e = ap encode e ∙ encode_ascii (digit_char v) (low (ltb v 10) v l)

hexed_more : (bs : List ℕ) (i : ℕ) → i < length bs → hexed (take i bs) ++ two_digits (get_or bs i 0) ≡ hexed (take (i + 1) bs)
hexed_more bs i l =
    ap (λ (zs : List ℕ). hexed (take i bs) ++ zs) (sym (append-nil (two_digits (get_or bs i 0))))
    ∙ sym (hexed_push (take i bs) (get_or bs i 0) [])
    ∙ append-nil (hexed (take i bs ++ get_or bs i 0 ∷ []))
    ∙ ap (λ (zs : List ℕ). hexed zs) (sym (take_more bs i 0 l))

module _ {W : Type 0} (took : W → List ℕ → W → Type 0) where
  pub put_none : (f : Formatter W) → IsPlainFormatter f → HasWritten took f [] f
  put_none f plain = record { wrote = writes_in_calls_nil took f.writer; plain = plain }

  pub put_two : (f g h : Formatter W) (b c d : ℕ) → b < 256 → c ≡ digit_char (b / 16) → d ≡ digit_char (b % 16) → HasWritten took f (encode c) g → HasWritten took g (encode d) h → HasWritten took f (two_digits b) h
  put_two f g h b c d l high low first second =
      let one = has_written_of_eq took f (encode c) (digit_char (b / 16) ∷ []) g (ascii c (b / 16) (omega arith) high) first in
      let two = has_written_of_eq took g (encode d) (digit_char (b % 16) ∷ []) h (ascii d (b % 16) (omega arith) low) second in
      has_written_append took f (digit_char (b / 16) ∷ []) g (digit_char (b % 16) ∷ []) h one two

  pub put_byte : (f g h : Formatter W) (bs : List ℕ) (i b : ℕ) → i < length bs → b ≡ get_or bs i 0 → HasWritten took f (hexed (take i bs)) g → HasWritten took g (two_digits b) h → HasWritten took f (hexed (take (i + 1) bs)) h
  put_byte f g h bs i b l e old new =
      let all = has_written_append took f (hexed (take i bs)) g (two_digits b) h old new in
      has_written_of_eq took f _ _ h (ap (λ (x : ℕ). hexed (take i bs) ++ two_digits x) e ∙ hexed_more bs i l) all

  pub put_word : (f g : Formatter W) (bs : List ℕ) (i : ℕ) → length bs ≤ i → HasWritten took f (hexed (take i bs)) g → HasWritten took f (hexed bs) g
  put_word f g bs i all old = has_written_of_eq took f _ _ g (ap (λ (zs : List ℕ). hexed zs) (take_all i bs all)) old
