use Rattle.std.proofs.Common.{◌≡◌, ◌<◌, false, ◌&&◌, ◌++◌, length, drop, sym, refl, ap, ◌∙◌, inl, arith}
use lib.Utf8.{encode}
use Rattle.std.proofs.lemmas.List.{take_rest}
use Rattle.std.proofs.lemmas.Bool.{eqb-false, and_left, and_right}
use Rattle.text.specs.Utf16.{trailing}
use Rattle.text.proofs.Stepping.{stops, clashes}
use Rattle.text.proofs.reader.Characters.next.Goals as goal
use Rattle.text.proofs.reader.Characters.next.Goals.{else-self-via-then-self+else-is_trailing, else-self-via-else-self}

pub returns-in_default : goal.returns-in_default
returns-in_default c =
    let bytes = c.args.self.now.rest.now in
    let some : 0 < length bytes = omega (arith, eqb-false (length bytes) 0 (sym c.if-is_empty.ensures)) in
    (inl (refl, stops c.args.self.now.led bytes c.in_default.ensures some), refl, refl)

pub returns-then-is_trailing : goal.returns-then-is_trailing
returns-then-is_trailing c =
    let bytes = c.args.self.now.rest.now in
    let x = c.in-Some.c.code in
    let some : 0 < length bytes = omega (arith, eqb-false (length bytes) 0 (sym c.if-is_empty.ensures)) in (
      inl (refl, clashes c.args.self.now.led bytes (drop (length (encode x)) bytes) x c.in-Some.ensures.2 some c.if-self.true (sym c.if-is_trailing.ensures)),
      refl,
      refl,
    )

pub returns : goal.returns
returns c =
    let bytes = c.args.self.now.rest.now in
    let x = c.in-Some.c.code in
    let own = c.in-Some.c.bytes.now in
    let h = c.in-Some.ensures in
    let apart : (c.args.self.now.led && trailing x) ≡ false =
    elim c.else-self.branch [
      | else-self-via-then-self+else-is_trailing w ↦ and_right c.args.self.now.led (trailing x) (sym w.if-is_trailing.ensures)
      | else-self-via-else-self w ↦ and_left c.args.self.now.led (trailing x) w.if-self.false
    ]
    in (
      omega (arith, h.0),
      apart,
      h.1,
      h.2 ∙ ap (λ l. encode x ++ drop (length l) bytes) (sym h.1) ∙ ap (λ l. encode x ++ l) (sym (take_rest bytes (length own))),
      c.is_leading-self.ensures,
    )
