use Rattle.std.proofs.Common.{◌≡◌, ◌≤◌, true, length, drop, sym, ap, ◌∙◌, subst, arith, length-append}
use lib.Utf8.{scalar, encode}
use Rattle.std.proofs.lemmas.Str.{encode_same}
use Rattle.template.proofs.raw.front.split_char.Goals as goal

pub returns-in_err-c : goal.returns-in_err-c
returns-in_err-c c =
    rw c.from_residual-in_err-c.ensures
    (λ x rest s e.
    let code = c.in_ok-first.first.code in
    let same = encode_same x code rest (drop (length (encode code)) c.args.bytes.now) (sym e ∙ c.in_ok-first.ensures.2) in
    c.in_err-c.ensures.value (subst (λ y. scalar y ≡ true) same.0 s))

-- The character's bytes are a front of the bytes.
fits : (c : goal.In_ok-c) → length c.in_ok-first.first.bytes.now ≤ length c.args.bytes.now
fits c =
    let h = c.in_ok-first.ensures in
    let own = encode c.in_ok-first.first.code in
    omega (arith, ap length h.1, ap length h.2, length-append own (drop (length own) c.args.bytes.now))

pub slice_bounds-result-start : goal.slice_bounds-result-start
slice_bounds-result-start c = fits c
