use Rattle.std.proofs.Common.{◌≡◌, ◌+◌, ◌<◌, ◌⊎◌, length, take, drop, sym, ◌∙◌, subst, inl, inr, arith}
use Rattle.std.proofs.lemmas.List.{take_rest, length-take-le}
use Rattle.template.specs.Grammar.{mv}
use Rattle.template.specs.Fronts.{StandsFor}
use Rattle.template.proofs.Braces.{unclosed, no_number, no_code_point, braced_found, brace_split, open_before}
use Rattle.template.proofs.raw.escapes.braced_escape.Goals as goal

pub returns-in_err-end : goal.returns-in_err-end
returns-in_err-end c =
    rw c.from_residual.ensures (unclosed c.args.after.now c.in_err-end.ensures)

pub returns-in_err-code : goal.returns-in_err-code
returns-in_err-code c =
    let after = c.args.after.now in
    let i = c.in_ok-end.end in
    let at = c.in_ok-end.ensures in
    rw c.from_residual-in_err-code.ensures
    (no_number after (take i after) (drop (i + 1) after) (brace_split after i at.0 at.1) (open_before after i at.0 at.2) c.in_err-code.ensures)

pub returns-then-end-eq0 : goal.returns-then-end-eq0
returns-then-end-eq0 c =
    let after = c.args.after.now in
    let i = c.in_ok-end.end in
    let at = c.in_ok-end.ensures in
    let number = c.in_ok-code.ensures in
    let long = length-take-le i after (omega arith) in
    let bad : (length (take i after) ≡ 0) ⊎ (0x10FFFF < mv (take i after)) =
    elim c.then-end-eq0.either [ inl e ↦ inl (long ∙ e) | inr e ↦ inr (omega arith) ]
    in
    no_code_point after (take i after) (drop (i + 1) after) (brace_split after i at.0 at.1) number.0 bad

pub returns : goal.returns
returns c =
    let after = c.args.after.now in
    let i = c.in_ok-end.end in
    let at = c.in_ok-end.ensures in
    let code = c.in_ok-code.code in
    let number = c.in_ok-code.ensures in
    let long = length-take-le i after (omega arith) in
    let some : 0 < length (take i after) = omega arith in
    subst (StandsFor _ code) (sym (take_rest after (i + 1)))
    (braced_found after (take i after) (drop (i + 1) after) code (brace_split after i at.0 at.1) number.0 some number.1 (omega arith))
