use Rattle.std.proofs.Common.{◌≡◌, sym, subst, inl, inr, rules}
use Rattle.std.proofs.lemmas.Bool.{cases_eq}
use Rattle.template.specs.Fronts.{EndsLine}
use Rattle.template.proofs.Lines.{ends_lf, ends_ls, ends_ps}
use Rattle.template.proofs.raw.escapes.past_line_end.Goals as goal

pub returns-in-10 : goal.returns-in-10
returns-in-10 c =
    let x = c.args.c in
    let rest = c.args.rest.now in
    elim (cases_eq x 0x0A) [
      | inl e ↦ subst (λ y. EndsLine y rest rest) (sym e) (ends_lf rest)
      | inr other ↦
          elim (cases_eq x 0x2028) [
            | inl e ↦ subst (λ y. EndsLine y rest rest) (sym e) (ends_ls rest)
            | inr last ↦
                let e : x ≡ 0x2029 = search rules in
                subst (λ y. EndsLine y rest rest) (sym e) (ends_ps rest)
          ]
    ]
