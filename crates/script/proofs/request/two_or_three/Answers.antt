use Rattle.std.proofs.Common.{◌≡◌, sym, subst, ◌∙◌, rules}
use Rattle.std.proofs.lemmas.Iterator.Splits.{YieldsList-from_str_split}
use Rattle.std.specs.Str.Iter.{split_steps}
use Rattle.std.specs.Str.Pattern.{FindsChar}
use Rattle.script.specs.Words.{TwoOrThree, words}
use Rattle.script.proofs.Stepping.{alone, many, few}
use Rattle.script.proofs.request.two_or_three.Goals as goal

pub returns-in_err-second : goal.returns-in_err-second
returns-in_err-second c =
    let left = YieldsList-from_str_split 0x20 c.args.line.now (search rules) c.split-words.ensures.text c.split-words.ensures.has_more c.split-words.ensures.pattern in
    subst (TwoOrThree (words c.args.line.now)) (sym c.from_residual-in_err-second.ensures)
    (alone (split_steps FindsChar (λ a b. b ≡ a)) _ _ _ c.in_ok-first.first _ left.runs c.in_ok-first.ensures.steps c.in_err-second.ensures.steps)

pub returns-then-is_some : goal.returns-then-is_some
returns-then-is_some c =
    let left = YieldsList-from_str_split 0x20 c.args.line.now (search rules) c.split-words.ensures.text c.split-words.ensures.has_more c.split-words.ensures.pattern in
    many (split_steps FindsChar (λ a b. b ≡ a)) (λ s t k. k.1) _ _ _ _ _ c.in_ok-first.first c.in_ok-second.second c.next-third.result c.next-3.result _ left.runs c.in_ok-first.ensures.steps c.in_ok-second.ensures.steps c.next-third.ensures.steps c.next-3.ensures.steps (sym c.is_some.ensures ∙ c.if-is_some.true)

pub returns : goal.returns
returns c =
    let left = YieldsList-from_str_split 0x20 c.args.line.now (search rules) c.split-words.ensures.text c.split-words.ensures.has_more c.split-words.ensures.pattern in
    few (split_steps FindsChar (λ a b. b ≡ a)) _ _ _ _ _ c.in_ok-first.first c.in_ok-second.second c.next-third.result c.next-3.result _ left.runs c.in_ok-first.ensures.steps c.in_ok-second.ensures.steps c.next-third.ensures.steps c.next-3.ensures.steps (sym c.is_some.ensures ∙ c.if-is_some.false)
