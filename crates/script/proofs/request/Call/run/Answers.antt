use Rattle.std.proofs.Common.{take, drop, sym, ap, ◌∙◌, arith, take_at}
use Rattle.std.proofs.lemmas.List.{with_items_is}
use Rattle.script.specs.Runs.{form}
use Rattle.script.proofs.request.Call.run.Goals as goal

pub returns : goal.returns
returns c =
    let k = c.in_ok-len.ensures in
    let n = c.in_ok-len.len in
    let old = c.as_mut_slice.result.now in
    let written = form c.args.self k.0 in (
      k.0,
      k.1,
      c.truncate.ensures.items
          ∙ ap (take n) (with_items_is c.in_ok-out.out c.write.new.out (omega (arith, c.as_mut_slice.ensures.len)) ∙ k.4)
          ∙ take_at written (drop n old) n (sym k.2),
      omega (arith, k.2, k.3, c.as_mut_slice.ensures.len, c.in_ok-out.ensures.len, c.min.ensures),
    )
