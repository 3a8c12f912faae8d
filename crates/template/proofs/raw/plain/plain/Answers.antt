use Rattle.std.proofs.Common.{◌≡◌, ◌<◌, ◌≢◌, length, get_or, ap, arith, length-append}
use lib.Utf8.{encode}
use Rattle.std.proofs.lemmas.Str.{length-encode, len_utf8_bounds}
use Rattle.template.specs.declared.raw.RawPart.TheVariants.{Plain}
use Rattle.template.proofs.Parting.{parted}
use Rattle.template.proofs.PlainRuns.{ends_at, run_more, run_found}
use Rattle.template.proofs.LostRuns.{run_lost}
use Rattle.template.proofs.raw.plain.plain.Goals as goal

pub returns-in_err-rest : goal.returns-in_err-rest
returns-in_err-rest c =
    let rest = c.loop-rest.rest.now in
    let some : 0 < length rest = grind arith in
    let other : get_or rest 0 0 ≢ 0x5C = grind arith in
    rw c.from_residual.ensures (run_lost c.args.raw.now rest c.loop-rest.invariant c.requires.1 some other c.in_err-rest.ensures)

pub loop-rest-smaller : goal.loop-rest-smaller
loop-rest-smaller c =
    let p = c.in_ok-rest.ensures in
    omega (arith, ap length p.5, length-append (encode p.0) c.in_ok-rest.rest.now, length-encode p.0, len_utf8_bounds p.0)

pub loop-rest-preserved : goal.loop-rest-preserved
loop-rest-preserved c = run_more c.args.raw.now c.loop-rest.rest.now c.in_ok-rest.rest.now c.loop-rest.invariant c.in_ok-rest.ensures

pub returns : goal.returns
returns c =
    let raw = c.args.raw.now in
    let rest = c.loop-rest.rest.now in
    let slash : 0 < length rest → get_or rest 0 0 ≡ 0x5C = λ some. grind arith in
    let found = run_found raw rest c.loop-rest.invariant (ends_at rest slash) c.requires.0 c.requires.1 in
    parted (Plain c.before-2.result) raw rest found.0 found.1 found.2 found.3 found.4 c.before-2.ensures
