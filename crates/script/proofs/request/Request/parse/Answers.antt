use Rattle.std.proofs.Common.{[], ◌∷◌, ◌++◌, Some, None, subst, sym, ◌∙◌, true≢false, arith}
use Rattle.std.proofs.lemmas.Bool.Decides.{Decides-eqb}
use Rattle.std.proofs.lemmas.Result.{err_from_is_err_and}
use Rattle.std.proofs.lemmas.Slice.Eq.{starts_is}
use Rattle.script.specs.Parts.{name_of}
use Rattle.script.specs.Requests.{PartsRead}
use Rattle.script.specs.declared.request.Call.TheVariants.{Escape, Cook}
use Rattle.script.specs.Words.{TwoOrThree, words}
use Rattle.script.proofs.Requested.{unnamed, idle, no_text, two_words, three_words, no_room, miscounted}
use Rattle.script.proofs.request.Request.parse.Goals as goal
use Rattle.script.proofs.request.Request.parse.Goals.{in-Some-room+in_ok-room-in-Some-room, in-None}

pub returns-then-not-starts_with-2 : goal.returns-then-not-starts_with-2
returns-then-not-starts_with-2 c =
    unnamed c.args.line.now
    (λ rest e. true≢false (sym ((starts_is Decides-eqb c.args.line.now (name_of Escape ++ 0x20 ∷ []) c.starts_with.result c.starts_with.ensures.value).1 rest e) ∙ c.if-not-starts_with.true))
    (λ rest e. true≢false (sym ((starts_is Decides-eqb c.args.line.now (name_of Cook ++ 0x20 ∷ []) c.starts_with-then-not-starts_with.result c.starts_with-then-not-starts_with.ensures.value).1 rest e) ∙ c.if-not-starts_with-2.true))

pub returns-in_err-from_utf8 : goal.returns-in_err-from_utf8
returns-in_err-from_utf8 c =
    let p = err_from_is_err_and c.from_residual.result c.from_residual.ensures.1 in
    rw (p.1) (idle c.args.line.now p.0 (no_text c.args.line.now c.in_err-from_utf8.ensures.cases.0))

pub returns-in_default : goal.returns-in_default
returns-in_default c =
    let count = subst (λ l. TwoOrThree (words l) None) c.in_ok-from_utf8.ensures.cases.0 (subst (TwoOrThree _) c.in_default.is c.two_or_three.ensures) in
    miscounted c.args.line.now count.0 count.1

pub returns-in_err-room-in-Some-room : goal.returns-in_err-room-in-Some-room
returns-in_err-room-in-Some-room c =
    let all = subst (λ l. TwoOrThree (words l) (Some (c.in-Some.call, c.in-Some.text, c.in-Some.room))) c.in_ok-from_utf8.ensures.cases.0 c.in-Some.ensures in
    let three = subst (λ o. TwoOrThree (words c.args.line.now) (Some (c.in-Some.call, c.in-Some.text, o))) c.in-Some-room.is all in
    let p = err_from_is_err_and c.from_residual-in_err-room-in-Some-room.result c.from_residual-in_err-room-in-Some-room.ensures.1 in
    let third = rw c.as_bytes.ensures.value at c.in_err-room-in-Some-room.ensures in
    rw (p.1) (idle c.args.line.now p.0 (no_room c.args.line.now _ _ _ three third))

pub returns : goal.returns
returns c =
    let all = subst (λ l. TwoOrThree (words l) (Some (c.in-Some.call, c.in-Some.text, c.in-Some.room))) c.in_ok-from_utf8.ensures.cases.0 c.in-Some.ensures in
    elim c.match-room.branch [
      | in-Some-room+in_ok-room-in-Some-room w ↦
          (let three = subst (λ o. TwoOrThree (words c.args.line.now) (Some (c.in-Some.call, c.in-Some.text, o))) w.in-Some-room.is all in
          let third = rw w.as_bytes.ensures.value at w.in_ok-room-in-Some-room.ensures in
          let parts = subst (λ n. PartsRead c.in-Some.call.now c.in-Some.text.now n c.of.result) w.room-is c.of.ensures in
          three_words c.args.line.now _ _ _ _ c.of.result three third (omega arith) parts)
      | in-None w ↦
          (let two = subst (λ o. TwoOrThree (words c.args.line.now) (Some (c.in-Some.call, c.in-Some.text, o))) w.in-None.is all in
          let parts = subst (λ n. PartsRead c.in-Some.call.now c.in-Some.text.now n c.of.result) w.room-is c.of.ensures in
          two_words c.args.line.now _ _ c.of.result two parts)
    ]
