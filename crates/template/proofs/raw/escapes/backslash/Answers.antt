use Rattle.std.proofs.Common.{◌∷◌, sym, refl, ap, ◌∙◌, subst}
use lib.Utf8.{encodes}
use Rattle.template.specs.Grammar.{escape, continuation, source}
use Rattle.template.specs.Fronts.{Frontless}
use Rattle.template.specs.declared.raw.RawPart.TheVariants.{Escaped, Continuation}
use Rattle.template.proofs.Parting.{parted_one, slash_split, slash_none, line_front, slash_unread}
use Rattle.template.proofs.raw.escapes.backslash.Goals as goal

pub returns-in_err-c : goal.returns-in_err-c
returns-in_err-c c =
    rw c.from_residual.ensures (slash_none c.args.raw.now c.args.after.now c.requires (slash_unread c.args.after.now c.in_err-c.ensures))

pub before-requires : goal.before-requires
before-requires c =
    let raw = c.args.raw.now in
    let rest = c.in_ok-c.rest.now in
    let split = slash_split raw c.args.after.now rest c.in_ok-c.c c.requires c.in_ok-c.ensures.1 in
    let line = c.in-Some.ensures in
    (encodes (source (continuation line.0)), (line_front raw rest c.in-Some.more.now c.in_ok-c.c split line).0)

pub returns-in-Some : goal.returns-in-Some
returns-in-Some c =
    let raw = c.args.raw.now in
    let rest = c.in_ok-c.rest.now in
    let more = c.in-Some.more.now in
    let split = slash_split raw c.args.after.now rest c.in_ok-c.c c.requires c.in_ok-c.ensures.1 in
    let line = c.in-Some.ensures in
    let bytes = c.before-in-Some.result in
    parted_one (Continuation bytes) raw more (continuation line.0) (line.0, refl) (line_front raw rest more c.in_ok-c.c split line) c.before-in-Some.ensures

pub returns-in_err-found : goal.returns-in_err-found
returns-in_err-found c =
    let split = ap (λ xs. 0x5C ∷ xs) c.in_ok-c.ensures.1 in
    rw c.from_residual-in_err-found.ensures
    (slash_none c.args.raw.now c.args.after.now c.requires (subst Frontless (sym split) c.in_err-found.ensures))

pub returns : goal.returns
returns c =
    let raw = c.args.raw.now in
    let split = slash_split raw c.args.after.now c.in_ok-c.rest.now c.in_ok-c.c c.requires c.in_ok-c.ensures.1 in
    let found = c.in_ok-found.ensures in
    let part = Escaped c.before-2.result c.in_ok-found.found.code in
    parted_one part raw c.in_ok-found.found.rest.now (escape found.0) (found.0, refl, found.1) (split ∙ found.2.0, found.2.1, found.2.2) c.before-2.ensures
