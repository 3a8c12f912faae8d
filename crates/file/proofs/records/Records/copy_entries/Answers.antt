use Rattle.std.proofs.Common.{Some, [], ◌∷◌, ap, ◌∙◌, sym, subst}
use Rattle.std.proofs.lemmas.Option.{slice_get-map, slice_get-get_or}
use Rattle.std.specs.Option.{option_map}
use Rattle.store.specs.Held.{AppendsTo}
use Rattle.file.specs.Format.{word}
use Rattle.file.specs.Found.{laid}
use Rattle.file.proofs.Copied.{next_item}
use Rattle.file.proofs.records.Records.copy_entries.Goals as goal

pub loop-entry-preserved : goal.loop-entry-preserved
loop-entry-preserved c =
    let s = c.args.self.now.sections in
    let i = c.loop-entry.entry-index in
    let w = c.word.result in
    next_item (laid s).entries i w c.clear.new.self c.loop-entry.entries c.append.new.self c.unwrap.result c.loop-entry.invariant
    (slice_get-map (λ entry. word entry 0) s.entries.now i
    ∙ ap (option_map (λ entry. word entry 0)) (slice_get-get_or s.entries.now i _ c.loop-entry-test.true)
    ∙ ap (λ v. Some v) (sym c.word.ensures))
    (subst (AppendsTo c.loop-entry.entries (w ∷ []) c.append.new.self) c.unwrap.ensures c.append.ensures)
