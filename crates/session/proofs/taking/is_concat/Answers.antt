use Rattle.std.proofs.Common.{◌≡◌, ◌&&◌, sym, ap, ◌∙◌, codes, bytes_eq}
use Rattle.text.specs.Stored.{stored}
use Rattle.meaning.specs.Methods.{concat_name}
use Rattle.deciding.proofs.Names.{concat_stored}
use Rattle.store.specs.Stores.{held_of}
use Rattle.tree.specs.Heap.{text_at}
use Rattle.session.proofs.taking.is_concat.Goals as goal

name_stored : stored concat_name ≡ codes "concat"
unfolding concat_name
name_stored = concat_stored.1

pub returns-in_default : goal.returns-in_default
returns-in_default c = ap (λ b. b && bytes_eq (text_at (held_of c.args.stores.now).text c.args.name) (stored concat_name)) (sym c.in_default.ensures)

pub returns : goal.returns
returns c =
    c.eq.ensures
    ∙ ap (λ b. bytes_eq c.in-Some.bytes.now b) (c.as_slice.ensures ∙ sym name_stored)
    ∙ ap (λ b. bytes_eq b (stored concat_name)) c.in-Some.ensures.1
    ∙ ap (λ b. b && bytes_eq (text_at (held_of c.args.stores.now).text c.args.name) (stored concat_name)) (sym c.in-Some.ensures.0)
