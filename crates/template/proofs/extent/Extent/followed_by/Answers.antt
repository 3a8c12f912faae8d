use Rattle.std.proofs.Common.{◌≡◌, ◌&&◌, ◌-◌, sym, ap, ◌∙◌}
use Rattle.template.proofs.Extents.{nothing_before, nothing_behind, followed, saved}
use Rattle.template.proofs.extent.Extent.followed_by.Goals as goal
use Rattle.template.proofs.extent.Extent.followed_by.Goals.{then-self, else-self, then-meets, else-meets}

pub returns-then-self-eq0 : goal.returns-then-self-eq0
returns-then-self-eq0 c us vs m k fits = nothing_before c.args.self c.args.next us vs m k c.if-self-eq0.true

pub returns-then-next-eq0 : goal.returns-then-next-eq0
returns-then-next-eq0 c us vs m k fits = nothing_behind c.args.self c.args.next us vs m k c.if-next-eq0.true

pub returns : goal.returns
returns c us vs m k fits =
    let self = c.args.self in
    let next = c.args.next in
    let meets : c.if-self.meets ≡ (self.ends_leading && next.begins_trailing) =
    elim c.if-self.branch [
      | then-self w ↦ w.meets-is ∙ ap (λ b. b && next.begins_trailing) (sym w.if-self.true)
      | else-self w ↦ w.meets-is ∙ w.if-self.false ∙ ap (λ b. b && next.begins_trailing) (sym w.if-self.false)
    ]
    in
    let less : c.if-meets.stored_less ≡ saved c.if-self.meets =
    elim c.if-meets.branch [
      | then-meets w ↦ w.stored_less-is ∙ ap saved (sym w.if-meets.true)
      | else-meets w ↦ w.stored_less-is ∙ ap saved (sym w.if-meets.false)
    ]
    in
    followed self next us vs c.if-self.meets c.if-meets.stored_less c.saturating_sub.result c.saturating_sub-2.result m k
    c.if-self-eq0.false c.if-next-eq0.false fits meets less
    (c.saturating_sub.ensures ∙ ap (λ n. n - c.if-meets.stored_less.0) c.saturating_add.ensures)
    (c.saturating_sub-2.ensures ∙ ap (λ n. n - c.if-meets.stored_less.1) c.saturating_add-2.ensures)
