use Rattle.std.proofs.Common.{◌∙◌}
use Rattle.std.proofs.lemmas.List.{take_rest}
use Rattle.building.proofs.Seaming.{no_last, no_pair, met}
use Rattle.building.proofs.joined_text.seam.Goals as goal

pub returns-in_err-lead : goal.returns-in_err-lead
returns-in_err-lead c =
    no_last c.args.text.now c.args.start c.args.run c.in_ok-get.field-0.now c.last_leading.result (c.in_ok-get.ensures.lookup.0.2 ∙ take_rest c.args.text.now c.args.start) c.last_leading.ensures _ c.in_err-lead.was c.from_residual-in_err-lead.ensures

pub returns-in_err-pair : goal.returns-in_err-pair
returns-in_err-pair c =
    no_pair c.args.text.now c.args.start c.args.run c.in_ok-get.field-0.now c.last_leading.result (c.in_ok-get.ensures.lookup.0.2 ∙ take_rest c.args.text.now c.args.start) c.last_leading.ensures
    c.in_ok-of.field-0.now c.first_trailing.result c.in_ok-of.ensures.1 c.first_trailing.ensures c.in_ok-lead.lead c.in_ok-trail.trail c.in_ok-lead.was c.in_ok-trail.was
    _ c.in_err-pair.ensures

pub returns : goal.returns
returns c =
    met c.args.text.now c.args.start c.args.run c.in_ok-get.field-0.now c.last_leading.result (c.in_ok-get.ensures.lookup.0.2 ∙ take_rest c.args.text.now c.args.start) c.last_leading.ensures
    c.in_ok-of.field-0.now c.first_trailing.result c.in_ok-of.ensures.1 c.first_trailing.ensures c.in_ok-lead.lead c.in_ok-trail.trail c.in_ok-lead.was c.in_ok-trail.was
    c.in_ok-pair.field-0 _ c.in_ok-pair.ensures c.new.ensures
