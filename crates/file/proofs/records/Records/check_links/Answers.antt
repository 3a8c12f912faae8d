use Rattle.file.specs.Found.{laid}
use Rattle.file.proofs.Parents.{link_refused, links_all}
use Rattle.file.proofs.records.Records.check_links.Goals as goal

pub returns-in-Some : goal.returns-in-Some
returns-in-Some c =
    let r = c.args.self.now in
    link_refused (laid r.sections) r.parents.now r.wrong r.long r.counted r.lawful c.if-not-has_root.ensures c.in-Some.x c.in-Some.ensures

pub returns-in-None : goal.returns-in-None
returns-in-None c = let r = c.args.self.now in links_all (laid r.sections) r.parents.now r.wrong r.long r.counted c.if-not-has_root.ensures c.in-None.ensures
