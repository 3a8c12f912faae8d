use Rattle.deciding.proofs.Picked.{unit_here, unit_past}
use Rattle.deciding.proofs.property_access.unit.Goals as goal

pub returns-in-Ok-Some : goal.returns-in-Ok-Some
returns-in-Ok-Some c = record {
  reads = λ h next u s.
      let e = c.in-Ok-Some.ensures in unit_here _ e.0 u _ _ _ e.1 e.2 c.in-Ok-Some.field-0-is s next;
  writes = λ x. tt;
}

pub returns-in-Ok-None : goal.returns-in-Ok-None
returns-in-Ok-None c = record {
  reads = λ h next u s.
      let e = c.in-Ok-None.ensures in unit_past _ e.0 u _ _ e.1 e.2 c.in-Ok-None.field-0-is s next;
  writes = λ x. tt;
}
