-- The answers of a host of any kind: those of the one that it is.
use Rattle.host.specs.Answers.{Answers}
use Rattle.host.specs.Silent.{silent_answers}
use Rattle.host.specs.Structural.{bound_of, structural_answers}
use Rattle.host.specs.Table.{rows_of, table_answers}
use Rattle.cases.specs.declared.any_host.AnyHost.{AnyHost}
use Rattle.cases.specs.declared.any_host.AnyHost.TheVariants.{Silent, Structural, Table}

abbrev pub answers_of : AnyHost → Answers
answers_of Silent = silent_answers
answers_of (Structural s) = structural_answers (bound_of s)
answers_of (Table t) = table_answers (rows_of t)
