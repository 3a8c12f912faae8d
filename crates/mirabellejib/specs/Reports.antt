-- What is told of a payoff, in numbers.
use Rattle.std.specs.Prelude.{◌≡◌, ℕ, Bool, true, false, Ok, Err, Result}
use Rattle.base.specs.declared.fault.Fault.{Fault}
use Rattle.base.specs.Faults.{number, layer, node}
use Rattle.store.specs.declared.stores.Counts.{Counts}
use Rattle.model.specs.declared.answer.Swept.{Swept}
use Rattle.model.specs.declared.answer.SweepRefused.{SweepRefused}
use Rattle.lending.specs.declared.checking.Checked.{Checked}
use Rattle.lending.specs.declared.shortening.Shortened.{Shortened}
use Rattle.mirabellejib.specs.declared.report.Report.{Report}

-- A file that was refused: number, layer and node of the fault, and nothing else.
abbrev pub report_of_refused : Fault → Report
report_of_refused e = record {
  fault = number e;
  layer = layer e;
  node = node e;
  rewrites = 0;
  rounds = 0;
  left = 0;
  root = 0;
  nodes = 0;
  entries = 0;
  text = 0;
}

-- A file that is lawful: its root, and how much it holds.
abbrev pub report_of_checked : Checked → Report
report_of_checked c = record {
  fault = 0;
  layer = 0;
  node = 0;
  rewrites = 0;
  rounds = 0;
  left = 0;
  root = c.root;
  nodes = c.counts.nodes;
  entries = c.counts.entries;
  text = c.counts.text;
}

abbrev pub number_of_flag : Bool → ℕ
number_of_flag false = 0
number_of_flag true = 1

-- What a sweep answered, and what is left; where a rewrite was refused, the fault and how many were made before it.
abbrev pub report_of_swept : ℕ → Counts → Result Swept SweepRefused → Report
report_of_swept root counts (Ok s) = record {
  fault = 0;
  layer = 0;
  node = 0;
  rewrites = s.rewrites;
  rounds = s.rounds;
  left = number_of_flag s.left;
  root = root;
  nodes = counts.nodes;
  entries = counts.entries;
  text = counts.text;
}
report_of_swept root counts (Err e) = record {
  fault = number e.fault;
  layer = layer e.fault;
  node = node e.fault;
  rewrites = e.rewrites;
  rounds = 0;
  left = 0;
  root = root;
  nodes = counts.nodes;
  entries = counts.entries;
  text = counts.text;
}

abbrev pub report_of_shortened : Shortened → Report
report_of_shortened s = report_of_swept s.root s.counts s.swept

abbrev pub report_of : {A : Type 0} → (A → Report) → Result A Fault → Report
report_of told (Ok a) = told a
report_of told (Err e) = report_of_refused e

-- The report tells what a call answered, of which this is so.
abbrev pub Reports : {A : Type 0} → (A → Report) → (Result A Fault → Type 0) → Report → Type 0
Reports {A} told Is report = (r : Result A Fault) × Is r × (report ≡ report_of told r)
