use Rattle.cases.proofs.printing.+show.Given as goal

abbrev pub decreases-show : goal.decreases-show
decreases-show g l = l.fuel
