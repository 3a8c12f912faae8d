use Rattle.payoff.proofs.packet.+tree_len.Given as goal

abbrev pub decreases-tree_len : goal.decreases-tree_len
decreases-tree_len l = l.fuel
