-- Line ends in raw text.
use Rattle.std.proofs.Common.{ℕ, List, refl}
use lib.Utf8.{encode}
use Rattle.template.specs.Grammar.{lf, ls, ps}
use Rattle.template.specs.Fronts.{EndsLine}

pub ends_lf : (rest : List ℕ) → EndsLine 0x0A rest rest
unfolding encode
ends_lf rest = (lf, refl, tt, tt)

pub ends_ls : (rest : List ℕ) → EndsLine 0x2028 rest rest
unfolding encode
ends_ls rest = (ls, refl, tt, tt)

pub ends_ps : (rest : List ℕ) → EndsLine 0x2029 rest rest
unfolding encode
ends_ps rest = (ps, refl, tt, tt)
