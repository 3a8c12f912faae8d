-- Taking piece by piece.
use Rattle.std.proofs.Common.{ℕ, List, [], ◌++◌, sym, subst}
use Rattle.std.proofs.lemmas.List.{append-nil, append_assoc}
use Rattle.template.specs.Sinks.{Adds}

pub adds_nothing : {S : Type 0} (Took : S → List ℕ → S → Type 0) (s : S) → Adds Took s [] s
adds_nothing Took s start bytes t = subst (λ l. Took start l s) (sym (append-nil bytes)) t

pub adds_both : {S : Type 0} (Took : S → List ℕ → S → Type 0) (s t u : S) (a b : List ℕ) → Adds Took s a t → Adds Took t b u → Adds Took s (a ++ b) u
adds_both Took s t u a b p q start bytes h = subst (λ l. Took start l u) (append_assoc bytes a b) (q start (bytes ++ a) (p start bytes h))
