-- Writing piece by piece.
use Rattle.std.proofs.Common.{◌≡◌, ℕ, ◌+◌, ◌^◌, ◌<◌, ◌≤◌, List, [], ◌++◌, length, take, drop, Ok, Err, Result, sym, refl, ap, ◌∙◌, inl, inr, arith, length-append, take-append-drop, add-zero, min, ◌-◌}
use Rattle.std.proofs.lemmas.List.{append-nil, append_assoc, take_at, length-take-le}
use Rattle.std.proofs.lemmas.Slice.{drop-append-drop}
use Rattle.std.specs.Result.{result_unwrap_or}
use Rattle.base.specs.Runs.{Appended}
use Rattle.base.specs.declared.fault.Fault.{Fault}
use Rattle.template.specs.Output.{Fills}
use Rattle.template.specs.Sinks.{Adds}
use Rattle.template.specs.declared.output.Output.{Output}

pub fills_nothing : (s : Output) → Fills s [] s
fills_nothing s = record {
  same_reference = refl;
  same_length = refl;
  counted = λ h. omega arith;
  uncounted = λ h. omega arith;
  written = λ h fits. rw (append-nil, add-zero) (sym (take-append-drop s.len s.bytes.now));
}

pub fills_both : (s t u : Output) (a b : List ℕ) → Fills s a t → Fills t b u → Fills s (a ++ b) u
fills_both s t u a b p q =
    let both = length-append a b in
    record {
      same_reference = q.same_reference ∙ p.same_reference;
      same_length = q.same_length ∙ p.same_length;
      counted = λ h. grind (arith, p.counted, q.counted);
      uncounted = λ h. grind (arith, p.counted, q.counted, p.uncounted, q.uncounted);
      written = λ h fits.
          let old = s.bytes.now in
          let front = take s.len old in
          let n = s.len + length a in
          let len : t.len ≡ n = p.counted (omega arith) in
          let mid : t.bytes.now ≡ front ++ a ++ drop n old = p.written (omega arith) (omega arith) in
          let last : u.bytes.now ≡ take t.len t.bytes.now ++ b ++ drop (t.len + length b) t.bytes.now =
          q.written (omega arith) (omega (arith, p.same_length))
          in
          let long : length (front ++ a) ≡ n = length-append front a ∙ ap (λ k. k + length a) (length-take-le s.len old (omega arith)) in
          let own : take t.len t.bytes.now ≡ front ++ a = ap (take t.len) mid ∙ take_at (front ++ a) (drop n old) t.len (long ∙ sym len) in
          let rest : drop (t.len + length b) t.bytes.now ≡ drop (s.len + length (a ++ b)) old =
          ap (drop (t.len + length b)) mid ∙ drop-append-drop n old (front ++ a) (t.len + length b) (omega arith) long ∙ ap (λ k. drop k old) (omega arith)
          in
          last
          ∙ ap (λ l. l ++ b ++ drop (t.len + length b) t.bytes.now) own
          ∙ ap (λ l. front ++ a ++ b ++ l) rest
          ∙ ap (λ l. l ++ drop (s.len + length (a ++ b)) old) (append_assoc front a b);
    }

-- Where a piece is appended as far as there is room, and counted.
pub fills_appended : (s t : Output) (piece : List ℕ) (r : Result ℕ Fault) (end : ℕ) → t.bytes.ghost_name ≡ s.bytes.ghost_name
    → Appended s.bytes.now s.len piece t.bytes.now r → length t.bytes.now ≡ length s.bytes.now
    → end ≡ min (s.len + length piece) (2 ^ 64 - 1) → t.len ≡ result_unwrap_or r end → Fills s piece t
fills_appended s t piece (Ok n) end name a same e len = record {
  same_reference = name;
  same_length = same;
  counted = λ h. omega (arith, len, a.0);
  uncounted = λ h. omega (arith, len, a.0);
  written = λ h fits. a.2 ∙ ap (λ k. take s.len s.bytes.now ++ piece ++ drop k s.bytes.now) a.0;
}
fills_appended s t piece (Err e) end name a same is len = record {
  same_reference = name;
  same_length = same;
  counted = λ h. omega (arith, len);
  uncounted = λ h. omega (arith, len);
  written = λ h fits. elim a.1 [ inl bad ↦ absurd (bad.1 fits) | inr bad ↦ absurd bad.1 ];
}

-- ---- a whole text

-- What was handed on to an output fills it.
pub fills_all : (s t : Output) (piece : List ℕ) → Adds Fills s piece t → Fills s piece t
fills_all s t piece adds = adds s [] (fills_nothing s)

-- Where the first walk counts more than there is room for, there is none.
pub overfull : (Means : List ℕ → Type 0) (form : List ℕ → List ℕ) (none counted : Output) (us old : List ℕ) → Means us → none.len ≡ 0 → Adds Fills none (form us) counted
    → length old < counted.len → counted.len < 2 ^ 64 → ((vs : List ℕ) → Means vs → length (form vs) ≤ length old) → ⊥
overfull Means form none counted us old means start adds many small fits =
    let fills = fills_all none counted (form us) adds in
    let short = fits us means in
    omega (arith, fills.counted)

-- Where there is room for what the first walk counts, the second one writes it.
pub wrote : (form : List ℕ → List ℕ) (none counted empty full : Output) (us vs old last : List ℕ) (n : ℕ) → us ≡ vs
    → none.len ≡ 0 → Adds Fills none (form us) counted → counted.len ≤ length old → length old < 2 ^ 63
    → empty.len ≡ 0 → empty.bytes.now ≡ old → Adds Fills empty (form vs) full → n ≡ full.len → last ≡ full.bytes.now
    → (n ≡ length (form vs)) × (n ≤ length old) × (last ≡ form vs ++ drop n old)
wrote form none counted empty full us vs old last n same start adds fits small zero bytes adds' len is =
    let first = fills_all none counted (form us) adds in
    let fills = fills_all empty full (form vs) adds' in
    let long = ap (λ l. length (form l)) same in
    let room : length (form vs) ≤ length old = grind (arith, first.counted, first.uncounted) in
    let end : n ≡ length (form vs) = omega (arith, fills.counted) in
    let written = fills.written (omega arith) (omega (arith, ap length bytes)) in (
      end,
      omega arith,
      is
          ∙ written
          ∙ ap (λ l. take empty.len l ++ form vs ++ drop (empty.len + length (form vs)) l) bytes
          ∙ ap (λ k. take k old ++ form vs ++ drop (k + length (form vs)) old) zero
          ∙ ap (λ k. form vs ++ drop k old) (omega arith),
    )
