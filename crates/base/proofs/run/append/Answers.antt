use Rattle.std.proofs.Common.{◌≡◌, ◌+◌, ◌-◌, ◌++◌, length, take, drop, refl, ap, ◌∙◌, arith}
use lib.Seq.{take-length}
use Rattle.std.proofs.lemmas.Slice.{put_mid-paste}
use Rattle.base.proofs.run.append.Goals as goal

pub returns : goal.returns
returns g c =
    let xs = c.args.items.now in
    let at = c.args.count in
    let more = c.args.more.now in
    let written = c.copy_from_slice.new.self in
    let same : length more ≡ at + length more - at = omega arith in (
      refl,
      omega arith,
      put_mid-paste at (at + length more - at) xs written more (length more) c.copy_from_slice.ensures.after same refl
          ∙ ap (λ zs. take at xs ++ zs ++ drop (at + length more) xs) (take-length more),
    )
