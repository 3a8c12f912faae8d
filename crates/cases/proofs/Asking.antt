-- What the words of a line ask for, and what comes of a case. Assumes nothing.
use Rattle.std.proofs.Common.{◌≡◌, ◌==◌, ℕ, ◌<◌, ◌≤◌, List, [], ◌∷◌, length, get_or, codes, sym, ap, ◌∙◌, arith, Bor, map, subst, inl}
use Rattle.std.specs.List.{slice_split}
use Rattle.base.specs.Questions.{Refuses}
use Rattle.base.specs.declared.fault.Fault.{Fault}
use Rattle.store.specs.declared.stores.Counts.{Counts}
use Rattle.file.specs.Lawful.{load_questions}
use Rattle.script.specs.Hex.{hexed}
use Rattle.script.specs.Lines.{line_of}
use Rattle.script.specs.Words.{words}
use Rattle.script.specs.declared.answer.Answer.TheVariants.{Refused}
use Rattle.script.proofs.Requested.{three_of}
use Rattle.deciding.specs.declared.place.Support.{Support}
use Rattle.cases.specs.declared.call.CaseCall.{CaseCall}
use Rattle.cases.specs.Cases.{Says, RoomsSaid, AsksCase, RunOf, SwitchSaid}
use Rattle.cases.specs.Rooms.{within_limits}

pub rooms_said : (word : List ℕ) (rooms : Counts) (s : List (Bor (List ℕ))) (d : Bor (List ℕ)) → slice_split (λ b. b == 0x2c) word ≡ map (λ x. x.now) s → 3 ≤ length s → length s < 4 → Says (get_or s 0 d).now rooms.nodes → Says (get_or s 1 d).now rooms.entries → Says (get_or s 2 d).now rooms.text → RoomsSaid rooms word
rooms_said word rooms s d e l m nodes entries text = ((get_or s 0 d).now, (get_or s 1 d).now, (get_or s 2 d).now, e ∙ three_of s d l m, nodes, entries, text)

pub asks_case : (line file : List ℕ) (rooms : Counts) (support : Support) (s : List (Bor (List ℕ))) (d : Bor (List ℕ)) → words line ≡ map (λ x. x.now) s → 5 ≤ length s → (get_or s 0 d).now ≡ codes "case" → hexed file ≡ (get_or s 1 d).now → RoomsSaid rooms (get_or s 2 d).now → SwitchSaid support.templates (get_or s 3 d).now → SwitchSaid support.power (get_or s 4 d).now → AsksCase line file rooms support
asks_case line file rooms support [] d e l name text said on off = absurd (omega arith)
asks_case line file rooms support (x ∷ []) d e l name text said on off = absurd (omega arith)
asks_case line file rooms support (x ∷ y ∷ []) d e l name text said on off = absurd (omega arith)
asks_case line file rooms support (x ∷ y ∷ z ∷ []) d e l name text said on off = absurd (omega arith)
asks_case line file rooms support (x ∷ y ∷ z ∷ v ∷ []) d e l name text said on off = absurd (omega arith)
asks_case line file rooms support (x ∷ y ∷ z ∷ v ∷ w ∷ more) d e l name text said on off = (
  z.now,
  v.now,
  w.now,
  map (λ u. u.now) more,
  e
      ∙ ap (λ u. u ∷ y.now ∷ z.now ∷ v.now ∷ w.now ∷ map (λ k. k.now) more) name
      ∙ ap (λ u. codes "case" ∷ u ∷ z.now ∷ v.now ∷ w.now ∷ map (λ k. k.now) more) (sym text),
  said,
  on,
  off,
)

pub refused_run : (file bytes text : List ℕ) (rooms lent : Counts) (support : Support) (calls : List CaseCall) (fault : Fault) → bytes ≡ file → lent ≡ within_limits rooms → Refuses (load_questions bytes lent) fault → text ≡ line_of (Refused fault) → RunOf file rooms support calls text
refused_run file bytes text rooms lent support calls fault same within r t =
    let lent_so : Refuses (load_questions bytes (within_limits rooms)) fault = subst (λ c. Refuses (load_questions bytes c) fault) within r in
    inl (fault, subst (λ b. Refuses (load_questions b (within_limits rooms)) fault) same lent_so, t)
