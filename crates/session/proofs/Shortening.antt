-- Calls are made one after the other, and what is left is shortened.
use Rattle.std.proofs.Common.{◌≡◌, ℕ, zero, suc, ◌+◌, ◌<◌, ◌≤◌, List, [], ◌∷◌, ◌++◌, length, take, drop, set, get_or, map, min, inl, inr, refl, sym, ap, subst, ◌∙◌, arith}
use Rattle.std.proofs.Math.Logic.{∥∥₁_map}
use Rattle.std.proofs.lemmas.Bool.{cases_lt}
use Rattle.std.proofs.lemmas.List.{drop-set-lt, append_assoc, append-nil, map-append, take_all, take_more, take_more_set}
use Rattle.tree.specs.Tree.{Tree}
use Rattle.store.specs.Stores.{held_of, rooms_of}
use Rattle.file.specs.declared.loaded.Loaded.{Loaded}
use Rattle.file.specs.Calls.{loaded_stores, loaded_root}
use Rattle.file.specs.Payoff.{DenotesPayoff}
use Rattle.meaning.specs.World.{World}
use Rattle.host.specs.Answers.{Answers}
use Rattle.deciding.specs.declared.place.Support.{Support}
use Rattle.deciding.specs.Plans.{settings_of}
use Rattle.model.specs.Model.{Given, Model}
use Rattle.model.specs.Tries.{Try}
use Rattle.model.specs.Calls.{Call, Answer, Makes, MakesAll}
use Rattle.model.proofs.Calls.{payoff_left, rewrites_counted, nobody_tells}
use Rattle.session.specs.declared.call.Call.{Call as CallValue}
use Rattle.session.specs.declared.call.Answer.{Answer as AnswerValue}
use Rattle.session.specs.declared.session.Session.{Session}
use Rattle.session.specs.declared.session.ends.Ended.{Ended}
use Rattle.session.specs.Following.{Is, given_of, OpensOn, EndsWith}
use Rattle.session.specs.Calling.{call_of, answer_of, MakesCall}
use Rattle.session.specs.Trying.{Holds, Written, Writes}
use Rattle.session.specs.Running.{Shortened, GivesBack, RunsCalls, given_by}
use Rattle.session.proofs.Tried.{equal_from}
use Rattle.session.proofs.Writing.{wrote_none, wrote_then, text_kept}

-- ---- one more call

one_more : {g : Given} {l m n : Model} {cs : List Call} {rs : List Answer} {ts us : List Try} (c : Call) (r : Answer) → MakesAll g l cs rs m ts → Makes g m c r n us → MakesAll g l (cs ++ c ∷ []) (rs ++ r ∷ []) n (ts ++ us)
one_more {g} {l} {m} {n} {cs} {rs} {ts} {us} c r MakesAll.none d = subst (λ vs. MakesAll g l (c ∷ []) (r ∷ []) n vs) (append-nil us) (MakesAll.then d MakesAll.none)
one_more {g} {l} {m} {n} {cs} {rs} {us = us} c r (MakesAll.then {ts = ps} {us = qs} e f) d =
    subst (λ vs. MakesAll g l (cs ++ c ∷ []) (rs ++ r ∷ []) n vs) (sym (append_assoc ps qs us)) (MakesAll.then e (one_more c r f d))

-- ---- lists up to the shorter of two lengths

take_shorter : {X : Type 0} (xs : List X) (n i : ℕ) → i ≡ min (length xs) n → take i xs ≡ take n xs
take_shorter xs n i e = elim (cases_lt n (length xs)) [
  | inl lt ↦ ap (λ k. take k xs) (omega (arith, e))
  | inr le ↦ take_all i xs (omega (arith, e)) ∙ sym (take_all n xs (omega arith))
]

further_suc : {X : Type 0} (xs : List X) (i : ℕ) → drop (suc i) xs ≡ drop 1 (drop i xs)
further_suc xs zero = refl
further_suc [] (suc i) = refl
further_suc (x ∷ xs) (suc i) = further_suc xs i

further : {X : Type 0} (xs : List X) (i : ℕ) → drop (i + 1) xs ≡ drop 1 (drop i xs)
further xs i = let e : i + 1 ≡ suc i = omega arith in ap (λ k. drop k xs) e ∙ further_suc xs i

drop_all : {X : Type 0} (n : ℕ) (xs : List X) → length xs ≤ n → drop n xs ≡ []
drop_all zero [] le = refl
drop_all (suc n) [] le = refl
drop_all zero (x ∷ xs) le = absurd (omega arith)
drop_all (suc n) (x ∷ xs) le = drop_all n xs (omega arith)

module _ {H : Type 0} (a : H → Answers) where
  -- What is known when the first calls are made.
  pub record Going (start now : Session) (calls : List (CallValue H)) (old new : List AnswerValue) (i : ℕ) : Type 0 where
    pub given : given_of now ≡ given_of start
    pub wrote : ∥ Writes start now ∥₁
    pub kept : drop i new ≡ drop i old
    pub so_far : (m : Model) → Is start m
        → (n : Model) × ((ts : List Try) × MakesAll (given_of start) m (map (call_of a) (take i calls)) (map answer_of (take i new)) n ts) × Is now n

  pub none_made : (s : Session) (calls : List (CallValue H)) (old : List AnswerValue) → Going s s calls old old 0
  none_made s calls old = record { given = refl; wrote = wrote_none s; kept = refl; so_far = λ m is. (m, ([], MakesAll.none), is) }

  module _ (start now : Session) (calls : List (CallValue H)) (old new : List AnswerValue) (i : ℕ) (going : Going start now calls old new i) where
    pub call_made : (next : Session) (c : CallValue H) (r : AnswerValue) → i < length calls → i < length new → c ≡ get_or calls i c
        → MakesCall a c now next r → ∥ Writes now next ∥₁ → given_of next ≡ given_of now → Going start next calls old (set new i r) (i + 1)
    call_made next c r low there is_c made wrote same = record {
      given = same ∙ going.given;
      wrote = wrote_then start now next going.wrote wrote;
      kept = drop-set-lt (i + 1) new i r (omega arith) ∙ further new i ∙ ap (drop 1) going.kept ∙ sym (further old i);
      so_far = λ m is.
          let x = going.so_far m is in
          let y = made x.0 x.2 in
          let cs : map (call_of a) (take (i + 1) calls) ≡ map (call_of a) (take i calls) ++ call_of a c ∷ [] =
          ap (map (call_of a)) (take_more calls i c low ∙ ap (λ d. take i calls ++ d ∷ []) (sym is_c)) ∙ map-append (call_of a) (take i calls) (c ∷ []) in
          let rs : map answer_of (take (i + 1) (set new i r)) ≡ map answer_of (take i new) ++ answer_of r ∷ [] =
          ap (map answer_of) (take_more_set new i r there) ∙ map-append answer_of (take i new) (r ∷ []) in (
            y.0,
            (
              x.1.0 ++ y.1.0,
              subst (λ ks. MakesAll (given_of start) m ks (map answer_of (take (i + 1) (set new i r))) y.0 (x.1.0 ++ y.1.0)) (sym cs)
                  (subst (λ qs. MakesAll (given_of start) m (map (call_of a) (take i calls) ++ call_of a c ∷ []) qs y.0 (x.1.0 ++ y.1.0)) (sym rs)
                  (one_more (call_of a c) (answer_of r) x.1.1 (subst (λ g. Makes g x.0 (call_of a c) (answer_of r) y.0 y.1.0) going.given y.1.1))),
            ),
            y.2,
          );
    }

  -- ---- the whole

  module _ (w : World) (d : Loaded) (support : Support) (start now : Session) (calls : List (CallValue H)) (old new : List AnswerValue) (i : ℕ) (e : Ended)
      (opens : OpensOn d support start) (going : Going start now calls old new i) (ends : EndsWith now e)
      (all : i ≡ min (length calls) (length old)) (same_length : length new ≡ length old) where
    given_is : given_of start ≡ given_by d support
    given_is = ap (λ k. record { supported = settings_of k; rooms = rooms_of start.stores }) opens.supports ∙ ap (λ k. record { supported = settings_of support; rooms = rooms_of k }) opens.holds

    abbrev made_calls : List Call
    made_calls = map (call_of a) (take (length old) calls)

    abbrev given_answers : List Answer
    given_answers = map answer_of (take (length calls) new)

    shortened : (t : Tree) → DenotesPayoff (held_of (loaded_stores d)) (loaded_root d) t → Shortened w (given_by d support) t made_calls given_answers e
    shortened t denotes =
        let o = opens.opened t denotes in
        let x = going.so_far o.0 o.2 in
        let end = ends.of_model x.0 x.2 in
        let makes : MakesAll (given_by d support) o.0 made_calls given_answers x.0 x.1.0 =
        subst (λ g. MakesAll g o.0 made_calls given_answers x.0 x.1.0) given_is
        (subst (λ cs. MakesAll (given_of start) o.0 (map (call_of a) cs) given_answers x.0 x.1.0) (take_shorter calls (length old) i all)
        (subst (λ rs. MakesAll (given_of start) o.0 (map (call_of a) (take i calls)) (map answer_of rs) x.0 x.1.0) (take_shorter new (length calls) i (omega (arith, all, same_length))) x.1.1)) in
        let counts = rewrites_counted (given_by d support) t o.0 x.0 made_calls given_answers x.1.0 o.1 makes in
        record {
          left = x.0.whole;
          rooted = end.0;
          denoted = end.2;
          payoff = (payoff_left (given_by d support) t o.0 x.0 made_calls given_answers x.1.0 o.1 makes).payoff;
          tries = x.1.0;
          made = (o.0, x.0, o.1, makes, refl, x.2.held ∙ sym ends.counted);
          nobody_can_tell = λ p h. nobody_tells w p (given_by d support) t o.0 x.0 made_calls given_answers x.1.0 o.1 makes h;
          counted = sym end.1 ∙ counts.0;
          told = sym end.1 ∙ counts.1;
          bounded = λ y s. omega (arith, end.1, counts.2 y s);
        }

    not_begun : start.rewrites ≡ 0
    not_begun = equal_from d.payoff start.rewrites 0 (λ p. let o = opens.opened p.0 p.1 in sym o.2.counted ∙ o.1.none_made)

    all_counted : e.rewrites ≡ now.rewrites
    all_counted = equal_from now.sound e.rewrites now.rewrites (λ p. sym (ends.of_model p.0 p.1).1 ∙ p.1.counted)

    gives_back : ∥ GivesBack d e ∥₁
    gives_back = ∥∥₁_map going.wrote (λ w.
        let s : now.stores ≡ e.stores = sym ends.given_back in
        let number : w.count ≡ e.rewrites = omega (arith, w.counted, not_begun, all_counted) in
        let written : Written e.rewrites (held_of (loaded_stores d)) (held_of e.stores) =
        subst (λ n. Written n (held_of (loaded_stores d)) (held_of e.stores)) number
        (subst (λ k. Written w.count (held_of k) (held_of e.stores)) opens.holds
        (subst (λ k. Written w.count (held_of start.stores) (held_of k)) s w.written)) in
        let text = text_kept written in
        record {
          written = written;
          holds = subst (λ k. Holds k (held_of e.stores) e.stores) opens.holds (subst (λ k. Holds start.stores (held_of k) k) s w.holds);
          new_text = text.0;
          text_kept = text.1;
          same_rooms = ap rooms_of ends.given_back ∙ ap (λ g. g.rooms) going.given ∙ ap rooms_of opens.holds;
        })

    rest_kept : drop (length calls) new ≡ drop (length calls) old
    rest_kept = elim (cases_lt (length old) (length calls)) [
      | inl lt ↦ drop_all (length calls) new (omega (arith, same_length)) ∙ sym (drop_all (length calls) old (omega arith))
      | inr le ↦ subst (λ k. drop k new ≡ drop k old) (omega (arith, all)) going.kept
    ]

    pub runs : RunsCalls w a d support calls old new e
    runs = record { shortened = shortened; given_back = gives_back; others_kept = rest_kept }
