-- The laws, applied.
use Rattle.std.proofs.Common.{◌≡◌, List, [], ◌∷◌, ◌++◌, Ok, refl, sym, subst, ap, ◌∙◌, rules, arith}
use Rattle.std.specs.Prelude.{codes}
use Rattle.text.specs.Utf16.{Text}
use Rattle.meaning.specs.Expression.{Expression}
use Rattle.meaning.specs.Payoffs.{Spelled}
use Rattle.meaning.specs.Replacing.{Keeps}
use Rattle.meaning.specs.Acts.{Returns, Watched, Still}
use Rattle.meaning.specs.Runs.{mean}
use Rattle.meaning.specs.Parts.{Part}
use Rattle.host.specs.Truth.{WithoutEffects}
use Rattle.host.specs.QuietWorld.{quiet}
use Rattle.host.specs.Laws.{a_text}
use Rattle.host.proofs.Knowing.{false_true}
use Rattle.rules.specs.Places.{Role}
use Rattle.rules.specs.Size.{size, arguments_size}
use Rattle.rules.specs.Laws.{AllTrue}
use Rattle.rules.specs.Examples.{knows_nothing, all_numbers, all_supported, call, string}
use Rattle.rules.proofs.Computed.{computed}
use Rattle.meaning.specs.Methods.{concat_name}
use Rattle.model.specs.Tries.{Try}
use Rattle.model.specs.Sweeps.{Sweeps}
use Rattle.model.specs.Calls.{Call, Answer, Makes, MakesAll, changes}
use Rattle.model.specs.Laws.{SameRuns, EachTrue}
use Rattle.model.specs.HostExamples.{second_read, all_given, at_first, two_calls, two_answers}
use Rattle.meaning.specs.Trees.{tree_of}
use Rattle.model.specs.Example.{text_of_p, template_of_p, given, before, after, structural, swept}
use Rattle.model.proofs.Whole.{whole_session}
use Rattle.model.proofs.Exampled.{had}
use Rattle.witnesses.specs.Applied.{joined_twice, last_read, TheLawsApply}

same_runs : {x y : Expression} → Keeps quiet x y → SameRuns quiet x y
same_runs k s r t = (k.forth s r t, k.back s r t)

nil_right : (ts : List Try) → ts ++ [] ≡ ts
nil_right [] = refl
nil_right (t ∷ ts) = ap (λ z. t ∷ z) (nil_right ts)

makes : {ts : List Try} → Sweeps given structural before (Ok swept) after ts → MakesAll given before (Call.sweep structural ∷ []) (Answer.sweeps (Ok swept) ∷ []) after (ts ++ [])
makes s = MakesAll.then (Makes.sweeps s) MakesAll.none

each : EachTrue quiet (whole_session.tried ++ [])
each = subst (EachTrue quiet) (sym (nil_right whole_session.tried)) whole_session.each_true

name_is_text : Text (codes "concat")
name_is_text = search rules

spelled : Spelled text_of_p
spelled = ((tt, name_is_text), (tt, tt))

read_spelled : Spelled second_read
read_spelled = (((omega arith, (omega arith, (omega arith, (omega arith, tt)))), ((omega arith, tt), tt)), tt)

string_still : WithoutEffects quiet (Part.expression (string (codes "abc")))
unfolding mean
string_still s = (_, Watched.calmly Returns.returns Still.still)

pub applied : TheLawsApply
unfolding size arguments_size concat_name
applied = record {
  chain = λ law. same_runs (law all_supported whole_session.premises 10 Role.ordinary joined_twice (Expression.string 10 (codes "ab")) knows_nothing
      (subst (AllTrue quiet knows_nothing) (sym computed.0.only_strings.1) tt) computed.0.only_strings.0).0;
  method = λ law. same_runs (law all_supported whole_session.premises 10 Role.ordinary (call (string (codes "a")) concat_name (string (codes "b") ∷ [])) (Expression.string 10 (codes "ab")) knows_nothing
      (subst (AllTrue quiet knows_nothing) (sym computed.1.only_strings.1) tt) computed.1.only_strings.0).0;
  property = λ law. same_runs (law whole_session.premises 10 Role.ordinary last_read (Expression.string 10 (codes "c")) all_numbers
      (subst (AllTrue quiet all_numbers) (sym computed.2.unit.1) (λ e. string_still, tt)) computed.2.unit.0).0;
  nobody_can_tell = λ law. law whole_session.premises given (tree_of text_of_p) before after (Call.sweep structural ∷ []) (Answer.sweeps (Ok swept) ∷ [])
      (whole_session.tried ++ []) whole_session.opened (makes whole_session.sweeps) each text_of_p template_of_p (spelled, refl) ((tt, tt, tt), refl);
  with_true_hosts = λ law. law had.premises all_given (tree_of second_read) at_first had.makes.0 two_calls two_answers
      had.makes.1 had.opened had.true_hosts had.makes.2 second_read a_text (read_spelled, refl) ((omega arith, tt), sym had.makes.3);
  counted = λ law. (
    λ ts s. (law given (tree_of text_of_p) before after (Call.sweep structural ∷ []) (Answer.sweeps (Ok swept) ∷ []) (ts ++ []) whole_session.opened (makes s)).0 ∙ ap changes (nil_right ts),
    (law given (tree_of text_of_p) before after (Call.sweep structural ∷ []) (Answer.sweeps (Ok swept) ∷ []) (whole_session.tried ++ []) whole_session.opened (makes whole_session.sweeps)).2
        text_of_p (spelled, refl),
  );
  payoff_left = λ law. law given (tree_of text_of_p) before after (Call.sweep structural ∷ []) (Answer.sweeps (Ok swept) ∷ []) (whole_session.tried ++ []) whole_session.opened (makes whole_session.sweeps);
  nothing_left = λ law rule. law given structural before after swept whole_session.tried whole_session.opened.sound whole_session.sweeps [] (omega arith) rule template_of_p ((tt, tt, tt), refl);
  none_too_deep = λ law p e there. false_true ((law given structural before after swept whole_session.tried whole_session.sweeps).1 (p, e, there));
  second_sweep = λ law n r us s. law given structural before after n swept r whole_session.tried us whole_session.opened.sound whole_session.sweeps s;
  sizes = (refl, refl, refl);
}
