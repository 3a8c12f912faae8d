use Rattle.std.proofs.Common.{◌+◌, Ok, refl, ap, ◌∙◌, arith}
use Rattle.std.proofs.Math.Logic.{∥∥₁_map}
use Rattle.std.proofs.lemmas.Result.{err_from_is_err_and}
use Rattle.store.specs.Stores.{rooms_of}
use Rattle.deciding.specs.Plans.{settings_of}
use Rattle.session.specs.Trying.{rule_of, hung_root}
use Rattle.session.proofs.Tried.{never, counts_from, lower_from, kept, refused, is_built, no_fault, rewrote, is_after, holds_after, rooms_after, few_rewrites}
use Rattle.session.proofs.session.Session.try_rule.Goals as goal

pub returns-in_default-clause-tried : goal.returns-in_default-clause-tried
returns-in_default-clause-tried g c m is = let t = kept (g.H.Host.answers c.args.host.now) (rule_of c.args.rule) c.args.self.now m is c.in_default.ensures in (m, t, is)

pub returns-in_err-ask_for_space-clause-tried : goal.returns-in_err-ask_for_space-clause-tried
returns-in_err-ask_for_space-clause-tried g c m is =
    let p = err_from_is_err_and c.from_residual.result c.from_residual.ensures.1 in
    rw (p.1, p.2) (
      m,
      refused (g.H.Host.answers c.args.host.now) (rule_of c.args.rule) c.args.self.now m is c.in-Rewritten.plan c.in-Rewritten.ensures c.need.result c.need.ensures
          c.in_err-ask_for_space.field-0.0 (c.in_err-ask_for_space.ensures m is),
      is,
    )

pub invariant_of-self : goal.invariant_of-self
invariant_of-self g c = absurd (never c.args.self.now.sound (λ p.
    no_fault (g.H.Host.answers c.args.host.now) (rule_of c.args.rule) c.args.self.now p.0 p.1 c.in-Rewritten.plan c.in-Rewritten.ensures c.need.result c.need.ensures
    (c.in_ok-ask_for_space.ensures p.0 p.1) c.build.new.stores c.in_err-number.field-0.0 c.in_err-number.ensures.builds))

pub returns-in_err-number-clause-tried : goal.returns-in_err-number-clause-tried
returns-in_err-number-clause-tried g c m is = absurd
    (no_fault (g.H.Host.answers c.args.host.now) (rule_of c.args.rule) c.args.self.now m is c.in-Rewritten.plan c.in-Rewritten.ensures c.need.result c.need.ensures
    (c.in_ok-ask_for_space.ensures m is) c.build.new.stores c.in_err-number.field-0.0 c.in_err-number.ensures.builds)

pub returns-in_err-number-clause-appended : goal.returns-in_err-number-clause-appended
returns-in_err-number-clause-appended g c = absurd (never c.args.self.now.sound (λ p.
    no_fault (g.H.Host.answers c.args.host.now) (rule_of c.args.rule) c.args.self.now p.0 p.1 c.in-Rewritten.plan c.in-Rewritten.ensures c.need.result c.need.ensures
    (c.in_ok-ask_for_space.ensures p.0 p.1) c.build.new.stores c.in_err-number.field-0.0 c.in_err-number.ensures.builds))

pub overflow_add-self : goal.overflow_add-self
overflow_add-self g c = omega (arith, lower_from c.args.self.now.sound (c.args.self.now.rewrites + 1) 0x100000000 (λ p. omega (arith, few_rewrites c.args.self.now p.0 p.1)))

pub invariant_of-self-2 : goal.invariant_of-self-2
invariant_of-self-2 g c =
    let s = c.args.self.now in
    record {
      long = s.long;
      within = s.within;
      sound = ∥∥₁_map s.sound (λ p.
          let granted = c.in_ok-ask_for_space.ensures p.0 p.1 in
          let b = is_built (g.H.Host.answers c.args.host.now) (rule_of c.args.rule) s p.0 p.1 c.in-Rewritten.plan c.in-Rewritten.ensures c.need.result c.need.ensures granted
          c.build.new.stores (Ok c.in_ok-number.number) c.in_ok-number.ensures.builds in (
            _,
            is_after (g.H.Host.answers c.args.host.now) (rule_of c.args.rule) s p.0 p.1 c.in-Rewritten.plan c.in-Rewritten.ensures c.need.result c.need.ensures granted
                c.build.new.stores c.in_ok-number.number b c.parent-parent.result c.parent-parent.ensures c.hang-self.new.stores c.hang-self.ensures.stores c.hang-self.result c.hang-self.ensures.root,
          ));
    }

pub returns-clause-tried : goal.returns-clause-tried
returns-clause-tried g c m is =
    let s = c.args.self.now in
    let granted = c.in_ok-ask_for_space.ensures m is in
    let b = is_built (g.H.Host.answers c.args.host.now) (rule_of c.args.rule) s m is c.in-Rewritten.plan c.in-Rewritten.ensures c.need.result c.need.ensures granted
    c.build.new.stores (Ok c.in_ok-number.number) c.in_ok-number.ensures.builds in (
      _,
      (_, rewrote (g.H.Host.answers c.args.host.now) (rule_of c.args.rule) s m is c.in-Rewritten.plan c.in-Rewritten.ensures c.need.result c.need.ensures granted c.build.new.stores c.in_ok-number.number b),
      is_after (g.H.Host.answers c.args.host.now) (rule_of c.args.rule) s m is c.in-Rewritten.plan c.in-Rewritten.ensures c.need.result c.need.ensures granted
          c.build.new.stores c.in_ok-number.number b c.parent-parent.result c.parent-parent.ensures c.hang-self.new.stores c.hang-self.ensures.stores c.hang-self.result c.hang-self.ensures.root,
    )

pub returns-clause-appended : goal.returns-clause-appended
returns-clause-appended g c =
    let s = c.args.self.now in
    let end = c.hang-self.new.stores in
    record {
      holds = ∥∥₁_map s.sound (λ p.
          let granted = c.in_ok-ask_for_space.ensures p.0 p.1 in
          let b = is_built (g.H.Host.answers c.args.host.now) (rule_of c.args.rule) s p.0 p.1 c.in-Rewritten.plan c.in-Rewritten.ensures c.need.result c.need.ensures granted
          c.build.new.stores (Ok c.in_ok-number.number) c.in_ok-number.ensures.builds in
          holds_after (g.H.Host.answers c.args.host.now) (rule_of c.args.rule) s p.0 p.1 c.in-Rewritten.plan c.in-Rewritten.ensures c.need.result c.need.ensures granted
          c.build.new.stores c.in_ok-number.number b c.parent-parent.result c.parent-parent.ensures end c.hang-self.ensures.stores);
      same_given = ap (λ r. record { supported = settings_of s.support; rooms = r }) (counts_from s.sound (rooms_of end) (rooms_of s.stores) (λ p.
          let granted = c.in_ok-ask_for_space.ensures p.0 p.1 in
          let b = is_built (g.H.Host.answers c.args.host.now) (rule_of c.args.rule) s p.0 p.1 c.in-Rewritten.plan c.in-Rewritten.ensures c.need.result c.need.ensures granted
          c.build.new.stores (Ok c.in_ok-number.number) c.in_ok-number.ensures.builds in
          rooms_after (g.H.Host.answers c.args.host.now) (rule_of c.args.rule) s p.0 p.1 c.in-Rewritten.plan c.in-Rewritten.ensures c.need.result c.need.ensures granted
          c.build.new.stores c.in_ok-number.number b c.parent-parent.result c.parent-parent.ensures end c.hang-self.ensures.stores));
      rooted = c.hang-self.ensures.root ∙ ap (λ o. hung_root o s.root c.in_ok-number.number) c.parent-parent.ensures;
      counted = refl;
      same_path = refl;
      same_depth = refl;
    }
