use Rattle.std.proofs.Common.{◌≡◌, ◌+◌, ap, sym, subst, ◌∙◌, arith, length}
use Rattle.std.proofs.lemmas.List.Elements.{All-push, All-same}
use Rattle.bpf_verify.specs.Sound.{IsSound}
use Rattle.std.proofs.lemmas.Bool.{leb-true}
use Rattle.verdict.specs.declared.stack.TheConstants.{MAX_STACK_INSNS}
use Rattle.verdict.specs.Stack.{Stacked, counted}
use Rattle.verdict.proofs.Chosen.{counted-push}
use Rattle.verdict.proofs.stack.Stack.push.Goals as goal

pub invariant_of-self : goal.invariant_of-self
invariant_of-self c =
    let now : counted c.push.new.self.items ≡ counted c.self.inside.filters.items
    + (length c.args.filter + 4) =
    ap counted c.in-Ok.ensures.items ∙ counted-push c.self.inside.filters.items c.args.filter in
    let seen : counted c.self.inside.filters.items ≡ counted c.args.self.now.filters =
    ap (λ (s : Stacked). counted s.filters) c.self.view_is in
    let len : length c.insns-len.result.now ≡ length c.args.filter = ap length c.insns-len.ensures.same in
    let sound : IsSound c.args.filter = subst IsSound c.insns-len.ensures.same c.insns-len.ensures.sound in (
      omega (arith, now, len, c.self.invariant.0),
      omega (
        arith,
        leb-true (length c.args.filter + counted c.args.self.now.filters) MAX_STACK_INSNS
            (sym c.if-not-has_place.ensures),
        len,
        c.self.invariant.0,
        seen,
      ),
      All-same IsSound c.push.new.self.items _ c.in-Ok.ensures.items
          (All-push IsSound c.self.inside.filters.items c.args.filter c.self.invariant.2 sound),
    )
