use Rattle.std.proofs.Common.{◌≡◌, inl, inr, false, true, Some, option_copied, ◌∙◌, ap, refl, sym}
use Rattle.world.specs.declared.exchanges.Exchange.{Exchange}
use Rattle.world.proofs.exchanges.reply_at.Goals as goal

same_some : {A : Type 0} (x y : A) → Some x ≡ Some y → x ≡ y
same_some x y e = cc

pub returns-in-Err-clause-err : goal.returns-in-Err-clause-err
returns-in-Err-clause-err c = inr (
  refl,
  (
    c.in-Some.exchange.now.reply,
    record {
      exchange = c.in-Some.exchange.now;
      here = sym c.exchange_at.ensures ∙ ap option_copied c.in-Some.is;
      its_request = ap option_copied c.in-Some-claim.is ∙ ap Some (sym (c.if-same.ensures.0 refl));
      its_reply = refl;
    },
  ),
)

pub returns-in-Ok-clause-ok : goal.returns-in-Ok-clause-ok
returns-in-Ok-clause-ok c = record {
  exchange = c.in-Some.exchange.now;
  here = sym c.exchange_at.ensures ∙ ap option_copied c.in-Some.is;
  its_request = ap option_copied c.in-Some-claim.is ∙ ap Some (sym (c.if-same.ensures.0 refl));
  its_reply = c.in-Ok.ensures;
}

pub returns-else-same-clause-err : goal.returns-else-same-clause-err
returns-else-same-clause-err c = inl (
  refl,
  λ reply was.
      let exchange_is : was.exchange ≡ c.in-Some.exchange.now =
      same_some _ _ (sym was.here ∙ sym c.exchange_at.ensures ∙ ap option_copied c.in-Some.is) in
      let claim_is : c.in-Some-claim.claim.now ≡ was.exchange.request =
      same_some _ _ (sym (ap option_copied c.in-Some-claim.is) ∙ was.its_request) in
      let same : false ≡ true = c.if-same.ensures.1
      (sym (claim_is ∙ ap (λ (x : Exchange). x.request) exchange_is)) in
      cc,
)
